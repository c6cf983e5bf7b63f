-- Declarations as they are printed.
use Rattle.std.proofs.Common.{refl, [], codes}
use Rattle.ir_model.specs.declared.item.DeclaredParam.{DeclaredParam}
use Rattle.ir_model.specs.declared.item.Declare.{Declare}
use Rattle.ir_text.specs.Language.{Language, ◌·◌, none, one, keyword, punctuation}
use Rattle.ir_text.specs.Mentions.{silent}
use Rattle.ir_text.specs.Written.{IsGlobal}
use Rattle.ir_model.specs.Kinds.{IsScalar, IsReturned}
use Rattle.ir_text.specs.Types.{SpellsTypeOf}
use Rattle.ir_text.specs.PassedOn.{SpellsWords, metadata_pairs}
use Rattle.ir_grammar.specs.Items.{ListedByCommas, SpellsDeclaredParam, SpellsDeclare}
use Rattle.ir_grammar.specs.Printing.{declared_text, declare_text}
use Rattle.ir_lex.proofs.Plain.{Stops}
use Rattle.ir_read_back.proofs.GlobalNames as names
use Rattle.ir_read_back.proofs.Lines.{line_then, listed_rewrite}
use Rattle.ir_read_back.proofs.Passed.{words_before, words_behind, stops_behind_space}
use Rattle.ir_read_back.proofs.TypeTexts.{type_rewrites}
use Rattle.ir_read_back.proofs.Words.{declare_is_word, opening_parenthesis_is_sign, closing_parenthesis_is_sign}
use Rattle.ir_read_back.proofs.Writes.{Anything, Rewrites, silently, and_then, whole_then, stop_then, space_then, word_then, sign_then, left_out_then}

declared_param_rewrites : (param : DeclaredParam)
    → Rewrites Stops (silent (SpellsDeclaredParam param)) (silent (SpellsDeclaredParam param)) [] (declared_text param)
declared_param_rewrites param =
    silently (stop_then (stops_behind_space param.words) (type_rewrites IsScalar param.kind) (words_behind param.words))

abbrev SpellsKept : Declare → Language
SpellsKept d = keyword (codes "declare") · metadata_pairs · SpellsWords d.before · SpellsTypeOf IsReturned d.ret
    · one (IsGlobal d.name)
    · punctuation 40 · ListedByCommas SpellsDeclaredParam d.params · punctuation 41 · SpellsWords d.after

kept_rewrites : (d : Declare)
    → Rewrites Anything (silent (SpellsKept d)) (silent (SpellsKept d)) [] (declare_text d)
kept_rewrites d =
    silently (word_then (codes "declare") declare_is_word
    (silently (left_out_then none
    (silently (whole_then (words_before d.before)
    (silently (space_then (type_rewrites IsReturned d.ret)
    (silently (and_then (λ rest any. refl) (names.global_rewrites d.name)
    (silently (sign_then 40 opening_parenthesis_is_sign
    (silently (and_then (λ rest any. refl)
    (listed_rewrite SpellsDeclaredParam declared_text declared_param_rewrites d.params)
    (silently (sign_then 41 closing_parenthesis_is_sign (line_then (words_behind d.after)))))))))))))))))

-- A declaration is printed as itself.
pub declare_rewrites : (d : Declare)
    → Rewrites Anything (silent (SpellsDeclare d)) (silent (SpellsDeclare d)) [] (declare_text d)
declare_rewrites d = record {
  writes = λ old ts spelled real.
      let all = (kept_rewrites d).writes [] ts (refl, spelled.1.1) real in
      record { lexemes = all.lexemes; spelled = (refl, (spelled.1.0, all.spelled.1)); lexed = all.lexed };
}
