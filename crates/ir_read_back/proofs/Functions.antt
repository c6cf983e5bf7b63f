-- Functions as they are printed.
use Rattle.std.proofs.Common.{◌≡◌, ◌≢◌, ℕ, List, [], ◌∷◌, ◌++◌, map, flat_map, codes, refl, sym, ap, subst}
use Rattle.std.proofs.lemmas.List.{append-nil}
use Rattle.ir_model.specs.declared.function.Block.{Block}
use Rattle.ir_model.specs.declared.function.Function.{Function}
use Rattle.ir_text.specs.Language.{one, none}
use Rattle.ir_text.specs.Written.{IsGlobal}
use Rattle.ir_text.specs.Mentions.{Mentioning, ◌⊙◌, silent, InOrder}
use Rattle.ir_model.specs.Sites.{block_sites, function_sites}
use Rattle.ir_text.specs.Sites.{bare_param, bare_block, bare_function}
use Rattle.ir_model.specs.Kinds.{IsReturned}
use Rattle.ir_text.specs.PassedOn.{SpellsWords, metadata_pairs}
use Rattle.ir_grammar.specs.Operations.{Listing, the_word, the_sign, the_type}
use Rattle.ir_grammar.specs.Functions.{SpellsParam, SpellsBlock, SpellsFunction}
use Rattle.ir_grammar.specs.Printing.{Shown, shown_in, joined, before_space, behind_space, type_text, name_text, words_at, param_text, block_lines, function_text}
use Rattle.ir_read_back.specs.Normal.{normal_block, normal_function}
use Rattle.ir_read_back.proofs.Steps.{behind_sign, behind_line_feed}
use Rattle.ir_read_back.proofs.Words.{define_is_word, opening_parenthesis_is_sign, closing_parenthesis_is_sign, opening_brace_is_sign, closing_brace_is_sign}
use Rattle.ir_read_back.proofs.Named.{Names, AreShown, said_at}
use Rattle.ir_read_back.proofs.GlobalNames.{global_rewrites}
use Rattle.ir_read_back.proofs.TypeTexts.{type_rewrites}
use Rattle.ir_read_back.proofs.Passed.{words_before, words_behind}
use Rattle.ir_read_back.proofs.Operands.{both_said, left_shown, right_shown}
use Rattle.ir_read_back.proofs.Instructions.{behind_a_line_feed}
use Rattle.ir_read_back.proofs.Params.{param_site, params_rewrite}
use Rattle.ir_read_back.proofs.Blocks.{blocks_rewrite}
use Rattle.ir_read_back.proofs.Writes.{Anything, Writes, Rewrites, always, mentions_are, and_then, word_then, sign_then, whole_then, space_then, left_out_then, behind_a_space}

some_again : (blocks : List Block) → map bare_block blocks ≢ [] → map bare_block (map normal_block blocks) ≢ []
some_again [] some empty = some refl
some_again (b ∷ blocks) some empty = cc

-- `}` on a line of its own
closing_line : {Old : Mentioning} → Rewrites Anything Old (the_sign 125) [] (codes "}\n")
closing_line = always (record {
  lexemes = _;
  spelled = (refl, refl);
  lexed = λ rest others any tokens. behind_sign closing_brace_is_sign (behind_line_feed tokens);
})

-- a function without its words, with these blocks
abbrev FunctionOf : Function → List ℕ → List ℕ → List Block → Mentioning
FunctionOf f before after blocks = the_word (codes "define") ⊙ silent (SpellsWords before) ⊙ the_type IsReturned f.ret
    ⊙ silent (one (IsGlobal f.name)) ⊙ the_sign 40 ⊙ Listing SpellsParam (map bare_param f.params) ⊙ the_sign 41
    ⊙ silent (SpellsWords after) ⊙ silent metadata_pairs
    ⊙ the_sign 123 ⊙ InOrder SpellsBlock blocks ⊙ the_sign 125

abbrev text_of : Shown → Function → List ℕ → List ℕ → List ℕ
text_of shown f before after = codes "define " ++ (before_space before ++ (type_text f.ret ++ (codes " @"
    ++ (name_text f.name ++ (codes "(" ++ (joined (param_text shown) (codes ", ") f.params
    ++ (codes ")" ++ (behind_space after
    ++ (codes " {\n" ++ (flat_map (block_lines shown) f.blocks ++ codes "}\n"))))))))))

module _ (shown : Shown) (names : Names) (f : Function) where
  body_rewrites : AreShown shown names (flat_map block_sites f.blocks)
      → Rewrites Anything (the_sign 123 ⊙ InOrder SpellsBlock (map bare_block f.blocks) ⊙ the_sign 125)
      (the_sign 123 ⊙ InOrder SpellsBlock (map bare_block (map normal_block f.blocks)) ⊙ the_sign 125)
      (said_at names (flat_map block_sites f.blocks))
      (codes "{\n" ++ (flat_map (block_lines shown) f.blocks ++ codes "}\n"))
  body_rewrites are =
      sign_then 123 opening_brace_is_sign
      (behind_a_line_feed
      (mentions_are _ _ (append-nil (said_at names (flat_map block_sites f.blocks)))
      (whole_then (blocks_rewrite shown names f.blocks are) closing_line)))

  parts_rewrite : (before after : List ℕ)
      → AreShown shown names (function_sites f)
      → Rewrites Anything (FunctionOf f before after (map bare_block f.blocks))
      (FunctionOf f before after (map bare_block (map normal_block f.blocks)))
      (said_at names (function_sites f)) (text_of shown f before after)
  parts_rewrite before after are =
      let ps = map param_site f.params in
      let bs = flat_map block_sites f.blocks in
      word_then (codes "define") define_is_word
      (whole_then (words_before before)
      (space_then (type_rewrites IsReturned f.ret)
      (and_then (λ rest any. refl) (global_rewrites f.name)
      (sign_then 40 opening_parenthesis_is_sign
      (both_said shown names ps bs
      (and_then (λ rest any. refl) (params_rewrite shown names f.params (left_shown shown names ps bs are))
      (sign_then 41 closing_parenthesis_is_sign
      (and_then (λ rest any. refl) (words_behind after)
      (left_out_then none
      (behind_a_space (body_rewrites (right_shown shown names ps bs are))))))))))))

-- A function is printed as the same, with its numbers as they are printed.
pub function_rewrites : (globals : List (List ℕ)) (names : Names) (f : Function)
    → AreShown (shown_in globals f) names (function_sites f)
    → Rewrites Anything (SpellsFunction (bare_function f)) (SpellsFunction (bare_function (normal_function f)))
    (said_at names (function_sites f)) (function_text globals f)
unfolding function_text
function_rewrites globals names f are = record {
  writes = λ old ts spelled real.
      let before = spelled.0 in
      let after = spelled.1 in
      let all = (parts_rewrite (shown_in globals f) names f before after are).writes old ts spelled.6 real in
      let first : before ≡ words_at f.words 0 = sym (ap (λ ws. words_at ws 0) spelled.2) in
      let second : after ≡ words_at f.words 1 = sym (ap (λ ws. words_at ws 1) spelled.2) in
      let New = FunctionOf f before after (map bare_block (map normal_block f.blocks)) in
      let said = said_at names (function_sites f) in
      let whole = subst (λ w. Writes Anything New said (text_of (shown_in globals f) f (words_at f.words 0) w)) second
      (subst (λ w. Writes Anything New said (text_of (shown_in globals f) f w after)) first all) in
      record {
        lexemes = whole.lexemes;
        spelled = (before, after, spelled.2, some_again f.blocks spelled.3, refl, refl, whole.spelled);
        lexed = whole.lexed;
      };
}
