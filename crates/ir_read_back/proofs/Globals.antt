-- Globals as they are printed.
use Rattle.std.proofs.Common.{◌≡◌, ℕ, Bool, true, false, if◌then◌else◌, List, [], ◌∷◌, ◌++◌, length, codes, refl, sym, ap, subst, Option, Some, None, arith, append_assoc}
use Rattle.ir_model.specs.declared.types.IrType.{IrType}
use Rattle.ir_model.specs.declared.item.Global_.{Global_}
use Rattle.ir_model.specs.declared.item.Init.{Init}
use Rattle.ir_text.specs.Tokens.{Lexeme}
use Rattle.ir_text.specs.Language.{Language, ◌·◌, one, keyword, punctuation, none}
use Rattle.ir_text.specs.Written.{IsGlobal}
use Rattle.ir_text.specs.Mentions.{Mention, Mentioning, ◌⊙◌, silent}
use Rattle.ir_model.specs.Kinds.{IsStored}
use Rattle.ir_text.specs.Types.{SpellsTypeOf}
use Rattle.ir_text.specs.PassedOn.{ArePieces, is_external, passed_text, spaced, attachments}
use Rattle.ir_grammar.specs.Items.{SpellsInitialiser, constant_word, SpellsBehindCommas, SpellsGlobal}
use Rattle.ir_grammar.specs.Printing.{before_space, initialiser_text, global_text}
use Rattle.ir_lex.proofs.Plain.{Stops}
use Rattle.ir_read_back.specs.Normal.{normal_initialiser, normal_global}
use Rattle.ir_read_back.proofs.Inits.{init_rewrites}
use Rattle.ir_read_back.proofs.LexedBytes.{token_is_long}
use Rattle.ir_read_back.proofs.GlobalNames as names
use Rattle.ir_read_back.proofs.Lines.{runs_text, runs_rewrite, line_ends}
use Rattle.ir_read_back.proofs.Passed.{passed_rewrites}
use Rattle.ir_read_back.proofs.Real.{IsReal, AreReal}
use Rattle.ir_read_back.proofs.Steps.{behind_space}
use Rattle.ir_read_back.proofs.TypeTexts.{type_rewrites}
use Rattle.ir_read_back.proofs.Words.{equals_is_sign, global_is_word, constant_is_word}
use Rattle.ir_read_back.proofs.Writes.{Anything, Leads, Rewrites, silently, and_then, whole_then, space_then, word_then, sign_then, behind_a_space}

-- ---- the words before

none_before : (a b : List ℕ) → a ++ b ≡ [] → a ≡ []
none_before [] b is = refl
none_before (x ∷ a) b is = absurd cc

some_text : (t : Lexeme) → IsReal t → t.text ≡ [] → ⊥
some_text t real is = omega (arith, ap length is, token_is_long t.kind t.text real.next real.token.form)

-- Tokens that stand somewhere and have no text are none.
no_text : (ts : List Lexeme) → AreReal ts → passed_text ts ≡ [] → ts ≡ []
unfolding spaced
no_text [] real is = refl
no_text (t ∷ []) real is = absurd (some_text t real.0 is)
no_text (t ∷ u ∷ us) real is = absurd (some_text t real.0 (none_before t.text _ is))

module _ (pieces : List (List Lexeme)) where
  abbrev AreBefore : List ℕ → Language
  AreBefore text ts = ArePieces pieces ts × (text ≡ passed_text ts)

  before_rewrites : (text : List ℕ)
      → Rewrites Anything (silent (AreBefore text)) (silent (AreBefore text)) [] (before_space text)
  before_rewrites [] = record {
    writes = λ old ts spelled real. record {
      lexemes = [];
      spelled = (refl, subst (AreBefore []) (no_text ts real (sym spelled.1.1)) spelled.1);
      lexed = λ rest others any tokens. tokens;
    };
  }
  before_rewrites (b ∷ bs) = record {
    writes = λ old ts spelled real.
        let all = (passed_rewrites AreBefore (λ t us s. s.1) (b ∷ bs)).writes old ts spelled real in
        record {
          lexemes = all.lexemes;
          spelled = all.spelled;
          lexed = λ rest others any tokens.
              rw append_assoc (all.lexed (32 ∷ rest) others refl (behind_space tokens));
        };
  }

-- ---- the parts

constant_then : {A B B' : Mentioning} {ns : List Mention} {text : List ℕ} (constant : Bool)
    → Rewrites Anything B B' ns text
    → Rewrites Anything (A ⊙ B) (silent (keyword (constant_word constant)) ⊙ B') ns
    ((if constant then codes "constant " else codes "global ") ++ text)
constant_then true second = word_then (codes "constant") constant_is_word second
constant_then false second = word_then (codes "global") global_is_word second

initialiser_rewrites : (external : Bool) (kind : IrType) (value : Option Init)
    → Rewrites Stops (silent (SpellsInitialiser external value))
    (silent (SpellsInitialiser external (normal_initialiser kind value))) [] (initialiser_text kind value)
initialiser_rewrites true kind None = record {
  writes = λ old ts spelled real.
      record { lexemes = []; spelled = (refl, refl); lexed = λ rest others stops tokens. tokens };
}
initialiser_rewrites false kind (Some value) = behind_a_space (init_rewrites kind value)
initialiser_rewrites true kind (Some value) = record { writes = λ old ts spelled real. absurd spelled.1 }
initialiser_rewrites false kind None = record { writes = λ old ts spelled real. absurd spelled.1 }

runs_lead : (runs : List (List ℕ)) → Leads Stops (runs_text runs ++ codes "\n") Anything
runs_lead [] rest any = refl
runs_lead (words ∷ runs) rest any = refl

initialiser_leads : (kind : IrType) (value : Option Init) (runs : List (List ℕ))
    → Leads Stops (initialiser_text kind value ++ (runs_text runs ++ codes "\n")) Anything
initialiser_leads kind None runs rest any = runs_lead runs rest any
initialiser_leads kind (Some value) runs rest any = refl

-- ---- a global

-- with these words before
abbrev SpellsWith : List (List Lexeme) → Global_ → Language
SpellsWith pieces g = one (IsGlobal g.name) · punctuation 61 · (λ us. ArePieces pieces us × (g.before ≡ passed_text us))
    · keyword (constant_word g.constant) · SpellsTypeOf IsStored g.kind
    · SpellsInitialiser (is_external pieces) g.init · SpellsBehindCommas g.after · attachments

rewrites_with : (pieces : List (List Lexeme)) (g : Global_)
    → Rewrites Anything (silent (SpellsWith pieces g)) (silent (SpellsWith pieces (normal_global g))) [] (global_text g)
rewrites_with pieces g =
    silently (space_then (names.global_rewrites g.name)
    (silently (sign_then 61 equals_is_sign (behind_a_space
    (silently (whole_then (before_rewrites pieces g.before)
    (silently (constant_then g.constant
    (silently (and_then (initialiser_leads g.kind g.init g.after) (type_rewrites IsStored g.kind)
    (silently (and_then (runs_lead g.after) (initialiser_rewrites (is_external pieces) g.kind g.init)
    (silently (and_then (λ rest any. refl) (runs_rewrite g.after) (line_ends attachments none)))))))))))))))

-- A global is printed as the same, with its numbers as they are printed.
pub global_rewrites : (g : Global_)
    → Rewrites Anything (silent (SpellsGlobal g)) (silent (SpellsGlobal (normal_global g))) [] (global_text g)
global_rewrites g = record {
  writes = λ old ts spelled real.
      let pieces = spelled.1.0 in
      let all = (rewrites_with pieces g).writes [] ts (refl, spelled.1.1) real in
      record { lexemes = all.lexemes; spelled = (refl, (pieces, all.spelled.1)); lexed = all.lexed };
}
