-- What a sentence doesn't begin with.
use Rattle.std.proofs.Common.{◌≡◌, ℕ, Bool, false, List, ◌∷◌, ◌++◌, ap, ◌∙◌, append_assoc, codes}
use Rattle.std.specs.Str.{bytes_eq}
use Rattle.ir_model.specs.declared.types.IrType.{IrType}
use Rattle.ir_text.specs.Tokens.{Lexeme}
use Rattle.ir_text.specs.Mentions.{Mention, Mentioning, ◌⊙◌}
use Rattle.ir_model.specs.Kinds.{IsScalar}
use Rattle.ir_grammar.specs.Operations.{the_word, the_type}
use Rattle.ir_parts.specs.Reading.{begins, is_keyword}
use Rattle.ir_body.proofs.FlagReaders.{scalar_is_no}

-- No sentence, whatever stands behind it, begins with a token that passes the test.
abbrev pub BeginsNot : (Lexeme → Bool) → Mentioning → Type 0
BeginsNot test A = (ms : List Mention) (taken rest : List Lexeme) → A ms taken → begins test (taken ++ rest) ≡ false

-- the first of two parts
pub first_begins_not : {A B : Mentioning} (test : Lexeme → Bool) → BeginsNot test A → BeginsNot test (A ⊙ B)
first_begins_not test first ms taken rest l =
    ap (λ (ts : List Lexeme). begins test (ts ++ rest)) l.3.2
    ∙ (ap (begins test) (append_assoc l.3.0 l.3.1 rest) ∙ first l.0 l.3.0 (l.3.1 ++ rest) l.3.3)

-- another word
pub word_begins_not : (text other : List ℕ) → bytes_eq text other ≡ false
    → BeginsNot (is_keyword other) (the_word text)
word_begins_not text other apart ms taken rest l = rw l.1 apart

-- a type
pub type_begins_not : (text : List ℕ) → ((digits : List ℕ) → bytes_eq (105 ∷ digits) text ≡ false)
    → bytes_eq (codes "ptr") text ≡ false → (kind : IrType) → BeginsNot (is_keyword text) (the_type IsScalar kind)
type_begins_not text no_int no_ptr kind ms taken rest l = scalar_is_no text no_int no_ptr kind taken rest l.1
