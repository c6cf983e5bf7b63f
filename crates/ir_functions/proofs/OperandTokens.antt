-- Tokens that are operands: a word of these is passed on and takes no numeral; every other one belongs to no run.
use Rattle.std.proofs.Common.{◌≡◌, ℕ, Bool, true, false, ◌&&◌, not, List, Option, Some, None, refl, sym, ap, ◌∙◌}
use Rattle.std.specs.Option.{is_some}
use Rattle.ir_model.specs.declared.op.Operand.{Operand}
use Rattle.ir_text.specs.declared.token.TokenKind.{TokenKind}
use Rattle.ir_text.specs.declared.token.TokenKind.TheVariants.{Word, Numeral, Local, Global}
use Rattle.ir_text.specs.Tokens.{Lexeme}
use Rattle.ir_text.specs.Mentions.{Mention}
use Rattle.ir_parts.specs.Reading.{is_word_kind, is_punctuation}
use Rattle.ir_parts.specs.TypeReading.{int_width_of}
use Rattle.ir_parts.specs.WordsReading.{is_passed_text, is_passed, begins_piece}
use Rattle.ir_parts.specs.Runs.{is_placing}
use Rattle.ir_parts.specs.Literals.{word_operands, word_operand}
use Rattle.ir_parts.specs.Tables.{look_up}
use Rattle.ir_parts.proofs.LookedUp.{look_up_gives}
use Rattle.ir_body.specs.Operands.{told_word, operand_of_parts, operand_of}
use Rattle.ir_functions.specs.Arguments.{is_outer}

-- ---- words

-- What holds of the text of each operand that is a word.
IsInner : List ℕ → Operand → Type 0
IsInner text value = (is_passed_text text ≡ true) × (is_placing text ≡ false)

inner_text : (text : List ℕ) (found : Option Operand) (value : Operand × List Mention)
    → look_up word_operands text ≡ found → told_word found ≡ Some value
    → (is_passed_text text ≡ true) × (is_placing text ≡ false)
unfolding IsInner is_passed_text int_width_of
inner_text text None value is e = absurd cc
inner_text text (Some found) value is e =
    look_up_gives IsInner word_operands text found
    ((refl, refl), ((refl, refl), ((refl, refl), ((refl, refl), ((refl, refl), tt))))) is

-- An operand that is a word is a piece alone, behind which no numeral may stand.
pub record IsInnerWord (t : Lexeme) : Type 0 where
  pub passed : is_passed t ≡ true
  pub places_none : is_placing t.text ≡ false

pub inner_word : (t : Lexeme) (value : Operand × List Mention) → t.kind ≡ Word → operand_of t ≡ Some value
    → IsInnerWord t
unfolding operand_of_parts word_operand
inner_word t value is e =
    let told : told_word (look_up word_operands t.text) ≡ Some value =
    sym (ap (λ (kind : TokenKind). operand_of_parts kind t.text) is) ∙ e in
    let found = inner_text t.text (look_up word_operands t.text) value refl told in
    record { passed = rw is found.0; places_none = found.1 }

-- ---- other tokens

-- The token begins no piece, and belongs to none unless it is a numeral.
pub record IsOuterToken (t : Lexeme) : Type 0 where
  pub begins_none : begins_piece t ≡ false
  pub no_bracket : is_punctuation 40 t ≡ false
  pub no_equals : is_punctuation 61 t ≡ false
  pub outer : is_outer t ≡ true

outer_of : (kind : TokenKind) (text : List ℕ) (value : Operand × List Mention) → is_word_kind kind ≡ false
    → operand_of_parts kind text ≡ Some value → IsOuterToken (record { kind = kind; text = text })
unfolding operand_of_parts
outer_of Word text value is e = absurd cc
outer_of Local text value is e =
    record { begins_none = refl; no_bracket = refl; no_equals = refl; outer = rw e refl }
outer_of Global text value is e =
    record { begins_none = refl; no_bracket = refl; no_equals = refl; outer = rw e refl }
outer_of Numeral text value is e =
    record { begins_none = refl; no_bracket = refl; no_equals = refl; outer = refl }
outer_of _ text value is e = absurd cc

pub outer_token : (t : Lexeme) (value : Operand × List Mention) → is_word_kind t.kind ≡ false
    → operand_of t ≡ Some value → IsOuterToken t
outer_token t value is e = outer_of t.kind t.text value is e

-- ---- what an outer operand is

pub record IsOuterOperand (t : Lexeme) : Type 0 where
  pub value : Operand × List Mention
  pub operand : operand_of t ≡ Some value
  pub no_word : is_word_kind t.kind ≡ false

pub outer_operand : (t : Lexeme) → is_outer t ≡ true → IsOuterOperand t
outer_operand t e = of_found (operand_of t) refl (is_word_kind t.kind) refl e
  where
    of_found : (found : Option (Operand × List Mention)) → operand_of t ≡ found → (b : Bool) → is_word_kind t.kind ≡ b
        → (is_some found && not b) ≡ true → IsOuterOperand t
    of_found None is b word e = absurd cc
    of_found (Some value) is true word e = absurd cc
    of_found (Some value) is false word e = record { value = value; operand = is; no_word = word }

-- a word is no outer operand
pub word_is_inner : (t : Lexeme) → t.kind ≡ Word → is_outer t ≡ false
word_is_inner t is = no_more (is_some (operand_of t)) (is_word_kind t.kind) (rw is refl)
  where
    no_more : (a b : Bool) → b ≡ true → (a && not b) ≡ false
    no_more true b e = rw e refl
    no_more false b e = refl
