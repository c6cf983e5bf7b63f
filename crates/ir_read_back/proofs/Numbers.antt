-- Numbers as they are printed.
use Rattle.std.proofs.Common.{ℕ, zero, suc, ◌<◌, eqb, cond, List, [], ℤ, pos, arith, codes, refl, sym, subst, inl, inr}
use Rattle.std.specs.Fmt.{signed_decimal}
use Rattle.std.specs.Str.Parse.{signed_digits_value}
use Rattle.std.proofs.lemmas.Bool.{cases_Bool}
use Rattle.std.proofs.lemmas.Int.{ints}
use Rattle.scev_base.specs.Residue.{residue, reading}
use Rattle.ir_model.specs.declared.types.IrType.{IrType}
use Rattle.ir_model.specs.declared.types.IrType.TheVariants.{Void, Int, Ptr, Array}
use Rattle.ir_text.specs.declared.token.TokenKind.TheVariants.{Word, Numeral}
use Rattle.ir_text.specs.Tokens.{Lexeme, HasForm, FitsSigned128}
use Rattle.ir_text.specs.Language.{one}
use Rattle.ir_text.specs.Types.{IsNumeral}
use Rattle.ir_text.specs.Mentions.{silent}
use Rattle.ir_grammar.specs.Operations.{SpellsNumber}
use Rattle.ir_grammar.specs.Printing.{number_text}
use Rattle.ir_lex.proofs.Plain.{Stops, Word-token, Numeral-token}
use Rattle.ir_read_back.specs.Normal.{normal_number}
use Rattle.ir_read_back.proofs.Words.{true_is_word, false_is_word}
use Rattle.ir_read_back.proofs.Numerals.{numeral_of}
use Rattle.ir_read_back.proofs.Readings.{residue_below, reading_fits}
use Rattle.ir_read_back.proofs.Real.{IsReal, AreReal}
use Rattle.ir_read_back.proofs.Writes.{Writes, Rewrites, token_writes}

numeral_form : (text next : List ℕ) → HasForm Numeral text next → FitsSigned128 (signed_digits_value 10 text)
unfolding HasForm
numeral_form text next form = form.2

-- A numeral that stands somewhere has 128 bits.
pub numeral_fits : (n : ℤ) (t : Lexeme) → IsNumeral n t → IsReal t → FitsSigned128 n
numeral_fits n t is real =
    subst FitsSigned128 is.1
    (numeral_form t.text real.next (subst (λ k. HasForm k t.text real.next) is.0 real.token.form))

pub number_fits : (n : ℤ) (ts : List Lexeme) → SpellsNumber n ts → AreReal ts → FitsSigned128 n
number_fits n ts spelled real = elim spelled [
  | inl numeral ↦ numeral_fits n numeral.0 numeral.2 (subst AreReal numeral.1 real).0
  | inr bit ↦ elim bit [
    | inl is ↦ subst FitsSigned128 (sym is.0) (omega (arith, ints), omega (arith, ints))
    | inr is ↦ subst FitsSigned128 (sym is.0) (omega (arith, ints), omega (arith, ints))
  ]
]

pub numeral_writes : (z : ℤ) → FitsSigned128 z → Writes Stops (silent (SpellsNumber z)) [] (signed_decimal z)
numeral_writes z fits =
    let is = numeral_of z fits in
    token_writes Numeral (signed_decimal z) (refl, inl (_, refl, (refl, is.value)))
    (λ next stops. Numeral-token (signed_decimal z) next is.number (subst FitsSigned128 (sym is.value) fits) stops)

-- `true` and `false`
bit_writes : (r : ℕ) → r < 2
    → Writes Stops (silent (SpellsNumber (pos r))) [] (cond (eqb r 1) (codes "true") (codes "false"))
bit_writes zero small =
    token_writes Word (codes "false") (refl, inr (inr (refl, refl)))
    (λ next stops. Word-token _ next false_is_word stops)
bit_writes (suc zero) small =
    token_writes Word (codes "true") (refl, inr (inl (refl, refl)))
    (λ next stops. Word-token _ next true_is_word stops)
bit_writes (suc (suc r)) small = absurd (omega arith)

int_writes : (width : ℕ) (n : ℤ) → FitsSigned128 n
    → Writes Stops (silent (SpellsNumber (normal_number (Int width) n))) [] (number_text (Int width) n)
int_writes width n fits = elim (cases_Bool (eqb width 1)) [
  | inl one ↦ rw one (bit_writes (residue 1 n) (residue_below 1 n))
  | inr other ↦ rw other (numeral_writes (reading width (residue width n)) (reading_fits width n fits))
]

pub number_writes : (kind : IrType) (n : ℤ) → FitsSigned128 n
    → Writes Stops (silent (SpellsNumber (normal_number kind n))) [] (number_text kind n)
number_writes Void n fits = numeral_writes n fits
number_writes (Int width) n fits = int_writes width n fits
number_writes Ptr n fits = numeral_writes n fits
number_writes (Array dims width) n fits = numeral_writes n fits

-- A number is printed as a number of its type.
pub number_rewrites : (kind : IrType) (n : ℤ)
    → Rewrites Stops (silent (SpellsNumber n)) (silent (SpellsNumber (normal_number kind n))) [] (number_text kind n)
number_rewrites kind n = record {
  writes = λ old ts spelled real. number_writes kind n (number_fits n ts spelled.1 real);
}
