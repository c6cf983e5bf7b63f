-- Whether the number of a token is in range.
use Rattle.std.proofs.Common.{ℕ, ◌≡◌, ◌^◌, ◌<◌, ◌≤◌, true, false, List, [], ◌∷◌, sym, ◌∙◌, ⊎_elim, ◌⊎◌, arith, Option, Some, None, is_some}
use Rattle.std.specs.Prelude.{ℤ, pos, neg_ℤ}
use Rattle.std.specs.Option.{SomeIff}
use Rattle.std.specs.List.{list_all}
use Rattle.std.specs.Str.Parse.{digits_value, signed_digits_value}
use Rattle.std.proofs.lemmas.Bool.{and_parts, or_cases, or_parts, not-true, not-false, leb-true, ltb-true, ltb-false, le-leb, lt-ltb, false≢true, false_from_ne_true}
use Rattle.std.proofs.lemmas.Int.{ints}
use Rattle.ir_text.specs.Bytes.{is_digit}
use Rattle.ir_text.specs.Names.{is_word, is_number, is_signed_number, IsString, IsName}
use Rattle.ir_text.specs.Tokens.{FitsSigned128}
use Rattle.ir_lex.specs.FirstToken.{fits_unsigned, fits_signed}
use Rattle.ir_lex.proofs.BytesApart.{begins_word-no_digit, digit-no_minus}
use Rattle.ir_lex.proofs.SignedDigits.{plain_value}
use Rattle.ir_lex.proofs.LongestWord.{is_word-nil, word-parts}
use Rattle.ir_lex.proofs.LongestNumber.{number-parts, number-first, signed-cases, signed-nil}
use Rattle.ir_lex.proofs.LongestName.{quote-no_digit}

-- a name that fits has a number below 2^64, if it is one
pub fits_unsigned-yes : (name : List ℕ)
    → fits_unsigned name ≡ true
    → is_number name ≡ true
    → digits_value 10 name < 2 ^ 64
unfolding fits_unsigned
fits_unsigned-yes name h number =
    ⊎_elim
    (λ (e : _ ≡ true). absurd (false≢true (sym (not-true _ e) ∙ (number-parts name number).digits)))
    (λ (e : _ ≡ true). ltb-true _ _ e)
    (or_cases _ _ h)

word-no_digits : (w : List ℕ)
    → is_word w ≡ true
    → list_all is_digit w ≡ true
    → ⊥
word-no_digits [] h digits = false≢true (sym is_word-nil ∙ h)
word-no_digits (b ∷ bs) h digits =
    false≢true (sym (begins_word-no_digit b (word-parts b bs h).begins) ∙ (and_parts _ _ digits).0)

-- a name that is digits alone is a number
digits-number : (name : List ℕ)
    → IsName name
    → list_all is_digit name ≡ true
    → is_number name ≡ true
digits-number name is_name digits =
    ⊎_elim
    (λ (w : is_word name ≡ true). absurd (word-no_digits name w digits))
    (λ (other : (is_number name ≡ true) ⊎ IsString name).
    ⊎_elim
    (λ (n : is_number name ≡ true). n)
    (λ (q : IsString name). absurd (false≢true (sym quote-no_digit ∙ (and_parts _ _ (rw q.1 at digits)).0)))
    other)
    is_name

-- one that doesn't is a number, of 2^64 or more
pub fits_unsigned-no : (name : List ℕ)
    → IsName name
    → fits_unsigned name ≡ false
    → (is_number name ≡ true) × (2 ^ 64 ≤ digits_value 10 name)
unfolding fits_unsigned
fits_unsigned-no name is_name h =
    let parts = or_parts _ _ h in
    (digits-number name is_name (not-false _ parts.0), ltb-false _ _ parts.1)

-- from -2^127
negative_fits : (v : ℕ) → v ≤ 2 ^ 127 → FitsSigned128 (neg_ℤ (pos v))
negative_fits v h = (omega (arith, ints), omega (arith, ints))

fits_negative : (v : ℕ) → FitsSigned128 (neg_ℤ (pos v)) → v ≤ 2 ^ 127
fits_negative v h = omega (arith, ints, h.0)

-- to 2^127 - 1
positive_fits : (v : ℕ) → v < 2 ^ 127 → FitsSigned128 (pos v)
positive_fits v h = (omega (arith, ints), omega (arith, ints))

fits_positive : (v : ℕ) → FitsSigned128 (pos v) → v < 2 ^ 127
fits_positive v h = omega (arith, ints, h.1)

-- `-` and digits
fits-minus : (ds : List ℕ)
    → (fits_signed (45 ∷ ds) ≡ true → FitsSigned128 (signed_digits_value 10 (45 ∷ ds)))
    × (FitsSigned128 (signed_digits_value 10 (45 ∷ ds)) → fits_signed (45 ∷ ds) ≡ true)
unfolding fits_signed
fits-minus ds = (
  λ e. negative_fits (digits_value 10 ds) (leb-true _ _ e),
  λ fits. le-leb _ _ (fits_negative (digits_value 10 ds) fits),
)

-- digits alone
fits-plain : (d : ℕ) (ds : List ℕ)
    → is_digit d ≡ true
    → (fits_signed (d ∷ ds) ≡ true → FitsSigned128 (signed_digits_value 10 (d ∷ ds)))
    × (FitsSigned128 (signed_digits_value 10 (d ∷ ds)) → fits_signed (d ∷ ds) ≡ true)
unfolding fits_signed
fits-plain d ds h =
    let value = plain_value d ds h in
    let minus = digit-no_minus d h in (
      λ e. rw value (positive_fits (digits_value 10 (d ∷ ds)) (ltb-true _ _ (rw minus at e))),
      λ fits. rw minus (lt-ltb _ _ (fits_positive (digits_value 10 (d ∷ ds)) (rw value at fits))),
    )

-- The test holds exactly of the numerals in range.
pub fits_signed-is : (text : List ℕ)
    → is_signed_number text ≡ true
    → (fits_signed text ≡ true → FitsSigned128 (signed_digits_value 10 text))
    × (FitsSigned128 (signed_digits_value 10 text) → fits_signed text ≡ true)
fits_signed-is [] h = absurd (false≢true (sym signed-nil ∙ h))
fits_signed-is (b ∷ bs) h =
    ⊎_elim
    (λ (plain : is_number (b ∷ bs) ≡ true). fits-plain b bs (number-first b bs plain))
    (λ (minus : (b ≡ 45) × (is_number bs ≡ true)). rw minus.0 (fits-minus bs))
    (signed-cases b bs h)

-- so to have a value is to fit
pub fits_by_value : (text : List ℕ) (value : Option ℤ)
    → is_signed_number text ≡ true
    → SomeIff value (FitsSigned128 (signed_digits_value 10 text)) (signed_digits_value 10 text)
    → is_some value ≡ fits_signed text
fits_by_value text None number h = sym (false_from_ne_true _ (λ e. h ((fits_signed-is text number).0 e)))
fits_by_value text (Some v) number h = sym ((fits_signed-is text number).1 h.0)
