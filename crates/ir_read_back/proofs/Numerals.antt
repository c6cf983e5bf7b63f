-- The text of a number is a numeral, which stands for it.
use Rattle.std.proofs.Common.{◌≡◌, ℕ, suc, ◌^◌, ◌<◌, ◌≤◌, List, [], ◌∷◌, length, ℤ, pos, negsuc, neg_ℤ, arith, rules, IsTrue, ap, ◌∙◌}
use Rattle.std.specs.Fmt.{signed_decimal, decimal}
use Rattle.std.specs.List.{list_all}
use Rattle.std.specs.Str.Parse.{signed_digits_value, digits_value}
use Rattle.std.proofs.lemmas.Int.{ints}
use Rattle.std.proofs.lemmas.Str.Parse.{IsDigitsTest, IsNumeralModel, numerals_by_value}
use Rattle.std.proofs.lemmas.Fmt.{length-decimal-le_wide, decimal_is_IsNumeral_wide}
use Rattle.std.proofs.lemmas.Bool.{false≢true, and_parts, and_from, or_left, or_right, lt-ltb, le-leb}
use Rattle.ir_text.specs.Bytes.{is_digit}
use Rattle.ir_text.specs.Names.{is_number, is_signed_number}
use Rattle.ir_text.specs.Tokens.{FitsSigned128}
use Rattle.ir_lex.proofs.SignedDigits.{plain_value}

digits_test : IsDigitsTest (λ ds. IsTrue (list_all is_digit ds))
unfolding is_digit
digits_test = search rules

own_model : IsNumeralModel (λ ds. IsTrue (list_all is_digit ds)) (digits_value 10)
own_model = numerals_by_value _ digits_test

-- Decimal digits of a number below 10^39.
pub record AreDigitsOf (n : ℕ) (text : List ℕ) : Type 0 where
  pub some : 0 < length text
  pub few : length text ≤ 39
  pub digits : IsTrue (list_all is_digit text)
  pub value : digits_value 10 text ≡ n

pub decimal_digits : (n : ℕ) → n < 10 ^ 39 → AreDigitsOf n (decimal n)
decimal_digits n small =
    let wide : n < 10 ^ 64 = omega arith in
    let is = decimal_is_IsNumeral_wide n wide in
    record {
      some = is.0.0;
      few = length-decimal-le_wide 39 n (omega arith) small wide;
      digits = own_model.from (decimal n) is.0.1;
      value = is.1;
    }

pub is_number_of : (n : ℕ) (digits : List ℕ) → AreDigitsOf n digits → IsTrue (is_number digits)
unfolding is_number
is_number_of n digits are = and_from _ _ (and_from _ _ (lt-ltb 0 _ are.some) (le-leb _ 39 are.few)) are.digits

-- Digits have the value of the number with no sign.
signed_value : (n : ℕ) (digits : List ℕ) → AreDigitsOf n digits → signed_digits_value 10 digits ≡ pos n
signed_value n [] are = absurd (omega (arith, are.some))
signed_value n (d ∷ ds) are = plain_value d ds (and_parts _ _ are.digits).0 ∙ ap pos are.value

is_signed_plain : (bs : List ℕ) → IsTrue (is_number bs) → IsTrue (is_signed_number bs)
unfolding is_signed_number is_number
is_signed_plain [] is_number = absurd (false≢true is_number)
is_signed_plain (b ∷ bs) is_number = or_left _ _ is_number

is_signed_minus : (bs : List ℕ) → IsTrue (is_number bs) → IsTrue (is_signed_number (45 ∷ bs))
unfolding is_signed_number
is_signed_minus bs is_number = or_right _ _ is_number

-- The text of a number of 128 bits is a numeral of it.
pub record IsNumeralOf (z : ℤ) (text : List ℕ) : Type 0 where
  pub number : IsTrue (is_signed_number text)
  pub value : signed_digits_value 10 text ≡ z

pub numeral_of : (z : ℤ) → FitsSigned128 z → IsNumeralOf z (signed_decimal z)
numeral_of (pos n) fits =
    let are = decimal_digits n (omega (arith, ints, fits.1)) in
    record {
      number = is_signed_plain (decimal n) (is_number_of n (decimal n) are);
      value = signed_value n (decimal n) are;
    }
numeral_of (negsuc n) fits =
    let are = decimal_digits (suc n) (omega (arith, ints, fits.0)) in
    record {
      number = is_signed_minus (decimal (suc n)) (is_number_of (suc n) (decimal (suc n)) are);
      value = ap (λ m. neg_ℤ (pos m)) are.value;
    }
