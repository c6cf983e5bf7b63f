-- Where the digits of a signed number stand, and the number that they write.
use Rattle.std.proofs.Common.{ℕ, ◌≡◌, ◌<◌, true, List, [], ◌∷◌, length, get_or, drop, sym, ap, ◌∙◌, ⊎_elim, arith}
use Rattle.std.specs.Prelude.{pos, neg_ℤ}
use Rattle.std.specs.List.{list_all}
use Rattle.std.specs.Str.Parse.{digits_value, signed_digits_value}
use Rattle.std.proofs.lemmas.Bool.{and_parts, false≢true}
use Rattle.ir_text.specs.Bytes.{is_digit}
use Rattle.ir_text.specs.Names.{is_number, is_signed_number}
use Rattle.ir_lex.proofs.LongestNumber.{number-parts, number-first, signed-cases, signed-nil}
use Rattle.ir_lex.proofs.BytesApart.{digit-no_minus, digit-no_plus}

-- digits have no sign
pub plain_value : (d : ℕ) (ds : List ℕ)
    → is_digit d ≡ true
    → signed_digits_value 10 (d ∷ ds) ≡ pos (digits_value 10 (d ∷ ds))
plain_value d ds h =
    let minus = digit-no_minus d h in
    let plus = digit-no_plus d h in
    simp (minus, plus)

-- `-` and digits, or digits alone
pub record IsSignedDigits (text : List ℕ) : Type 0 where
  pub some : 0 < length text
  pub minus : get_or text 0 0 ≡ 45 → list_all is_digit (drop 1 text) ≡ true
  pub minus_value : get_or text 0 0 ≡ 45 → signed_digits_value 10 text ≡ neg_ℤ (pos (digits_value 10 (drop 1 text)))
  pub plain : (get_or text 0 0 ≡ 45 → ⊥) → list_all is_digit text ≡ true
  pub plain_value : (get_or text 0 0 ≡ 45 → ⊥) → signed_digits_value 10 text ≡ pos (digits_value 10 text)

-- A signed number is `-` and digits, or digits alone, and is worth what they are.
pub signed_digits : (text : List ℕ) → is_signed_number text ≡ true → IsSignedDigits text
signed_digits [] h = absurd (false≢true (sym signed-nil ∙ h))
signed_digits (b ∷ bs) h = record {
  some = omega arith;
  minus = λ e. ⊎_elim
      (λ (plain : is_number (b ∷ bs) ≡ true). (and_parts _ _ (number-parts (b ∷ bs) plain).digits).1)
      (λ (minus : (b ≡ 45) × (is_number bs ≡ true)). (number-parts bs minus.1).digits)
      (signed-cases b bs h);
  minus_value = λ e. ap (λ c. signed_digits_value 10 (c ∷ bs)) e;
  plain = λ other. ⊎_elim
      (λ (plain : is_number (b ∷ bs) ≡ true). (number-parts (b ∷ bs) plain).digits)
      (λ (minus : (b ≡ 45) × (is_number bs ≡ true)). absurd (other minus.0))
      (signed-cases b bs h);
  plain_value = λ other. ⊎_elim
      (λ (plain : is_number (b ∷ bs) ≡ true). plain_value b bs (number-first b bs plain))
      (λ (minus : (b ≡ 45) × (is_number bs ≡ true)). absurd (other minus.0))
      (signed-cases b bs h);
}
