-- One more digit of a number.
use Rattle.std.proofs.Common.{ℕ, ◌≡◌, ◌+◌, ◌-◌, ◌*◌, ◌<◌, ◌≤◌, true, List, length, get_or, take, refl, arith}
use Rattle.std.specs.List.{list_all}
use Rattle.std.specs.Str.Parse.{digits_value}
use Rattle.std.proofs.lemmas.Bool.{and_parts, leb-true}
use Rattle.std.proofs.lemmas.Int.Digits.{digits_value_more}
use Rattle.std.proofs.lemmas.List.Recursion.{and_at}
use Rattle.std.proofs.lemmas.Str.{digit_value_digit}
use Rattle.std.proofs.lemmas.Str.Parse.{digits_value-take-le}
use Rattle.ir_text.specs.Bytes.{is_digit}

digit-range : (b : ℕ) → is_digit b ≡ true → (48 ≤ b) × (b ≤ 57)
unfolding is_digit
digit-range b h = let parts = and_parts _ _ h in (leb-true _ _ parts.0, leb-true _ _ parts.1)

pub record IsDigitStep (ds : List ℕ) (i v : ℕ) : Type 0 where
  pub digit : 48 ≤ get_or ds i 0
  pub value : digits_value 10 (take (i + 1) ds) ≡ v * 10 + (get_or ds i 0 - 48)
  pub most : digits_value 10 (take (i + 1) ds) ≤ digits_value 10 ds

pub digit_step : (ds : List ℕ) (i v : ℕ)
    → list_all is_digit ds ≡ true
    → i < length ds
    → v ≡ digits_value 10 (take i ds)
    → IsDigitStep ds i v
digit_step ds i v digits within is =
    let range =
    digit-range (get_or ds i 0) (and_at (list_all is_digit) is_digit refl (λ _ _. refl) ds i 0 within digits) in
    let at = digit_value_digit (get_or ds i 0) range in
    let step = digits_value_more 10 ds i within in
    record { digit = range.0; value = omega arith; most = digits_value-take-le 10 ds (i + 1) (omega arith) }
