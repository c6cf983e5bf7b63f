-- Signed readings and residues: a number that was extended reads as it did before.
use Rattle.std.proofs.Common.{◌≡◌, ℕ, suc, ◌+◌, ◌-◌, ◌*◌, ◌%◌, ◌^◌, ◌<◌, ◌≤◌, nat_lt, inl, inr}
use Rattle.std.proofs.Common.{ℤ, pos, negsuc, sym, ap, ◌∙◌, subst, arith}
use Rattle.std.specs.Prelude.{neg_ℤ}
use Rattle.std.proofs.lemmas.Bool.{cond-false, le-ltb, cases_lt}
use Rattle.std.proofs.Math.Nat.{mod-eq_of_lt, pow-suc, pow-le-pow_right}
use Rattle.scev_base.specs.Residue.{residue, reading}
use Rattle.scev_base.proofs.ReadingLemmas.{reading_low}

-- a power of 2 isn't above one of as many bits or more
pub pow_more : (v w : ℕ) → v ≤ w → 2 ^ v ≤ 2 ^ w
pow_more v w h =
    let two : 0 < 2 = omega arith in
    pow-le-pow_right two h

-- a number of fewer bits is below half the modulus
pub half_fits : (v w n : ℕ) → v < w → n < 2 ^ v → 2 * n < 2 ^ w
half_fits v w n narrow below = omega (arith, pow_more (suc v) w narrow, pow-suc 2 v)

-- a number of the upper half reads as negative
pub reading_negative : (w n m : ℕ) → 2 ^ w ≤ 2 * n → n + suc m ≡ 2 ^ w → reading w n ≡ negsuc m
reading_negative w n m high whole =
    let less : 2 ^ w - n ≡ suc m = omega arith in
    cond-false (nat_lt (2 * n) (2 ^ w)) (pos n) (neg_ℤ (pos (2 ^ w - n))) (le-ltb (2 * n) (2 ^ w) high)
    ∙ ap (λ k. neg_ℤ (pos k)) less

-- what is to be shown of a reading is shown of both halves
pub reading_cases : (w n : ℕ) (P : ℤ → Type 0)
    → n < 2 ^ w
    → (2 * n < 2 ^ w → P (pos n))
    → ((m : ℕ) → 2 ^ w ≤ 2 * n → n + suc m ≡ 2 ^ w → P (negsuc m))
    → P (reading w n)
reading_cases w n P below low high =
    elim (cases_lt (2 * n) (2 ^ w)) [
      | inl half ↦ subst P (sym (reading_low w n half)) (low half)
      | inr half ↦
          let m = 2 ^ w - n - 1 in
          let whole : n + suc m ≡ 2 ^ w = omega arith in
          subst P (sym (reading_negative w n m half whole)) (high m half whole)
    ]

-- a number reads as one that has its residue
pub residue_reading : (w n : ℕ) → n < 2 ^ w → residue w (reading w n) ≡ n
residue_reading w n below =
    reading_cases w n (λ z. residue w z ≡ n) below
    (λ _. mod-eq_of_lt below)
    (λ m half whole.
    let fits : m % 2 ^ w ≡ m = mod-eq_of_lt (omega arith) in
    omega arith)

-- a number that was extended with sign reads as it did before
pub reading_extended : (u v a : ℕ) → u < v → a < 2 ^ u → reading v (residue v (reading u a)) ≡ reading u a
reading_extended u v a narrow below =
    let more = pow_more u v (omega arith) in
    reading_cases u a (λ z. reading v (residue v z) ≡ z) below
    (λ half.
    let fits : a % 2 ^ v ≡ a = mod-eq_of_lt (omega arith) in
    ap (reading v) fits ∙ reading_low v a (omega arith))
    (λ m half whole.
    let fits : m % 2 ^ v ≡ m = mod-eq_of_lt (omega arith) in
    ap (λ k. reading v (2 ^ v - (k + 1))) fits
    ∙ reading_negative v (2 ^ v - (m + 1)) m (omega arith) (omega arith))

-- a number that was extended without sign is itself, with sign too
pub residue_narrow : (v w n : ℕ) → v ≤ w → 2 * n < 2 ^ v → residue w (reading v n) ≡ n
residue_narrow v w n most half =
    ap (residue w) (reading_low v n half) ∙ mod-eq_of_lt (omega (arith, pow_more v w most))
