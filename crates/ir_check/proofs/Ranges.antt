-- Numbers in the range of a width.
use Rattle.std.proofs.Common.{◌≡◌, ℕ, zero, suc, ◌-◌, ◌*◌, ◌^◌, ◌<◌, ◌≤◌, ◌==◌, true, false, ℤ, pos, neg_ℤ, ◌-ℤ◌, ◌≤ℤ◌}
use Rattle.std.proofs.Common.{◌<ℤ◌, refl, ap, ◌∙◌, arith}
use Rattle.std.proofs.Math.Pow.{pow_mono}
use Rattle.std.proofs.Math.Nat.{pow-suc}
use Rattle.std.proofs.Math.Dec.{eqb-suc-zero}
use Rattle.std.proofs.lemmas.Int.{ints}
use lib.Signed.{lt_z, le_z}
use Rattle.ir_rules.specs.Types.{is_in_range}
use mir.Syntax.{w128}
use mir.Val.{SFits}

double : (w : ℕ) → 0 < w → 2 ^ w ≡ 2 * 2 ^ (w - 1)
double w some =
    let whole : w ≡ suc (w - 1) = omega arith in
    ap (λ v. 2 ^ v) whole ∙ omega (arith, pow-suc 2 (w - 1))

le_true : (a b : ℤ) → a ≤ℤ b → le_z a b ≡ true
le_true a b h = grind (arith, ints)

lt_true : (a b : ℤ) → a <ℤ b → lt_z a b ≡ true
lt_true a b h = grind (arith, ints)

not_zero : (w : ℕ) → 0 < w → (w == 0) ≡ false
not_zero zero some = absurd (omega arith)
not_zero (suc w) some = eqb-suc-zero w

-- a number is compared, or what is left of it above another one
less : (n : ℤ) (h k : ℕ) → k ≡ 2 * h → lt_z (n -ℤ pos h) (pos h) ≡ lt_z n (pos k)
less n h k twice = grind (arith, ints)

-- above the least number, the greatest is what counts
pub in_range_above : (w : ℕ) (n : ℤ) → 0 < w → neg_ℤ (pos (2 ^ (w - 1))) ≤ℤ n
    → lt_z (n -ℤ pos (2 ^ (w - 1))) (pos (2 ^ (w - 1))) ≡ is_in_range w n
in_range_above w n some least =
    rw (not_zero w some, le_true (neg_ℤ (pos (2 ^ (w - 1)))) n least) (less n (2 ^ (w - 1)) (2 ^ w) (double w some))

-- each number of 128 bits is in range at 128 bits and more
pub in_range_wide : (w : ℕ) (n : ℤ) → 127 < w → SFits w128 n → true ≡ is_in_range w n
in_range_wide w n large fits =
    let some : 0 < w = omega arith in
    let most : 2 ^ 127 ≤ 2 ^ (w - 1) = pow_mono {i = 127} {j = w - 1} (omega arith) in
    let twice = double w some in
    rw (
      not_zero w some,
      le_true (neg_ℤ (pos (2 ^ (w - 1)))) n (least n (2 ^ (w - 1)) most fits),
      lt_true n (pos (2 ^ w)) (greatest n (2 ^ w) (omega arith) fits),
    ) refl
  where
    least : (n : ℤ) (h : ℕ) → 2 ^ 127 ≤ h → SFits w128 n → neg_ℤ (pos h) ≤ℤ n
    least n h most fits = omega (arith, ints, fits.sfits)

    greatest : (n : ℤ) (h : ℕ) → 2 ^ 127 ≤ h → SFits w128 n → n <ℤ pos h
    greatest n h most fits = omega (arith, ints, fits.sfits)
