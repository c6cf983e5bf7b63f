-- The signed reading of a residue, in its lower and its upper half.
use Rattle.std.proofs.Common.{◌≡◌, ℕ, suc, ◌-◌, ◌*◌, ◌%◌, ◌^◌, ◌<◌, ◌≤◌, pos, ◌-ℤ◌, ◌∙◌, ap, arith}
use Rattle.std.proofs.Math.Nat.{pow-suc}
use Rattle.std.proofs.lemmas.Nat.{one_shl}
use Rattle.std.proofs.lemmas.Bool.Decides.{nat_tests}
use Rattle.std.proofs.lemmas.Int.{ints}
use Rattle.scev_base.specs.Residue.{reading}

pub reading_low : (w n : ℕ) → 2 * n < 2 ^ w → reading w n ≡ pos n
reading_low w n low = grind (arith, nat_tests)

pub reading_high : (w n : ℕ) → 2 ^ w ≤ 2 * n → n < 2 ^ w → reading w n ≡ pos n -ℤ pos (2 ^ w)
reading_high w n high below = grind (arith, nat_tests, ints)

-- the sign bit of a width, as the code computes it
pub sign_bit : (w n : ℕ) → n ≡ w → 1 ≤ w → w ≤ 64 → 2 * (1 * 2 ^ (n - 1) % 2 ^ 64) ≡ 2 ^ w
sign_bit w n same some most =
    let whole : suc (n - 1) ≡ w = omega arith in
    omega (arith, one_shl (n - 1) 64 (omega arith), pow-suc 2 (n - 1), ap (λ k. 2 ^ k) whole)

-- the modulus of a width, as the code computes it
pub modulus : (w n : ℕ) → n ≡ w → w ≤ 64 → 1 * 2 ^ n % 2 ^ 128 ≡ 2 ^ w
modulus w n same most = one_shl n 128 (omega arith) ∙ ap (λ k. 2 ^ k) same
