-- The bytes of numerals.
use Rattle.std.proofs.Common.{◌≡◌, ℕ, zero, suc, ◌+◌, ◌-◌, ◌*◌, ◌/◌, ◌%◌, ◌^◌, ◌<◌, ◌≤◌, [], ◌∷◌, ◌++◌, refl, ◌∙◌, ℤ}
use Rattle.std.proofs.Common.{pos, negsuc, min, inl, inr, arith}
use Rattle.std.proofs.Math.Nat.{div-div-eq-div-mul, div-add-mod, mod-eq_of_lt, one-le-pow, pow-suc}
use Rattle.std.proofs.Math.Arith.{mod-mul}
use Rattle.std.proofs.lemmas.Bool.{cases_lt}
use Rattle.std.proofs.lemmas.Bool.Decides.{nat_tests}
use Rattle.std.proofs.lemmas.Nat.{pow_pos, mod_below}
use Rattle.scev_base.specs.Residue.{residue}
use Rattle.scev_base.proofs.Congruence.{mod_same, pow_split, mod-mod_pow}
use Rattle.ir_memory.specs.declared.byte.Byte.TheVariants as byte
use Rattle.ir_rules.specs.Limits.{int_size}
use Rattle.ir_memory.specs.Spelling.{number_bytes}

-- one more byte of a number
pub number_bytes_push : (k n : ℕ) → number_bytes (k + 1) n ≡ number_bytes k n ++ byte.Number (n / 256 ^ k % 256) ∷ []
unfolding number_bytes
number_bytes_push zero n = let e : n / 1 ≡ n = omega arith in rw e refl
number_bytes_push (suc k) n =
    let next : suc k + 1 ≡ suc (k + 1) = omega arith in
    let power : 256 ^ suc k ≡ 256 * 256 ^ k = omega (arith, pow-suc 256 k) in
    rw (next, number_bytes_push k (n / 256), power, div-div-eq-div-mul) refl

-- and what is left of the number then
pub quotient_push : (rest k n : ℕ) → rest ≡ n / 256 ^ k → rest / 256 ≡ n / 256 ^ (k + 1)
quotient_push rest k n so =
    let next : k + 1 ≡ suc k = omega arith in rw (so, next, pow-suc, div-div-eq-div-mul) refl

-- the bytes of a number's lowest bits
pub number_bytes_low : (count n : ℕ) → number_bytes count (n % 256 ^ count) ≡ number_bytes count n
unfolding number_bytes
number_bytes_low zero n = refl
number_bytes_low (suc count) n =
    let power : 256 ^ suc count ≡ 256 ^ count * 256 = omega (arith, pow-suc 256 count) in
    let parts = mod-mul n {m = 256 ^ count} {c = 256} (one-le-pow count 256 (omega arith)) (omega arith) in
    let low : n % (256 ^ count * 256) % 256 ≡ n % 256 = omega arith in
    let high : n % (256 ^ count * 256) / 256 ≡ n / 256 % 256 ^ count = omega arith in
    rw (power, low, high, number_bytes_low count (n / 256)) refl

-- the lowest bits of a residue
pub residue_low : (v w : ℕ) (z : ℤ) → v ≤ w → residue w z % 2 ^ v ≡ residue v z
residue_low v w (pos n) small = mod-mod_pow n v w small
residue_low v w (negsuc n) small =
    let split = pow_split v w small in
    let parts = div-add-mod (n % 2 ^ w) (2 ^ v) in
    let low = mod-mod_pow n v w small in
    let below = mod_below n (2 ^ w) (pow_pos w) in
    let below_low = mod_below n (2 ^ v) (pow_pos v) in
    mod_same (2 ^ w - (n % 2 ^ w + 1)) (2 ^ v - (n % 2 ^ v + 1)) (2 ^ v) (n % 2 ^ w / 2 ^ v + 1) (2 ^ (w - v))
    (omega arith)
    ∙ mod-eq_of_lt (omega arith)

-- a numeral of no bits
pub none_left : (z : ℤ) → residue 0 z ≡ 0
none_left (pos n) = omega arith
none_left (negsuc n) = omega arith

wide_size : (w : ℕ) → 64 < w → int_size w ≡ 8
wide_size w wide = grind (arith, nat_tests)

-- The bytes of a numeral are those of its lowest 64 bits.
pub numeral_bytes : (w : ℕ) (z : ℤ)
    → number_bytes (int_size w) (residue (min w 64) z) ≡ number_bytes (int_size w) (residue w z)
numeral_bytes w z =
    elim (cases_lt 64 w) [
      | inl wide ↦
          let least : min w 64 ≡ 64 = omega arith in
          rw (least, wide_size w wide, ← residue_low 64 w z (omega arith)) (number_bytes_low 8 (residue w z))
      | inr narrow ↦ let least : min w 64 ≡ w = omega arith in rw least refl
    ]
