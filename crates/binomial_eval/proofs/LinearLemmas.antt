-- The solutions of linear congruences modulo powers of 2.
use Rattle.std.proofs.Common.{◌≡◌, ℕ, zero, suc, ◌+◌, ◌*◌, ◌/◌, ◌%◌, ◌^◌, ◌<◌, ◌≤◌, inl, inr, sym, ap, ◌∙◌, arith}
use Rattle.std.specs.Int.{w64, trailing_zeros}
use Rattle.std.proofs.Math.Nat.{div-add-mod, mod-eq_of_lt, mod-le, eq_of_mul-eq-mul_left, mul-mod_right, mul_comm}
use Rattle.std.proofs.Math.Pow.{pow_mono}
use Rattle.std.proofs.lemmas.Bool.{cases_lt}
use Rattle.std.proofs.lemmas.Nat.{div_below, pow-add, mul-mod_first, mul-mod_second, mod-pow-add, mod_below, pow_pos, mul-le}
use Rattle.std.proofs.lemmas.Nat.Bits.{bit_at-trailing_zeros}
use Rattle.scev_base.proofs.Congruence.{mod_same}
use Rattle.binomial_eval.specs.Congruence.{IsSolution, IsLeastSolution}

mul_less : (z a b : ℕ) → 0 < z → a < b → z * a < z * b
mul_less z a b some less = grind arith

-- a common factor of a number and the modulus
pub mul-mod_mul : (z x y : ℕ) → 0 < z → 0 < y → z * x % (z * y) ≡ z * (x % y)
mul-mod_mul z x y some more =
    let split = div-add-mod x y in
    let whole : z * x + z * y * 0 ≡ z * (x % y) + z * y * (x / y) = omega (arith, ap (λ (t : ℕ). z * t) split) in
    let below : z * (x % y) < z * y = mul_less z (x % y) y some (mod_below x y more) in
    mod_same (z * x) (z * (x % y)) (z * y) 0 (x / y) whole ∙ mod-eq_of_lt below

-- The factor is 2^e times another number, and the period 2^n has the places of the width that are left.
pub record IsFactored (w e n factor odd : ℕ) : Type 0 where
  pub places : e + n ≡ w
  pub split : factor ≡ 2 ^ e * odd

-- the modulus as a product
modulus_of : (w e n factor odd : ℕ) → IsFactored w e n factor odd → 2 ^ w ≡ 2 ^ e * 2 ^ n
modulus_of w e n factor odd h = ap (λ (k : ℕ). 2 ^ k) (sym h.places) ∙ pow-add 2 e n

-- what the factor times a number is modulo 2^w
product_of : (w e n factor odd t : ℕ) → IsFactored w e n factor odd → (factor * t) % 2 ^ w ≡ 2 ^ e * ((odd * t) % 2 ^ n)
product_of w e n factor odd t h =
    let group : factor * t ≡ 2 ^ e * (odd * t) = omega (arith, ap (λ (k : ℕ). k * t) h.split) in
    rw (modulus_of w e n factor odd h, group) (mul-mod_mul (2 ^ e) (odd * t) (2 ^ n) (pow_pos e) (pow_pos n))

-- a number times one that is 1 modulo the modulus
pub times_one : (x y modulus : ℕ) → y % modulus ≡ 1 → (x * y) % modulus ≡ x % modulus
times_one x y modulus e =
    let plain : x * 1 ≡ x = omega arith in
    sym (mul-mod_second x y modulus) ∙ ap (λ (k : ℕ). (x * k) % modulus) e ∙ ap (λ (k : ℕ). k % modulus) plain

-- the quotient times the inverse solves the congruence
solves : (w e n factor odd inverse product : ℕ) → IsFactored w e n factor odd → (odd * inverse) % 2 ^ n ≡ 1 → product < 2 ^ w → product ≡ 2 ^ e * (product / 2 ^ e) → (factor * ((product / 2 ^ e * inverse) % 2 ^ n)) % 2 ^ w ≡ product
solves w e n factor odd inverse product h one small whole =
    let q = product / 2 ^ e in
    let low : q < 2 ^ n = div_below product (2 ^ e) (2 ^ n) (pow_pos e) (rw (modulus_of w e n factor odd h, mul_comm (2 ^ e) (2 ^ n)) at small) in
    let group : odd * (q * inverse) ≡ q * (odd * inverse) = omega arith in
    let inner : (odd * ((q * inverse) % 2 ^ n)) % 2 ^ n ≡ q = mul-mod_second odd (q * inverse) (2 ^ n) ∙ ap (λ (k : ℕ). k % 2 ^ n) group ∙ times_one q (odd * inverse) (2 ^ n) one ∙ mod-eq_of_lt low in
    product_of w e n factor odd ((q * inverse) % 2 ^ n) h ∙ ap (λ (k : ℕ). 2 ^ e * k) inner ∙ sym whole

-- and each other solution is it modulo the period
is_least : (w e n factor odd inverse product other : ℕ) → IsFactored w e n factor odd → (odd * inverse) % 2 ^ n ≡ 1 → product ≡ 2 ^ e * (product / 2 ^ e) → (factor * other) % 2 ^ w ≡ product → (product / 2 ^ e * inverse) % 2 ^ n ≤ other
is_least w e n factor odd inverse product other h one whole solution =
    let q = product / 2 ^ e in
    let both : 2 ^ e * ((odd * other) % 2 ^ n) ≡ 2 ^ e * q = sym (product_of w e n factor odd other h) ∙ solution ∙ whole in
    let same : (odd * other) % 2 ^ n ≡ q = eq_of_mul-eq-mul_left (2 ^ e) (pow_pos e) ((odd * other) % 2 ^ n) q both in
    let group : odd * other * inverse ≡ other * (odd * inverse) = omega arith in
    let residue : (q * inverse) % 2 ^ n ≡ other % 2 ^ n = ap (λ (k : ℕ). (k * inverse) % 2 ^ n) (sym same) ∙ mul-mod_first (odd * other) inverse (2 ^ n) ∙ ap (λ (k : ℕ). k % 2 ^ n) group ∙ times_one other (odd * inverse) (2 ^ n) one in
    rw residue (mod-le other (2 ^ n))

-- the congruence by the residue of its factor
residue_first : (b w t factor : ℕ) → factor ≡ b % 2 ^ w → (b * t) % 2 ^ w ≡ (factor * t) % 2 ^ w
residue_first b w t factor p =
    sym (mul-mod_first b t (2 ^ w)) ∙ ap (λ (k : ℕ). (k * t) % 2 ^ w) (sym p)

pub least_solution : (b d w factor product e n odd inverse : ℕ) → factor ≡ b % 2 ^ w → product ≡ d % 2 ^ w → IsFactored w e n factor odd → (odd * inverse) % 2 ^ n ≡ 1 → product % 2 ^ e ≡ 0 → IsLeastSolution b d w ((product / 2 ^ e * inverse) % 2 ^ n)
least_solution b d w factor product e n odd inverse p q h one even =
    let whole : product ≡ 2 ^ e * (product / 2 ^ e) = omega (arith, div-add-mod product (2 ^ e), even) in
    let small : product < 2 ^ w = omega (arith, q, mod_below d (2 ^ w) (pow_pos w)) in
    let t = (product / 2 ^ e * inverse) % 2 ^ n in (
      residue_first b w t factor p ∙ solves w e n factor odd inverse product h one small whole ∙ q,
      λ other solution. is_least w e n factor odd inverse product other h one whole (sym (residue_first b w other factor p) ∙ solution ∙ sym q),
    )

-- a product that is no multiple of the factor's power of 2
pub no_solution : (b d w factor product e n odd t : ℕ) → factor ≡ b % 2 ^ w → product ≡ d % 2 ^ w → IsFactored w e n factor odd → (product % 2 ^ e ≡ 0 → ⊥) → IsSolution b d w t → ⊥
no_solution b d w factor product e n odd t p q h uneven solution =
    let same : 2 ^ e * ((odd * t) % 2 ^ n) ≡ product = sym (product_of w e n factor odd t h) ∙ sym (residue_first b w t factor p) ∙ solution ∙ sym q in
    uneven (rw (← same) (mul-mod_right (2 ^ e) ((odd * t) % 2 ^ n)))

-- a factor that is 0 modulo 2^w
pub zero_solution : (b d w : ℕ) → d % 2 ^ w ≡ 0 → IsLeastSolution b d w 0
zero_solution b d w e =
    let plain : b * 0 ≡ 0 = omega arith in
    (rw plain (mod-eq_of_lt (pow_pos w) ∙ sym e), λ other solution. omega arith)

pub no_solution_of_zero : (b d w factor product t : ℕ) → factor ≡ b % 2 ^ w → product ≡ d % 2 ^ w → factor ≡ 0 → (product ≡ 0 → ⊥) → IsSolution b d w t → ⊥
no_solution_of_zero b d w factor product t p q none some solution =
    let plain : 0 * t ≡ 0 = omega arith in
    let nothing : (factor * t) % 2 ^ w ≡ 0 = rw (none, plain) (mod-eq_of_lt (pow_pos w)) in
    some (q ∙ sym solution ∙ residue_first b w t factor p ∙ nothing)

-- a number whose lowest bits are 0 is a multiple of a power of 2
multiple_of_pow : (n e : ℕ) → ((i : ℕ) → i < e → n / 2 ^ i % 2 ≡ 0) → n % 2 ^ e ≡ 0
multiple_of_pow n zero zeros = omega arith
multiple_of_pow n (suc e) zeros =
    let more : 1 + e ≡ suc e = omega arith in
    let split = rw more at (mod-pow-add n 1 e) in
    let before = multiple_of_pow n e (λ i within. zeros i (omega arith)) in
    let bit : n / 2 ^ e % 2 ^ 1 ≡ 0 = zeros e (omega arith) in
    rw (split, before, bit) (omega arith)

below_width : (w e factor odd : ℕ) → factor ≡ 2 ^ e * odd → odd % 2 ≡ 1 → factor < 2 ^ w → e < w
below_width w e factor odd whole h small =
    let one : 1 ≤ odd = omega arith in
    let least : 2 ^ e * 1 ≤ 2 ^ e * odd = mul-le (2 ^ e) 1 (2 ^ e) odd (omega arith) one in
    elim (cases_lt e w) [ inl less ↦ less | inr more ↦ absurd (omega (arith, least, pow_mono more)) ]

-- A number below 2^w that is not 0: its zeros at the end are fewer than w, and an odd number stands before them.
pub record IsSplit (w e factor : ℕ) : Type 0 where
  pub fewer : e < w
  pub split : factor ≡ 2 ^ e * (factor / 2 ^ e)
  pub odd : factor / 2 ^ e % 2 ≡ 1

pub trailing_split : (w factor : ℕ) → w ≤ 64 → (factor ≡ 0 → ⊥) → factor < 2 ^ w → IsSplit w (trailing_zeros w64 factor) factor
trailing_split w factor fits some small =
    let e = trailing_zeros w64 factor in
    let bits = bit_at-trailing_zeros w64 factor (omega arith) (omega (arith, pow_mono fits)) in
    let even = multiple_of_pow factor e bits.2 in
    let whole : factor ≡ 2 ^ e * (factor / 2 ^ e) = omega (arith, div-add-mod factor (2 ^ e), even) in record {
      fewer = below_width w e factor (factor / 2 ^ e) whole bits.1 small;
      split = whole;
      odd = bits.1;
    }
