-- How a binomial coefficient comes of its product, by the factorial's power of 2 and odd part.
use Rattle.std.proofs.Common.{◌≡◌, ℕ, suc, ◌+◌, ◌-◌, ◌*◌, ◌/◌, ◌%◌, ◌^◌, ◌<◌, ◌≤◌, refl, ap, ◌∙◌, arith}
use Rattle.std.proofs.lemmas.Nat.{pow-add, pow_pos, mul-mod_first, mod_below, shr_below, shl-shr}
use Rattle.scev_base.proofs.Congruence.{mod-mod_pow, one_mod}
use Rattle.binomial_eval.specs.Choose.{choose}
use Rattle.binomial_eval.specs.Factorial.{factorial}
use Rattle.binomial_eval.proofs.ChooseLemmas.{choose-zero, factorial-zero, product_one_more}
use Rattle.binomial_eval.proofs.LinearLemmas.{mul-mod_mul, times_one}

-- What is known of a product by its residue modulo 2^bits: it is a coefficient times 2^twos and an odd part,
-- and it is known by as many bits more than the width has.
pub record IsProduct (w twos odd inverse bits c product : ℕ) : Type 0 where
  pub split : product ≡ (2 ^ twos * (odd * c)) % 2 ^ bits
  pub undone : (odd * inverse) % 2 ^ 64 ≡ 1
  pub known : w + twos ≤ bits

-- the modulus by which the product is cut, as a product
modulus_of : (w twos : ℕ) → 2 ^ (w + twos) ≡ 2 ^ twos * 2 ^ w
modulus_of w twos =
    let turned : w + twos ≡ twos + w = omega arith in
    ap (λ (n : ℕ). 2 ^ n) turned ∙ pow-add 2 twos w

-- the quotient is a residue modulo 2^w
pub quotient_below : (w twos product : ℕ) → product % 2 ^ (w + twos) / 2 ^ twos < 2 ^ w
quotient_below w twos product =
    shr_below (product % 2 ^ (w + twos)) w twos (mod_below product (2 ^ (w + twos)) (pow_pos (w + twos)))

-- a product that has the factor is cut to the factor times a residue modulo 2^w
cut_multiple : (w twos n : ℕ) → (2 ^ twos * n) % 2 ^ (w + twos) ≡ n % 2 ^ w * 2 ^ twos
cut_multiple w twos n =
    let cut = mul-mod_mul (2 ^ twos) n (2 ^ w) (pow_pos twos) (pow_pos w) in
    let turned : 2 ^ twos * (n % 2 ^ w) ≡ n % 2 ^ w * 2 ^ twos = omega arith in
    ap (λ (m : ℕ). (2 ^ twos * n) % m) (modulus_of w twos) ∙ cut ∙ turned

-- the product's quotient by the power of 2, modulo 2^w
quotient_of : (w twos odd inverse bits c product : ℕ)
    → IsProduct w twos odd inverse bits c product
    → product % 2 ^ (w + twos) / 2 ^ twos ≡ (odd * c) % 2 ^ w
quotient_of w twos odd inverse bits c product h =
    let known = mod-mod_pow (2 ^ twos * (odd * c)) (w + twos) bits h.known in
    let cut = ap (λ (n : ℕ). n % 2 ^ (w + twos)) h.split ∙ known ∙ cut_multiple w twos (odd * c) in
    ap (λ (n : ℕ). n / 2 ^ twos) cut ∙ shl-shr ((odd * c) % 2 ^ w) twos

-- The quotient, times the inverse of the odd part, is the coefficient.
pub coefficient_of : (w twos odd inverse bits c product : ℕ)
    → 1 ≤ w
    → w ≤ 64
    → IsProduct w twos odd inverse bits c product
    → (product % 2 ^ (w + twos) / 2 ^ twos * inverse) % 2 ^ 64 % 2 ^ w ≡ c % 2 ^ w
coefficient_of w twos odd inverse bits c product some fits h =
    let quotient = product % 2 ^ (w + twos) / 2 ^ twos in
    let same = ap (λ (n : ℕ). (n * inverse) % 2 ^ w) (quotient_of w twos odd inverse bits c product h) in
    let group : odd * c * inverse ≡ c * (odd * inverse) = omega arith in
    let one = times_one c (odd * inverse) (2 ^ w) (one_mod (odd * inverse) w 64 some fits h.undone) in
    let undone = mul-mod_first (odd * c) inverse (2 ^ w) ∙ ap (λ (n : ℕ). n % 2 ^ w) group ∙ one in
    mod-mod_pow (quotient * inverse) w 64 fits ∙ same ∙ undone

-- before the first factor
pub product_none : (t : ℕ) → 1 ≡ (choose t 0 * factorial 0) % 2 ^ 128
product_none t = rw (choose-zero t, factorial-zero) refl

-- one more factor
pub product_more : (t k product : ℕ)
    → product ≡ (choose t k * factorial k) % 2 ^ 128
    → (product * (t - k)) % 2 ^ 128 ≡ (choose t (k + 1) * factorial (k + 1)) % 2 ^ 128
product_more t k product so_far =
    let next : k + 1 ≡ suc k = omega arith in
    let before = mul-mod_first (choose t k * factorial k) (t - k) (2 ^ 128) in
    rw (so_far, next, product_one_more t k) before
