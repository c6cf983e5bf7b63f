-- Congruences modulo powers of 2.
use Rattle.std.proofs.Common.{◌≡◌, ℕ, zero, suc, ◌+◌, ◌-◌, ◌*◌, ◌/◌, ◌%◌, ◌^◌, ◌<◌, ◌≤◌, sym, ◌∙◌, ap, refl, arith}
use Rattle.std.proofs.Math.Nat.{add-mul-mod_self_left, div-add-mod, mod-mod_of_dvd, mod-eq_of_lt, dvd-mul_right}
use Rattle.std.proofs.lemmas.Nat.{pow-add, pow_pos, pow_below, mod_below, mul-mod_second}

-- multiples of the modulus don't count
pub mod_same : (a b m j k : ℕ) → a + m * j ≡ b + m * k → a % m ≡ b % m
mod_same a b m j k e =
    sym (add-mul-mod_self_left a m j) ∙ ap (λ x. x % m) e ∙ add-mul-mod_self_left b m k

-- a power of 2 is a product of a smaller one
pub pow_split : (p q : ℕ) → p ≤ q → 2 ^ q ≡ 2 ^ p * 2 ^ (q - p)
pow_split p q small =
    let whole : q ≡ p + (q - p) = omega arith in
    ap (λ k. 2 ^ k) whole ∙ pow-add 2 p (q - p)

-- the lowest bits of the lowest bits
pub mod-mod_pow : (n p q : ℕ) → p ≤ q → n % 2 ^ q % 2 ^ p ≡ n % 2 ^ p
mod-mod_pow n p q small =
    mod-mod_of_dvd (2 ^ p) n (rw (pow_split p q small) (dvd-mul_right (2 ^ p) (2 ^ (q - p))))

-- 1 modulo a power of 2 is 1 modulo a smaller one
pub one_mod : (n p q : ℕ) → 1 ≤ p → p ≤ q → n % 2 ^ q ≡ 1 → n % 2 ^ p ≡ 1
one_mod n p q some small e =
    let more : 1 < 2 ^ p = pow_below 0 p some in
    sym (mod-mod_pow n p q small) ∙ ap (λ k. k % 2 ^ p) e ∙ mod-eq_of_lt more

-- a factor that is cut to a modulus above the one that is looked at
pub cut_factor : (n x p q : ℕ) → p ≤ q → n * (x % 2 ^ q) % 2 ^ p ≡ n * x % 2 ^ p
cut_factor n x p q small =
    sym (mul-mod_second n (x % 2 ^ q) (2 ^ p)) ∙ ap (λ k. n * k % 2 ^ p) (mod-mod_pow x p q small) ∙ mul-mod_second n x (2 ^ p)

-- (1 + e) * (1 - e) is 1 without the square of e, where y stands for 1 - e modulo q * d
newton_sum : (e y q d c b k : ℕ) → e * e ≡ q * k → y + (1 + e) + q * d * c ≡ 2 + q * d * (b + 1) → (1 + e) * y + q * (k + d * ((1 + e) * c)) ≡ 1 + q * (d * ((1 + e) * (b + 1)))
newton_sum e y q d c b k square sum = omega (arith, square, ap (λ t. (1 + e) * t) sum)

-- 2 - n modulo m, and n, are 2 modulo m
two_less : (n m : ℕ) → 0 < m → (2 + (m - n % m)) % m + n + m * ((2 + (m - n % m)) / m) ≡ 2 + m * (n / m + 1)
two_less n m some =
    omega (arith, div-add-mod (2 + (m - n % m)) m, div-add-mod n m, mod_below n m some)

-- a square of multiples of 2^p is a multiple of each power up to 2^(2p)
square_split : (a p q : ℕ) → q ≤ 2 * p → 2 ^ p * a * (2 ^ p * a) ≡ 2 ^ q * (2 ^ (p + p - q) * (a * a))
square_split a p q small =
    let both : 2 ^ p * 2 ^ p ≡ 2 ^ q * 2 ^ (p + p - q) = sym (pow-add 2 p p) ∙ pow_split q (p + p) (omega arith) in
    omega (arith, ap (λ t. t * (a * a)) both)

-- Newton's round on a product that is 1 modulo 2^p
newton_product : (n m p q : ℕ) → 1 ≤ q → q ≤ 2 * p → q ≤ m → n % 2 ^ p ≡ 1 → n * ((2 + (2 ^ m - n % 2 ^ m)) % 2 ^ m) % 2 ^ q ≡ 1
newton_product n m p q some small fits one =
    let e = 2 ^ p * (n / 2 ^ p) in
    let y = (2 + (2 ^ m - n % 2 ^ m)) % 2 ^ m in
    let c = (2 + (2 ^ m - n % 2 ^ m)) / 2 ^ m in
    let b = n / 2 ^ m in
    let d = 2 ^ (m - q) in
    let k = 2 ^ (p + p - q) * (n / 2 ^ p * (n / 2 ^ p)) in
    let whole : n ≡ 1 + e = omega (arith, div-add-mod n (2 ^ p), one) in
    let sum : y + n + 2 ^ m * c ≡ 2 + 2 ^ m * (b + 1) = two_less n (2 ^ m) (pow_pos m) in
    let split : 2 ^ m ≡ 2 ^ q * d = pow_split q m fits in
    let same : y + (1 + e) + 2 ^ q * d * c ≡ 2 + 2 ^ q * d * (b + 1) = ap (λ t. y + t + 2 ^ q * d * c) (sym whole) ∙ ap (λ t. y + n + t * c) (sym split) ∙ sum ∙ ap (λ t. 2 + t * (b + 1)) split in
    let more : 1 < 2 ^ q = pow_below 0 q some in
    ap (λ t. t * y % 2 ^ q) whole ∙ mod_same ((1 + e) * y) 1 (2 ^ q) (k + d * ((1 + e) * c)) (d * ((1 + e) * (b + 1))) (newton_sum e y (2 ^ q) d c b k (square_split (n / 2 ^ p) p q small) same) ∙ mod-eq_of_lt more

-- one round of Newton's iteration doubles the number of lowest bits at which x is the inverse of n
pub newton_round : (n x m p q : ℕ) → 1 ≤ q → q ≤ 2 * p → q ≤ m → n * x % 2 ^ p ≡ 1 → n * (x * ((2 + (2 ^ m - n * x % 2 ^ m)) % 2 ^ m) % 2 ^ m) % 2 ^ q ≡ 1
newton_round n x m p q some small fits one =
    let y = (2 + (2 ^ m - n * x % 2 ^ m)) % 2 ^ m in
    let group : n * (x * y) ≡ n * x * y = omega arith in
    cut_factor n (x * y) q m fits ∙ ap (λ t. t % 2 ^ q) group ∙ newton_product (n * x) m p q some small fits one

-- one of two neighbours is even
neighbours : (k : ℕ) → (h : ℕ) × (k * (k + 1) ≡ 2 * h)
neighbours zero = (0, refl)
neighbours (suc k) =
    let before = neighbours k in
    (before.0 + (k + 1), omega (arith, before.1))

-- an odd number is its own inverse modulo 8
pub odd_square : (n : ℕ) → n % 2 ≡ 1 → n * n % 8 ≡ 1
odd_square n odd =
    let k = n / 2 in
    let pair = neighbours k in
    let whole : n ≡ 2 * k + 1 = omega (arith, div-add-mod n 2, odd) in
    let square : n * n ≡ 4 * (k * (k + 1)) + 1 = ap (λ t. t * t) whole ∙ omega arith in
    mod_same (n * n) 1 8 0 pair.0 (omega (arith, square, pair.1))
