-- Sums and products modulo 2^w of numbers, or none, are a commutative semiring: none absorbs what it meets.
use Rattle.std.proofs.Common.{◌≡◌, ℕ, ◌+◌, ◌*◌, ◌%◌, ◌^◌, ◌<◌, Option, Some, None, refl, sym, ap, ◌∙◌, arith}
use Rattle.std.proofs.Common.{add_assoc, zero-add}
use Rattle.std.proofs.Math.Nat.{mod-add-mod, add-mod-mod, add-mod, add_comm, mul_comm, mul_assoc, mul-add, mod-eq_of_lt}
use Rattle.std.proofs.lemmas.Nat.{pow_pos, mul-mod_first, mul-mod_second, mod_below}
use Rattle.scev_tree.specs.Value.{sum, product}

-- a number below 2^w, or none
abbrev pub IsBelow : ℕ → Option ℕ → Type 0
IsBelow w None = Unit {0}
IsBelow w (Some n) = n < 2 ^ w

-- ---- a commutative semiring

-- a sum is below the modulus
pub sum_closed : (w : ℕ) (x y : Option ℕ) → IsBelow w (sum w x y)
sum_closed w (Some a) (Some b) = mod_below (a + b) (2 ^ w) (pow_pos w)
sum_closed w _ _ = tt

-- a product is below the modulus
pub product_closed : (w : ℕ) (x y : Option ℕ) → IsBelow w (product w x y)
product_closed w (Some a) (Some b) = mod_below (a * b) (2 ^ w) (pow_pos w)
product_closed w _ _ = tt

-- the order of two summands doesn't count
pub sum_comm : (w : ℕ) (x y : Option ℕ) → sum w x y ≡ sum w y x
sum_comm w (Some a) (Some b) = ap (λ n. Some (n % 2 ^ w)) (add_comm a b)
sum_comm w (Some a) None = refl
sum_comm w None (Some b) = refl
sum_comm w None None = refl

-- the order of two factors doesn't count
pub product_comm : (w : ℕ) (x y : Option ℕ) → product w x y ≡ product w y x
product_comm w (Some a) (Some b) = ap (λ n. Some (n % 2 ^ w)) (mul_comm a b)
product_comm w (Some a) None = refl
product_comm w None (Some b) = refl
product_comm w None None = refl

-- three summands, in either grouping
pub sum_assoc : (w : ℕ) (x y z : Option ℕ) → sum w (sum w x y) z ≡ sum w x (sum w y z)
sum_assoc w (Some a) (Some b) (Some c) = ap Some (
    mod-add-mod (a + b) (2 ^ w) c ∙ ap (λ n. n % 2 ^ w) (add_assoc a b c) ∙ sym (add-mod-mod a (b + c) (2 ^ w))
    )
sum_assoc w _ _ _ = refl

-- three factors, in either grouping
pub product_assoc : (w : ℕ) (x y z : Option ℕ) → product w (product w x y) z ≡ product w x (product w y z)
product_assoc w (Some a) (Some b) (Some c) = ap Some (
    mul-mod_first (a * b) c (2 ^ w) ∙ ap (λ n. n % 2 ^ w) (mul_assoc a b c) ∙ sym (mul-mod_second a (b * c) (2 ^ w))
    )
product_assoc w _ _ _ = refl

-- a product of a sum is the sum of the products, also where a side has no number
pub distributes : (w : ℕ) (x y z : Option ℕ)
    → product w x (sum w y z) ≡ sum w (product w x y) (product w x z)
distributes w (Some a) (Some b) (Some c) = ap Some (
    mul-mod_second a (b + c) (2 ^ w) ∙ ap (λ n. n % 2 ^ w) (mul-add a b c) ∙ add-mod (a * b) (a * c) (2 ^ w)
    )
distributes w _ _ _ = refl

-- ---- what follows

-- the first two of three summands change places
pub sum_left_comm : (w : ℕ) (x y z : Option ℕ) → sum w x (sum w y z) ≡ sum w y (sum w x z)
sum_left_comm w x y z =
    sym (sum_assoc w x y z) ∙ ap (λ s. sum w s z) (sum_comm w x y) ∙ sum_assoc w y x z

-- the first two of three factors change places
pub product_left_comm : (w : ℕ) (x y z : Option ℕ) → product w x (product w y z) ≡ product w y (product w x z)
product_left_comm w x y z =
    sym (product_assoc w x y z) ∙ ap (λ s. product w s z) (product_comm w x y) ∙ product_assoc w y x z

-- a number below the modulus, times 1
pub one_times : (w : ℕ) (x : Option ℕ) → IsBelow w x → product w (Some 1) x ≡ x
one_times w None h = refl
one_times w (Some n) h =
    let once : 1 * n ≡ n = omega arith in
    ap Some (ap (λ k. k % 2 ^ w) once ∙ mod-eq_of_lt h)

-- a factor counts modulo 2^w
pub factor_mod : (w : ℕ) (x : Option ℕ) (n : ℕ) → product w x (Some (n % 2 ^ w)) ≡ product w x (Some n)
factor_mod w None n = refl
factor_mod w (Some a) n = ap Some (mul-mod_second a n (2 ^ w))

-- the products of one number with two others, added
pub factors_added : (w : ℕ) (x : Option ℕ) (m n : ℕ)
    → product w x (Some (m + n)) ≡ sum w (product w x (Some m)) (product w x (Some n))
factors_added w x m n = sym (factor_mod w x (m + n)) ∙ distributes w x (Some m) (Some n)

-- a summand whose coefficient is 0 doesn't count, where it has a value
pub nothing_added : (w c k : ℕ) (x y : Option ℕ)
    → c % 2 ^ w ≡ 0
    → IsBelow w y
    → sum w (product w x (Some c)) y ≡ Some k
    → y ≡ Some k
nothing_added w c k (Some v) (Some t) e below h =
    let none : v * 0 ≡ 0 = omega arith in
    let gone : v * c % 2 ^ w ≡ 0 =
    sym (mul-mod_second v c (2 ^ w)) ∙ ap (λ n. v * n % 2 ^ w) e ∙ ap (λ n. n % 2 ^ w) none
    ∙ mod-eq_of_lt (pow_pos w) in
    let left : (v * c % 2 ^ w + t) % 2 ^ w ≡ t =
    ap (λ n. (n + t) % 2 ^ w) gone ∙ ap (λ n. n % 2 ^ w) (zero-add t) ∙ mod-eq_of_lt below in
    sym (ap Some left) ∙ h
nothing_added w c k (Some v) None e below h = absurd cc
nothing_added w c k None (Some t) e below h = absurd cc
nothing_added w c k None None e below h = absurd cc

-- in a sum that has a value, a summand may go for one that has the same value
pub summand_instead : (w k : ℕ) (x y z : Option ℕ)
    → sum w x y ≡ Some k
    → ((j : ℕ) → y ≡ Some j → z ≡ Some j)
    → sum w x z ≡ Some k
summand_instead w k x (Some j) z h same = ap (sum w x) (same j refl) ∙ h
summand_instead w k (Some a) None z h same = absurd cc
summand_instead w k None None z h same = absurd cc
