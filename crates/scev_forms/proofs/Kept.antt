-- Numbers that stay where there are some, and sums and products modulo 2^w as a semiring for plans.
use Rattle.std.proofs.Common.{◌≡◌, ℕ, ◌+◌, ◌*◌, ◌%◌, ◌^◌, Option, Some, None, refl, sym, ap, ◌∙◌, arith}
use Rattle.std.proofs.Math.Nat.{mod-eq_of_lt}
use Rattle.rec_algebra.specs.Semiring.{IsSemiring}
use Rattle.scev_tree.specs.Value.{lifted, sum, product}
use Rattle.scev_tree.proofs.Arithmetic.{IsBelow, sum_closed, product_closed, sum_comm, product_comm, sum_assoc}
use Rattle.scev_tree.proofs.Arithmetic.{product_assoc, distributes}

-- where the first is a number, the second is the same one
abbrev pub Keeps : Option ℕ → Option ℕ → Type 0
Keeps x y = (n : ℕ) → x ≡ Some n → y ≡ Some n

-- a value keeps itself
pub keeps_same : (x y : Option ℕ) → x ≡ y → Keeps x y
keeps_same x y e n h = sym e ∙ h

-- none keeps to anything
pub keeps_none : (y : Option ℕ) → Keeps None y
keeps_none y n h = absurd cc

-- what is kept twice is kept
pub keeps_again : (x y z : Option ℕ) → Keeps x y → Keeps y z → Keeps x z
keeps_again x y z h h' n e = h' n (h n e)

-- an operation keeps what its sides keep
pub keeps_lifted : (op : ℕ → ℕ → ℕ) (x x' y y' : Option ℕ)
    → Keeps x x'
    → Keeps y y'
    → Keeps (lifted op x y) (lifted op x' y')
keeps_lifted op (Some a) x' (Some b) y' h h' n e =
    ap (λ z. lifted op z y') (h a refl) ∙ ap (lifted op (Some a)) (h' b refl) ∙ e
keeps_lifted op (Some a) x' None y' h h' n e = absurd cc
keeps_lifted op None x' y y' h h' n e = absurd cc

-- with none on the right an operation gives no number
pub keeps_lifted_none : (op : ℕ → ℕ → ℕ) (x y : Option ℕ) → Keeps (lifted op x None) y
keeps_lifted_none op (Some a) y n e = absurd cc
keeps_lifted_none op None y n e = absurd cc

-- nor does it with none on the left
pub keeps_none_first : (op : ℕ → ℕ → ℕ) (x y : Option ℕ) → Keeps (lifted op None x) y
keeps_none_first op (Some a) y n e = absurd cc
keeps_none_first op None y n e = absurd cc

-- 0 adds nothing to a number below the modulus
pub plus_zero : (w : ℕ) (x : Option ℕ) → IsBelow w x → sum w x (Some 0) ≡ x
plus_zero w None h = refl
plus_zero w (Some n) h =
    let same : n + 0 ≡ n = omega arith in
    ap Some (ap (λ k. k % 2 ^ w) same ∙ mod-eq_of_lt h)

-- nor to the right of it
pub zero_plus : (w : ℕ) (x : Option ℕ) → IsBelow w x → sum w (Some 0) x ≡ x
zero_plus w x h = sum_comm w (Some 0) x ∙ plus_zero w x h

-- a number below the modulus, times 1
pub times_one : (w : ℕ) (x : Option ℕ) → IsBelow w x → product w x (Some 1) ≡ x
times_one w None h = refl
times_one w (Some n) h =
    let once : n * 1 ≡ n = omega arith in
    ap Some (ap (λ k. k % 2 ^ w) once ∙ mod-eq_of_lt h)

-- a sum with 0 keeps to what keeps the other side
pub keeps_plus_zero : (w : ℕ) (x y : Option ℕ) → IsBelow w y → Keeps x y → Keeps (sum w x (Some 0)) y
keeps_plus_zero w x y below h =
    keeps_again (sum w x (Some 0)) (sum w y (Some 0)) y
    (keeps_lifted (λ a b. (a + b) % 2 ^ w) x y (Some 0) (Some 0) h (keeps_same (Some 0) (Some 0) refl))
    (keeps_same (sum w y (Some 0)) y (plus_zero w y below))

-- so does a product with 1
pub keeps_times_one : (w : ℕ) (x y : Option ℕ) → IsBelow w y → Keeps x y → Keeps (product w x (Some 1)) y
keeps_times_one w x y below h =
    keeps_again (product w x (Some 1)) (product w y (Some 1)) y
    (keeps_lifted (λ a b. (a * b) % 2 ^ w) x y (Some 1) (Some 1) h (keeps_same (Some 1) (Some 1) refl))
    (keeps_same (product w y (Some 1)) y (times_one w y below))

-- sums keep what their sides keep
pub keeps_sum : (w : ℕ) (x x' y y' : Option ℕ) → Keeps x x' → Keeps y y' → Keeps (sum w x y) (sum w x' y')
keeps_sum w x x' y y' h h' = keeps_lifted (λ a b. (a + b) % 2 ^ w) x x' y y' h h'

-- products keep what their sides keep
pub keeps_product : (w : ℕ) (x x' y y' : Option ℕ)
    → Keeps x x'
    → Keeps y y'
    → Keeps (product w x y) (product w x' y')
keeps_product w x x' y y' h h' = keeps_lifted (λ a b. (a * b) % 2 ^ w) x x' y y' h h'

-- numbers below 2^w, or none, are a semiring
pub number_semiring : (w : ℕ) → IsSemiring (IsBelow w) (sum w) (product w)
number_semiring w = record {
  plus_closed = λ x y _ _. sum_closed w x y;
  times_closed = λ x y _ _. product_closed w x y;
  plus_assoc = λ x y z _ _ _. sum_assoc w x y z;
  plus_comm = λ x y _ _. sum_comm w x y;
  times_assoc = λ x y z _ _ _. product_assoc w x y z;
  times_comm = λ x y _ _. product_comm w x y;
  distributes = λ x y z _ _ _. distributes w x y z;
}
