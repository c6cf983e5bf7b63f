-- The value of a constant, and of {first,+,step} at each turn of its loop.
use Rattle.std.proofs.Common.{◌≡◌, ℕ, zero, suc, ◌+◌, ◌*◌, ◌%◌, ◌<◌, ◌^◌, ◌==◌, if◌then◌else◌, [], ◌∷◌, Bool, true}
use Rattle.std.proofs.Common.{false, Option, Some, refl, ap, sym, ◌∙◌, arith}
use Rattle.std.proofs.lemmas.Bool.{eqb-true}
use Rattle.std.proofs.Math.Nat.{mod-eq_of_lt, mod-mod, mod-add-mod, add-mod-mod, one-mul, mul-one, add-zero, zero-mul}
use Rattle.scev_base.specs.Iterated.{iterated}
use Rattle.scev_tree.specs.Tree.{polynomial, no_terms, term, no_factors, constant, affine}
use Rattle.scev_tree.specs.Value.{sum, tree_value}

-- ---- constants

-- a number, as a coefficient of its own
one_term : (x m : ℕ) → (1 * (x % m) % m + 0) % m ≡ x % m
one_term x m = rw (one-mul, mod-mod, add-zero, mod-mod)

-- whether or not it is 0
constant_by : (held : ℕ → Option ℕ) (turns : ℕ → ℕ) (w n : ℕ) (b : Bool)
    → (n % 2 ^ w == 0) ≡ b
    → tree_value held turns (if b then polynomial w no_terms else polynomial w (term no_factors (n % 2 ^ w) no_terms))
    ≡ Some (n % 2 ^ w)
constant_by held turns w n true e = ap (λ (k : ℕ). Some k) (sym (eqb-true (n % 2 ^ w) 0 e))
constant_by held turns w n false e = ap (λ (k : ℕ). Some k) (one_term n (2 ^ w))

-- a constant has its lowest bits as its value
pub constant_value : (held : ℕ → Option ℕ) (turns : ℕ → ℕ) (w n : ℕ)
    → tree_value held turns (constant w n) ≡ Some (n % 2 ^ w)
constant_value held turns w n = constant_by held turns w n (n % 2 ^ w == 0) refl

-- ---- affine recurrences

-- a number, as a factor of its own
one_atom : (x m : ℕ) → (x % m * 1 % m * 1 % m + 0) % m ≡ x % m
one_atom x m = simp (add-zero, mul-one, mod-mod)

-- with no parts behind it the first one stays
iterated_alone : {A : Type 0} (add : A → A → A) (t : ℕ) (x : A) → iterated add t x [] ≡ x
unfolding iterated
iterated_alone add zero x = refl
iterated_alone add (suc t) x = refl

-- at turn 0 it is the first part
pub first_turn : (first step m : ℕ) → first < m → (first + 0 * step) % m ≡ first
first_turn first step m small = rw (zero-mul, add-zero) (mod-eq_of_lt small)

-- one turn more adds the step
pub next_turn : (first step t m : ℕ) → ((first + t * step) % m + step) % m ≡ (first + suc t * step) % m
next_turn first step t m =
    let same : first + t * step + step ≡ first + suc t * step = omega arith in
    mod-add-mod (first + t * step) m step ∙ ap (λ (k : ℕ). k % m) same

-- the parts at a turn
iterated_at : (w t first step : ℕ)
    → iterated (sum w) t (Some (first % 2 ^ w)) (Some (step % 2 ^ w) ∷ []) ≡ Some ((first + t * step) % 2 ^ w)
unfolding iterated
iterated_at w zero first step = ap (λ (k : ℕ). Some (k % 2 ^ w)) (sym (rw (zero-mul, add-zero)))
iterated_at w (suc t) first step =
    rw
    (iterated_at w t first step, iterated_alone (sum w) t (Some (step % 2 ^ w)))
    (ap (λ (k : ℕ). Some k)
    (add-mod-mod ((first + t * step) % 2 ^ w) step (2 ^ w) ∙ next_turn first step t (2 ^ w)))

-- The value at the turn at which its loop is.
pub affine_value : (held : ℕ → Option ℕ) (turns : ℕ → ℕ) (w k first step : ℕ)
    → tree_value held turns (affine w k first step) ≡ Some ((first + turns k * step) % 2 ^ w)
affine_value held turns w k first step =
    rw
    (constant_value held turns w first, constant_value held turns w step, iterated_at w (turns k) first step)
    (ap (λ (n : ℕ). Some n) (one_atom (first + turns k * step) (2 ^ w)))
