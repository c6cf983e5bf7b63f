-- Products of monomials with one monomial keep their order.
use Rattle.std.proofs.Common.{◌≡◌, ℕ, suc, true, false, ◌⊎◌, inl, inr, List, []}
use Rattle.std.proofs.Common.{◌∷◌, ◌++◌, refl, sym, ap, ◌∙◌, subst, arith}
use Rattle.std.proofs.lemmas.Bool.{cond_both}
use Rattle.std.proofs.lemmas.List.{append-nil}
use Rattle.scev_tree.specs.Tree.{Factors, Atom, no_factors, factor}
use Rattle.scev_tree.specs.Order.{lower, count_factors, factors_code, atom_code, monomial_code}
use Rattle.scev_tree.specs.Canonical.{with_factor, joined_factors}
use Rattle.scev_tree.proofs.Codes.{one_atom, atoms_apart}
use Rattle.scev_tree.proofs.Inserted.{first_factor, later_factor}
use Rattle.scev_tree.proofs.Lower.{lower_first, same_first, lower_cases}
use Rattle.scev_tree.proofs.Lower.{cases_lower, never_lower, never_both, from_again}

-- ---- lists of numbers

-- behind one beginning the rest decides
behind_same : (p x y : List ℕ) → lower (p ++ x) (p ++ y) ≡ lower x y
behind_same [] x y = refl
behind_same (n ∷ p) x y = same_first n n (lower (p ++ x) (p ++ y)) refl ∙ behind_same p x y

-- a lower list that isn't the beginning of the other one is lower with anything behind both
lower_with : (p q x y : List ℕ)
    → ((z : List ℕ) → p ++ z ≡ q → ⊥)
    → lower p q ≡ true
    → lower (p ++ x) (q ++ y) ≡ true
lower_with p [] x y apart h = absurd cc
lower_with [] (n ∷ q) x y apart h = absurd (apart (n ∷ q) refl)
lower_with (m ∷ p) (n ∷ q) x y apart h =
    elim (lower_cases m n p q h) [
      | inl lt ↦ lower_first m n (lower (p ++ x) (q ++ y)) lt
      | inr e ↦
          let number : m ≡ n = e.0 in
          same_first m n (lower (p ++ x) (q ++ y)) number
          ∙ lower_with p q x y (λ z whole. apart z (cc)) e.1
    ]

-- ---- atoms

-- no atom's code is the beginning of that of another one
no_beginning : (a b : Atom) (z : List ℕ)
    → lower (atom_code a) (atom_code b) ≡ true
    → atom_code a ++ z ≡ atom_code b
    → ⊥
no_beginning a b z h e =
    let one : a ≡ b = (atoms_apart a b z [] (e ∙ sym (append-nil (atom_code b)))).0 in
    let none = never_lower (atom_code b) in
    let same : lower (atom_code a) (atom_code b) ≡ lower (atom_code b) (atom_code b) =
    ap (λ c. lower (atom_code c) (atom_code b)) one in
    cc

-- a lower atom is lower with anything behind it
lower_atom : (a b : Atom) (x y : List ℕ)
    → lower (atom_code a) (atom_code b) ≡ true
    → lower (atom_code a ++ x) (atom_code b ++ y) ≡ true
lower_atom a b x y h = lower_with (atom_code a) (atom_code b) x y (λ z. no_beginning a b z h) h

-- of two lists that begin with atoms one is lower by these, or they are one
atom_cases : (a b : Atom) (x y : List ℕ)
    → lower (atom_code a ++ x) (atom_code b ++ y) ≡ true
    → (lower (atom_code a) (atom_code b) ≡ true) ⊎ ((a ≡ b) × (lower x y ≡ true))
atom_cases a b x y h =
    elim (cases_lower (atom_code a) (atom_code b)) [
      | inl e ↦ inr (
        one_atom a b e,
        sym (behind_same (atom_code a) x y) ∙ ap (λ p. lower (atom_code a ++ x) (p ++ y)) e ∙ h,
      )
      | inr o ↦ elim o [
        | inl less ↦ inl less
        | inr more ↦ absurd (
            let back = never_both (atom_code b ++ y) (atom_code a ++ x) (lower_atom b a y x more) in cc)
      ]
    ]

-- ---- one factor more

-- it is one more
count_with_factor : (a : Atom) (f : Factors) → count_factors (with_factor a f) ≡ suc (count_factors f)
count_with_factor a no_factors = refl
count_with_factor a (factor b f) =
    cond_both (lower (atom_code b) (atom_code a)) (factor b (with_factor a f)) (factor a (factor b f))
    (λ g. count_factors g ≡ suc (suc (count_factors f)))
    (λ _. ap suc (count_with_factor a f))
    (λ _. refl)

-- whether one list of factors is lower than another one
abbrev IsLower : Factors → Factors → Type 0
IsLower f g = lower (factors_code f) (factors_code g) ≡ true

-- of lists whose first factors differ
first_keeps : (a b c : Atom) (f g : Factors)
    → lower (atom_code b) (atom_code c) ≡ true
    → IsLower (with_factor a (factor b f)) (with_factor a (factor c g))
first_keeps a b c f g h =
    cond_both (lower (atom_code b) (atom_code a)) (factor b (with_factor a f)) (factor a (factor b f))
    (λ left. IsLower left (with_factor a (factor c g)))
    (λ below.
    cond_both (lower (atom_code c) (atom_code a)) (factor c (with_factor a g)) (factor a (factor c g))
    (IsLower (factor b (with_factor a f)))
    (λ _. lower_atom b c _ _ h)
    (λ _. lower_atom b a _ _ below))
    (λ from.
    let from_too = from_again (atom_code a) (atom_code b) (atom_code c) from
    (never_both (atom_code b) (atom_code c) h) in
    subst (IsLower (factor a (factor b f))) (sym (first_factor a c g from_too)) (
    behind_same (atom_code a) (factors_code (factor b f)) (factors_code (factor c g)) ∙ lower_atom b c _ _ h
    ))

-- of lists whose first factors are one
rest_keeps : (a b : Atom) (f g : Factors)
    → IsLower f g
    → IsLower (with_factor a f) (with_factor a g)
    → IsLower (with_factor a (factor b f)) (with_factor a (factor b g))
rest_keeps a b f g h more =
    elim (lower (atom_code b) (atom_code a)) as (λ x. lower (atom_code b) (atom_code a) ≡ x
    → IsLower (with_factor a (factor b f)) (with_factor a (factor b g))) [
      | true ↦ λ below.
          ap (λ l. lower (factors_code l) (factors_code (with_factor a (factor b g)))) (later_factor a b f below)
          ∙ ap (λ l. lower (factors_code (factor b (with_factor a f))) (factors_code l)) (later_factor a b g below)
          ∙ behind_same (atom_code b) (factors_code (with_factor a f)) (factors_code (with_factor a g)) ∙ more
      | false ↦ λ from.
          ap (λ l. lower (factors_code l) (factors_code (with_factor a (factor b g)))) (first_factor a b f from)
          ∙ ap (λ l. lower (factors_code (factor a (factor b f))) (factors_code l)) (first_factor a b g from)
          ∙ behind_same (atom_code a) (factors_code (factor b f)) (factors_code (factor b g))
          ∙ behind_same (atom_code b) (factors_code f) (factors_code g) ∙ h
    ] refl

-- of as many factors
factor_keeps : (a : Atom) (f g : Factors)
    → count_factors f ≡ count_factors g
    → IsLower f g
    → IsLower (with_factor a f) (with_factor a g)
factor_keeps a no_factors no_factors e h = absurd cc
factor_keeps a no_factors (factor c g) e h = absurd cc
factor_keeps a (factor b f) no_factors e h = absurd cc
factor_keeps a (factor b f) (factor c g) e h =
    elim (atom_cases b c (factors_code f) (factors_code g) h) [
      | inl less ↦ first_keeps a b c f g less
      | inr same ↦
          let fewer : count_factors f ≡ count_factors g = cc in
          subst (λ x. IsLower (with_factor a (factor b f)) (with_factor a (factor x g))) same.0 (
          rest_keeps a b f g same.1 (factor_keeps a f g fewer same.1)
          )
    ]

-- ---- products

-- one factor more keeps the order of monomials
with_factor_keeps : (a : Atom) (f g : Factors)
    → lower (monomial_code f) (monomial_code g) ≡ true
    → lower (monomial_code (with_factor a f)) (monomial_code (with_factor a g)) ≡ true
with_factor_keeps a f g h =
    let left = count_with_factor a f in
    let right = count_with_factor a g in
    let codes = lower (factors_code (with_factor a f)) (factors_code (with_factor a g)) in
    elim (lower_cases (count_factors f) (count_factors g) (factors_code f) (factors_code g) h) [
      | inl fewer ↦ lower_first (count_factors (with_factor a f)) (count_factors (with_factor a g)) codes (omega arith)
      | inr e ↦
          let many : count_factors f ≡ count_factors g = e.0 in
          same_first (count_factors (with_factor a f)) (count_factors (with_factor a g)) codes (omega arith)
          ∙ factor_keeps a f g many e.1
    ]

-- A product with one monomial keeps the order.
pub joined_keeps : (f g h : Factors)
    → lower (monomial_code g) (monomial_code h) ≡ true
    → lower (monomial_code (joined_factors f g)) (monomial_code (joined_factors f h)) ≡ true
joined_keeps no_factors g h less = less
joined_keeps (factor a f) g h less =
    with_factor_keeps a (joined_factors f g) (joined_factors f h) (joined_keeps f g h less)
