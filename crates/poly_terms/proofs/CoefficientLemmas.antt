-- Coefficients and values as sums over terms, and the one list that has given coefficients.
use Rattle.std.proofs.Common.{◌≡◌, ℕ, ◌+◌, ◌*◌, ◌^◌, ◌%◌, ◌<◌, ◌≤◌, inl, inr, Bool, true, false, if◌then◌else◌, nat_le, List, [], ◌∷◌, refl, sym, ap, ◌∙◌, subst, arith, zero-add, pow_mono}
use Rattle.std.proofs.Math.Nat.{mod-eq_of_lt}
use Rattle.std.proofs.lemmas.Nat.{pow_pos}
use Rattle.scev_base.specs.declared.ids.ExprId.{ExprId}
use Rattle.poly_terms.specs.declared.term.Term.{Term}
use Rattle.poly_terms.specs.Monomials.{IsMonomial, same_ids, with_factor, union, Precedes, monomial_value}
use Rattle.poly_terms.specs.Terms.{coefficient_of, AllBehind, IsInOrder, AreReduced, IsCanonical, IsTooWide}
use Rattle.poly_terms.specs.Terms.{row_coefficient, product_coefficient, HasSum, HasProduct, value_of}
use Rattle.poly_terms.specs.Weights.{weight, row_weight, product_weight, AreCongruent}
use Rattle.poly_terms.proofs.MonomialLemmas.{not_before_itself, one_of_orders, same_itself, same_is, not_same}
use Rattle.poly_terms.proofs.OrderLemmas.{before_all}
use Rattle.poly_terms.proofs.WeightLemmas.{term_is}

-- 1 at one monomial, 0 at all others
pub at_monomial : List ExprId → List ExprId → ℕ
at_monomial monomial ids = if same_ids ids monomial then 1 else 0

chosen : (b : Bool) (n : ℕ) → (if b then n else 0) ≡ (if b then 1 else 0) * n
chosen true n = omega arith
chosen false n = omega arith

coefficient_weighs : (monomial : List ExprId) (ts : List Term) → coefficient_of ts monomial ≡ weight (at_monomial monomial) ts
unfolding weight at_monomial
coefficient_weighs monomial [] = refl
coefficient_weighs monomial (t ∷ ts) =
    omega (arith, chosen (same_ids t.ids monomial) t.coefficient, coefficient_weighs monomial ts)

row_coefficient_weighs : (monomial : List ExprId) (s : Term) (ts : List Term) → row_coefficient s ts monomial ≡ row_weight (at_monomial monomial) s ts
unfolding row_weight at_monomial
row_coefficient_weighs monomial s [] = refl
row_coefficient_weighs monomial s (t ∷ ts) =
    ap (λ k. k + row_coefficient s ts monomial) (chosen (same_ids (union s.ids t.ids) monomial) (s.coefficient * t.coefficient))
    ∙ ap (λ k. at_monomial monomial (union s.ids t.ids) * (s.coefficient * t.coefficient) + k) (row_coefficient_weighs monomial s ts)

pub product_coefficient_weighs : (monomial : List ExprId) (ss ts : List Term) → product_coefficient ss ts monomial ≡ product_weight (at_monomial monomial) ss ts
unfolding product_weight
product_coefficient_weighs monomial [] ts = refl
product_coefficient_weighs monomial (s ∷ ss) ts =
    ap (λ k. k + product_coefficient ss ts monomial) (row_coefficient_weighs monomial s ts)
    ∙ ap (λ k. row_weight (at_monomial monomial) s ts + k) (product_coefficient_weighs monomial ss ts)

-- coefficients in a canonical list
pub absent : (monomial : List ExprId) (ts : List Term) → AllBehind monomial ts → coefficient_of ts monomial ≡ 0
absent monomial [] h = refl
absent monomial (t ∷ ts) h =
    let other : t.ids ≡ monomial → ⊥ = λ e. not_before_itself monomial (subst (Precedes monomial) e h.0) in
    ap (λ b. (if b then t.coefficient else 0) + coefficient_of ts monomial) (not_same t.ids monomial other) ∙ zero-add (coefficient_of ts monomial) ∙ absent monomial ts h.1

there : (monomial : List ExprId) (t : Term) (ts : List Term) → t.ids ≡ monomial → AllBehind t.ids ts → coefficient_of (t ∷ ts) monomial ≡ t.coefficient
there monomial t ts e h =
    let test : same_ids t.ids monomial ≡ true = ap (λ l. same_ids l monomial) e ∙ same_itself monomial in
    let none : coefficient_of ts monomial ≡ 0 = absent monomial ts (subst (λ l. AllBehind l ts) e h) in
    ap (λ b. (if b then t.coefficient else 0) + coefficient_of ts monomial) test ∙ omega (arith, none)

elsewhere : (monomial : List ExprId) (t : Term) (ts : List Term) → (t.ids ≡ monomial → ⊥) → coefficient_of (t ∷ ts) monomial ≡ coefficient_of ts monomial
elsewhere monomial t ts other =
    ap (λ b. (if b then t.coefficient else 0) + coefficient_of ts monomial) (not_same t.ids monomial other) ∙ zero-add (coefficient_of ts monomial)

pub coefficient_below : (bits : ℕ) (monomial : List ExprId) (ts : List Term) → IsInOrder ts → AreReduced bits ts → coefficient_of ts monomial < 2 ^ bits
coefficient_below bits monomial [] h r = pow_pos bits
coefficient_below bits monomial (t ∷ ts) h r =
    elim (same_ids t.ids monomial) as (λ b. same_ids t.ids monomial ≡ b → coefficient_of (t ∷ ts) monomial < 2 ^ bits) [
      | true ↦ λ e. subst (λ k. k < 2 ^ bits) (sym (there monomial t ts (same_is t.ids monomial e) h.0)) r.2
      | false ↦ λ e. subst (λ k. k < 2 ^ bits) (sym (ap (λ b. (if b then t.coefficient else 0) + coefficient_of ts monomial) e ∙ zero-add (coefficient_of ts monomial))) (coefficient_below bits monomial ts h.1 r.3)
    ] refl

-- what a sum of terms is at each monomial
pub sum_is : (bits : ℕ) (left right terms : List Term) → IsCanonical bits terms → ((number : List ExprId → ℕ) → AreCongruent bits (weight number terms) (weight number left + weight number right)) → HasSum bits left right terms
sum_is bits left right terms c h monomial =
    sym (mod-eq_of_lt (coefficient_below bits monomial terms c.in_order c.reduced))
    ∙ ap (λ k. k % 2 ^ bits) (coefficient_weighs monomial terms)
    ∙ h (at_monomial monomial)
    ∙ ap (λ k. (k + weight (at_monomial monomial) right) % 2 ^ bits) (sym (coefficient_weighs monomial left))
    ∙ ap (λ k. (coefficient_of left monomial + k) % 2 ^ bits) (sym (coefficient_weighs monomial right))

pub product_is : (bits : ℕ) (left right terms : List Term) → IsCanonical bits terms → ((number : List ExprId → ℕ) → AreCongruent bits (weight number terms) (product_weight number left right)) → HasProduct bits left right terms
product_is bits left right terms c h monomial =
    sym (mod-eq_of_lt (coefficient_below bits monomial terms c.in_order c.reduced))
    ∙ ap (λ k. k % 2 ^ bits) (coefficient_weighs monomial terms)
    ∙ h (at_monomial monomial)
    ∙ ap (λ k. k % 2 ^ bits) (sym (product_coefficient_weighs monomial left right))

-- values
value_weighs : (atoms : ℕ → ℕ) (ts : List Term) → value_of atoms ts ≡ weight (monomial_value atoms) ts
unfolding weight
value_weighs atoms [] = refl
value_weighs atoms (t ∷ ts) = omega (arith, value_weighs atoms ts)

pub sum_value : (bits : ℕ) (left right terms : List Term) → ((number : List ExprId → ℕ) → AreCongruent bits (weight number terms) (weight number left + weight number right)) → (atoms : ℕ → ℕ) → value_of atoms terms % 2 ^ bits ≡ (value_of atoms left + value_of atoms right) % 2 ^ bits
sum_value bits left right terms h atoms =
    ap (λ k. k % 2 ^ bits) (value_weighs atoms terms)
    ∙ h (monomial_value atoms)
    ∙ ap (λ k. (k + weight (monomial_value atoms) right) % 2 ^ bits) (sym (value_weighs atoms left))
    ∙ ap (λ k. (value_of atoms left + k) % 2 ^ bits) (sym (value_weighs atoms right))

factor_value : (atoms : ℕ → ℕ) (x : ExprId) (ys : List ExprId) → monomial_value atoms (with_factor x ys) ≡ atoms x.0 * monomial_value atoms ys
factor_value atoms x [] = refl
factor_value atoms x (y ∷ ys) =
    elim (nat_le x.0 y.0) as (λ b. monomial_value atoms (if b then x ∷ (y ∷ ys) else y ∷ with_factor x ys) ≡ atoms x.0 * (atoms y.0 * monomial_value atoms ys)) [
      | true ↦ refl
      | false ↦ ap (λ k. atoms y.0 * k) (factor_value atoms x ys) ∙ swapped (atoms y.0) (atoms x.0) (monomial_value atoms ys)
    ]
  where
    swapped : (a b c : ℕ) → a * (b * c) ≡ b * (a * c)
    swapped a b c = omega arith

union_value : (atoms : ℕ → ℕ) (xs ys : List ExprId) → monomial_value atoms (union xs ys) ≡ monomial_value atoms xs * monomial_value atoms ys
union_value atoms [] ys = omega arith
union_value atoms (x ∷ xs) ys =
    factor_value atoms x (union xs ys) ∙ ap (λ k. atoms x.0 * k) (union_value atoms xs ys) ∙ grouped (atoms x.0) (monomial_value atoms xs) (monomial_value atoms ys)
  where
    grouped : (a b c : ℕ) → a * (b * c) ≡ (a * b) * c
    grouped a b c = omega arith

row_value : (atoms : ℕ → ℕ) (s : Term) (ts : List Term) → row_weight (monomial_value atoms) s ts ≡ s.coefficient * monomial_value atoms s.ids * value_of atoms ts
unfolding row_weight
row_value atoms s [] = omega arith
row_value atoms s (t ∷ ts) =
    ap (λ k. k * (s.coefficient * t.coefficient) + row_weight (monomial_value atoms) s ts) (union_value atoms s.ids t.ids)
    ∙ ap (λ k. monomial_value atoms s.ids * monomial_value atoms t.ids * (s.coefficient * t.coefficient) + k) (row_value atoms s ts)
    ∙ spread (monomial_value atoms s.ids) (monomial_value atoms t.ids) s.coefficient t.coefficient (value_of atoms ts)
  where
    spread : (a b c d v : ℕ) → a * b * (c * d) + c * a * v ≡ c * a * (d * b + v)
    spread a b c d v = omega arith

product_values : (atoms : ℕ → ℕ) (ss ts : List Term) → product_weight (monomial_value atoms) ss ts ≡ value_of atoms ss * value_of atoms ts
unfolding product_weight
product_values atoms [] ts = omega arith
product_values atoms (s ∷ ss) ts =
    ap (λ k. k + product_weight (monomial_value atoms) ss ts) (row_value atoms s ts)
    ∙ ap (λ k. s.coefficient * monomial_value atoms s.ids * value_of atoms ts + k) (product_values atoms ss ts)
    ∙ together (s.coefficient * monomial_value atoms s.ids) (value_of atoms ss) (value_of atoms ts)
  where
    together : (a b v : ℕ) → a * v + b * v ≡ (a + b) * v
    together a b v = omega arith

pub product_value : (bits : ℕ) (left right terms : List Term) → ((number : List ExprId → ℕ) → AreCongruent bits (weight number terms) (product_weight number left right)) → (atoms : ℕ → ℕ) → value_of atoms terms % 2 ^ bits ≡ (value_of atoms left * value_of atoms right) % 2 ^ bits
product_value bits left right terms h atoms =
    ap (λ k. k % 2 ^ bits) (value_weighs atoms terms)
    ∙ h (monomial_value atoms)
    ∙ ap (λ k. k % 2 ^ bits) (product_values atoms left right)

-- Lists with the same coefficients are equal.
first_is_last : (bits : ℕ) (s t : Term) (ss ts : List Term) → IsInOrder (s ∷ ss) → AreReduced bits (s ∷ ss) → IsInOrder (t ∷ ts) → coefficient_of (s ∷ ss) s.ids ≡ coefficient_of (t ∷ ts) s.ids → Precedes s.ids t.ids → ⊥
first_is_last bits s t ss ts hs rs ht e before =
    let some = there s.ids s ss refl hs.0 in
    let none = absent s.ids (t ∷ ts) (before_all s.ids t ts before ht) in
    omega (arith, rs.1, some, none, e)

pub one_canonical : (bits : ℕ) (left right : List Term) → IsInOrder left → AreReduced bits left → IsInOrder right → AreReduced bits right → ((monomial : List ExprId) → IsMonomial monomial → coefficient_of left monomial ≡ coefficient_of right monomial) → left ≡ right
one_canonical bits [] [] hl rl hr rr same = refl
one_canonical bits [] (t ∷ ts) hl rl hr rr same =
    absurd (omega (arith, rr.1, there t.ids t ts refl hr.0, same t.ids rr.0))
one_canonical bits (s ∷ ss) [] hl rl hr rr same =
    absurd (omega (arith, rl.1, there s.ids s ss refl hl.0, same s.ids rl.0))
one_canonical bits (s ∷ ss) (t ∷ ts) hl rl hr rr same =
    elim (one_of_orders s.ids t.ids) [
      | inl e ↦
          let coefficients : s.coefficient ≡ t.coefficient = sym (there s.ids s ss refl hl.0) ∙ same s.ids rl.0 ∙ there s.ids t ts (sym e) hr.0 in
          let firsts : s ≡ t = term_is s t.ids t.coefficient e coefficients in
          ap (λ l. s ∷ l) (one_canonical bits ss ts hl.1 rl.3 hr.1 rr.3 (λ monomial m.
          elim (same_ids s.ids monomial) as (λ b. same_ids s.ids monomial ≡ b → coefficient_of ss monomial ≡ coefficient_of ts monomial) [
            | true ↦ λ yes. let is = same_is s.ids monomial yes in
                absent monomial ss (subst (λ l. AllBehind l ss) is hl.0) ∙ sym (absent monomial ts (subst (λ l. AllBehind l ts) (sym e ∙ is) hr.0))
            | false ↦ λ no. let other : s.ids ≡ monomial → ⊥ = λ is. differ (sym no ∙ ap (λ l. same_ids l monomial) is ∙ same_itself monomial) in
                sym (elsewhere monomial s ss other) ∙ same monomial m ∙ elsewhere monomial t ts (λ is. other (e ∙ is))
          ] refl)) ∙ ap (λ u. u ∷ ts) firsts
      | inr o ↦ elim o [
        | inl before ↦ absurd (first_is_last bits s t ss ts hl rl hr (same s.ids rl.0) before)
        | inr after ↦ absurd (first_is_last bits t s ts ss hr rr hl (sym (same t.ids rr.0)) after)
      ]
    ]
  where
    differ : false ≡ true → ⊥
    differ e = absurd (cc e)

-- One atom is canonical, and within the limits.
pub atom_is : (bits : ℕ) (id : ExprId) → 1 ≤ bits → IsCanonical bits (record { ids = id ∷ []; coefficient = 1 } ∷ [])
atom_is bits id h = record { in_order = (tt, tt); reduced = ((tt, tt), omega arith, pow_mono h, tt) }

pub atom_within : (id : ExprId) → IsTooWide (record { ids = id ∷ []; coefficient = 1 } ∷ []) → ⊥
atom_within id wide =
    elim wide [
      | inl many ↦ omega (arith, many)
      | inr long ↦ elim long [ inl here ↦ omega (arith, here) | inr none ↦ none ]
    ]
