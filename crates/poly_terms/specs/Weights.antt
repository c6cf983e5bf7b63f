-- Sums over the terms of a polynomial, with a number for each monomial: its coefficients and its values are such sums.
use Rattle.std.specs.Prelude.{ℕ, ◌+◌, ◌*◌, ◌≡◌, ◌%◌, ◌^◌, ◌<◌, ◌⊎◌, List, [], ◌∷◌, ◌++◌}
use Rattle.scev_base.specs.declared.ids.ExprId.{ExprId}
use Rattle.poly_terms.specs.Monomials.{union}
use Rattle.poly_terms.specs.declared.term.Term.{Term}

-- the sum of the coefficients, each times the number of its monomial
unfoldable pub weight : (List ExprId → ℕ) → List Term → ℕ
weight number [] = 0
weight number (t ∷ ts) = number t.ids * t.coefficient + weight number ts

-- the same of the products of one term with each of the list
unfoldable pub row_weight : (List ExprId → ℕ) → Term → List Term → ℕ
row_weight number s [] = 0
row_weight number s (t ∷ ts) = number (union s.ids t.ids) * (s.coefficient * t.coefficient) + row_weight number s ts

-- the same of the products of each two terms
unfoldable pub product_weight : (List ExprId → ℕ) → List Term → List Term → ℕ
product_weight number [] right = 0
product_weight number (s ∷ ss) right = row_weight number s right + product_weight number ss right

-- both numbers have one residue modulo 2^bits
abbrev pub AreCongruent : ℕ → ℕ → ℕ → Type 0
AreCongruent bits m n = m % 2 ^ bits ≡ n % 2 ^ bits

-- the list goes on by the sum of two terms of one monomial, where their coefficients don't cancel
abbrev pub IsJoined : ℕ → List Term → Term → Term → List Term → Type 0
IsJoined bits before s t after =
    let sum = (s.coefficient + t.coefficient) % 2 ^ bits in
    ((sum ≡ 0) × (after ≡ before)) ⊎ ((0 < sum) × (after ≡ before ++ record { ids = s.ids; coefficient = sum } ∷ []))

-- the list goes on by the product of two terms, where it isn't 0
abbrev pub IsMultiplied : ℕ → List Term → Term → Term → List Term → Type 0
IsMultiplied bits before s t after =
    let product = (s.coefficient * t.coefficient) % 2 ^ bits in
    ((product ≡ 0) × (after ≡ before))
    ⊎ ((0 < product) × (after ≡ before ++ record { ids = union s.ids t.ids; coefficient = product } ∷ []))
