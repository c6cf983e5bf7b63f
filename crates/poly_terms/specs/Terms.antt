-- Polynomials modulo 2^bits: lists of monomials with their coefficients.
use Rattle.std.specs.Prelude.{◌≡◌, ℕ, ◌+◌, ◌*◌, ◌^◌, ◌%◌, ◌<◌, ◌≤◌, ◌⊎◌, if◌then◌else◌, List, [], ◌∷◌, length}
use Rattle.std.specs.Borrow.{Bor}
use Rattle.scev_base.specs.declared.ids.ExprId.{ExprId}
use Rattle.scev_base.specs.declared.limits.TheConstants.{MONOMIALS, FACTORS}
use Rattle.poly_terms.specs.declared.term.Term.{Term}
use Rattle.poly_terms.specs.Monomials.{IsMonomial, same_ids, union, Precedes, monomial_value}

-- a polynomial modulo 2^bits
pub record Polynomial : Type 0 where
  pub bits : ℕ
  pub pairs : List Term

-- the coefficient of a monomial: 0 where it is none of the list's
abbrev pub coefficient_of : List Term → List ExprId → ℕ
coefficient_of [] monomial = 0
coefficient_of (t ∷ ts) monomial = (if same_ids t.ids monomial then t.coefficient else 0) + coefficient_of ts monomial

-- each monomial of the list is behind this one
abbrev pub AllBehind : List ExprId → List Term → Type 0
AllBehind monomial [] = Unit {0}
AllBehind monomial (t ∷ ts) = Precedes monomial t.ids × AllBehind monomial ts

-- each monomial is behind all before it, so none stands twice
abbrev pub IsInOrder : List Term → Type 0
IsInOrder [] = Unit {0}
IsInOrder (t ∷ ts) = AllBehind t.ids ts × IsInOrder ts

-- the ids of each monomial ascend, and each coefficient is a residue other than 0
abbrev pub AreReduced : ℕ → List Term → Type 0
AreReduced bits [] = Unit {0}
AreReduced bits (t ∷ ts) =
    IsMonomial t.ids × (1 ≤ t.coefficient) × (t.coefficient < 2 ^ bits) × AreReduced bits ts

-- the one list that stands for a polynomial modulo 2^bits, of whatever size
pub record IsCanonical (bits : ℕ) (pairs : List Term) : Type 0 where
  pub in_order : IsInOrder pairs
  pub reduced : AreReduced bits pairs

-- some monomial has too many factors
abbrev pub HasLongMonomial : List Term → Type 0
HasLongMonomial [] = ⊥
HasLongMonomial (t ∷ ts) = (FACTORS < length t.ids) ⊎ HasLongMonomial ts

-- the polynomial is above the limits: it has too many monomials, or one of too many factors
abbrev pub IsTooWide : List Term → Type 0
IsTooWide pairs = (MONOMIALS < length pairs) ⊎ HasLongMonomial pairs

-- what the products of one term with each of the list give to the coefficient of a monomial
abbrev pub row_coefficient : Term → List Term → List ExprId → ℕ
row_coefficient s [] monomial = 0
row_coefficient s (t ∷ ts) monomial =
    (if same_ids (union s.ids t.ids) monomial then s.coefficient * t.coefficient else 0) + row_coefficient s ts monomial

-- what the products of each two terms of both lists give to the coefficient of a monomial
abbrev pub product_coefficient : List Term → List Term → List ExprId → ℕ
product_coefficient [] right monomial = 0
product_coefficient (s ∷ ss) right monomial = row_coefficient s right monomial + product_coefficient ss right monomial

-- at each monomial the coefficient is the residue of the sum of both
abbrev pub HasSum : ℕ → List Term → List Term → List Term → Type 0
HasSum bits left right pairs =
    (monomial : List ExprId)
    → coefficient_of pairs monomial ≡ (coefficient_of left monomial + coefficient_of right monomial) % 2 ^ bits

-- at each monomial the coefficient is the residue of what the products of terms give to it
abbrev pub HasProduct : ℕ → List Term → List Term → List Term → Type 0
HasProduct bits left right pairs =
    (monomial : List ExprId)
    → coefficient_of pairs monomial ≡ product_coefficient left right monomial % 2 ^ bits

-- the value of a polynomial as a number, where each atom has one
abbrev pub value_of : (ℕ → ℕ) → List Term → ℕ
value_of atoms [] = 0
value_of atoms (t ∷ ts) = t.coefficient * monomial_value atoms t.ids + value_of atoms ts

-- the polynomial is this number's residue: the coefficient of the monomial of no factor, and of no other
abbrev pub IsConstant : ℕ → ℕ → List Term → Type 0
IsConstant bits n pairs =
    (monomial : List ExprId) → coefficient_of pairs monomial ≡ (if same_ids [] monomial then n % 2 ^ bits else 0)

-- the polynomial is this atom: the coefficient of the monomial of this one factor is 1, and of no other
abbrev pub IsAtom : ExprId → List Term → Type 0
IsAtom id pairs =
    (monomial : List ExprId) → coefficient_of pairs monomial ≡ (if same_ids (id ∷ []) monomial then 1 else 0)

-- the polynomial that is the sum is above the limits
abbrev pub SumIsTooWide : ℕ → List Term → List Term → Type 0
SumIsTooWide bits left right =
    (pairs : List Term) × IsCanonical bits pairs × HasSum bits left right pairs × IsTooWide pairs

-- the polynomial that is the product is above the limits
abbrev pub ProductIsTooWide : ℕ → List Term → List Term → Type 0
ProductIsTooWide bits left right =
    (pairs : List Term) × IsCanonical bits pairs × HasProduct bits left right pairs × IsTooWide pairs

-- a pair of a monomial's ids and a coefficient, as a term
abbrev pub as_term : Bor (List ExprId) × ℕ → Term
as_term pair = record { ids = pair.0.now; coefficient = pair.1 }
