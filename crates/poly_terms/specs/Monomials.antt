-- Monomials: the ids of the factors in ascending order, each as often as it is a factor. None is the constant 1.
use Rattle.std.specs.Prelude.{◌≡◌, ℕ, ◌+◌, ◌*◌, ◌<◌, ◌≤◌, ◌⊎◌, Bool, true, false, ◌&&◌, if◌then◌else◌, nat_le, ◌==◌, List, [], ◌∷◌, length}
use Rattle.scev_base.specs.declared.ids.ExprId.{ExprId}

-- no id of the list is lower than this
abbrev pub AllFrom : ℕ → List ExprId → Type 0
AllFrom low [] = Unit {0}
AllFrom low (x ∷ xs) = (low ≤ x.0) × AllFrom low xs

-- the ids ascend, and may repeat
abbrev pub IsMonomial : List ExprId → Type 0
IsMonomial [] = Unit {0}
IsMonomial (x ∷ xs) = AllFrom x.0 xs × IsMonomial xs

-- both lists are one
abbrev pub same_ids : List ExprId → List ExprId → Bool
same_ids [] [] = true
same_ids [] (y ∷ ys) = false
same_ids (x ∷ xs) [] = false
same_ids (x ∷ xs) (y ∷ ys) = (x.0 == y.0) && same_ids xs ys

-- how often the id is in the list
abbrev pub times_in : ExprId → List ExprId → ℕ
times_in id [] = 0
times_in id (x ∷ xs) = (if id.0 == x.0 then 1 else 0) + times_in id xs

-- the monomial with one more factor: its id stands before the first that isn't lower
abbrev pub with_factor : ExprId → List ExprId → List ExprId
with_factor x [] = x ∷ []
with_factor x (y ∷ ys) = if nat_le x.0 y.0 then x ∷ (y ∷ ys) else y ∷ with_factor x ys

-- the product of two monomials, which has the factors of both
abbrev pub union : List ExprId → List ExprId → List ExprId
union [] ys = ys
union (x ∷ xs) ys = with_factor x (union xs ys)

-- where the lists first differ, the first has the lower id, or is at its end
abbrev pub IsLower : List ExprId → List ExprId → Type 0
IsLower xs [] = ⊥
IsLower [] (y ∷ ys) = Unit {0}
IsLower (x ∷ xs) (y ∷ ys) = (x.0 < y.0) ⊎ ((x.0 ≡ y.0) × IsLower xs ys)

-- the order of monomials: those of fewer factors first, and those of as many by their ids
abbrev pub Precedes : List ExprId → List ExprId → Type 0
Precedes xs ys = (length xs < length ys) ⊎ ((length xs ≡ length ys) × IsLower xs ys)

-- the value of a monomial, where each atom has a number
abbrev pub monomial_value : (ℕ → ℕ) → List ExprId → ℕ
monomial_value atoms [] = 1
monomial_value atoms (x ∷ xs) = atoms x.0 * monomial_value atoms xs
