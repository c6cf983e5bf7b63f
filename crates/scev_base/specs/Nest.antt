-- Which loops stand in which. Entry k of a list of parents is the number of the loop directly around loop k,
-- None where there is none.
use Rattle.std.specs.Prelude.{◌≡◌, ℕ, zero, suc, ◌+◌, ◌<◌, List, length, slice_get, Option, Some, None}

-- so many steps from parent to parent lead from the inner loop to the outer one
abbrev pub Climbs : List (Option ℕ) → ℕ → ℕ → ℕ → Type 0
Climbs parents zero inner outer = inner ≡ outer
Climbs parents (suc n) inner outer = (parent : ℕ) × (slice_get parents inner ≡ Some (Some parent)) × Climbs parents n parent outer

-- the inner loop stands in the outer one, or is the same
abbrev pub Contains : List (Option ℕ) → ℕ → ℕ → Type 0
Contains parents outer inner = (n : ℕ) × Climbs parents n inner outer

-- no loop is around this one
abbrev pub IsOutermost : List (Option ℕ) → ℕ → Type 0
IsOutermost parents l = slice_get parents l ≡ Some None

-- so many loops contain the loop, itself included
abbrev pub HasDepth : List (Option ℕ) → ℕ → ℕ → Type 0
HasDepth parents l depth = (n top : ℕ) × (depth ≡ n + 1) × Climbs parents n l top × IsOutermost parents top

-- a list of parents in which each parent is a loop of the list, and the way out of each loop ends
pub record IsNest (parents : List (Option ℕ)) : Type 0 where
  pub within : (l parent : ℕ) → slice_get parents l ≡ Some (Some parent) → parent < length parents
  pub ends : (l : ℕ) → l < length parents → (depth : ℕ) × HasDepth parents l depth
