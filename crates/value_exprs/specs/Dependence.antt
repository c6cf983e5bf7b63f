-- Which values depend on which.
use Rattle.std.specs.Prelude.{◌≡◌, ◌≢◌, ◌↔◌, ◌⊎◌, ℕ, false, true, List, AllPairs, Contains, slice_index_or}
use Rattle.flow_graph.specs.Graph.{Path}
use Rattle.value_view.specs.declared.reading.Reading.{Reading}
use Rattle.value_exprs.specs.View.{View, reads_of, conditions_of, number_of_loop, Leaves}

-- A value depends on what it reads, and on what the conditions of the exits of loops read that its operands leave.
abbrev pub DependsOn : View → ℕ → ℕ → Type 0
DependsOn view v x = (reading : Reading) × Contains (reads_of view v) reading
    × ((reading.register.0 ≡ x)
    ⊎ ((l : ℕ) × Leaves view reading.register.0 (number_of_loop reading.place) l
    × Contains (conditions_of view l) (record { 0 = x })))

-- Each of two values depends on the other one, through any number of steps, or they are the same.
pub record AreMutual (view : View) (v x : ℕ) : Type 0 where
  pub there : Path (DependsOn view) v x
  pub back : Path (DependsOn view) x v

-- These are the phis in progress that a value and that depend on the value, each once.
pub record IsCut (view : View) (v : ℕ) (progress cut : List ℕ) : Type 0 where
  pub each : (p : ℕ) → Contains cut p ↔ (Contains progress p × AreMutual view v p)
  pub once : AllPairs (λ a b. a ≢ b) cut

-- whether a value is a phi in the header of a loop that counts for a group
abbrev pub IsTurn : View → ℕ → Type 0
IsTurn view p = slice_index_or view.turns p false ≡ true

-- the group of a value: the phis of headers that it and that depend on it
pub record IsGroup (view : View) (v : ℕ) (group : List ℕ) : Type 0 where
  pub each : (p : ℕ) → Contains group p ↔ (IsTurn view p × AreMutual view v p)
  pub once : AllPairs (λ a b. a ≢ b) group
