-- Values that depend on one another, by the numbers of their components.
use Rattle.std.specs.Prelude.{◌≡◌, ◌↔◌, ℕ, ◌<◌, ◌≤◌, List, length, slice_index_or}
use Rattle.flow_graph.specs.Graph.{Arc}
use Rattle.value_exprs.specs.View.{View}
use Rattle.value_exprs.specs.Dependence.{DependsOn, AreMutual, IsTurn, IsGroup}

-- for each value the number of its component, its place in its group, where it is in one, and how many its group has
pub record GroupsParts : Type 0 where
  pub components : List ℕ
  pub places : List ℕ
  pub sizes : List ℕ

abbrev pub component_of : GroupsParts → ℕ → ℕ
component_of groups v = slice_index_or groups.components v 0

abbrev pub place_of : GroupsParts → ℕ → ℕ
place_of groups v = slice_index_or groups.places v 0

abbrev pub size_of : GroupsParts → ℕ → ℕ
size_of groups v = slice_index_or groups.sizes v 0

-- Two values have one number exactly where each depends on the other, and what a value depends on has no higher number.
-- Phis of one group have different places, below its size.
pub record AreGroupsOf (view : View) (groups : GroupsParts) : Type 0 where
  pub lengths : (length groups.components ≡ length view.rows) × (length groups.places ≡ length view.rows)
      × (length groups.sizes ≡ length view.rows)
  pub same : (v x : ℕ) → v < length view.rows → x < length view.rows
      → component_of groups v ≡ component_of groups x ↔ AreMutual view v x
  pub falls : (v x : ℕ) → DependsOn view v x → component_of groups x ≤ component_of groups v
  pub sizes : (v : ℕ) → v < length view.rows
      → (group : List ℕ) × IsGroup view v group × (size_of groups v ≡ length group)
  pub places : (p : ℕ) → p < length view.rows → IsTurn view p → place_of groups p < size_of groups p
  pub apart : (p q : ℕ) → p < length view.rows → q < length view.rows → IsTurn view p → IsTurn view q
      → AreMutual view p q → place_of groups p ≡ place_of groups q → p ≡ q

-- the graph has an arc from each value to each one on which it depends, and no other
pub record IsDependence (view : View) (graph : List (List ℕ)) : Type 0 where
  pub size : length graph ≡ length view.rows
  pub arcs : (v x : ℕ) → Arc graph v x ↔ DependsOn view v x
