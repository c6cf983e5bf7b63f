use Rattle.std.proofs.Common.{◌≡◌, ℕ, Option, Some, length, slice_get}
use Rattle.natural_loops.specs.Table.{RegionParts, IsParent}
use Rattle.natural_loops.proofs.nest.parents.Given as goal

abbrev pub invariant-loop-region : goal.invariant-loop-region
invariant-loop-region l = record {
  size : length l.parents ≡ l.region-index;
  exact : (k : ℕ) (region : RegionParts) (parent : Option ℕ) → slice_get l.regions k ≡ Some region
      → slice_get l.parents k ≡ Some parent → IsParent l.regions region parent;
}
