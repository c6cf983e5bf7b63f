use Rattle.std.proofs.Common.{◌≡◌, ℕ, Some, length, slice_get}
use Rattle.natural_loops.specs.Table.{RegionParts, SidesParts, AreSidesOf, loop_of}
use Rattle.natural_loops.proofs.sides.all_sides.Given as goal

abbrev pub invariant-loop-k : goal.invariant-loop-k
invariant-loop-k l = record {
  size : length l.all ≡ l.k;
  each : (k : ℕ) (region : RegionParts) (side : SidesParts) → slice_get l.regions k ≡ Some region
      → slice_get l.all k ≡ Some side → AreSidesOf l.c.function (loop_of region) side;
}
