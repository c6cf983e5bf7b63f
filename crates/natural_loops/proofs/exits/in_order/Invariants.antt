use Rattle.std.proofs.Common.{◌≢◌, ◌↔◌, AllPairs, Contains, take}
use Rattle.scev_base.specs.declared.ids.BlockId.{BlockId}
use Rattle.ssa_check.specs.Checked.{Dominates}
use Rattle.natural_loops.proofs.exits.in_order.Given as goal

abbrev pub invariant-loop-b : goal.invariant-loop-b
invariant-loop-b l = record {
  same : (x : BlockId) → Contains l.found.items x ↔ Contains (take l.b-index l.blocks) x;
  ordered : AllPairs (λ a b. Dominates l.c.function a.0 b.0) l.found.items;
  apart : AllPairs (λ a b. a.0 ≢ b.0) l.found.items;
}
