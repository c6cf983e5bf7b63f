use Rattle.std.proofs.Common.{◌≡◌, ℕ, nat_eq, length}
use Rattle.std.specs.Option.{unwrap_or}
use Rattle.indexmap.specs.IndexMap.{get}
use Rattle.value_groups.specs.Counts.{phis_of}
use Rattle.value_groups.proofs.Counting.{AreCountedBelow}
use Rattle.value_groups.proofs.counts.numbered.Given as goal

abbrev pub invariant-loop-v : goal.invariant-loop-v
invariant-loop-v l = record {
  places : AreCountedBelow l.turns l.components l.places.items l.v;
  counts : (c : ℕ) → unwrap_or (get nat_eq l.counts c) 0 ≡ length (phis_of l.turns l.components c l.v);
}
