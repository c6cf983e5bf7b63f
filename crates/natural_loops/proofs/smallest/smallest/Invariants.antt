use Rattle.std.proofs.Common.{◌≡◌, ◌<◌, Some, IfSome, length, take}
use Rattle.ir_model.specs.declared.function.Function.{Function}
use Rattle.flow_graph.specs.Graph.{IsMarked}
use Rattle.natural_loops.specs.Table.{AreAllLoops}
use Rattle.natural_loops.proofs.SmallestLoop.{IsSmallestAmong}
use Rattle.natural_loops.proofs.smallest.smallest.Given as goal

abbrev pub invariant-loop-at : goal.invariant-loop-at
invariant-loop-at l = record {
  within : IfSome l.least (λ k. k < length l.regions);
  exact : (f : Function) → AreAllLoops f l.regions
      → IsSmallestAmong l.regions (take l.at l.regions)
      (λ region. IsMarked region.blocks l.b.0 × (l.other ≡ Some region.header → ⊥)) l.least;
}
