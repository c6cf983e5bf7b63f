use Rattle.std.proofs.Common.{All, take}
use Rattle.flow_graph.specs.Graph.{IsMarked}
use Rattle.natural_loops.proofs.exits.leaves.Given as goal

abbrev pub invariant-loop-b : goal.invariant-loop-b
invariant-loop-b l = All (λ b. IsMarked l.region.blocks b.0) (take l.b-index l.blocks)
