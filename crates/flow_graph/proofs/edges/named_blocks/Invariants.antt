use Rattle.std.proofs.Common.{◌≡◌, map, take}
use Rattle.flow_graph.specs.EdgeLists.{block_id}
use Rattle.flow_graph.proofs.edges.named_blocks.Given as goal

abbrev pub invariant-loop-number : goal.invariant-loop-number
invariant-loop-number l = l.named ≡ map block_id (take l.number-index l.numbers)
