use Rattle.std.proofs.Common.{◌≡◌, map, take}
use Rattle.flow_graph.specs.EdgeLists.{block_id}
use Rattle.flow_graph.proofs.edges.named_rows.Given as goal

abbrev pub invariant-loop-row : goal.invariant-loop-row
invariant-loop-row l = l.named.items ≡ map (map block_id) (take l.row-index l.rows)
