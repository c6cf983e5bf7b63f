use Rattle.std.proofs.Common.{◌≡◌, ℕ, [], length, get_or, take}
use Rattle.flow_graph.specs.EdgeLists.{preds_in}
use Rattle.flow_graph.proofs.sources.sources.Given as goal

abbrev pub invariant-loop-block : goal.invariant-loop-block
invariant-loop-block l = record {
  size : length l.rows.items ≡ length l.f.labels;
  rows : (b : ℕ) → get_or l.rows.items b [] ≡ preds_in (take l.block-index l.block-items) b;
}
