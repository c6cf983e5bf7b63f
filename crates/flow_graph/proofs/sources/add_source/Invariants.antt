use Rattle.std.proofs.Common.{◌≡◌, ℕ, [], ◌++◌, length, get_or, take}
use Rattle.flow_graph.specs.EdgeLists.{sources_in}
use Rattle.flow_graph.proofs.sources.add_source.Given as goal

abbrev pub invariant-loop-to : goal.invariant-loop-to
invariant-loop-to l = record {
  size : length l.rows.items ≡ length l.initial.rows.items;
  rows : (b : ℕ)
      → get_or l.rows.items b [] ≡ get_or l.initial.rows.items b [] ++ sources_in l.from (take l.to-index l.targets) b;
}
