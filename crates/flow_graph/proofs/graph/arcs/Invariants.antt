use Rattle.std.proofs.Common.{drop}
use Rattle.flow_graph.proofs.ArcLemmas.{HasExits}
use Rattle.flow_graph.proofs.graph.arcs.Given as goal

abbrev pub invariant-loop-i : goal.invariant-loop-i
invariant-loop-i l = HasExits l.f (drop l.i l.blocks) l.graph
