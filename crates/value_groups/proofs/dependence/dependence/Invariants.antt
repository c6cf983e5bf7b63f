use Rattle.value_groups.proofs.Depending.{AreRowsBelow}
use Rattle.value_groups.proofs.dependence.dependence.Given as goal

abbrev pub invariant-loop-reads : goal.invariant-loop-reads
invariant-loop-reads l = AreRowsBelow l.view l.graph.items l.reads-index
