use Rattle.classify.proofs.PhiLoops.{Starts}
use Rattle.classify.proofs.entries.start_of.Given as goal

abbrev pub invariant-loop-entry : goal.invariant-loop-entry
invariant-loop-entry l = Starts l.entries l.header.0 l.first l.entry-index
