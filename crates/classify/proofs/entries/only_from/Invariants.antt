use Rattle.classify.proofs.PhiLoops.{IsFound}
use Rattle.classify.proofs.entries.only_from.Given as goal

abbrev pub invariant-loop-entry : goal.invariant-loop-entry
invariant-loop-entry l = IsFound l.entries l.from l.found l.entry-index
