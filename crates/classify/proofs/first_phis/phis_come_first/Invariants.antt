use Rattle.std.proofs.Common.{drop}
use Rattle.classify.proofs.PhiLoops.{AreFirstIf}
use Rattle.classify.proofs.first_phis.phis_come_first.Given as goal

abbrev pub invariant-loop-instr : goal.invariant-loop-instr
invariant-loop-instr l = AreFirstIf l.instrs l.leading (drop l.instr-index l.instrs)
