use Rattle.std.proofs.Common.{drop}
use Rattle.scev_minima.proofs.InOrder.{IsPutting}
use Rattle.scev_minima.proofs.minima.with_tree.Given as goal

abbrev pub invariant-loop-i : goal.invariant-loop-i
invariant-loop-i l = IsPutting l.arena l.fn.w.bits l.id l.ids l.before.items (drop l.i l.ids)
