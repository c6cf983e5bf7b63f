use Rattle.std.proofs.Common.{◌+◌, length}
use Rattle.poly_terms.proofs.MergeLemmas.{IsMerging}
use Rattle.poly_terms.proofs.merge.merge.Given as goal

abbrev pub invariant-loop-s : goal.invariant-loop-s
invariant-loop-s l = IsMerging l.w.bits l.merged.items l.lefts l.rights l.left l.right

abbrev pub decreases-loop-s : goal.decreases-loop-s
decreases-loop-s l = length l.lefts + length l.rights
