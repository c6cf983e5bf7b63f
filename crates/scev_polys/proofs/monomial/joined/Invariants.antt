use Rattle.std.proofs.Common.{◌+◌, length}
use Rattle.scev_polys.proofs.Joinings.{IsJoining}
use Rattle.scev_polys.proofs.monomial.joined.Given as goal

abbrev pub invariant-loop-x : goal.invariant-loop-x
invariant-loop-x l = IsJoining l.arena l.left l.right l.ids.items l.lefts l.rights

abbrev pub decreases-loop-x : goal.decreases-loop-x
decreases-loop-x l = length l.lefts + length l.rights
