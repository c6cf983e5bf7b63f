use Rattle.std.proofs.Common.{◌+◌, length}
use Rattle.scev_arena.specs.Meaning.{meanings, terms_at}
use Rattle.scev_forms.specs.Polynomials.{terms_sum}
use Rattle.scev_polys.proofs.Turns.{IsMerging}
use Rattle.scev_polys.proofs.sums.sum.Given as goal

abbrev pub invariant-loop-s : goal.invariant-loop-s
invariant-loop-s l =
    IsMerging l.arena l.w.bits
    (terms_sum l.w.bits (terms_at (meanings l.arena) l.left) (terms_at (meanings l.arena) l.right))
    l.merged.items l.lefts l.rights

abbrev pub decreases-loop-s : goal.decreases-loop-s
decreases-loop-s l = length l.lefts + length l.rights
