use Rattle.std.proofs.Common.{◌≡◌, take}
use Rattle.scev_arena.specs.Measures.{terms_together}
use Rattle.scev_arena.proofs.measure.terms_together.Given as goal

abbrev pub invariant-loop-t : goal.invariant-loop-t
invariant-loop-t l = l.sum ≡ terms_together l.measures (take l.t-index l.terms)
