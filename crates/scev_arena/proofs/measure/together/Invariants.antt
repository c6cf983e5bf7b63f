use Rattle.std.proofs.Common.{◌≡◌, take}
use Rattle.scev_arena.specs.Measures.{together}
use Rattle.scev_arena.proofs.measure.together.Given as goal

abbrev pub invariant-loop-id : goal.invariant-loop-id
invariant-loop-id l = l.sum ≡ together l.measures (take l.id-index l.ids)
