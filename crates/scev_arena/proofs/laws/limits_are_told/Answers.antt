use Rattle.scev_arena.proofs.LimitsTold.{limits_told}
use Rattle.scev_arena.proofs.laws.limits_are_told.Goals as goal

pub returns : goal.returns
returns c = limits_told
