use Rattle.scev_arena.proofs.OnePlace.{arena_apart}
use Rattle.scev_arena.proofs.laws.one_place.Goals as goal

pub returns : goal.returns
returns c nodes i j held arena e f = (arena_apart nodes arena).apart i j held e f
