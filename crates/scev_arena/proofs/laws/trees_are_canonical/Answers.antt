use Rattle.scev_arena.proofs.CanonicalPlaces.{arena_sound}
use Rattle.scev_arena.proofs.laws.trees_are_canonical.Goals as goal

pub returns-clause-trees : goal.returns-clause-trees
returns-clause-trees c nodes id arena h = (arena_sound nodes arena).trees id h

pub returns-clause-atoms : goal.returns-clause-atoms
returns-clause-atoms c nodes w id arena h = (arena_sound nodes arena).atoms w id h
