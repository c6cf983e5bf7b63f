use Rattle.scev_arena.proofs.PlacesStay.{front_stays, tree_stays, atom_stays}
use Rattle.scev_arena.proofs.laws.places_stay.Goals as goal

pub returns-clause-front : goal.returns-clause-front
returns-clause-front c = front_stays

pub returns-clause-tree : goal.returns-clause-tree
returns-clause-tree c = tree_stays

pub returns-clause-atom : goal.returns-clause-atom
returns-clause-atom c = atom_stays
