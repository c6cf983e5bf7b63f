use Rattle.scev_tree.proofs.Codes as codes
use Rattle.scev_tree.proofs.laws.one_tree.Goals as goal

pub returns-clause-trees : goal.returns-clause-trees
returns-clause-trees c = codes.one_tree

pub returns-clause-atoms : goal.returns-clause-atoms
returns-clause-atoms c = codes.one_atom
