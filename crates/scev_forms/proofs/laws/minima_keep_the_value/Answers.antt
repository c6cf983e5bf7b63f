use Rattle.scev_forms.proofs.Minima.{minimum_is_tree, minimum_value}
use Rattle.scev_forms.proofs.Sequences.{sequence_is_tree, sequence_value}
use Rattle.scev_forms.proofs.laws.minima_keep_the_value.Goals as goal

pub returns-clause-canonical : goal.returns-clause-canonical
returns-clause-canonical c = minimum_is_tree

pub returns-clause-value : goal.returns-clause-value
returns-clause-value c k w left right out held turns = minimum_value held turns k w left right out

pub returns-clause-sequence_canonical : goal.returns-clause-sequence_canonical
returns-clause-sequence_canonical c = sequence_is_tree

pub returns-clause-sequence_value : goal.returns-clause-sequence_value
returns-clause-sequence_value c w first second out held turns = sequence_value held turns w first second out
