use Rattle.scev_forms.proofs.Quotients.{quotient_is_tree, quotient_value}
use Rattle.scev_forms.proofs.laws.quotients_keep_the_value.Goals as goal

pub returns-clause-canonical : goal.returns-clause-canonical
returns-clause-canonical c = quotient_is_tree

pub returns-clause-value : goal.returns-clause-value
returns-clause-value c w left right out held turns n some l r h q =
    quotient_value held turns w left right out n l r h q
