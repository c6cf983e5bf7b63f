use Rattle.scev_forms.proofs.Truncations.{truncation_is_tree}
use Rattle.scev_forms.proofs.TruncatedValues.{truncation_value}
use Rattle.scev_forms.proofs.laws.truncations_keep_the_value.Goals as goal

pub returns-clause-canonical : goal.returns-clause-canonical
returns-clause-canonical c = truncation_is_tree

pub returns-clause-value : goal.returns-clause-value
returns-clause-value c = truncation_value
