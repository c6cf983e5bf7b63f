use Rattle.tree_names.proofs.Values.{tree_same}
use Rattle.tree_names.proofs.laws.named_values.Goals as goal

pub returns : goal.returns
returns c = tree_same
