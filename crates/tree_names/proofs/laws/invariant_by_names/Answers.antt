use Rattle.tree_names.proofs.Invariant.{invariant_is_stays}
use Rattle.tree_names.proofs.laws.invariant_by_names.Goals as goal

pub returns : goal.returns
returns c = invariant_is_stays
