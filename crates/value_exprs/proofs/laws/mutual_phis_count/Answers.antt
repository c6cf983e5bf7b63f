use Rattle.value_exprs.proofs.MutualPhis.{mutual_count}
use Rattle.value_exprs.proofs.laws.mutual_phis_count.Goals as goal

pub returns : goal.returns
returns c view progress other v tree same is = mutual_count view other same is
