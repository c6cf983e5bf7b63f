use Rattle.scev_base.proofs.NestLemmas as nest
use Rattle.scev_base.proofs.laws.one_depth.Goals as goal

pub returns : goal.returns
returns c = nest.one_depth
