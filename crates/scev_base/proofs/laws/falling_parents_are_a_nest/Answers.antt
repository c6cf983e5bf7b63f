use Rattle.scev_base.proofs.NestLemmas as nest
use Rattle.scev_base.proofs.laws.falling_parents_are_a_nest.Goals as goal

pub returns : goal.returns
returns c = nest.falling_nest
