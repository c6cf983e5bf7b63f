use Rattle.std.proofs.Common.{refl, arith}
use Rattle.binomial_eval.specs.Choose.{choose}
use Rattle.scev_fold.proofs.binomials.Binomial.first.Goals as goal

pub returns : goal.returns
unfolding choose
returns c = (1, refl, refl, omega arith, refl)
