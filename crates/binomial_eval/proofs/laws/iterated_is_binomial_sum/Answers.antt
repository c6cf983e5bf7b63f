use Rattle.binomial_eval.proofs.SumLemmas.{iterated-sum}
use Rattle.binomial_eval.proofs.laws.iterated_is_binomial_sum.Goals as goal

pub returns : goal.returns
returns c = iterated-sum
