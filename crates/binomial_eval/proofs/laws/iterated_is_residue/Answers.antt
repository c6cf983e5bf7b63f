use Rattle.binomial_eval.proofs.SumLemmas.{iterated-residue, iterated-same}
use Rattle.binomial_eval.proofs.laws.iterated_is_residue.Goals as goal

pub returns-clause-exact : goal.returns-clause-exact
returns-clause-exact c = iterated-residue

pub returns-clause-same : goal.returns-clause-same
returns-clause-same c = iterated-same
