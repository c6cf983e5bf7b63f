use Rattle.poly_terms.proofs.MonomialLemmas.{one_ascending}
use Rattle.poly_terms.proofs.laws.one_monomial.Goals as goal

pub returns : goal.returns
returns c = one_ascending
