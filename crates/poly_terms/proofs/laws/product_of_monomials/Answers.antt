use Rattle.poly_terms.proofs.MonomialLemmas.{union_ascends, times_in_union}
use Rattle.poly_terms.proofs.laws.product_of_monomials.Goals as goal

pub returns-clause-ascends : goal.returns-clause-ascends
returns-clause-ascends c = union_ascends

pub returns-clause-factors : goal.returns-clause-factors
returns-clause-factors c left right id = times_in_union id left right
