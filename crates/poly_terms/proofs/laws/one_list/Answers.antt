use Rattle.poly_terms.proofs.CoefficientLemmas.{one_canonical}
use Rattle.poly_terms.proofs.laws.one_list.Goals as goal

pub returns : goal.returns
returns c bits left right hl hr same =
    one_canonical bits left right hl.in_order hl.reduced hr.in_order hr.reduced same
