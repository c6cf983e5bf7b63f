use Rattle.poly_terms.proofs.CommuteLemmas.{product_swapped}
use Rattle.poly_terms.proofs.laws.product_commutes.Goals as goal

pub returns : goal.returns
returns c bits left right pairs hl hr h =
    product_swapped bits left right pairs hl.reduced hr.reduced h
