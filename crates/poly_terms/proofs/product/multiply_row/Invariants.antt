use Rattle.std.proofs.Common.{drop}
use Rattle.poly_terms.proofs.ProductLemmas.{IsRowing}
use Rattle.poly_terms.proofs.product.multiply_row.Given as goal

abbrev pub invariant-loop-t : goal.invariant-loop-t
invariant-loop-t l = IsRowing l.w.bits l.s l.right l.terms.items (drop l.t-index l.right)
