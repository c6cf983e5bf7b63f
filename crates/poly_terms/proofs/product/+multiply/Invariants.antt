use Rattle.std.proofs.Common.{length}
use Rattle.poly_terms.proofs.product.+multiply.Given as goal

abbrev pub decreases-multiply : goal.decreases-multiply
decreases-multiply l = length l.left.now
