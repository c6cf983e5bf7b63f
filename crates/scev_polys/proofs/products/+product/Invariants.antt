use Rattle.std.proofs.Common.{length}
use Rattle.scev_polys.proofs.products.+product.Given as goal

abbrev pub decreases-product : goal.decreases-product
decreases-product l = length l.left.now
