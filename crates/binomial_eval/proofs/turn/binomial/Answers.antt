use Rattle.std.proofs.Common.{◌∙◌}
use Rattle.binomial_eval.proofs.FactorialLemmas.{product_none, product_more}
use Rattle.binomial_eval.proofs.turn.binomial.Goals as goal

pub loop-k-init : goal.loop-k-init
loop-k-init g c = product_none c.args.t

pub loop-k-preserved : goal.loop-k-preserved
loop-k-preserved g c =
    c.longer_product-product.ensures.value ∙ product_more c.args.t c.loop-k.k c.loop-k.product c.loop-k.invariant
