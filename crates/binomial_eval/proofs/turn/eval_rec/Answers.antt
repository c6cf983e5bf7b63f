use Rattle.std.proofs.Common.{◌≡◌, ◌∙◌, length, sym, ap, arith}
use Rattle.scev_base.specs.Counting.{one_more}
use Rattle.binomial_eval.proofs.CountLemmas.{after_none, after_three, rises_at_most}
use Rattle.binomial_eval.proofs.FactorialLemmas.{product_none, product_more}
use Rattle.binomial_eval.proofs.SumLemmas.{sum_none, sum_more, sum_all, sum_at_turn}
use Rattle.binomial_eval.proofs.turn.eval_rec.Goals as goal

pub loop-k-init : goal.loop-k-init
loop-k-init g c = record {
  product = product_none c.args.t;
  sum = sum_none c.args.w.bits c.args.t c.args.parts.now;
  counted = sym (after_none c.args.steps.now);
}

pub loop-k-preserved : goal.loop-k-preserved
loop-k-preserved g c =
    let t = c.args.t in
    let k = c.loop-k.k in
    let so_far = c.loop-k.invariant in
    let parts = c.args.parts.now in
    let number = c.coefficient.result in
    let coefficient = c.coefficient.ensures.value t so_far.product in
    let product = product_more t k c.loop-k.product so_far.product in
    let two_more = c.coefficient.ensures.counted ∙ ap one_more c.tick.ensures in
    let three_more = after_three c.args.steps.now c.loop-k.steps k so_far.counted in record {
      product = c.longer_product-product.ensures.value ∙ product;
      sum = sum_more c.args.w.bits k t c.loop-k.sum number parts (omega arith) (omega arith) coefficient so_far.sum;
      counted = c.longer_product-product.ensures.counted ∙ ap one_more two_more ∙ three_more;
    }

pub returns-clause-value : goal.returns-clause-value
returns-clause-value g c =
    let parts = c.args.parts.now in
    let w = c.args.w.bits in
    let all = sum_all w c.loop-k.k c.args.t c.loop-k.sum parts (omega arith) c.loop-k.invariant.sum in
    sum_at_turn w c.args.t c.trunc.result parts c.requires.some c.requires.residue (c.trunc.ensures.value ∙ all)

pub returns-clause-at_most : goal.returns-clause-at_most
returns-clause-at_most g c =
    let size = length c.args.parts.now in
    let all : c.loop-k.k ≡ size = omega arith in
    let counted = rw all at c.loop-k.invariant.counted in
    rises_at_most c.args.steps.now c.loop-k.steps size c.requires.some counted
