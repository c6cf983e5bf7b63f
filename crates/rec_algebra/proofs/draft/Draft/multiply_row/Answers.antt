use Rattle.std.proofs.Common.{◌≡◌, ◌+◌, ◌-◌, ◌<◌, drop, refl, sym, ap, ◌∙◌, arith}
use Rattle.rec_algebra.specs.Forming.{Row}
use Rattle.rec_algebra.proofs.LoopLemmas.{product_row_none, product_row_turn}
use Rattle.rec_algebra.proofs.draft.Draft.multiply_row.Goals as goal

pub loop-j-init : goal.loop-j-init
loop-j-init c =
    let none = product_row_none c.args.self.now.parts c.args.self.now.steps.items c.args.left c.args.start c.args.count (drop c.args.count c.args.below.now.items) in
    record {
      same_parts = refl;
      steps = sym (ap (λ (r : Row). r.steps) none);
      products = c.new-row.ensures.items ∙ sym (ap (λ (r : Row). r.products) none);
    }

pub loop-j-preserved : goal.loop-j-preserved
loop-j-preserved c =
    let j = c.loop-j.j - 1 in
    let next : c.loop-j.j ≡ j + 1 = omega arith in
    let inside : j < c.args.count = omega arith in
    let steps = rw c.loop-j.invariant.same_parts at c.in_ok-product.ensures.steps in
    let places = rw c.loop-j.invariant.same_parts at c.in_ok-product.ensures.places in
    let turn = product_row_turn c.args.self.now.parts c.args.self.now.steps.items c.args.left c.args.start c.args.count j c.loop-j.j c.args.below.now.items c.loop-j.self.steps.items c.multiply.new.self.steps.items c.loop-j.row.items c.in_ok-product.product c.product_at.result.now c.product_at-in-loop-j.result.now c.product_at-in-loop-j-2.result.now next inside c.loop-j.invariant.steps c.loop-j.invariant.products c.product_at.ensures c.product_at-in-loop-j.ensures c.product_at-in-loop-j-2.ensures steps places in
    record {
      same_parts = c.multiply.ensures.parts ∙ c.loop-j.invariant.same_parts;
      steps = turn.0;
      products = c.in_ok-push_front.ensures.items ∙ turn.1;
    }
