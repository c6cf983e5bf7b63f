use Rattle.std.proofs.Common.{◌≡◌, length, ℕ, List, ◌+◌, ◌-◌, ◌<◌, [], get_or, sym, ap, ◌∙◌, subst, arith}
use Rattle.std.specs.List.{range_with_len}
use Rattle.rec_algebra.specs.Plans.{Plan, IsPlan}
use Rattle.rec_algebra.specs.Forming.{Row, product_plan}
use Rattle.rec_algebra.proofs.LoopLemmas.{product_table_none, product_table_turn, product_table_end, plan_is}
use Rattle.rec_algebra.proofs.PlanLemmas.{product_is_plan, product_counts}
use Rattle.rec_algebra.proofs.plans.mul_plan.Goals as goal
use Rattle.rec_algebra.proofs.plans.mul_plan.Goals.{After-first_product}

pub loop-left-init : goal.loop-left-init
loop-left-init c =
    let none = product_table_none (c.args.m + c.args.n) c.args.m (range_with_len c.args.m c.args.n) in
    record {
      same_parts = c.new-draft.ensures.parts;
      steps = c.new-draft.ensures.steps ∙ sym (ap (λ (r : Row). r.steps) none);
      products = c.new-row.ensures.items ∙ sym (ap (λ (r : Row). r.products) none);
    }

pub loop-left-preserved : goal.loop-left-preserved
loop-left-preserved c =
    let i = c.loop-left.left - 1 in
    let next : c.loop-left.left ≡ i + 1 = omega arith in
    let inside : i < c.args.m = omega arith in
    let steps = rw c.loop-left.invariant.same_parts at c.in_ok-row.ensures.steps in
    let products = rw c.loop-left.invariant.same_parts at c.in_ok-row.ensures.products in
    let turn = product_table_turn (c.args.m + c.args.n) c.args.m i c.loop-left.left c.args.m c.args.n c.loop-left.draft.steps.items c.multiply_row.new.self.steps.items c.loop-left.row.items c.in_ok-row.row.items next inside c.loop-left.invariant.steps c.loop-left.invariant.products steps products in
    record {
      same_parts = c.multiply_row.ensures.parts ∙ c.loop-left.invariant.same_parts;
      steps = turn.0;
      products = turn.1;
    }

-- what the steps and the places so far make
made : (c : After-first_product)
    → record { parts = c.loop-left.draft.parts; steps = c.loop-left.draft.steps.items; results = c.first_product.result }
    ≡ product_plan c.args.m c.args.n
unfolding product_plan
made c =
    let draft = c.loop-left.draft in
    let rights = range_with_len c.args.m c.args.n in
    let table = product_table_end (c.args.m + c.args.n) c.args.m c.loop-left.left rights c.loop-left-test.false in
    plan_is (product_plan c.args.m c.args.n) draft.parts draft.steps.items c.first_product.result
    c.loop-left.invariant.same_parts (c.loop-left.invariant.steps ∙ ap (λ (r : Row). r.steps) table)
    (c.first_product.ensures ∙ ap (λ (l : List (List ℕ)). get_or l 0 [])
    (c.loop-left.invariant.products ∙ ap (λ (r : Row). r.products) table))

pub into_plan-requires : goal.into_plan-requires
into_plan-requires c = subst IsPlan (sym (made c)) (product_is_plan c.args.m c.args.n)

pub returns-clause-plan : goal.returns-clause-plan
returns-clause-plan c = c.into_plan.ensures ∙ made (goal.at.returns-clause-plan c).After-first_product

pub returns-clause-places : goal.returns-clause-places
returns-clause-places c =
    let e = c.into_plan.ensures ∙ made (goal.at.returns-clause-places c).After-first_product in
    subst IsPlan (sym e) (product_is_plan c.args.m c.args.n)

pub returns-clause-operands : goal.returns-clause-operands
returns-clause-operands c =
    let e = c.into_plan.ensures ∙ made (goal.at.returns-clause-operands c).After-first_product in
    ap (λ (p : Plan). p.parts) e ∙ (product_counts c.args.m c.args.n c.requires.left c.requires.right).0

pub returns-clause-count : goal.returns-clause-count
returns-clause-count c =
    let e = c.into_plan.ensures ∙ made (goal.at.returns-clause-count c).After-first_product in
    ap (λ (p : Plan). length p.results) e ∙ (product_counts c.args.m c.args.n c.requires.left c.requires.right).1
