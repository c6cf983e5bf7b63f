use Rattle.std.proofs.Common.{◌≡◌, ◌+◌, ◌<◌, [], ◌∷◌, ◌++◌, length, drop, sym, ap, ◌∙◌, subst, arith, length-append, All}
use Rattle.std.proofs.lemmas.List.Elements.{All-push}
use Rattle.rec_algebra.specs.declared.plan.PlanStep.TheVariants as step
use Rattle.rec_algebra.specs.Plans.{place_items}
use Rattle.rec_algebra.proofs.CarryLemmas.{names_at, place_items_turn}
use Rattle.rec_algebra.proofs.carry.all_items.Goals as goal

pub perform-item-requires-clause-places : goal.perform-item-requires-clause-places
perform-item-requires-clause-places g c =
    let inside : c.loop-step.step-index < length c.args.plan.now.steps = rw c.steps-step-items.ensures.steps at c.loop-step-test.true in
    let below = names_at c.args.plan.now.parts c.args.plan.now.steps c.loop-step.step-index (step.Add 0 0) c.steps-step-items.ensures.plan.0 inside in
    rw (c.steps-step-items.ensures.steps, c.deref.ensures.value, c.loop-step.invariant.count) below

pub loop-step-preserved : goal.loop-step-preserved
loop-step-preserved g c =
    let i = c.loop-step.step-index in
    let steps = c.args.plan.now.steps in
    let inside : i < length steps = rw c.steps-step-items.ensures.steps at c.loop-step-test.true in
    let items = rw (c.steps-step-items.ensures.steps, c.deref.ensures.value) at (c.perform-item.ensures.item) in
    let grown : length c.loop-step.items.items + 1 ≡ c.args.plan.now.parts + (c.loop-step.step-index + 1) = omega (arith, c.loop-step.invariant.count) in
    record {
      count = ap length c.in_ok-push.ensures.items ∙ length-append c.loop-step.items.items (c.perform-item.result ∷ []) ∙ grown;
      admitted = subst (All (g.R.Ring.admits c.args.r.now)) (sym c.in_ok-push.ensures.items) (All-push (g.R.Ring.admits c.args.r.now) c.loop-step.items.items c.perform-item.result c.loop-step.invariant.admitted c.perform-item.ensures.admitted);
      still = λ default. c.loop-step.invariant.still default ∙ place_items_turn (g.R.Ring.plus c.args.r.now) (g.R.Ring.times c.args.r.now) default c.loop-step.items.items steps i (step.Add 0 0) inside ∙ ap (λ l. place_items (g.R.Ring.plus c.args.r.now) (g.R.Ring.times c.args.r.now) default l (drop (i + 1) steps)) (ap (λ item. c.loop-step.items.items ++ item ∷ []) (sym (items default)) ∙ sym c.in_ok-push.ensures.items);
    }
