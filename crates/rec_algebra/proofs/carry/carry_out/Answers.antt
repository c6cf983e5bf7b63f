use Rattle.std.proofs.Common.{◌≡◌, ℕ, ◌+◌, ◌<◌, ◌≤◌, List, [], ◌∷◌, length, get_or, refl, sym, ap, ◌∙◌, subst, arith, length-append, All}
use Rattle.rec_algebra.specs.Plans.{Plan, place_items, carried}
use Rattle.rec_algebra.specs.Forming.{sum_plan, multiple_plan, product_plan}
use Rattle.rec_algebra.specs.Values.{HasValue}
use Rattle.rec_algebra.proofs.CarryLemmas.{picked_more, picked_all, picked_each}
use Rattle.rec_algebra.proofs.CarriedPlans.{sum_is_carried, multiple_is_carried, product_is_carried}
use Rattle.rec_algebra.proofs.carry.carry_out.Goals as goal

-- Each place of the result has an item.
inside : (parts steps count length_ : ℕ) (results : List ℕ) → All (λ place. place < parts + steps) results → length_ ≡ parts + steps → All (λ place. place < length_) results
inside parts steps count length_ results h e k d within = omega (arith, h k d within, e)

pub index-requires : goal.index-requires
index-requires g c =
    let within : c.loop-place.place-index < length c.args.plan.now.results = rw c.result-places.ensures.results at c.loop-place-test.true in
    let below = c.result-places.ensures.plan.1 c.loop-place.place-index 0 within in
    let count = c.in_ok-items.ensures.count in
    rw c.result-places.ensures.results (omega (arith, below, count, c.in_ok-items.items.ok.0))

pub loop-place-preserved : goal.loop-place-preserved
loop-place-preserved g c =
    let items = c.in_ok-items.items.items in
    let results = c.args.plan.now.results in
    let i = c.loop-place.place-index in
    let within : i < length results = rw c.result-places.ensures.results at c.loop-place-test.true in
    let below : get_or results i 0 < length items = omega (arith, c.result-places.ensures.plan.1 i 0 within, c.in_ok-items.ensures.count) in
    let one_more : length c.loop-place.results.items + 1 ≡ i + 1 = omega (arith, c.loop-place.invariant.count) in
    record {
      count = ap length c.in_ok-push.ensures.items ∙ length-append c.loop-place.results.items (c.index.result.now ∷ []) ∙ one_more;
      picked = λ default. c.in_ok-push.ensures.items ∙ picked_more items c.loop-place.results.items results i default c.index.result.now within below (c.loop-place.invariant.picked default) (rw c.result-places.ensures.results at c.index.ensures);
    }

picked : (g : _) (c : goal.After-drop-items-2 g) (default : g.row.R-Item.Denot) → c.loop-place.results.items ≡ carried (g.R.Ring.plus c.args.r.now) (g.R.Ring.times c.args.r.now) default c.args.plan.now c.args.parts.now
picked g c default =
    let past : length c.args.plan.now.results ≤ c.loop-place.place-index = rw c.result-places.ensures.results at c.loop-place-test.false in
    picked_all c.in_ok-items.items.items c.loop-place.results.items (place_items (g.R.Ring.plus c.args.r.now) (g.R.Ring.times c.args.r.now) default c.args.parts.now c.args.plan.now.steps) c.args.plan.now.results c.loop-place.place-index default past (c.loop-place.invariant.picked default) (c.in_ok-items.ensures.items default)

pub returns-clause-count : goal.returns-clause-count
returns-clause-count g c =
    let end : c.loop-place.place-index ≡ length c.result-places.result.now = omega arith in
    c.loop-place.invariant.count ∙ end ∙ ap length c.result-places.ensures.results

pub returns-clause-items : goal.returns-clause-items
returns-clause-items g c = picked g c

pub returns-clause-admitted : goal.returns-clause-admitted
returns-clause-admitted g c k d within =
    let past : length c.args.plan.now.results ≤ c.loop-place.place-index = rw c.result-places.ensures.results at c.loop-place-test.false in
    let items = c.in_ok-items.items.items in
    let e = picked_all items c.loop-place.results.items items c.args.plan.now.results c.loop-place.place-index d past (c.loop-place.invariant.picked d) refl in
    let each = picked_each (g.R.Ring.admits c.args.r.now) items c.args.plan.now.results d c.in_ok-items.ensures.admitted (inside c.args.plan.now.parts (length c.args.plan.now.steps) 0 (length items) c.args.plan.now.results c.result-places.ensures.plan.1 c.in_ok-items.ensures.count) in
    subst (All (g.R.Ring.admits c.args.r.now)) (sym e) each k d within

pub returns-clause-sum : goal.returns-clause-sum
unfolding sum_plan
returns-clause-sum g c m n turn left right e vx vy =
    let plus = g.R.Ring.plus c.args.r.now in
    let times = g.R.Ring.times c.args.r.now in
    let same : length c.args.parts.now ≡ m + n = c.requires.count ∙ ap (λ (p : Plan). p.parts) e in
    let value = sum_is_carried (g.met.R.Ring.semiring c.args.r.now) left c.args.parts.now m n turn left right c.requires.admitted same vx vy in
    subst (λ xs. HasValue plus turn xs (plus left right)) (sym (picked g c left ∙ ap (λ (p : Plan). carried plus times left p c.args.parts.now) e)) value

pub returns-clause-multiple : goal.returns-clause-multiple
unfolding multiple_plan
returns-clause-multiple g c n turn left right e vx vy =
    let plus = g.R.Ring.plus c.args.r.now in
    let times = g.R.Ring.times c.args.r.now in
    let same : length c.args.parts.now ≡ 1 + n = c.requires.count ∙ ap (λ (p : Plan). p.parts) e in
    let value = multiple_is_carried (g.met.R.Ring.semiring c.args.r.now) left c.args.parts.now n turn left right c.requires.admitted same vx vy in
    subst (λ xs. HasValue plus turn xs (times left right)) (sym (picked g c left ∙ ap (λ (p : Plan). carried plus times left p c.args.parts.now) e)) value

pub returns-clause-product : goal.returns-clause-product
unfolding product_plan
returns-clause-product g c m n turn left right e vx vy =
    let plus = g.R.Ring.plus c.args.r.now in
    let times = g.R.Ring.times c.args.r.now in
    let same : length c.args.parts.now ≡ m + n = c.requires.count ∙ ap (λ (p : Plan). p.parts) e in
    let value = product_is_carried (g.met.R.Ring.semiring c.args.r.now) left c.args.parts.now m n turn left right c.requires.admitted same vx vy in
    subst (λ xs. HasValue plus turn xs (times left right)) (sym (picked g c left ∙ ap (λ (p : Plan). carried plus times left p c.args.parts.now) e)) value
