use Rattle.std.proofs.Common.{◌≡◌, ℕ, ◌+◌, [], max, length, sym, ap, ◌∙◌, subst, arith}
use Rattle.std.specs.List.{range_with_len}
use Rattle.std.proofs.lemmas.List.FromFn.{length-range_with_len}
use Rattle.rec_algebra.specs.Plans.{Plan, IsPlan}
use Rattle.rec_algebra.specs.Forming.{Formed, summed, sum_plan}
use Rattle.rec_algebra.proofs.LoopLemmas.{plan_is}
use Rattle.rec_algebra.proofs.SumLemmas.{summed_operands}
use Rattle.rec_algebra.proofs.PlanLemmas.{sum_is_plan, sum_counts}
use Rattle.rec_algebra.proofs.plans.add_plan.Goals as goal
use Rattle.rec_algebra.proofs.plans.add_plan.Goals.{After-from_vec}

-- what the steps and the places so far make
made : (c : After-from_vec)
    → record { parts = c.sum.new.self.parts; steps = c.sum.new.self.steps.items; results = c.from_vec.result }
    ≡ sum_plan c.args.m c.args.n
unfolding sum_plan
made c =
    let m = c.args.m in
    let n = c.args.n in
    let none : Formed = record { steps = []; places = [] } in
    let count : max (max m n) 0 ≡ max m n = omega arith in
    let fewer = λ (k : ℕ). summed (m + n) none k (range_with_len 0 m) (range_with_len m n) [] in
    let steps = rw (
      c.new-draft.ensures.parts,
      c.new-draft.ensures.steps,
      c.new-results.ensures.items,
      c.deref.ensures.value,
      c.deref-2.ensures.value,
      c.in_ok-left.ensures,
      c.in_ok-right.ensures,
      length-range_with_len 0 m,
      length-range_with_len m n,
    ) at c.in_ok-sum.ensures.steps in
    let places = rw (
      c.new-draft.ensures.parts,
      c.new-draft.ensures.steps,
      c.new-results.ensures.items,
      c.deref.ensures.value,
      c.deref-2.ensures.value,
      c.in_ok-left.ensures,
      c.in_ok-right.ensures,
      length-range_with_len 0 m,
      length-range_with_len m n,
    ) at c.in_ok-sum.ensures.places in
    plan_is (sum_plan m n) c.sum.new.self.parts c.sum.new.self.steps.items c.from_vec.result
    (c.sum.ensures.parts ∙ c.new-draft.ensures.parts)
    (steps ∙ ap (λ k. (fewer k).steps) count ∙ ap (λ (s : Formed). s.steps) (summed_operands m n))
    (c.from_vec.ensures ∙ places ∙ ap (λ k. (fewer k).places) count
    ∙ ap (λ (s : Formed). s.places) (summed_operands m n))

pub into_plan-requires : goal.into_plan-requires
into_plan-requires c = subst IsPlan (sym (made c)) (sum_is_plan c.args.m c.args.n)

pub returns-clause-plan : goal.returns-clause-plan
returns-clause-plan c = c.into_plan.ensures ∙ made (goal.at.returns-clause-plan c).After-from_vec

pub returns-clause-places : goal.returns-clause-places
returns-clause-places c =
    let e = c.into_plan.ensures ∙ made (goal.at.returns-clause-places c).After-from_vec in
    subst IsPlan (sym e) (sum_is_plan c.args.m c.args.n)

pub returns-clause-operands : goal.returns-clause-operands
returns-clause-operands c =
    let e = c.into_plan.ensures ∙ made (goal.at.returns-clause-operands c).After-from_vec in
    ap (λ (p : Plan). p.parts) e ∙ (sum_counts c.args.m c.args.n).0

pub returns-clause-count : goal.returns-clause-count
returns-clause-count c =
    let e = c.into_plan.ensures ∙ made (goal.at.returns-clause-count c).After-from_vec in
    ap (λ (p : Plan). length p.results) e ∙ (sum_counts c.args.m c.args.n).1
