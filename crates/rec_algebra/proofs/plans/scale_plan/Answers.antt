use Rattle.std.proofs.Common.{◌≡◌, ℕ, ◌+◌, ◌++◌, ◌∷◌, List, [], map, length, sym, ap, ◌∙◌, subst, arith}
use Rattle.std.specs.List.{range_with_len}
use Rattle.std.proofs.lemmas.List.FromFn.{map-range_with_len_more, length-map-range_with_len}
use Rattle.rec_algebra.specs.declared.plan.PlanStep.{PlanStep}
use Rattle.rec_algebra.specs.declared.plan.PlanStep.TheVariants as step
use Rattle.rec_algebra.specs.Plans.{Plan, IsPlan}
use Rattle.rec_algebra.specs.Forming.{multiple_plan}
use Rattle.rec_algebra.proofs.LoopLemmas.{plan_is, range_one_more}
use Rattle.rec_algebra.proofs.PlanLemmas.{multiple_is_plan, multiple_counts}
use Rattle.rec_algebra.proofs.plans.scale_plan.Goals as goal
use Rattle.rec_algebra.proofs.plans.scale_plan.Goals.{After-from_vec}

pub loop-i-preserved : goal.loop-i-preserved
loop-i-preserved c =
    let i = c.loop-i.i in
    let make : ℕ → PlanStep = λ i. step.Mul 0 (1 + i) in
    let count : length c.loop-i.draft.steps.items ≡ i = ap length c.loop-i.invariant.steps ∙ length-map-range_with_len make 0 i in
    let place : c.in_ok-add.field-0 ≡ (1 + c.args.n) + i = omega (arith, c.in_ok-add.ensures.place, c.loop-i.invariant.same_parts, count) in
    record {
      same_parts = c.add.ensures.parts ∙ c.loop-i.invariant.same_parts;
      steps = c.in_ok-add.ensures.steps
          ∙ ap (λ (l : List PlanStep). l ++ step.Mul 0 (1 + i) ∷ []) c.loop-i.invariant.steps
          ∙ sym (map-range_with_len_more make 0 i i (omega arith));
      results = c.in_ok-push.ensures.items
          ∙ ap (λ (l : List ℕ). l ++ c.in_ok-add.field-0 ∷ []) c.loop-i.invariant.results
          ∙ ap (λ k. range_with_len (1 + c.args.n) i ++ k ∷ []) place
          ∙ range_one_more (1 + c.args.n) i;
    }

-- what the steps and the places so far make
made : (c : After-from_vec)
    → record { parts = c.loop-i.draft.parts; steps = c.loop-i.draft.steps.items; results = c.from_vec.result }
    ≡ multiple_plan c.args.n
unfolding multiple_plan
made c =
    let all : c.loop-i.i ≡ c.args.n = omega arith in
    plan_is (multiple_plan c.args.n) c.loop-i.draft.parts c.loop-i.draft.steps.items c.from_vec.result
    c.loop-i.invariant.same_parts
    (c.loop-i.invariant.steps ∙ ap (λ k. map (λ i. step.Mul 0 (1 + i)) (range_with_len 0 k)) all)
    (c.from_vec.ensures ∙ c.loop-i.invariant.results ∙ ap (range_with_len (1 + c.args.n)) all)

pub into_plan-requires : goal.into_plan-requires
into_plan-requires c = subst IsPlan (sym (made c)) (multiple_is_plan c.args.n)

pub returns-clause-plan : goal.returns-clause-plan
returns-clause-plan c = c.into_plan.ensures ∙ made (goal.at.returns-clause-plan c).After-from_vec

pub returns-clause-places : goal.returns-clause-places
returns-clause-places c =
    let e = c.into_plan.ensures ∙ made (goal.at.returns-clause-places c).After-from_vec in
    subst IsPlan (sym e) (multiple_is_plan c.args.n)

pub returns-clause-operands : goal.returns-clause-operands
returns-clause-operands c =
    let e = c.into_plan.ensures ∙ made (goal.at.returns-clause-operands c).After-from_vec in
    ap (λ (p : Plan). p.parts) e ∙ (multiple_counts c.args.n).0

pub returns-clause-count : goal.returns-clause-count
returns-clause-count c =
    let e = c.into_plan.ensures ∙ made (goal.at.returns-clause-count c).After-from_vec in
    ap (λ (p : Plan). length p.results) e ∙ (multiple_counts c.args.n).1
