use Rattle.std.proofs.Common.{◌≡◌, ◌+◌, map}
use Rattle.std.specs.List.{range_with_len}
use Rattle.rec_algebra.specs.declared.plan.PlanStep.TheVariants as step
use Rattle.rec_algebra.proofs.plans.scale_plan.Given as goal

abbrev pub invariant-loop-i : goal.invariant-loop-i
invariant-loop-i l = record {
  same_parts : l.draft.parts ≡ 1 + l.n;
  steps : l.draft.steps.items ≡ map (λ i. step.Mul 0 (1 + i)) (range_with_len 0 l.i);
  results : l.results.items ≡ range_with_len (1 + l.n) l.i;
}
