use Rattle.std.proofs.Common.{◌≤◌, ◌⊎◌, inl, inr, length, sym, arith}
use Rattle.scev_forms.proofs.Loops.{outside_alone}
use Rattle.scev_walk.proofs.Nests.{found_inside}
use Rattle.scev_walk.proofs.loops.stands_in.Goals as goal
use Rattle.scev_walk.proofs.loops.stands_in.Goals.{else-inner-count-via-then-inner-count+else-outer-count}
use Rattle.scev_walk.proofs.loops.stands_in.Goals.{else-inner-count-via-else-inner-count}

pub returns-then-outer-count : goal.returns-then-outer-count
returns-then-outer-count c =
    found_inside c.args.nest.now c.args.outer.0 c.args.inner.0 c.contains.result c.loop_count-count.ensures.nest
    (omega arith) c.contains.ensures.0 c.contains.ensures.1

pub returns-else-inner-count : goal.returns-else-inner-count
returns-else-inner-count c =
    let outside =
    elim c.else-inner-count.branch as
    (λ _. (length c.args.nest.now ≤ c.args.outer.0) ⊎ (length c.args.nest.now ≤ c.args.inner.0)) [
      | else-inner-count-via-then-inner-count+else-outer-count w ↦ inl (omega arith)
      | else-inner-count-via-else-inner-count w ↦ inr (omega arith)
    ] in
    sym (outside_alone c.args.nest.now c.args.outer.0 c.args.inner.0 c.loop_count-count.ensures.nest outside)
