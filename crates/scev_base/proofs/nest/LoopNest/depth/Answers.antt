use Rattle.std.proofs.Common.{suc, arith}
use Rattle.scev_base.proofs.NestLemmas.{height_falls, climbs_more, climbs_below}
use Rattle.scev_base.proofs.nest.LoopNest.depth.Goals as goal

pub overflow_add-depth : goal.overflow_add-depth
overflow_add-depth c =
    let walk = c.loop-parent.invariant.walk in
    let below = climbs_below c.args.self.now walk.0 c.args.l.0 c.loop-parent.at c.in-Some.parent c.in-Some.ensures.nest walk.2 c.in-Some.ensures.parent in
    omega (arith, walk.1, below, c.in-Some.ensures.counted)

pub loop-parent-smaller : goal.loop-parent-smaller
loop-parent-smaller c =
    height_falls c.args.self.now c.loop-parent.at c.in-Some.parent c.in-Some.ensures.nest c.in-Some.ensures.parent

pub loop-parent-preserved : goal.loop-parent-preserved
loop-parent-preserved c =
    let walk = c.loop-parent.invariant.walk in
    record {
      listed = c.in-Some.ensures.nest.within c.loop-parent.at c.in-Some.parent c.in-Some.ensures.parent;
      walk = (suc walk.0, omega (arith, walk.1), climbs_more c.args.self.now walk.0 c.args.l.0 c.loop-parent.at c.in-Some.parent walk.2 c.in-Some.ensures.parent);
    }
