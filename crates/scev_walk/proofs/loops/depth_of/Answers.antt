use Rattle.std.proofs.Common.{arith}
use Rattle.scev_walk.proofs.Nests.{found_depth, depth_outside}
use Rattle.scev_walk.proofs.loops.depth_of.Goals as goal

pub returns-then-l-loop_count : goal.returns-then-l-loop_count
returns-then-l-loop_count c =
    found_depth c.args.nest.now c.args.l.0 c.depth.result c.loop_count.ensures.nest (omega arith) c.depth.ensures

pub returns-else-l-loop_count : goal.returns-else-l-loop_count
returns-else-l-loop_count c = depth_outside c.args.nest.now c.args.l.0 (omega arith)
