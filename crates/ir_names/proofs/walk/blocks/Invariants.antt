use Rattle.std.proofs.Common.{length}
use Rattle.ir_model.specs.Sites.{block_sites}
use Rattle.ir_text.specs.Sites.{bare_block}
use Rattle.ir_names.proofs.Walking.{Walked}
use Rattle.ir_names.proofs.walk.blocks.Given as goal

abbrev pub invariant-loop-next : goal.invariant-loop-next
invariant-loop-next l = Walked block_sites bare_block l.spoken l.fn.seen l.seen l.fn.blocks l.rest l.blocks

abbrev pub decreases-loop-next : goal.decreases-loop-next
decreases-loop-next l = length l.rest
