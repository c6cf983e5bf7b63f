use Rattle.std.proofs.Common.{arith}
use Rattle.ir_names.proofs.KindLemmas.{blocks_more}
use Rattle.ir_names.proofs.types.note_blocks.Goals as goal

pub loop-block-preserved : goal.loop-block-preserved
loop-block-preserved c = blocks_more _ c.loop-block.kinds _ c.args.blocks.now c.loop-block.block-index
    c.block-item.result (omega arith) c.block-item.is c.loop-block.invariant
    (rw c.as_slice.ensures at c.in_ok-note_instrs.ensures)
