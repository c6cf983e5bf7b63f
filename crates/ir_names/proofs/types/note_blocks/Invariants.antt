use Rattle.std.proofs.Common.{take}
use Rattle.ir_model.specs.Defined.{block_type}
use Rattle.ir_names.specs.Kinds.{Notes}
use Rattle.ir_names.proofs.types.note_blocks.Given as goal

abbrev pub invariant-loop-block : goal.invariant-loop-block
invariant-loop-block l = Notes l.fn.kinds l.kinds (block_type (take l.block-index l.blocks))
