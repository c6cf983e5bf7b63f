use Rattle.std.proofs.Common.{◌≡◌, take, flat_map}
use Rattle.ir_eval.specs.Globals.{item_blocks}
use Rattle.ir_eval.proofs.globals.global_blocks.Given as goal

abbrev pub invariant-loop-item : goal.invariant-loop-item
invariant-loop-item l = l.blocks ≡ flat_map item_blocks (take l.item-index l.item-items)
