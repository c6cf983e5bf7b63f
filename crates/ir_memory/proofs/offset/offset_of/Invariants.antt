use Rattle.std.proofs.Common.{◌≡◌, take}
use Rattle.ir_memory.specs.Offset.{offset_from}
use Rattle.ir_memory.proofs.offset.offset_of.Given as goal

abbrev pub invariant-loop-index : goal.invariant-loop-index
invariant-loop-index l = l.offset ≡ offset_from l.base (take l.index-index l.parts)
