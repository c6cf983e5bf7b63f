use Rattle.std.proofs.Common.{◌≡◌, drop}
use Rattle.ir_memory.specs.Memory.{same_sizes}
use Rattle.ir_memory.proofs.blocks.Blocks.has_sizes_of.Given as goal

abbrev pub invariant-loop-i : goal.invariant-loop-i
invariant-loop-i l = same_sizes l.other l.self ≡ same_sizes (drop l.i l.other) (drop l.i l.self)
