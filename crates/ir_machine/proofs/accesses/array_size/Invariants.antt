use Rattle.std.proofs.Common.{◌≡◌, ◌%◌, ◌^◌, take}
use Rattle.ir_rules.specs.Limits.{array_size}
use Rattle.ir_machine.proofs.accesses.array_size.Given as goal

abbrev pub invariant-loop-dim : goal.invariant-loop-dim
invariant-loop-dim l = l.size ≡ array_size (take l.dim-index l.dims) l.width % 2 ^ 64
