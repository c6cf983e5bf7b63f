use Rattle.std.proofs.Common.{◌≡◌, ◌*◌, ◌<◌, ◌^◌, drop, fold}
use Rattle.ir_rules.specs.Limits.{array_size}
use Rattle.ir_machine.proofs.accesses.bytes_of_array.Given as goal

abbrev pub invariant-loop-dim : goal.invariant-loop-dim
invariant-loop-dim l =
    (array_size l.dims l.width ≡ fold (λ size dim. size * dim) l.size (drop l.dim-index l.dims)) × (l.size < 2 ^ 64)
