use Rattle.std.proofs.Common.{◌≡◌, ◌*◌, take}
use Rattle.std.specs.List.{fold}
use Rattle.ir_rules.specs.Limits.{int_size}
use Rattle.ir_check.specs.Instrs.{capped}
use Rattle.ir_check.proofs.limits.capped_size.Given as goal

abbrev pub invariant-loop-dim : goal.invariant-loop-dim
invariant-loop-dim l = l.size ≡ capped (fold (λ size dim. size * dim) (int_size l.width) (take l.dim-index l.dims))
