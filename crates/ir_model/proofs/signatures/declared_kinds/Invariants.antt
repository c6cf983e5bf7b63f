use Rattle.std.proofs.Common.{◌≡◌, take, map}
use Rattle.ir_model.specs.declared.item.DeclaredParam.{DeclaredParam}
use Rattle.ir_model.proofs.signatures.declared_kinds.Given as goal

abbrev pub invariant-loop-param : goal.invariant-loop-param
invariant-loop-param l = l.kinds ≡ map (λ (p : DeclaredParam). p.kind) (take l.param-index l.params)
