use Rattle.std.proofs.Common.{◌≡◌, take, map}
use Rattle.ir_model.specs.declared.function.Param.{Param}
use Rattle.ir_model.proofs.signatures.kinds.Given as goal

abbrev pub invariant-loop-param : goal.invariant-loop-param
invariant-loop-param l = l.kinds ≡ map (λ (p : Param). p.kind) (take l.param-index l.params)
