use Rattle.std.proofs.Common.{drop, [], ◌∷◌}
use Rattle.std.specs.List.{flat_map}
use Rattle.ir_model.specs.declared.function.Param.{Param}
use Rattle.ir_model.specs.declared.rule.Place.TheVariants.{Value}
use Rattle.ir_check.proofs.DefinedSteps.{Continues}
use Rattle.ir_check.proofs.defined.define_params.Given as goal

abbrev pub invariant-loop-param : goal.invariant-loop-param
invariant-loop-param l =
    Continues l.initial.defined (flat_map (λ (param : Param). Value param.value ∷ []) l.params) l.defined
    (flat_map (λ (param : Param). Value param.value ∷ []) (drop l.param-index l.params))
