use Rattle.std.proofs.Common.{◌≡◌, take, fold, map}
use Rattle.ir_model.specs.declared.function.Param.{Param}
use Rattle.ir_model.specs.Sites.{DefinesValue}
use Rattle.ir_printer.specs.Counting.{counted}
use Rattle.ir_printer.proofs.walk.walk_params.Given as goal

abbrev pub invariant-loop-param : goal.invariant-loop-param
invariant-loop-param l = l.numbers
    ≡ fold (counted l.uses) l.initial.numbers
    (map (λ (p : Param). DefinesValue p.value.0) (take l.param-index l.params))
