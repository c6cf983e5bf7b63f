use Rattle.std.proofs.Common.{◌≡◌, ◌++◌, codes, take}
use Rattle.std.specs.List.{flat_map}
use Rattle.ir_model.specs.declared.function.Param.{Param}
use Rattle.ir_grammar.specs.Printing.{param_text}
use Rattle.ir_printer.specs.Shown.{shown}
use Rattle.ir_printer.proofs.function.push_params.Given as goal

-- Behind the first, each parameter so far is printed behind a comma.
abbrev pub invariant-loop-param : goal.invariant-loop-param
invariant-loop-param l = l.out.items ≡ l.initial.out.items
    ++ flat_map (λ (p : Param). codes ", " ++ param_text (shown l.names) p) (take l.param-index l.rest)
