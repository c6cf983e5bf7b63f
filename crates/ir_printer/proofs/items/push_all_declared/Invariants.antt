use Rattle.std.proofs.Common.{◌≡◌, ◌++◌, codes, take}
use Rattle.std.specs.List.{flat_map}
use Rattle.ir_model.specs.declared.item.DeclaredParam.{DeclaredParam}
use Rattle.ir_grammar.specs.Printing.{declared_text}
use Rattle.ir_printer.proofs.items.push_all_declared.Given as goal

-- Behind the first, each parameter so far is printed behind a comma.
abbrev pub invariant-loop-param : goal.invariant-loop-param
invariant-loop-param l = l.out.items ≡ l.initial.out.items
    ++ flat_map (λ (p : DeclaredParam). codes ", " ++ declared_text p) (take l.param-index l.rest)
