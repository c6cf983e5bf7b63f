use Rattle.std.proofs.Common.{◌≡◌, ◌∷◌, ◌++◌, take}
use Rattle.std.specs.List.{flat_map}
use Rattle.ir_model.specs.declared.op.Case.{Case}
use Rattle.ir_grammar.specs.Printing.{case_text}
use Rattle.ir_printer.specs.Shown.{shown}
use Rattle.ir_printer.proofs.control.push_cases.Given as goal

-- The cases so far are printed.
abbrev pub invariant-loop-case : goal.invariant-loop-case
invariant-loop-case l = l.out.items ≡ l.initial.out.items
    ++ flat_map (λ (c : Case). 32 ∷ case_text (shown l.names) c) (take l.case-index l.cases)
