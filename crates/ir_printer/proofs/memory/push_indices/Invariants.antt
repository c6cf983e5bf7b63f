use Rattle.std.proofs.Common.{◌≡◌, ◌++◌, codes, take}
use Rattle.std.specs.List.{flat_map}
use Rattle.ir_model.specs.declared.op.TypedOperand.{TypedOperand}
use Rattle.ir_grammar.specs.Printing.{typed_text}
use Rattle.ir_printer.specs.Shown.{shown}
use Rattle.ir_printer.proofs.memory.push_indices.Given as goal

-- The indices so far are printed.
abbrev pub invariant-loop-index : goal.invariant-loop-index
invariant-loop-index l = l.out.items ≡ l.initial.out.items
    ++ flat_map (λ (typed : TypedOperand). codes ", " ++ typed_text (shown l.names) typed)
    (take l.index-index l.indices)
