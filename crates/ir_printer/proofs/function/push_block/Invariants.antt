use Rattle.std.proofs.Common.{◌≡◌, ◌++◌, take}
use Rattle.std.specs.List.{flat_map}
use Rattle.ir_grammar.specs.Printing.{instr_text}
use Rattle.ir_printer.specs.Shown.{shown}
use Rattle.ir_printer.proofs.function.push_block.Given as goal

-- The instructions so far are printed.
abbrev pub invariant-loop-instr : goal.invariant-loop-instr
invariant-loop-instr l = l.out.items
    ≡ l.initial.out.items ++ flat_map (instr_text (shown l.names)) (take l.instr-index l.instr-items)
