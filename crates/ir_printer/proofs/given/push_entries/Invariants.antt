use Rattle.std.proofs.Common.{◌≡◌, ◌++◌, codes, take}
use Rattle.std.specs.List.{flat_map}
use Rattle.ir_model.specs.declared.op.PhiEntry.{PhiEntry}
use Rattle.ir_grammar.specs.Printing.{entry_text}
use Rattle.ir_printer.specs.Shown.{shown}
use Rattle.ir_printer.proofs.given.push_entries.Given as goal

-- Behind the first, each entry so far is printed behind a comma.
abbrev pub invariant-loop-entry : goal.invariant-loop-entry
invariant-loop-entry l = l.out.items ≡ l.initial.out.items
    ++ flat_map (λ (e : PhiEntry). codes ", " ++ entry_text (shown l.names) l.kind e) (take l.entry-index l.rest)
