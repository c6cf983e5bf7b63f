use Rattle.std.proofs.Common.{◌≡◌, take}
use Rattle.std.specs.List.{flat_map}
use Rattle.ir_grammar.specs.Printing.{item_text}
use Rattle.ir_printer.proofs.module.print_module.Given as goal

-- The items so far are printed.
abbrev pub invariant-loop-item : goal.invariant-loop-item
invariant-loop-item l = l.text.items ≡ flat_map (item_text l.globals) (take l.item-index l.item-items)
