use Rattle.std.proofs.Common.{◌≡◌, ◌++◌, take}
use Rattle.std.specs.List.{flat_map}
use Rattle.ir_grammar.specs.Printing.{block_lines}
use Rattle.ir_printer.specs.Shown.{shown}
use Rattle.ir_printer.proofs.function.push_blocks.Given as goal

-- The blocks so far are printed.
abbrev pub invariant-loop-block : goal.invariant-loop-block
invariant-loop-block l = l.out.items
    ≡ l.initial.out.items ++ flat_map (block_lines (shown l.names)) (take l.block-index l.blocks)
