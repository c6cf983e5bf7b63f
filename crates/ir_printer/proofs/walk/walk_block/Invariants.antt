use Rattle.std.proofs.Common.{◌≡◌, take, fold}
use Rattle.std.specs.List.{flat_map}
use Rattle.ir_model.specs.Sites.{instr_sites}
use Rattle.ir_printer.specs.Counting.{counted}
use Rattle.ir_printer.proofs.walk.walk_block.Given as goal

abbrev pub invariant-loop-instr : goal.invariant-loop-instr
invariant-loop-instr l = l.numbers
    ≡ fold (counted l.uses) l.initial.numbers (flat_map instr_sites (take l.instr-index l.block.instrs))
