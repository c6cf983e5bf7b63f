use Rattle.std.proofs.Common.{◌≡◌, drop, slice_get}
use Rattle.std.specs.List.{flat_map}
use Rattle.ir_check.specs.Undefined.{undefined_instr, undefined_block}
use Rattle.ir_check.proofs.undefined.undefined_in_block.Given as goal

abbrev pub invariant-loop-instr : goal.invariant-loop-instr
invariant-loop-instr l =
    slice_get (flat_map (undefined_instr l.defined l.globals l.block.id) (drop l.instr-index l.block.instrs)) 0
    ≡ slice_get (undefined_block l.defined l.globals l.block) 0
