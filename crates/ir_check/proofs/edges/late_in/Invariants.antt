use Rattle.std.proofs.Common.{◌≡◌, map, drop, slice_get}
use Rattle.ir_model.specs.declared.function.Instr.{Instr}
use Rattle.ir_rules.specs.Spots.{named_by}
use Rattle.ir_rules.specs.Blocks.{late}
use Rattle.ir_check.specs.Instrs.{late_places}
use Rattle.ir_check.proofs.edges.late_in.Given as goal

abbrev pub invariant-loop-instr : goal.invariant-loop-instr
invariant-loop-instr l =
    slice_get (map (λ (instr : Instr). named_by l.b.0 instr.result) (late l.other (drop l.instr-index l.instrs))) 0
    ≡ slice_get (late_places l.b.0 l.instrs) 0
