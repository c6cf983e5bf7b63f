use Rattle.std.proofs.Common.{◌≡◌, ◌+◌, drop, option_map, position}
use Rattle.ir_model.specs.declared.function.Instr.{Instr}
use Rattle.ir_model.specs.Defined.{is_value}
use Rattle.ir_model.proofs.place.given_in.Given as goal

abbrev pub invariant-loop-index : goal.invariant-loop-index
invariant-loop-index l =
    option_map (λ i. l.index + i) (position (λ (instr : Instr). is_value instr.result l.v.0) (drop l.index l.instrs))
    ≡ position (λ (instr : Instr). is_value instr.result l.v.0) l.instrs
