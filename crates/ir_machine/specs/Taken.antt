-- Registers whose contents are taken from others.
use Rattle.std.specs.Prelude.{◌==◌, List, [], ◌∷◌, Option, Some, None, if◌then◌else◌}
use Rattle.scev_base.specs.declared.ids.ValueId.{ValueId}
use Rattle.ir_model.specs.declared.function.Instr.{Instr}
use Rattle.ir_meaning.specs.State.{Registers}

-- one register, where there is a result
abbrev pub taken_one : Registers → Option ValueId → Registers → Registers
taken_one from None registers = registers
taken_one from (Some v) registers = λ other. if other == v.0 then from other else registers other

-- the results of all instructions
abbrev pub taken : Registers → List Instr → Registers → Registers
taken from [] registers = registers
taken from (instr ∷ instrs) registers = taken from instrs (taken_one from instr.result registers)
