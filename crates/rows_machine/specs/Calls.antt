-- Calls as rows have them.
use Rattle.std.specs.Prelude.{ℕ, List, [], ◌∷◌, None}
use Rattle.ir_model.specs.declared.types.IrType.TheVariants.{Int}
use Rattle.ir_model.specs.declared.op.Operand.{Operand}
use Rattle.ir_model.specs.declared.op.TypedOperand.{TypedOperand}
use Rattle.ir_model.specs.declared.op.Op.TheVariants.{Call}
use Rattle.ir_meaning.specs.Step.{Computed, computed}

abbrev pub typed : Operand → TypedOperand
typed value = record { kind = Int 8; value = value }

-- what is computed by a call of the name with two operands of 8 bits, where no register is set
abbrev pub called : List ℕ → Operand → Operand → Computed
called name left right = computed (λ v. None) 0 (Call (Int 8) name (typed left ∷ typed right ∷ []))
