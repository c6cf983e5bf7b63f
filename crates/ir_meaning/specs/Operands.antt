-- Values of operands.
use Rattle.std.specs.Prelude.{ℕ, ◌^◌, ◌%◌, if◌then◌else◌, Option, Some, None}
use Rattle.scev_base.specs.Residue.{residue}
use Rattle.ir_model.specs.declared.types.IrType.{IrType}
use Rattle.ir_model.specs.declared.types.IrType.TheVariants.{Int, Ptr}
use Rattle.ir_model.specs.declared.op.Operand.{Operand}
use Rattle.ir_model.specs.declared.op.Operand.TheVariants as operand
use Rattle.ir_meaning.specs.declared.value.Value.{Value}
use Rattle.ir_meaning.specs.declared.value.Value.TheVariants as value
use Rattle.ir_meaning.specs.declared.choice.Choice.{Choice}
use Rattle.ir_meaning.specs.declared.choice.Choice.TheVariants as choice
use Rattle.ir_meaning.specs.Values.{is_of_type}
use Rattle.ir_meaning.specs.State.{Registers}

-- the number that an instruction other than a call chooses
abbrev pub chosen : Choice → ℕ
chosen (choice.Number n) = n
chosen (choice.Answer n x memory) = 0
chosen choice.Silent = 0

-- a value that is set and is of the type
abbrev pub of_type : IrType → Option Value → Option Value
of_type kind None = None
of_type kind (Some x) = if is_of_type kind x then Some x else None

-- The value of an operand at its type; none where it has none, so that the run is stuck: a register isn't set or holds
-- a value of another type, or a literal is of another type. `undef` is the chosen number modulo 2^w, and a null
-- pointer.
abbrev pub operand_value : Registers → ℕ → IrType → Operand → Option Value
operand_value registers n kind (operand.Reg v) = of_type kind (registers v.0)
operand_value registers n (Int w) (operand.Num z) = Some (value.Number (residue w z))
operand_value registers n (Int w) operand.Undef = Some (value.Number (n % 2 ^ w))
operand_value registers n (Int w) operand.Poison = Some value.Poison
operand_value registers n Ptr operand.Null = Some value.Null
operand_value registers n Ptr (operand.Global g) = Some (value.Pointer g 0)
operand_value registers n Ptr operand.Undef = Some value.Null
operand_value registers n Ptr operand.Poison = Some value.Poison
operand_value registers n _ _ = None
