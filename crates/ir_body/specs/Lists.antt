-- Readings of operations with a list behind commas, and the attachments behind it.
use Rattle.std.specs.Prelude.{List, ◌∷◌}
use Rattle.ir_model.specs.declared.op.PhiEntry.{PhiEntry}
use Rattle.ir_model.specs.declared.op.TypedOperand.{TypedOperand}
use Rattle.ir_model.specs.declared.op.Op.TheVariants.{Gep, Phi}
use Rattle.ir_parts.specs.TypeReading.{scalar_type_at, stored_type_at}
use Rattle.ir_parts.specs.ListReading.{all_parts_at}
use Rattle.ir_body.specs.declared.operation.Operation.{Operation}
use Rattle.ir_body.specs.Telling.{Telling, ◌⊗◌, ◌▷◌, ◌◁◌, made, sign_at, comma_at, silently}
use Rattle.ir_body.specs.Gathered.{gathering}
use Rattle.ir_body.specs.Operands.{operand_at, typed_at, pointer_at, block_name_at}
use Rattle.ir_body.specs.Flags.{gep_flags_at}
use Rattle.ir_body.specs.Plain.{plain}

-- each index behind a comma
unfoldable pub indices_at : Telling (List TypedOperand)
indices_at = gathering (all_parts_at typed_at)

unfoldable pub gep_at : Telling Operation
gep_at = made (λ read. plain (Gep read.0 read.1.0 read.1.1.0 read.1.1.1))
    (silently gep_flags_at ⊗ silently stored_type_at ⊗ comma_at ▷ pointer_at ⊗ indices_at)

-- `[ v, %block ]`
unfoldable pub entry_at : Telling PhiEntry
entry_at = made (λ read. record { value = read.0; from = read.1 })
    (sign_at 91 ▷ operand_at ⊗ comma_at ▷ block_name_at ◁ sign_at 93)

-- each further entry behind a comma
unfoldable pub entries_at : Telling (List PhiEntry)
entries_at = gathering (all_parts_at entry_at)

unfoldable pub phi_at : Telling Operation
phi_at = made (λ read. plain (Phi read.0 (read.1.0 ∷ read.1.1)))
    (silently scalar_type_at ⊗ entry_at ⊗ entries_at)
