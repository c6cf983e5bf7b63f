-- Readings of conversions and choices, from behind their opcode.
use Rattle.std.specs.Prelude.{codes}
use Rattle.ir_model.specs.declared.op.CastOp.{CastOp}
use Rattle.ir_model.specs.declared.op.Op.TheVariants.{Cast, Select}
use Rattle.ir_parts.specs.TypeReading.{scalar_type_at}
use Rattle.ir_body.specs.declared.operation.Operation.{Operation}
use Rattle.ir_body.specs.Telling.{Telling, ◌⊗◌, ◌▷◌, made, word_at, comma_at, silently}
use Rattle.ir_body.specs.Operands.{operand_at, typed_at}
use Rattle.ir_body.specs.Flags.{cast_flags_at}
use Rattle.ir_body.specs.Plain.{plain}

unfoldable pub cast_at : CastOp → Telling Operation
cast_at op = made (λ read. plain (Cast op read.0 read.1.0.kind read.1.0.value read.1.1))
    (silently (cast_flags_at op) ⊗ typed_at ⊗ word_at (codes "to") ▷ silently scalar_type_at)

unfoldable pub select_at : Telling Operation
select_at = made (λ read. plain (Select read.0 read.1.0 read.1.1))
    (word_at (codes "i1") ▷ operand_at ⊗ comma_at ▷ typed_at ⊗ comma_at ▷ typed_at)
