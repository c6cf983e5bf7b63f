-- Readings of operations with no passed-on words, from behind their opcode.
use Rattle.std.specs.Prelude.{[], Some, None, codes}
use Rattle.ir_model.specs.declared.op.BinOp.{BinOp}
use Rattle.ir_model.specs.declared.op.Op.{Op}
use Rattle.ir_model.specs.declared.op.Op.TheVariants.{Binary, Icmp, Freeze, Jump, Branch, Ret}
use Rattle.ir_parts.specs.Reading.{is_keyword, choose}
use Rattle.ir_body.specs.declared.operation.Operation.{Operation}
use Rattle.ir_body.specs.Telling.{Telling, ◌⊗◌, ◌▷◌, made, word_at, comma_at, silently}
use Rattle.ir_body.specs.Operands.{operand_at, typed_at, target_at, two_at}
use Rattle.ir_body.specs.Opcodes.{predicate_at}
use Rattle.ir_body.specs.Flags.{dropped_at, flags_at}

-- an operation with no passed-on words
abbrev pub plain : Op → Operation
plain op = record { op = op; words = [] }

unfoldable pub binary_at : BinOp → Telling Operation
binary_at op = made (λ read. plain (Binary op read.0.nuw read.0.nsw read.0.exact read.0.disjoint read.1.kind
    read.1.left read.1.right))
    (silently (flags_at op) ⊗ two_at)

unfoldable pub comparison_at : Telling Operation
comparison_at = made (λ read. plain (Icmp read.0 read.1.kind read.1.left read.1.right))
    (silently (dropped_at (codes "samesign")) ▷ silently predicate_at ⊗ two_at)

unfoldable pub freeze_at : Telling Operation
freeze_at = made (λ typed. plain (Freeze typed.kind typed.value)) typed_at

-- ---- ends of blocks

unfoldable pub jump_at : Telling Operation
jump_at = made (λ to. plain (Jump to)) target_at

unfoldable pub branch_at : Telling Operation
branch_at = made (λ read. plain (Branch read.0 read.1.0 read.1.1))
    (word_at (codes "i1") ▷ operand_at ⊗ comma_at ▷ target_at ⊗ comma_at ▷ target_at)

unfoldable pub br_at : Telling Operation
br_at = choose (is_keyword (codes "label")) jump_at branch_at

unfoldable pub nothing_returned_at : Telling Operation
nothing_returned_at = made (λ u. plain (Ret None)) (word_at (codes "void"))

unfoldable pub value_returned_at : Telling Operation
value_returned_at = made (λ typed. plain (Ret (Some typed))) typed_at

unfoldable pub ret_at : Telling Operation
ret_at = choose (is_keyword (codes "void")) nothing_returned_at value_returned_at
