-- The reading of any operation but a call, with the attachments behind it.
use Rattle.std.specs.Prelude.{Bool, IsTrue}
use Rattle.ir_model.specs.declared.op.Op.{Op}
use Rattle.ir_model.specs.declared.op.Op.TheVariants.{Call}
use Rattle.ir_text.specs.Mentions.{Mentioning, ◌⊙◌, silent}
use Rattle.ir_text.specs.PassedOn.{attachments}
use Rattle.ir_grammar.specs.Operations.{SpellsOp}
use Rattle.ir_model.specs.Shapes.{MayHaveResult}
use Rattle.ir_parts.specs.MetadataReading.{attachments_at}
use Rattle.ir_body.specs.declared.opcode.Opcode.{Opcode}
use Rattle.ir_body.specs.declared.opcode.Opcode.TheVariants.{Binary, Cast, Icmp, Select, Phi, Freeze, Alloca, Load, Store, Gep, Br, Switch, Ret, Unreachable}
use Rattle.ir_body.specs.declared.operation.Operation.{Operation}
use Rattle.ir_body.specs.Telling.{Telling, ◌>>=◌, ◌◁◌, silently}
use Rattle.ir_body.specs.Opcodes.{opcode_at}
use Rattle.ir_body.specs.Plain.{binary_at, comparison_at, freeze_at, br_at, ret_at}
use Rattle.ir_body.specs.Values.{cast_at, select_at}
use Rattle.ir_body.specs.Cases.{switch_at, unreachable_at}
use Rattle.ir_body.specs.Aligned.{alloca_at, load_at, store_at}
use Rattle.ir_body.specs.Lists.{gep_at, phi_at}

-- an operation, and attachments
abbrev pub attached : Telling Operation → Telling Operation
attached operation = operation ◁ silently attachments_at

-- from behind its opcode
unfoldable pub behind_at : Opcode → Telling Operation
behind_at (Binary op) = attached (binary_at op)
behind_at Icmp = attached comparison_at
behind_at (Cast op) = attached (cast_at op)
behind_at Select = attached select_at
behind_at Phi = phi_at
behind_at Freeze = attached freeze_at
behind_at Alloca = alloca_at
behind_at Load = load_at
behind_at Store = store_at
behind_at Gep = gep_at
behind_at Br = attached br_at
behind_at Switch = attached switch_at
behind_at Ret = attached ret_at
behind_at Unreachable = attached unreachable_at

-- behind a result one that may have a result
unfoldable pub op_at : Bool → Telling Operation
op_at has_result = silently (opcode_at has_result) >>= behind_at

-- It is no call.
abbrev pub IsNoCall : Op → Type 0
IsNoCall (Call ret callee args) = ⊥
IsNoCall op = Unit {0}

-- An operation but a call, which may have a result where one stands before it, and the attachments behind it.
abbrev pub SpellsAttached : Bool → Operation → Mentioning
SpellsAttached has_result operation ms ts = IsNoCall operation.op
    × (IsTrue has_result → MayHaveResult operation.op)
    × (SpellsOp operation.op operation.words ⊙ silent attachments) ms ts
