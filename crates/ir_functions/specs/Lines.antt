-- Reading the lines of blocks: instructions, and what is dropped.
use Rattle.std.specs.Prelude.{ℕ, Bool, true, false, not, if◌then◌else◌, List, [], ◌∷◌, Option, Some, None}
use Rattle.std.specs.Option.{option_map, is_some}
use Rattle.scev_base.specs.declared.ids.ValueId.{ValueId}
use Rattle.ir_model.specs.declared.op.Op.{Op}
use Rattle.ir_model.specs.declared.op.Op.TheVariants.{Store, Call}
use Rattle.ir_model.specs.declared.function.Instr.{Instr}
use Rattle.ir_text.specs.Tokens.{Lexeme}
use Rattle.ir_text.specs.Written.{Name}
use Rattle.ir_text.specs.Said.{said_local}
use Rattle.ir_text.specs.Mentions.{Mention, DefinesValue}
use Rattle.ir_model.specs.Shapes.{is_terminator, is_void}
use Rattle.ir_parts.specs.declared.ending.Ending.{Ending}
use Rattle.ir_parts.specs.Reading.{one_at, choose}
use Rattle.ir_parts.specs.Reading as reading
use Rattle.ir_parts.specs.ListReading.{all_until_at}
use Rattle.ir_body.specs.declared.operation.Operation.{Operation}
use Rattle.ir_body.specs.Telling.{Telling, ◌⊗◌, ◌▷◌, made, silently, sign_at}
use Rattle.ir_body.specs.Opcodes.{begins_call}
use Rattle.ir_body.specs.Operation.{op_at}
use Rattle.ir_body.specs.Gathered.{gathered}
use Rattle.ir_functions.specs.declared.lines.Line.{Line}
use Rattle.ir_functions.specs.Silent.{is_record, record_at}
use Rattle.ir_functions.specs.Calls.{call_at}

unfoldable pub record_line_at : Telling Line
record_line_at = made (λ _. record { instr = None; tail = None })
    (silently record_at)

-- ---- instructions

-- the value that is defined by its name
abbrev pub told_definition : Option Name → Option (ValueId × List Mention)
told_definition said = option_map (λ (name : Name). (record { 0 = 0 }, DefinesValue (Some name) ∷ [])) said

unfoldable pub defined_at : Telling ValueId
defined_at = one_at (λ t. told_definition (said_local t))

abbrev pub is_local : Lexeme → Bool
is_local t = is_some (said_local t)

-- an operation but a call
unfoldable pub plain_at : Bool → Telling (Option Operation × Option Ending)
plain_at has_result = made (λ operation. (Some operation, None)) (op_at has_result)

-- an operation with its attachments, or none where it is dropped
unfoldable pub operation_at : Bool → Telling (Option Operation × Option Ending)
operation_at has_result = choose begins_call (call_at has_result) (plain_at has_result)

abbrev pub instr_of : Option ValueId → Operation → Instr
instr_of result operation = record { result = result; op = operation.op; words = operation.words }

abbrev pub named_line : ValueId × (Option Operation × Option Ending) → Line
named_line p = record { instr = option_map (instr_of (Some p.0)) p.1.0; tail = p.1.1 }

unfoldable pub named_line_at : Telling Line
named_line_at = made named_line (defined_at ⊗ (sign_at 61 ▷ operation_at true))

-- whether the operation gives a value
abbrev pub gives_value : Op → Bool
gives_value (Store kind value to) = false
gives_value (Call ret callee args) = not (is_void ret)
gives_value op = not (is_terminator op)

-- the instruction, with this number for the value that it gives
abbrev pub with_number : ℕ → Operation → Instr
with_number number operation = if gives_value operation.op then instr_of (Some (record { 0 = number })) operation
    else instr_of None operation

-- What gives a value is defined without a name, where the instruction begins.
abbrev pub numbered_instr : Operation → List Mention → Instr × List Mention
numbered_instr operation ms = if gives_value operation.op
    then (instr_of (Some (record { 0 = 0 })) operation, DefinesValue None ∷ ms)
    else (instr_of None operation, ms)

abbrev pub numbered_line : (Option Operation × Option Ending) × List Mention → Line × List Mention
numbered_line told = numbered told.0.0
  where
    numbered : Option Operation → Line × List Mention
    numbered None = (record { instr = None; tail = told.0.1 }, told.1)
    numbered (Some operation) = let read = numbered_instr operation told.1 in
        (record { instr = Some read.0; tail = told.0.1 }, read.1)

unfoldable pub unnamed_line_at : Telling Line
unnamed_line_at = reading.made numbered_line (operation_at false)

unfoldable pub line_at : Telling Line
line_at = choose is_record record_line_at (choose is_local named_line_at unnamed_line_at)

-- ---- the lines of a block

abbrev pub ends_block : Line → Bool
ends_block line = ends line.instr
  where
    ends : Option Instr → Bool
    ends None = false
    ends (Some instr) = is_terminator instr.op

-- lines, to the first that ends the block
unfoldable pub lines_at : Telling (List Line)
lines_at = reading.made gathered (all_until_at (λ told. ends_block told.0) line_at)

-- the instructions of lines
abbrev pub with_instr : Option Instr → List Instr → List Instr
with_instr None instrs = instrs
with_instr (Some instr) instrs = instr ∷ instrs

abbrev pub instrs_of : List Line → List Instr
instrs_of [] = []
instrs_of (line ∷ lines) = with_instr line.instr (instrs_of lines)

unfoldable pub instrs_at : Telling (List Instr)
instrs_at = made instrs_of lines_at
