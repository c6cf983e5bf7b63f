-- What is taken as known of operations and of calls, where the lines of blocks are read.
use Rattle.std.proofs.Common.{◌≡◌, Bool, true, false, IsTrue, List, [], Option, Some, None}
use Rattle.ir_text.specs.Tokens.{Lexeme}
use Rattle.ir_text.specs.Language.{◌·◌}
use Rattle.ir_text.specs.Mentions.{Mention, Mentioning, ◌⊙◌, silent}
use Rattle.ir_text.specs.PassedOn.{attachments}
use Rattle.ir_grammar.specs.Operations.{SpellsOp}
use Rattle.ir_model.specs.Shapes.{MayHaveResult}
use Rattle.ir_grammar.specs.Functions.{dropped_call}
use Rattle.ir_parts.specs.declared.ending.Ending.{Ending}
use Rattle.ir_parts.specs.Reading.{begins, is_punctuation}
use Rattle.ir_parts.specs.Runs.{goes_on}
use Rattle.ir_body.specs.declared.operation.Operation.{Operation}
use Rattle.ir_body.specs.Opcodes.{begins_call}
use Rattle.ir_body.proofs.Tellers.{IsTeller}
use Rattle.ir_functions.specs.Calls.{call_at}
use Rattle.ir_functions.proofs.LineStarts.{IsCall, IsNoCall}

-- ---- what stands behind

-- The run, where there is one at the end, doesn't go on.
abbrev pub EndsTail : Option Ending → Lexeme → Type 0
EndsTail None t = Unit {0}
EndsTail (Some ending) t = goes_on ending t ≡ false

-- No comma stands behind, and nothing that goes on with such a run.
abbrev pub StopsTail : Option Ending → Lexeme → Type 0
StopsTail tail t = (is_punctuation 44 t ≡ false) × EndsTail tail t

-- ---- operations and calls

-- an operation with its attachments
abbrev pub SpellsWhole : Operation → Mentioning
SpellsWhole operation = SpellsOp operation.op operation.words ⊙ silent attachments

-- what is no call, and may stand behind a result where one stands there
abbrev pub PlainOperation : Bool → Operation → Mentioning
PlainOperation has_result operation ms ts = IsNoCall operation.op × (IsTrue has_result → MayHaveResult operation.op)
    × SpellsWhole operation ms ts

-- Calls, and what is dropped, with how their words end.
pub record ReadsCalls (Chain : Bool → Option Operation × Option Ending → List Mention → List Lexeme → Type 0) : Type 0
  where
    pub tells : (has_result : Bool) → IsTeller (call_at has_result) (Chain has_result) (λ p. StopsTail p.1)
    pub call_there : (has_result : Bool) (operation : Operation) (tail : Option Ending) (ms : List Mention)
        (ts : List Lexeme)
        → Chain has_result (Some operation, tail) ms ts → IsCall operation.op × SpellsWhole operation ms ts
    pub call_back : (has_result : Bool) (operation : Operation) (ms : List Mention) (ts : List Lexeme)
        → IsCall operation.op → SpellsWhole operation ms ts
        → (tail : Option Ending) × Chain has_result (Some operation, tail) ms ts
    pub dropped_there : (tail : Option Ending) (ms : List Mention) (ts : List Lexeme)
        → Chain false (None, tail) ms ts → (ms ≡ []) × (dropped_call · attachments) ts
    pub dropped_back : (ts : List Lexeme) → (dropped_call · attachments) ts
        → (tail : Option Ending) × Chain false (None, tail) [] ts
    pub never_dropped : (tail : Option Ending) (ms : List Mention) (ts : List Lexeme)
        → Chain true (None, tail) ms ts → ⊥
    pub starts : (has_result : Bool) (p : Option Operation × Option Ending) (ms : List Mention) (ts : List Lexeme)
        → Chain has_result p ms ts → begins begins_call ts ≡ true
