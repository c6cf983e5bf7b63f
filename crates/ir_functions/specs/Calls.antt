-- Reading calls, and calls that are dropped, with the attachments behind them.
use Rattle.std.specs.Prelude.{ℕ, Bool, ◌||◌, not, if◌then◌else◌, List, [], ◌∷◌, ◌++◌, Option, Some, None}
use Rattle.std.specs.Option.{option_and_then}
use Rattle.ir_model.specs.declared.op.Op.TheVariants.{Call}
use Rattle.ir_model.specs.Callees.{is_min_max}
use Rattle.ir_text.specs.Tokens.{Lexeme}
use Rattle.ir_text.specs.Said.{said_global}
use Rattle.ir_grammar.specs.Operations.{is_intrinsic}
use Rattle.ir_grammar.specs.Functions.{is_dropped_name}
use Rattle.ir_parts.specs.declared.ending.Ending.{Ending}
use Rattle.ir_parts.specs.declared.ending.Run.{Run}
use Rattle.ir_parts.specs.Reading.{Read, one_at}
use Rattle.ir_parts.specs.WordsReading.{parentheses_at}
use Rattle.ir_parts.specs.Reading as reading
use Rattle.ir_body.specs.declared.operation.Operation.{Operation}
use Rattle.ir_body.specs.Telling.{Telling, ◌>>=◌, ◌⊗◌, ◌▷◌, made, silently, sign_at}
use Rattle.ir_functions.specs.declared.argument_list.Arguments.{Arguments}
use Rattle.ir_functions.specs.declared.calls.CallHead.{CallHead}
use Rattle.ir_functions.specs.declared.calls.Callee.{Callee}
use Rattle.ir_functions.specs.declared.calls.Callee.TheVariants.{Dropped, Named}
use Rattle.ir_functions.specs.Arguments.{given_at}
use Rattle.ir_functions.specs.Silent.{head_at, trailing_at}

-- ---- the callee

-- Calls that are dropped have no result; what else begins `llvm.` is left out, but for minima and maxima.
abbrev pub callee_named : Bool → List ℕ → Option Callee
callee_named has_result name =
    if is_dropped_name name then (if has_result then None else Some Dropped)
    else (if not (is_intrinsic name) || is_min_max name then Some (Named name) else None)

abbrev pub callee_of : Bool → Lexeme → Option Callee
callee_of has_result t = option_and_then (callee_named has_result) (said_global t)

-- ---- behind the callee

-- how the words end, where no attachment stands behind them
abbrev pub tail_of : (Run × List ℕ) × (Unit {0} × List Lexeme) → Option Ending
tail_of p = if_none p.1.1
  where
    if_none : List Lexeme → Option Ending
    if_none [] = Some p.0.0.ending
    if_none (t ∷ ts) = None

-- the words' text, and how they end
unfoldable pub ended_at : Read (List ℕ × Option Ending)
ended_at = reading.made (λ p. (p.0.1, tail_of p)) trailing_at

unfoldable pub dropped_at : Telling (Option Operation × Option Ending)
dropped_at = made (λ t. (None, t.1)) (silently parentheses_at ▷ silently ended_at)

-- the call, with the texts of its passed-on words in order
abbrev pub call_of : CallHead → List ℕ → Arguments → List ℕ → Operation
call_of head name args after = record {
  op = Call head.ret name args.typed;
  words = head.tail ∷ head.before ∷ (args.words ++ after ∷ []);
}

unfoldable pub called_at : CallHead → List ℕ → Telling (Option Operation × Option Ending)
called_at head name = made (λ p. (Some (call_of head name p.0 p.1.0), p.1.1))
    (sign_at 40 ▷ (given_at ⊗ silently ended_at))

abbrev pub behind_callee_at : CallHead → Callee → Telling (Option Operation × Option Ending)
behind_callee_at head Dropped = dropped_at
behind_callee_at head (Named name) = called_at head name

-- a call, or none where it is dropped; and how the passed-on words behind it end, where no attachment stands there
unfoldable pub call_at : Bool → Telling (Option Operation × Option Ending)
call_at has_result = silently head_at >>= λ head. silently (one_at (callee_of has_result)) >>=
    behind_callee_at head
