-- What a call of the outside does (LLVM Language Reference, "call Instruction"): the outside sees the arguments and the
-- contents of memory, and answers a value and new contents.
use Rattle.std.specs.Prelude.{ℕ, ◌%◌, ◌^◌, Bool, true, ◌&&◌, if◌then◌else◌, List, [], ◌∷◌, Option, Some, None}
use Rattle.std.specs.Prelude.{option_map, option_and_then}
use Rattle.ir_model.specs.declared.types.IrType.{IrType}
use Rattle.ir_model.specs.declared.types.IrType.TheVariants.{Void, Int, Ptr}
use Rattle.ir_model.specs.declared.op.TypedOperand.{TypedOperand}
use Rattle.ir_memory.specs.Memory.{Memory, are_bytes, same_sizes}
use Rattle.ir_meaning.specs.declared.value.Value.{Value}
use Rattle.ir_meaning.specs.declared.value.Value.TheVariants as value
use Rattle.ir_meaning.specs.declared.choice.Choice.{Choice}
use Rattle.ir_meaning.specs.declared.choice.Choice.TheVariants as choice
use Rattle.ir_meaning.specs.Phases as phase
use Rattle.ir_meaning.specs.State.{Registers, Event, State}
use Rattle.ir_meaning.specs.Values.{fits}
use Rattle.ir_meaning.specs.Operands.{operand_value}
use Rattle.ir_meaning.specs.Effects.{Effect, Goes, Ends, with_operands}

-- What the outside answers: the number that `undef` takes in the arguments, the value, none from a function of type
-- `void`, and the contents of memory from then on.
pub record Answered : Type 0 where
  pub number : ℕ
  pub answer : Option Value
  pub contents : Memory

-- where a number is chosen: it is the answer modulo 2^w, or null, and the contents stay
abbrev pub answer_of_number : IrType → ℕ → Option Value
answer_of_number (Int w) n = Some (value.Number (n % 2 ^ w))
answer_of_number Ptr n = Some value.Null
answer_of_number _ n = None

abbrev pub answered_number : IrType → Memory → ℕ → Answered
answered_number ret memory n = record { number = n; answer = answer_of_number ret n; contents = memory }

-- whether a value and new contents may be an answer: the value fits the call's type, each fits a call of type `void`;
-- and the contents are bytes of blocks of the same sizes
abbrev pub value_answers : Memory → IrType → Value → Bool
value_answers memory Void x = true
value_answers memory ret x = fits memory ret x

abbrev pub may_answer : Memory → IrType → Value → Memory → Bool
may_answer memory ret x contents = value_answers memory ret x && (same_sizes memory contents && are_bytes contents)

abbrev pub answer_given : IrType → Value → Option Value
answer_given Void x = None
answer_given ret x = Some x

-- What is answered to a call of the type; none where the call never returns. What may not be an answer counts as the
-- number 0.
abbrev pub answered : Choice → IrType → Memory → Option Answered
answered (choice.Number n) ret memory = Some (answered_number ret memory n)
answered (choice.Answer n x contents) ret memory = Some (
    if may_answer memory ret x contents
    then record { number = n; answer = answer_given ret x; contents = contents }
    else answered_number ret memory 0)
answered choice.Silent ret memory = None

-- the values of all arguments; none where one of them has none
abbrev pub argument_values : Registers → ℕ → List TypedOperand → Option (List Value)
argument_values registers n [] = Some []
argument_values registers n (typed ∷ more) =
    option_and_then (λ x. option_map (λ xs. x ∷ xs) (argument_values registers n more))
    (operand_value registers n typed.kind typed.value)

-- the event of a call
abbrev pub event_of : List ℕ → List Value → Memory → Answered → Event
event_of callee args memory a =
    record { callee = callee; args = args; before = memory; answer = a.answer; after = a.contents }

-- a call with what is answered: an event; without an answer it never returns, and there is none
abbrev pub outside_call : State → List ℕ → List TypedOperand → Option Answered → Effect
outside_call s callee args None = with_operands (argument_values s.registers 0 args) (λ xs. Ends phase.Stopped)
outside_call s callee args (Some a) =
    with_operands (argument_values s.registers a.number args)
    (λ xs. Goes a.answer a.contents (event_of callee xs s.memory a ∷ []))
