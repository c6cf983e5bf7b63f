-- A step adds at most one event.
use Rattle.std.proofs.Common.{ℕ, ◌+◌, ◌≤◌, Bool, true, false, if◌then◌else◌, List, [], ◌∷◌, length, Option, Some, None}
use Rattle.std.proofs.Common.{subst, arith, length-append}
use Rattle.std.proofs.lemmas.List.{length-replicate}
use Rattle.ir_model.specs.declared.types.IrType.TheVariants.{Int}
use Rattle.ir_model.specs.declared.op.TypedOperand.{TypedOperand}
use Rattle.ir_model.specs.declared.op.Op.{Op}
use Rattle.ir_model.specs.declared.op.Op.TheVariants.{Alloca, Load, Store, Gep, Call}
use Rattle.ir_model.specs.declared.function.Function.{Function}
use Rattle.ir_model.specs.Callees.{is_min_max}
use Rattle.ir_model.specs.declared.types.IrType.TheVariants.{Ptr}
use Rattle.ir_memory.specs.Memory.{Memory, is_in_block}
use Rattle.ir_memory.specs.Spelling.{byte_count}
use Rattle.ir_meaning.specs.declared.value.Value.{Value}
use Rattle.ir_meaning.specs.declared.value.Value.TheVariants as value
use Rattle.ir_meaning.specs.declared.choice.Choice.{Choice}
use Rattle.ir_meaning.specs.declared.choice.Choice.TheVariants as choice
use Rattle.ir_meaning.specs.State.{State}
use Rattle.ir_meaning.specs.Operands.{chosen, operand_value}
use Rattle.ir_meaning.specs.Effects.{Effect, Goes, Ends, with_operand, with_operands}
use Rattle.ir_meaning.specs.Accesses.{loaded_at, stored_at, index_values}
use Rattle.ir_meaning.specs.Calls.{Answered, answered, argument_values, outside_call}
use Rattle.ir_meaning.specs.Step.{Computed, Gives, Fails, computed, gone, effect, step}
use Rattle.ir_meaning.specs.Run.{after}
use Rattle.ir_meaning.proofs.StepShape.{Stepped, stays, ends, goes_on, enters, stepped}
use Rattle.ir_machine.specs.Zeros.{zeros}

-- at most one event
abbrev AddsFew : Effect → Type 0
AddsFew (Goes x memory events) = length events ≤ 1
AddsFew (Ends how) = Unit {0}

-- ---- by forms

either_adds : (b : Bool) (one other : Effect) → AddsFew one → AddsFew other → AddsFew (if b then one else other)
either_adds true one other first second = first
either_adds false one other first second = second

operand_adds : (o : Option Value) (what : Value → Effect) → ((x : Value) → AddsFew (what x))
    → AddsFew (with_operand o what)
operand_adds None what each = tt
operand_adds (Some x) what each = each x

operands_add : (o : Option (List Value)) (what : List Value → Effect) → ((xs : List Value) → AddsFew (what xs))
    → AddsFew (with_operands o what)
operands_add None what each = tt
operands_add (Some xs) what each = each xs

gone_adds : (s : State) (c : Computed) → AddsFew (gone s c)
gone_adds s (Gives x) = omega arith
gone_adds s (Fails how) = tt

load_adds : (memory : Memory) (w n : ℕ) (p : Value) → AddsFew (loaded_at memory w n p)
load_adds memory w n (value.Pointer block offset) =
    either_adds (is_in_block memory block offset (byte_count w)) _ _ (omega arith) tt
load_adds memory w n _ = tt

store_adds : (memory : Memory) (w : ℕ) (x p : Value) → AddsFew (stored_at memory w x p)
store_adds memory w x (value.Pointer block offset) =
    either_adds (is_in_block memory block offset (byte_count w)) _ _ (omega arith) tt
store_adds memory w x _ = tt

call_adds : (s : State) (callee : List ℕ) (args : List TypedOperand) (a : Option Answered)
    → AddsFew (outside_call s callee args a)
call_adds s callee args None = operands_add (argument_values s.registers 0 args) _ (λ xs. tt)
call_adds s callee args (Some a) = operands_add (argument_values s.registers a.number args) _ (λ xs. omega arith)

-- ---- by operations

effect_adds : (choice : Choice) (s : State) (op : Op) → AddsFew (effect choice s op)
effect_adds choice s (Alloca kind) = omega arith
effect_adds choice s (Load (Int w) from) =
    operand_adds (operand_value s.registers (chosen choice) Ptr from) _ (load_adds s.memory w (chosen choice))
effect_adds choice s (Store (Int w) operand to) =
    operand_adds (operand_value s.registers (chosen choice) (Int w) operand) _
    (λ x. operand_adds (operand_value s.registers (chosen choice) Ptr to) _ (store_adds s.memory w x))
effect_adds choice s (Gep inbounds kind base indices) =
    operand_adds (operand_value s.registers (chosen choice) Ptr base) _
    (λ p. operands_add (index_values s.registers (chosen choice) indices) _ (λ xs. omega arith))
effect_adds choice s (Call ret callee args) =
    either_adds (is_min_max callee) _ _ (gone_adds s (computed s.registers (chosen choice) (Call ret callee args)))
    (call_adds s callee args (answered choice ret s.memory))
effect_adds choice s op = gone_adds s (computed s.registers (chosen choice) op)

-- ---- by steps

step_adds : (f : Function) (choice : Choice) (s t : State) → Stepped f choice s t
    → length t.events ≤ length s.events + 1
step_adds f choice s t (stays e) = rw e (omega arith)
step_adds f choice s t (ends how e) = rw e (omega arith)
step_adds f choice s t (goes_on instr x memory events at other goes e) =
    let few : length events ≤ 1 = subst AddsFew goes (effect_adds choice s instr.op) in
    rw (e, length-append) (omega arith)
step_adds f choice s t (enters instr b block registers at last leads found phis e) = rw e (omega arith)

run_adds : (f : Function) (s : State) (choices : List Choice)
    → length (after f s choices).events ≤ length s.events + length choices
run_adds f s [] = omega arith
run_adds f s (choice ∷ choices) =
    let here = step_adds f choice s (step f choice s) (stepped f choice s) in
    omega (arith, here, run_adds f (step f choice s) choices)

-- So many steps add no more events.
pub events_within : (f : Function) (s : State) (made : ℕ)
    → length (after f s (zeros made)).events ≤ length s.events + made
events_within f s made = omega (arith, run_adds f s (zeros made), length-replicate made (choice.Number 0))
