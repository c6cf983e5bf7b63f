-- One step of a run.
use Rattle.std.specs.Prelude.{ℕ, ◌+◌, ◌%◌, ◌^◌, ◌==◌, List, [], ◌∷◌, ◌++◌, length, true, false, if◌then◌else◌, Option}
use Rattle.std.specs.Prelude.{Some, None, option_and_then, option_map, slice_get, find}
use Rattle.scev_base.specs.declared.ids.ValueId.{ValueId}
use Rattle.scev_base.specs.Residue.{residue}
use Rattle.scev_base.specs.declared.pred.Pred.TheVariants as pred
use Rattle.ir_model.specs.declared.types.IrType.TheVariants.{Int, Ptr}
use Rattle.ir_model.specs.declared.op.TypedOperand.{TypedOperand}
use Rattle.ir_model.specs.declared.op.Case.{Case}
use Rattle.ir_model.specs.declared.op.Operand.{Operand}
use Rattle.ir_model.specs.declared.op.PhiEntry.{PhiEntry}
use Rattle.ir_model.specs.declared.min_max.MinMax.{MinMax}
use Rattle.ir_model.specs.declared.op.Op.{Op}
use Rattle.ir_model.specs.declared.op.Op.TheVariants.{Binary, Icmp, Cast, Select, Phi, Freeze, Alloca, Load, Store, Gep}
use Rattle.ir_model.specs.declared.op.Op.TheVariants.{Call, Jump, Branch, Switch, Ret, Unreachable}
use Rattle.ir_model.specs.declared.function.Instr.{Instr}
use Rattle.ir_model.specs.declared.function.Block.{Block}
use Rattle.ir_model.specs.declared.function.Function.{Function}
use Rattle.ir_model.specs.Callees.{min_max_named, is_min_max}
use Rattle.ir_model.specs.Shapes.{block_of, leading_phis, is_terminator}
use Rattle.ir_memory.specs.Memory.{Memory}
use Rattle.ir_meaning.specs.declared.value.Value.{Value}
use Rattle.ir_meaning.specs.declared.value.Value.TheVariants as value
use Rattle.ir_meaning.specs.Phases.{Phase}
use Rattle.ir_meaning.specs.Phases as phase
use Rattle.ir_meaning.specs.declared.choice.Choice.{Choice}
use Rattle.ir_meaning.specs.State.{Registers, set, Event, State, is_running, ended}
use Rattle.ir_meaning.specs.Operands.{chosen, operand_value}
use Rattle.ir_meaning.specs.Effects.{Effect, Goes, Ends, with_operand, with_operands}
use Rattle.ir_meaning.specs.Accesses.{allocated, loaded_at, stored_at, index_values, addressed}
use Rattle.ir_meaning.specs.Calls.{answered, outside_call}
use Rattle.ir_meaning.specs.Rows.{on_numbers, compared, binary_row, converted, compared_pointers, min_max_row}

-- What follows from the operands alone, where an operation is computed: its value, or the end of the run.
pub data Computed : Type 0 where
  Gives : Value → Computed
  Fails : Phase → Computed

-- What a terminator does: control goes to a block, or the run ends. So what leads to a block gives no value.
pub data Way : Type 0 where
  Enters : ℕ → Way
  Leaves : Phase → Way

-- ---- what is computed

-- what follows from an operand's value; without one the run is stuck
abbrev pub with_value : Option Value → (Value → Computed) → Computed
with_value None what = Fails phase.Stuck
with_value (Some x) what = what x

-- what an operation gives, where its behaviour is defined
abbrev pub given : Option Value → Computed
given None = Fails phase.Undefined
given (Some x) = Gives x

-- what `select` gives: poison on a poison condition, else the arm that is chosen, whatever the other one is
abbrev pub arm_value : Registers → ℕ → TypedOperand → Computed
arm_value registers n typed = with_value (operand_value registers n typed.kind typed.value) Gives

abbrev pub chosen_arm : Registers → ℕ → TypedOperand → TypedOperand → Value → Computed
chosen_arm registers n left right (value.Number c) =
    if c == 0 then arm_value registers n right else arm_value registers n left
chosen_arm registers n left right _ = Gives value.Poison

-- what a call gives that is one of a minimum or a maximum
abbrev pub called : Registers → ℕ → ℕ → Option MinMax → Operand → Operand → Computed
called registers n w None left right = Fails phase.Stuck
called registers n w (Some kind) left right =
    with_value (operand_value registers n (Int w) left) (λ a.
    with_value (operand_value registers n (Int w) right) (λ b.
    Gives (on_numbers (min_max_row kind w) a b)))

-- `freeze`: the value, or the chosen number modulo 2^w for poison
abbrev pub frozen : ℕ → ℕ → Value → Value
frozen w n value.Poison = value.Number (n % 2 ^ w)
frozen w n x = x

-- The operations that are computed from their operands, with the registers and the chosen number, row by row. A phi has
-- no row: it is carried out by the branch that enters its block. Where an operation stands with types for which it has
-- none, a run is stuck.
abbrev pub computed : Registers → ℕ → Op → Computed
computed registers n (Binary op nuw nsw exact disjoint (Int w) left right) =
    with_value (operand_value registers n (Int w) left) (λ a.
    with_value (operand_value registers n (Int w) right) (λ b.
    given (binary_row op nuw nsw exact disjoint w a b)))
computed registers n (Icmp pred (Int w) left right) =
    with_value (operand_value registers n (Int w) left) (λ a.
    with_value (operand_value registers n (Int w) right) (λ b.
    Gives (on_numbers (compared pred w) a b)))
computed registers n (Icmp pred.Eq Ptr left right) =
    with_value (operand_value registers n Ptr left) (λ a.
    with_value (operand_value registers n Ptr right) (λ b.
    Gives (compared_pointers true n a b)))
computed registers n (Icmp pred.Ne Ptr left right) =
    with_value (operand_value registers n Ptr left) (λ a.
    with_value (operand_value registers n Ptr right) (λ b.
    Gives (compared_pointers false n a b)))
computed registers n (Cast op nneg (Int v) operand (Int w)) =
    with_value (operand_value registers n (Int v) operand) (λ x. Gives (converted op nneg v w x))
computed registers n (Select cond left right) =
    with_value (operand_value registers n (Int 1) cond) (λ c. chosen_arm registers n left right c)
computed registers n (Freeze (Int w) operand) =
    with_value (operand_value registers n (Int w) operand) (λ x. Gives (frozen w n x))
computed registers n (Call (Int w) callee (left ∷ right ∷ [])) =
    called registers n w (min_max_named callee) left.value right.value
computed registers n _ = Fails phase.Stuck

-- ---- where a terminator leads

-- what follows from an operand's value; without one the run is stuck
abbrev pub by_value : Option Value → (Value → Way) → Way
by_value None what = Leaves phase.Stuck
by_value (Some x) what = what x

-- where a branch on a value goes: nowhere on poison, whose behaviour is undefined
abbrev pub branched : Value → ℕ → ℕ → Way
branched (value.Number n) there else_there = Enters (if n == 0 then else_there else there)
branched _ there else_there = Leaves phase.Undefined

-- where a `switch` goes: to the target of the first case with the number, else to the other one; nowhere on poison
abbrev pub case_target : ℕ → List Case → ℕ → ℕ → ℕ
case_target w [] other x = other
case_target w (one ∷ cases) other x = if residue w one.number == x then one.to.0 else case_target w cases other x

abbrev pub switched : ℕ → List Case → ℕ → Value → Way
switched w cases other (value.Number x) = Enters (case_target w cases other x)
switched w cases other _ = Leaves phase.Undefined

abbrev pub way : Registers → ℕ → Op → Way
way registers n (Switch (Int w) operand other cases) =
    by_value (operand_value registers n (Int w) operand) (λ x. switched w cases other.0 x)
way registers n (Jump to) = Enters to.0
way registers n (Branch cond there else_there) =
    by_value (operand_value registers n (Int 1) cond) (λ c. branched c there.0 else_there.0)
way registers n (Ret None) = Leaves (phase.Returned None)
way registers n (Ret (Some typed)) =
    by_value (operand_value registers n typed.kind typed.value) (λ x. Leaves (phase.Returned (Some x)))
way registers n Unreachable = Leaves phase.Undefined
way registers n _ = Leaves phase.Stuck

-- ---- what an operation does

-- what is computed leaves memory as it is, and adds no event
abbrev pub gone : State → Computed → Effect
gone s (Gives x) = Goes (Some x) s.memory []
gone s (Fails how) = Ends how

-- The effect of an operation that isn't a terminator, with what is chosen in the step.
abbrev pub effect : Choice → State → Op → Effect
effect choice s (Alloca kind) = allocated s.memory kind
effect choice s (Load (Int w) from) =
    with_operand (operand_value s.registers (chosen choice) Ptr from) (λ p. loaded_at s.memory w (chosen choice) p)
effect choice s (Store (Int w) operand to) =
    with_operand (operand_value s.registers (chosen choice) (Int w) operand) (λ x.
    with_operand (operand_value s.registers (chosen choice) Ptr to) (λ p. stored_at s.memory w x p))
effect choice s (Gep inbounds kind base indices) =
    with_operand (operand_value s.registers (chosen choice) Ptr base) (λ p.
    with_operands (index_values s.registers (chosen choice) indices) (λ xs. addressed s.memory inbounds kind p xs))
effect choice s (Call ret callee args) =
    if is_min_max callee then gone s (computed s.registers (chosen choice) (Call ret callee args))
    else outside_call s callee args (answered choice ret s.memory)
effect choice s op = gone s (computed s.registers (chosen choice) op)

-- the operand that a phi has for control from the block: that of the first entry with it
abbrev pub entry_from : ℕ → List PhiEntry → Option Operand
entry_from from entries = option_map (λ entry. entry.value) (find (λ entry. entry.from.0 == from) entries)

-- the value of a phi where control comes from the block
abbrev pub phi_value : Registers → ℕ → ℕ → Op → Option Value
phi_value registers n from (Phi kind entries) =
    option_and_then (operand_value registers n kind) (entry_from from entries)
phi_value registers n from _ = None

-- All phis at once: the value of each is read in the registers before, and set in those after. There are none where a
-- phi has no value.
abbrev pub with_phis : Registers → ℕ → ℕ → List Instr → Registers → Option Registers
with_phis before n from [] after = Some after
with_phis before n from (instr ∷ instrs) after =
    option_and_then (λ x. with_phis before n from instrs (set after instr.result x)) (phi_value before n from instr.op)

-- the state behind the leading phis of a block that control enters
abbrev pub behind_phis : ℕ → Block → State → Option Registers → State
behind_phis b block s None = ended phase.Stuck s
behind_phis b block s (Some registers) = record s {
  block = b;
  place = length (leading_phis block.instrs);
  previous = Some s.block;
  registers = registers;
  trail = b ∷ s.trail;
}

abbrev pub entered : ℕ → ℕ → State → Option Block → State
entered n b s None = ended phase.Stuck s
entered n b s (Some block) =
    behind_phis b block s (with_phis s.registers n s.block (leading_phis block.instrs) s.registers)

-- the registers with what an instruction gives, if anything, in the register of its result
abbrev pub with_given : Registers → Option ValueId → Option Value → Registers
with_given registers result None = registers
with_given registers result (Some x) = set registers result x

-- the state after an effect, and after a terminator
abbrev pub after_effect : Option ValueId → State → Effect → State
after_effect result s (Goes x memory events) = record s {
  place = s.place + 1;
  registers = with_given s.registers result x;
  memory = memory;
  events = s.events ++ events;
}
after_effect result s (Ends how) = ended how s

abbrev pub after_way : Function → ℕ → State → Way → State
after_way f n s (Enters b) = entered n b s (block_of f b)
after_way f n s (Leaves how) = ended how s

-- the instruction at which a state stands
abbrev pub instr_at : Function → State → Option Instr
instr_at f s = option_and_then (λ block. slice_get block.instrs s.place) (block_of f s.block)

abbrev pub carried_out : Function → Choice → State → Option Instr → State
carried_out f choice s None = ended phase.Stuck s
carried_out f choice s (Some instr) =
    if is_terminator instr.op then after_way f (chosen choice) s (way s.registers (chosen choice) instr.op)
    else after_effect instr.result s (effect choice s instr.op)

-- One step: the instruction is carried out, and with a branch all phis of the entered block. A run that has come to an
-- end stays as it is.
unfoldable pub step : Function → Choice → State → State
step f choice s = if is_running s.phase then carried_out f choice s (instr_at f s) else s
