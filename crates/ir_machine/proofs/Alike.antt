-- A step looks at neither the events nor the trail, and adds the same events whichever there are. So two states for
-- which one machine stands have runs with the same phases.
use Rattle.std.specs.Prelude.{◌≡◌, ℕ, ◌-◌, ◌≤◌, ◌^◌, replicate, Bool, true, false, if◌then◌else◌, List, [], ◌∷◌, Option}
use Rattle.std.specs.Prelude.{Some, None, refl}
use Rattle.std.proofs.Common.{ap, sym, ◌∙◌, arith}
use Rattle.std.proofs.Math.Path.{fun_ext}
use Rattle.std.proofs.lemmas.List.{length-replicate}
use Rattle.scev_base.specs.declared.ids.ValueId.{ValueId}
use Rattle.ir_model.specs.declared.types.IrType.{IrType}
use Rattle.ir_model.specs.declared.types.IrType.TheVariants.{Int}
use Rattle.ir_model.specs.declared.op.TypedOperand.{TypedOperand}
use Rattle.ir_model.specs.declared.op.Op.{Op}
use Rattle.ir_model.specs.declared.op.Op.TheVariants.{Alloca, Load, Store, Gep, Call}
use Rattle.ir_model.specs.declared.function.Instr.{Instr}
use Rattle.ir_model.specs.declared.function.Block.{Block}
use Rattle.ir_model.specs.declared.function.Function.{Function}
use Rattle.ir_model.specs.Callees.{is_min_max}
use Rattle.ir_model.specs.Shapes.{block_of, leading_phis, is_terminator}
use Rattle.ir_meaning.specs.declared.choice.Choice.{Choice}
use Rattle.ir_meaning.specs.State.{Registers, Event, State, is_running}
use Rattle.ir_meaning.specs.Operands.{chosen}
use Rattle.ir_meaning.specs.Effects.{Effect, Goes, Ends}
use Rattle.ir_meaning.specs.Calls.{Answered, answered, outside_call}
use Rattle.ir_meaning.specs.Step.{Computed, Gives, Fails, Way, Enters, Leaves, computed, gone, effect, way, with_phis}
use Rattle.ir_meaning.specs.Step.{behind_phis, entered, after_effect, after_way, instr_at, carried_out, step}
use Rattle.ir_meaning.specs.Run.{after}
use Rattle.never_stuck.specs.NeverStuck.{NeverStuckFrom}
use Rattle.ir_machine.specs.Stands.{Seen, Stands, register}
use Rattle.ir_machine.specs.Phases.{phase_of}
use Rattle.ir_machine.specs.Runnable.{IsSafe}

-- the state without its events and its trail
bare : State → State
bare s = record s { events = []; trail = [] }

-- ---- one step

module _ (f : Function) (choice : Choice) (s : State) where
  behind_bare : (b : ℕ) (block : Block) (registers : Option Registers)
      → bare (behind_phis b block s registers) ≡ bare (behind_phis b block (bare s) registers)
  unfolding bare
  behind_bare b block None = refl
  behind_bare b block (Some registers) = refl

  entered_bare : (n b : ℕ) (block : Option Block) → bare (entered n b s block) ≡ bare (entered n b (bare s) block)
  unfolding bare
  entered_bare n b None = refl
  entered_bare n b (Some block) =
      behind_bare b block (with_phis s.registers n s.block (leading_phis block.instrs) s.registers)

  way_bare : (n : ℕ) (w : Way) → bare (after_way f n s w) ≡ bare (after_way f n (bare s) w)
  unfolding bare
  way_bare n (Enters b) = entered_bare n b (block_of f b)
  way_bare n (Leaves how) = refl

  gone_bare : (c : Computed) → gone s c ≡ gone (bare s) c
  unfolding bare
  gone_bare (Gives x) = refl
  gone_bare (Fails how) = refl

  outside_bare : (callee : List ℕ) (args : List TypedOperand) (a : Option Answered)
      → outside_call s callee args a ≡ outside_call (bare s) callee args a
  unfolding bare
  outside_bare callee args None = refl
  outside_bare callee args (Some a) = refl

  called_bare : (ret : IrType) (callee : List ℕ) (args : List TypedOperand) (pure : Bool)
      → (if pure then gone s (computed s.registers (chosen choice) (Call ret callee args))
      else outside_call s callee args (answered choice ret s.memory))
      ≡ (if pure then gone (bare s) (computed (bare s).registers (chosen choice) (Call ret callee args))
      else outside_call (bare s) callee args (answered choice ret (bare s).memory))
  unfolding bare
  called_bare ret callee args true = gone_bare (computed s.registers (chosen choice) (Call ret callee args))
  called_bare ret callee args false = outside_bare callee args (answered choice ret s.memory)

  effect_bare : (op : Op) → effect choice s op ≡ effect choice (bare s) op
  unfolding bare
  effect_bare (Alloca kind) = refl
  effect_bare (Load (Int w) from) = refl
  effect_bare (Store (Int w) value to) = refl
  effect_bare (Gep inbounds kind base indices) = refl
  effect_bare (Call ret callee args) = called_bare ret callee args (is_min_max callee)
  effect_bare op = gone_bare (computed s.registers (chosen choice) op)

  behind_effect : (result : Option ValueId) (e : Effect)
      → bare (after_effect result s e) ≡ bare (after_effect result (bare s) e)
  unfolding bare
  behind_effect result (Goes x memory events) = refl
  behind_effect result (Ends how) = refl

  instr_bare : (instr : Instr) (ends : Bool) → is_terminator instr.op ≡ ends
      → bare (carried_out f choice s (Some instr)) ≡ bare (carried_out f choice (bare s) (Some instr))
  unfolding bare
  instr_bare instr true is = rw is (way_bare (chosen choice) (way s.registers (chosen choice) instr.op))
  instr_bare instr false is =
      rw is
      (behind_effect instr.result (effect choice s instr.op)
      ∙ ap (λ (e : Effect). bare (after_effect instr.result (bare s) e)) (effect_bare instr.op))

  carried_bare : (instr : Option Instr)
      → bare (carried_out f choice s instr) ≡ bare (carried_out f choice (bare s) instr)
  unfolding bare
  carried_bare None = refl
  carried_bare (Some instr) = instr_bare instr (is_terminator instr.op) refl

  step_bare : bare (step f choice s) ≡ bare (step f choice (bare s))
  unfolding bare step
  step_bare = each (is_running s.phase)
    where
      each : (runs : Bool) → bare (if runs then carried_out f choice s (instr_at f s) else s)
          ≡ bare (if runs then carried_out f choice (bare s) (instr_at f s) else bare s)
      each true = carried_bare (instr_at f s)
      each false = refl

-- ---- all steps

after_bare : (f : Function) (choices : List Choice) (s t : State) → bare s ≡ bare t
    → bare (after f s choices) ≡ bare (after f t choices)
after_bare f [] s t same = same
after_bare f (choice ∷ choices) s t same =
    after_bare f choices (step f choice s) (step f choice t)
    (step_bare f choice s ∙ ap (λ (u : State). bare (step f choice u)) same ∙ sym (step_bare f choice t))

phase_bare : (s t : State) → bare s ≡ bare t → s.phase ≡ t.phase
unfolding bare
phase_bare s t same = ap (λ (u : State). u.phase) same

-- ---- states of one machine

module _ (m : Seen) (s t : State) (h : Stands m s) (k : Stands m t) where
  same_bare : bare s ≡ bare t
  unfolding bare
  same_bare =
      let block : s.block ≡ t.block = sym h.block ∙ k.block in
      let place : s.place ≡ t.place = sym h.place ∙ k.place in
      let previous : s.previous ≡ t.previous = sym h.previous ∙ k.previous in
      let registers : s.registers ≡ t.registers = fun_ext (λ v. sym (h.registers v) ∙ k.registers v) in
      let memory : s.memory ≡ t.memory = sym h.memory ∙ k.memory in
      let how : s.phase ≡ t.phase = sym h.phase ∙ k.phase in
      rw (block, place, previous, registers, memory, how) refl

-- one of them that is never stuck suffices
pub safe_from : (f : Function) (m : Seen) (s : State) → Stands m s → NeverStuckFrom f s → IsSafe f m
safe_from f m s h never t k choices stuck =
    let same = after_bare f choices s t (same_bare m s t h k) in
    never choices (phase_bare (after f s choices) (after f t choices) same ∙ stuck)

-- ---- a state for which a machine stands

an_event : Event
an_event = record { callee = []; args = []; before = []; answer = None; after = [] }

pub state_of : Seen → State
state_of m = record {
  block = m.block;
  place = m.place;
  previous = m.previous;
  registers = register m.registers;
  memory = m.memory;
  events = replicate m.events an_event;
  phase = phase_of m.phase;
  trail = [];
}

pub stands_for_one : (m : Seen) → m.events ≤ 2 ^ 64 - 1 → Stands m (state_of m)
unfolding state_of
stands_for_one m within =
    record {
      block = refl;
      place = refl;
      previous = refl;
      registers = λ v. refl;
      memory = refl;
      events = let count = length-replicate m.events an_event in omega (arith, count);
      phase = refl;
    }
