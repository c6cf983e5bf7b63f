-- What the parts of a step do to a machine and to the state for which it stands.
use Rattle.std.specs.Prelude.{◌≡◌, ◌≢◌, ℕ, zero, suc, ◌+◌, replicate, true, false, List, [], ◌∷◌, length, Option, Some}
use Rattle.std.specs.Prelude.{None, slice_get, refl}
use Rattle.std.proofs.Common.{ap, sym, ◌∙◌, arith, length-append}
use Rattle.std.proofs.Math.Path.{fun_ext}
use Rattle.scev_base.specs.declared.ids.ValueId.{ValueId}
use Rattle.ir_model.specs.declared.function.Param.{Param}
use Rattle.ir_model.specs.declared.op.Op.{Op}
use Rattle.ir_model.specs.declared.function.Instr.{Instr}
use Rattle.ir_memory.specs.Memory.{Memory}
use Rattle.ir_model.specs.declared.function.Block.{Block}
use Rattle.ir_model.specs.declared.function.Function.{Function}
use Rattle.ir_meaning.specs.declared.value.Value.{Value}
use Rattle.ir_meaning.specs.Phases as phase
use Rattle.ir_meaning.specs.declared.choice.Choice.{Choice}
use Rattle.ir_meaning.specs.State.{Registers, State, is_running, ended}
use Rattle.ir_meaning.specs.Operands.{chosen}
use Rattle.ir_model.specs.Shapes.{entry, block_of, leading_phis, is_terminator}
use Rattle.ir_meaning.specs.Effects.{Effect, Ends}
use Rattle.ir_meaning.specs.Step.{Way, effect, way, with_phis, entered, with_given, after_effect, after_way, instr_at}
use Rattle.ir_meaning.specs.Step.{carried_out, step}
use Rattle.ir_meaning.specs.Run.{with_args, start}
use Rattle.ir_machine.specs.declared.phase.Phase.{Phase}
use Rattle.ir_machine.specs.declared.phase.Phase.TheVariants as found
use Rattle.ir_machine.specs.declared.effect.Done.TheVariants as done
use Rattle.ir_machine.specs.Effects.{Does}
use Rattle.ir_machine.specs.Phases.{phase_of}
use Rattle.ir_machine.specs.Runnable.{IsSafe}
use Rattle.ir_machine.specs.Stands.{Seen, Stands, register}
use Rattle.ir_machine.proofs.Alike.{safe_from}

module _ (m : Seen) (s : State) (h : Stands m s) where
  -- the registers are those of the state
  pub same_registers : register m.registers ≡ s.registers
  same_registers = fun_ext h.registers

  -- where a terminator leads with them
  pub same_way : (n : ℕ) (op : Op) (what : Way) → way (register m.registers) n op ≡ what → way s.registers n op ≡ what
  same_way n op what e = rw (← same_registers) e

  -- the end of a run
  pub stands_ended : (how : Phase) → Stands (record m { phase = how }) (ended (phase_of how) s)
  stands_ended how = record {
    block = h.block;
    place = h.place;
    previous = h.previous;
    registers = h.registers;
    memory = h.memory;
    events = h.events;
    phase = refl;
  }

  -- an operation behind which control goes on
  pub stands_gone : (target : Option ValueId) (x : Option Value) (e : Effect) (memory : Memory) (events : ℕ)
      (registers : List (Option Value)) → Does (done.Goes x) memory m.events events e
      → register registers ≡ with_given (register m.registers) target x
      → Stands (record m { place = m.place + 1; registers = registers; memory = memory; events = events })
      (after_effect target s e)
  stands_gone target x e memory events registers does are =
      rw does.1
      (record {
        block = h.block;
        place = ap (λ k. k + 1) h.place;
        previous = h.previous;
        registers = λ v.
            ap (λ (r : Registers). r v) (are ∙ ap (λ (r : Registers). with_given r target x) same_registers);
        memory = refl;
        events =
            let before = h.events in
            omega (arith, does.2, length-append s.events does.0);
        phase = h.phase;
      })

  module _ (n b : ℕ) (f : Function) (block : Block) (there : block_of f b ≡ Some block) (held : List (Option Value))
      (held_is : held ≡ m.registers) (phis : List Instr) (phis_are : phis ≡ leading_phis block.instrs) where
    -- what the phis give in the state
    same_phis : with_phis (register held) n m.block phis (register held)
        ≡ with_phis s.registers n s.block (leading_phis block.instrs) s.registers
    same_phis = rw (held_is, phis_are, same_registers, h.block) refl

    -- a block of which a phi has no value
    pub stuck_without : with_phis (register held) n m.block phis (register held) ≡ None
        → (entered n b s (block_of f b)).phase ≡ phase.Stuck
    stuck_without none = rw (there, sym same_phis ∙ none) refl

    -- a block that is entered
    pub stands_entered : (registers : List (Option Value))
        → with_phis (register held) n m.block phis (register held) ≡ Some (register registers)
        → Stands (record m { block = b; place = length phis; previous = Some m.block; registers = registers })
        (entered n b s (block_of f b))
    stands_entered registers some =
        rw (there, sym same_phis ∙ some)
        (record {
          block = refl;
          place = ap (λ (xs : List Instr). length xs) phis_are;
          previous = ap (λ (k : ℕ). Some k) h.block;
          registers = λ v. refl;
          memory = h.memory;
          events = h.events;
          phase = h.phase;
        })

-- a step of a machine that goes on
pub stands_stepped : (f : Function) (choice : Choice) (m after : Seen) (s : State) → Stands m s
    → is_running (phase_of m.phase) ≡ true → Stands after (carried_out f choice s (instr_at f s))
    → Stands after (step f choice s)
unfolding step
stands_stepped f choice m after s h running stands =
    let goes_on : is_running s.phase ≡ true = rw (← h.phase) running in
    rw goes_on stands

-- a step of one that has ended
pub stands_still : (f : Function) (choice : Choice) (m : Seen) (s : State) → Stands m s
    → is_running (phase_of m.phase) ≡ false → Stands m (step f choice s)
unfolding step
stands_still f choice m s h ended =
    let over : is_running s.phase ≡ false = rw (← h.phase) ended in
    rw over h

-- ---- machines that are safe and go on

module _ (f : Function) (choice : Choice) (m : Seen) (safe : IsSafe f m) (running : m.phase ≡ found.Running)
    (s : State) (h : Stands m s) where
  carried_on : carried_out f choice s (instr_at f s) ≡ step f choice s
  unfolding step
  carried_on =
      let goes_on : is_running s.phase ≡ true = rw (← h.phase, running) refl in
      rw goes_on refl

  not_stuck : (carried_out f choice s (instr_at f s)).phase ≢ phase.Stuck
  not_stuck stuck = safe s h (choice ∷ []) (rw (← carried_on) stuck)

  -- a machine that is a step further is safe
  safe_stepped : (after : Seen) → Stands after (carried_out f choice s (instr_at f s)) → IsSafe f after
  safe_stepped after stands =
      safe_from f after (step f choice s) (rw carried_on at stands) (λ choices. safe s h (choice ∷ choices))

  -- it stands before an instruction
  pub stands_somewhere : block_of f m.block ≡ None → ⊥
  stands_somewhere nowhere =
      let nowhere' : block_of f s.block ≡ None = rw (← h.block) nowhere in
      let none : instr_at f s ≡ None = rw nowhere' refl in
      not_stuck (rw none refl)

  module _ (block : Block) (there : block_of f m.block ≡ Some block) where
    at_place : instr_at f s ≡ slice_get block.instrs m.place
    at_place =
        let there' : block_of f s.block ≡ Some block = rw (← h.block) there in
        rw (there', h.place) refl

    pub stands_within : slice_get block.instrs m.place ≡ None → ⊥
    stands_within past = not_stuck (rw (at_place, past) refl)

    module _ (instr : Instr) (here : slice_get block.instrs m.place ≡ Some instr) where
      -- what a terminator does isn't stuck
      pub goes_way : is_terminator instr.op ≡ true
          → (after_way f (chosen choice) s (way s.registers (chosen choice) instr.op)).phase ≢ phase.Stuck
      goes_way ends stuck = not_stuck (rw (at_place, here, ends) stuck)

      -- and neither is what another operation does
      pub goes_effect : is_terminator instr.op ≡ false → effect choice s instr.op ≢ Ends phase.Stuck
      goes_effect other stuck = not_stuck (rw (at_place, here, other, stuck) refl)

      -- a machine behind it is safe
      pub safe_way : is_terminator instr.op ≡ true → (after : Seen)
          → Stands after (after_way f (chosen choice) s (way s.registers (chosen choice) instr.op)) → IsSafe f after
      safe_way ends after stands = safe_stepped after (rw (at_place, here, ends) stands)

      pub safe_effect : is_terminator instr.op ≡ false → (after : Seen)
          → Stands after (after_effect instr.result s (effect choice s instr.op)) → IsSafe f after
      safe_effect other after stands = safe_stepped after (rw (at_place, here, other) stands)

-- ---- the start of a run

-- registers of which none is set
unset_register : (n v : ℕ) → register (replicate n None) v ≡ None
unset_register zero v = refl
unset_register (suc n) zero = refl
unset_register (suc n) (suc v) = unset_register n v

pub stands_started : (f : Function) (args : List Value) (memory : Memory) (b n : ℕ) (params : List Param)
    (registers : List (Option Value)) → b ≡ entry f.blocks → params ≡ f.params
    → register registers ≡ with_args (register (replicate n None)) params args
    → Stands (record {
      block = b;
      place = 0;
      previous = None;
      registers = registers;
      memory = memory;
      events = 0;
      phase = found.Running;
    }) (start f args memory)
stands_started f args memory b n params registers first are set_are =
    record {
      block = first;
      place = refl;
      previous = refl;
      registers = λ v.
          ap (λ (r : Registers). r v)
          (set_are ∙ ap (λ (r : Registers). with_args r params args) (fun_ext (unset_register n))
          ∙ ap (λ (ps : List Param). with_args (λ _. None) ps args) are);
      memory = refl;
      events = refl;
      phase = refl;
    }
