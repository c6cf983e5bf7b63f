-- Each step of a sound state that runs leads to a sound state that runs, or ends the run, and never stuck.
use Rattle.std.proofs.Common.{◌≡◌, ◌≢◌, ℕ, suc, ◌+◌, ◌<◌, ◌⊎◌, true, false, List, length, Option, Some, None, Contains}
use Rattle.std.proofs.Common.{refl, sym, ◌∙◌, inl, inr, arith}
use Rattle.std.proofs.lemmas.Bool.{cases_Bool}
use Rattle.std.proofs.lemmas.Option.{none-some}
use Rattle.ir_model.specs.declared.function.Instr.{Instr}
use Rattle.ir_model.specs.declared.function.Function.{Function}
use Rattle.ir_model.specs.declared.signature.Signatures.{Signatures}
use Rattle.ir_model.specs.Defined.{given_type}
use Rattle.ir_model.specs.Shapes.{block_of, targets, is_terminator}
use Rattle.ir_model.specs.Walks.{Edge}
use Rattle.ir_rules.specs.Uses.{UsesAreDefined}
use Rattle.ir_memory.specs.Memory.{Memory}
use Rattle.ir_meaning.specs.declared.value.Value.{Value}
use Rattle.ir_meaning.specs.Phases.{Phase}
use Rattle.ir_meaning.specs.Phases as phase
use Rattle.ir_meaning.specs.declared.choice.Choice.{Choice}
use Rattle.ir_meaning.specs.State.{Event, State, is_running}
use Rattle.ir_meaning.specs.Operands.{chosen}
use Rattle.ir_meaning.specs.Effects.{Effect, Goes, Ends}
use Rattle.ir_meaning.specs.Run.{GivesTo}
use Rattle.ir_meaning.specs.Step.{Way, Enters, Leaves, way, effect, with_given, entered, after_effect, after_way}
use Rattle.ir_meaning.specs.Step.{instr_at, carried_out, step}
use Rattle.never_stuck.proofs.Sound.{Holds, StandsIn, Sound}
use Rattle.ir_model.specs.WellMade.{IsWellMade}
use Rattle.ir_rules.specs.Accepted.{IsAccepted}
use Rattle.never_stuck.proofs.TypedEffects.{SuitsGiven, Suits, effect_typed}
use Rattle.never_stuck.proofs.TypedOps.{way_typed}
use Rattle.never_stuck.proofs.Accepted.{ends_at, facts_at}
use Rattle.never_stuck.proofs.DefinedTypes.{result_typed}
use Rattle.never_stuck.proofs.Elements.{contains_at, flat_map_has}
use Rattle.never_stuck.proofs.Registers.{SuitsResult, held_set}
use Rattle.never_stuck.proofs.Standing.{stands_at, at_instr, no_phi, operands_held, passed_next}
use Rattle.never_stuck.proofs.Entered.{entered_sound}

-- A state is sound and runs, or the run has come to an end that isn't stuck.
abbrev pub IsWell : Function → State → Type 0
IsWell f t = (Sound f t × (t.phase ≡ phase.Running))
    ⊎ ((how : Phase) × (t.phase ≡ how) × (how ≢ phase.Stuck) × (how ≢ phase.Running))

carried_on : (f : Function) (choice : Choice) (s : State) (instr : Instr) → s.phase ≡ phase.Running
    → instr_at f s ≡ Some instr → step f choice s ≡ carried_out f choice s (Some instr)
unfolding step
carried_on f choice s instr running at =
    let runs : is_running s.phase ≡ true = rw running refl in
    rw (runs, at) refl

module _ (signatures : Signatures) (f : Function) (made : IsWellMade f) (accepted : IsAccepted signatures f)
    (defined : UsesAreDefined f) (choice : Choice) (s : State) (sound : Sound f s)
    (running : s.phase ≡ phase.Running) where
  module _ (instr : Instr) (stands : StandsIn f s.block s.place sound.block instr) where
    -- ---- an instruction that ends no block

    module _ (other : is_terminator instr.op ≡ false) where
      -- what was held is held with what is given, and so is the result
      held_given : (x : Option Value) → SuitsGiven (given_type instr.op) instr.result x → (v : ℕ)
          → Holds f s.registers v ⊎ GivesTo v instr → Holds f (with_given s.registers instr.result x) v
      held_given None none v known =
          elim known [ inl held ↦ held | inr gives ↦ absurd (none-some (record { 0 = v }) (sym none ∙ gives)) ]
      held_given (Some x) typed v known =
          let suits : SuitsResult f instr.result x =
          λ v gives.
          rw (result_typed signatures f made accepted s.block s.place sound.block instr v stands gives) typed in
          held_set f s.registers instr.result x suits v known

      next_sound : (x : Option Value) (memory : Memory) (events : List Event)
          → Suits (given_type instr.op) instr.result (Goes x memory events)
          → Sound f (after_effect instr.result s (Goes x memory events))
      next_sound x memory events suits =
          let within : suc s.place < length sound.block.instrs =
          ends_at signatures f made accepted s.block s.place sound.block instr stands other in
          record {
            before = sound.before;
            trail = sound.trail;
            walk = sound.walk;
            block = sound.block;
            at = sound.at;
            within = omega (arith, within);
            behind = omega (arith, sound.behind);
            held = λ v passed.
                let known =
                passed_next signatures f made accepted s sound instr stands v (s.place + 1) (omega arith) passed in
                held_given x suits.0 v
                (elim known [ inl before ↦ inl (sound.held v before) | inr gives ↦ inr gives ]);
            bytes = suits.1;
          }

      goes_well : (what : Effect) → Suits (given_type instr.op) instr.result what
          → IsWell f (after_effect instr.result s what)
      goes_well (Goes x memory events) suits = inl (next_sound x memory events suits, running)
      goes_well (Ends how) suits =
          elim suits [
            | inl undefined ↦ rw undefined (inr (phase.Undefined, refl, (λ e. cc), (λ e. cc)))
            | inr stopped ↦ rw stopped (inr (phase.Stopped, refl, (λ e. cc), (λ e. cc)))
          ]

      pub on_well : IsWell f (carried_out f choice s (Some instr))
      on_well =
          let held = operands_held signatures f made accepted s sound instr stands defined in
          rw other (goes_well (effect choice s instr.op)
          (effect_typed signatures f choice s sound.bytes s.block instr
          (facts_at signatures f made accepted s.block s.place sound.block instr stands) other
          (no_phi signatures f made accepted s sound instr stands) held))

    -- ---- one that ends its block

    module _ (last : is_terminator instr.op ≡ true) where
      edge_to : (to : ℕ) → Contains (targets instr.op) to → Edge f s.block to
      edge_to to leads = (
        sound.block,
        sound.at,
        flat_map_has (λ (one : Instr). targets one.op) sound.block.instrs instr to
            (contains_at sound.block.instrs s.place instr stands.instr) leads,
      )

      entered_well : (to : ℕ) → Contains (targets instr.op) to
          → IsWell f (entered (chosen choice) to s (block_of f to))
      entered_well to leads =
          let found = (facts_at signatures f made accepted s.block s.place sound.block instr stands).leads to leads in
          let next =
          entered_sound signatures f made accepted defined s sound instr stands last to (edge_to to leads) found.0
          found.1 (chosen choice) in
          rw (found.1, next.1) (inl (next.2, running))

      left_well : (w : Way)
          → ((to : ℕ) × (w ≡ Enters to) × Contains (targets instr.op) to)
          ⊎ ((how : Phase) × (w ≡ Leaves how) × (how ≢ phase.Stuck) × (how ≢ phase.Running))
          → IsWell f (after_way f (chosen choice) s w)
      left_well w known =
          elim known [
            | inl enters ↦ rw enters.1 (entered_well enters.0 enters.2)
            | inr leaves ↦ rw leaves.1 (inr (leaves.0, refl, leaves.2, leaves.3))
          ]

      pub off_well : IsWell f (carried_out f choice s (Some instr))
      off_well =
          let held = operands_held signatures f made accepted s sound instr stands defined in
          let known =
          way_typed signatures f s.block instr s.registers (chosen choice)
          (facts_at signatures f made accepted s.block s.place sound.block instr stands) last held in
          rw last (left_well (way s.registers (chosen choice) instr.op) known)

    instr_well : IsWell f (step f choice s)
    instr_well =
        let at = at_instr signatures f made accepted s sound instr stands in
        rw (carried_on f choice s instr running at)
        (elim (cases_Bool (is_terminator instr.op)) [ inl last ↦ off_well last | inr other ↦ on_well other ])

  pub step_sound : IsWell f (step f choice s)
  step_sound =
      let there = stands_at signatures f made accepted s sound in
      instr_well there.0 there.1
