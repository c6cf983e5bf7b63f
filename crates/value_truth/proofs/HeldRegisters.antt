-- In each state of a run of an accepted function the registers that are available hold values of their types.
use Rattle.std.proofs.Common.{◌≡◌, ◌≢◌, ℕ, false, List, [], ◌∷◌, refl, sym, ◌∙◌, inl, inr}
use Rattle.ir_model.specs.declared.function.Function.{Function}
use Rattle.ir_model.specs.declared.signature.Signatures.{Signatures}
use Rattle.ir_model.specs.Walks.{Trail}
use Rattle.ir_model.specs.WellMade.{IsWellMade}
use Rattle.ir_rules.specs.Accepted.{IsAccepted}
use Rattle.ir_rules.specs.Uses.{HasPassed}
use Rattle.ir_meaning.specs.Phases.{Phase}
use Rattle.ir_meaning.specs.Phases as phase
use Rattle.ir_meaning.specs.declared.choice.Choice.{Choice}
use Rattle.ir_meaning.specs.State.{State, is_running}
use Rattle.ir_meaning.specs.Step.{step}
use Rattle.ir_memory.specs.Memory.{Memory}
use Rattle.ir_meaning.specs.declared.value.Value.{Value}
use Rattle.ir_meaning.specs.Run.{MayStart, Run, start, after, last}
use Rattle.ir_meaning.proofs.StepShape.{Stepped, stays, ends, goes_on, enters, stepped}
use Rattle.never_stuck.proofs.Sound.{Holds, Sound}
use Rattle.never_stuck.proofs.Started.{start_sound}
use Rattle.never_stuck.proofs.Kept.{IsWell, step_sound}
use Rattle.value_truth.specs.Available.{IsAvailable}

-- The state's trail is a walk to its block, and what that has passed holds values.
pub record IsHeld (f : Function) (s : State) : Type 0 where
  pub before : List ℕ
  pub trail : s.trail ≡ s.block ∷ before
  pub walk : Trail f (s.block ∷ before)
  pub held : (v : ℕ) → HasPassed f v before s.block s.place → Holds f s.registers v

held_of_sound : (f : Function) (s : State) → Sound f s → IsHeld f s
held_of_sound f s sound = record {
  before = sound.before;
  trail = sound.trail;
  walk = sound.walk;
  held = sound.held;
}

-- a state that still runs after a step is sound
still_sound : (f : Function) (t : State) → IsWell f t → t.phase ≡ phase.Running → Sound f t
still_sound f t (inl runs) running = runs.0
still_sound f t (inr ended) running = absurd (ended.3 (sym ended.1 ∙ running))

over : (how : Phase) → how ≢ phase.Running → is_running how ≡ false
over phase.Running ended = absurd (ended refl)
over _ ended = refl

-- a run that has come to an end stays as it is
pub stays_ended : (f : Function) (choice : Choice) (s : State) → s.phase ≢ phase.Running → step f choice s ≡ s
unfolding step
stays_ended f choice s ended = rw (over s.phase ended) refl

-- what is kept at each step
abbrev pub Kept : Function → State → Type 0
Kept f s = IsHeld f s × IsWell f s

module _ (signatures : Signatures) (f : Function) (made : IsWellMade f) (accepted : IsAccepted signatures f) where
  after_step : (choice : Choice) (s t : State) → IsHeld f s → IsWell f t → s.phase ≡ phase.Running
      → Stepped f choice s t → IsHeld f t
  after_step choice s t held well running (stays e) = rw e held
  after_step choice s t held well running (ends how e) =
      rw e (record { before = held.before; trail = held.trail; walk = held.walk; held = held.held })
  after_step choice s t held well running (goes_on instr x memory events at other goes e) =
      held_of_sound f t (still_sound f t well (rw e running))
  after_step choice s t held well running (enters instr b block registers at last leads found phis e) =
      held_of_sound f t (still_sound f t well (rw e running))

  step_kept : (choice : Choice) (s : State) → Kept f s → Kept f (step f choice s)
  step_kept choice s (held, inl runs) =
      let well = step_sound signatures f made accepted accepted.uses choice s runs.0 runs.1 in
      (after_step choice s (step f choice s) held well runs.1 (stepped f choice s), well)
  step_kept choice s (held, inr ended) =
      rw (stays_ended f choice s (λ running. ended.3 (sym ended.1 ∙ running))) (held, inr ended)

  after_kept : (choices : List Choice) (s : State) → Kept f s → Kept f (after f s choices)
  after_kept [] s kept = kept
  after_kept (choice ∷ choices) s kept = after_kept choices (step f choice s) (step_kept choice s kept)

  -- each state of a run is such
  pub kept_in_run : (args : List Value) (memory : Memory) → MayStart f.params args memory → (choices : List Choice)
      → Kept f (after f (start f args memory) choices)
  kept_in_run args memory may choices =
      let first = start_sound signatures f made accepted args memory may in
      after_kept choices (start f args memory) (held_of_sound f (start f args memory) first, inl (first, refl))

  pub available_held : (r : Run f) (v : ℕ) → IsAvailable f v (last f r).block (last f r).place
      → Holds f (last f r).registers v
  available_held r v available =
      let held = (kept_in_run r.args r.memory r.may r.choices).0 in
      held.held v (available held.before held.walk)
