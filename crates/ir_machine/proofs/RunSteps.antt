-- Runs of a machine, step by step, in which the number 0 is chosen.
use Rattle.std.specs.Prelude.{◌≡◌, ℕ, ◌+◌, ◌<◌, List, [], ◌∷◌, true, refl}
use Rattle.std.proofs.Common.{ap, sym, ◌∙◌, below_none, below_more}
use Rattle.std.proofs.lemmas.Bool.{false≢true}
use Rattle.std.proofs.lemmas.List.{replicate_more}
use Rattle.ir_model.specs.declared.function.Function.{Function}
use Rattle.ir_meaning.specs.Phases.{Phase}
use Rattle.ir_meaning.specs.Phases as phase
use Rattle.ir_meaning.specs.declared.choice.Choice.{Choice}
use Rattle.ir_meaning.specs.declared.choice.Choice.TheVariants as choice
use Rattle.ir_meaning.specs.State.{State, is_running}
use Rattle.ir_meaning.specs.Step.{instr_at, carried_out, step}
use Rattle.ir_meaning.specs.Run.{after}
use Rattle.ir_machine.specs.Phases.{phase_of}
use Rattle.ir_machine.specs.Stands.{Seen, Stands}
use Rattle.ir_machine.specs.Zeros.{zeros}
use Rattle.ir_meaning.proofs.RunInvariants.{after-append}
use Rattle.ir_machine.proofs.MachineSteps.{stands_stepped}

-- one more step
pub after_more : (f : Function) (s : State) (made : ℕ)
    → after f s (zeros (made + 1)) ≡ step f (choice.Number 0) (after f s (zeros made))
after_more f s made =
    ap (λ (choices : List Choice). after f s choices) (sym (replicate_more made (choice.Number 0)))
    ∙ after-append f s (zeros made) (choice.Number 0 ∷ [])

pub is_running_true : (how : Phase) → is_running how ≡ true → how ≡ phase.Running
is_running_true phase.Running running = refl
is_running_true _ running = absurd (false≢true running)

-- The machine has made so many steps, and went on before each.
pub record HasRun (f : Function) (first m : Seen) (made : ℕ) : Type 0 where
  pub exact : (s : State) → Stands first s → Stands m (after f s (zeros made))
  pub running : (s : State) → Stands first s → (k : ℕ) → k < made → (after f s (zeros k)).phase ≡ phase.Running

pub none_made : (f : Function) (m : Seen) → HasRun f m m 0
none_made f m = record { exact = λ s h. h; running = λ s h. below_none _ }

pub one_made : (f : Function) (first m next : Seen) (made : ℕ) → HasRun f first m made
    → is_running (phase_of m.phase) ≡ true
    → ((s : State) → Stands m s → Stands next (carried_out f (choice.Number 0) s (instr_at f s)))
    → HasRun f first next (made + 1)
one_made f first m next made before goes_on exact =
    record {
      exact = λ s h.
          let now = before.exact s h in
          rw (after_more f s made)
          (stands_stepped f (choice.Number 0) m next (after f s (zeros made)) now goes_on
          (exact (after f s (zeros made)) now));
      running = λ s h.
          below_more _ made (before.running s h)
          (sym (before.exact s h).phase ∙ is_running_true (phase_of m.phase) goes_on);
    }
