-- No run that begins in a sound state comes to be stuck.
use Rattle.std.proofs.Common.{◌≡◌, ◌≢◌, false, List, [], ◌∷◌, refl, sym, ◌∙◌, inl, inr}
use Rattle.ir_model.specs.declared.function.Function.{Function}
use Rattle.ir_model.specs.declared.signature.Signatures.{Signatures}
use Rattle.ir_rules.specs.Uses.{UsesAreDefined}
use Rattle.ir_meaning.specs.Phases.{Phase}
use Rattle.ir_meaning.specs.Phases as phase
use Rattle.ir_meaning.specs.declared.choice.Choice.{Choice}
use Rattle.ir_meaning.specs.State.{State, is_running}
use Rattle.ir_meaning.specs.Step.{step}
use Rattle.ir_meaning.specs.Run.{start, after}
use Rattle.never_stuck.specs.NeverStuck.{NeverStuck}
use Rattle.ir_model.specs.WellMade.{IsWellMade}
use Rattle.ir_rules.specs.Accepted.{IsAccepted}
use Rattle.never_stuck.proofs.Started.{start_sound}
use Rattle.never_stuck.proofs.Kept.{IsWell, step_sound}

over : (how : Phase) → how ≢ phase.Running → is_running how ≡ false
over phase.Running ended = absurd (ended refl)
over _ ended = refl

-- a run that has come to an end stays as it is
stays_ended : (f : Function) (choice : Choice) (s : State) → s.phase ≢ phase.Running → step f choice s ≡ s
unfolding step
stays_ended f choice s ended = rw (over s.phase ended) refl

not_stuck : (f : Function) (t : State) → IsWell f t → t.phase ≢ phase.Stuck
not_stuck f t well stuck =
    elim well [
      | inl runs ↦
          let running = runs.1 in
          absurd (cc (running, stuck))
      | inr ended ↦ ended.2 (sym ended.1 ∙ stuck)
    ]

module _ (signatures : Signatures) (f : Function) (made : IsWellMade f) (accepted : IsAccepted signatures f)
    (defined : UsesAreDefined f) where
  step_well : (choice : Choice) (s : State) → IsWell f s → IsWell f (step f choice s)
  step_well choice s well =
      elim well [
        | inl runs ↦ step_sound signatures f made accepted defined choice s runs.0 runs.1
        | inr ended ↦ rw (stays_ended f choice s (λ running. ended.3 (sym ended.1 ∙ running))) (inr ended)
      ]

  after_well : (choices : List Choice) (s : State) → IsWell f s → IsWell f (after f s choices)
  after_well [] s well = well
  after_well (choice ∷ choices) s well = after_well choices (step f choice s) (step_well choice s well)

  pub never_stuck : NeverStuck f
  never_stuck args memory may choices =
      let first = start_sound signatures f made accepted args memory may in
      not_stuck f (after f (start f args memory) choices)
      (after_well choices (start f args memory) (inl (first, refl)))
