-- What each step keeps holds after all steps.
use Rattle.std.specs.Prelude.{◌≡◌, List, [], ◌∷◌, ◌++◌, refl}
use Rattle.ir_model.specs.declared.function.Function.{Function}
use Rattle.ir_meaning.specs.declared.choice.Choice.{Choice}
use Rattle.ir_meaning.specs.State.{State}
use Rattle.ir_meaning.specs.Step.{step}
use Rattle.ir_meaning.specs.Run.{after}
use Rattle.ir_meaning.proofs.StepShape.{Stepped, stepped}

pub after_keeps : (f : Function) (P : State → Type 0)
    → ((choice : Choice) (s t : State) → Stepped f choice s t → P s → P t) → (s : State) (choices : List Choice) → P s
    → P (after f s choices)
after_keeps f P keeps s [] holds = holds
after_keeps f P keeps s (choice ∷ choices) holds =
    after_keeps f P keeps (step f choice s) choices (keeps choice s (step f choice s) (stepped f choice s) holds)

-- a run of a front, and then of the rest
pub after-append : (f : Function) (s : State) (front rest : List Choice)
    → after f s (front ++ rest) ≡ after f (after f s front) rest
after-append f s [] rest = refl
after-append f s (choice ∷ front) rest = after-append f (step f choice s) front rest
