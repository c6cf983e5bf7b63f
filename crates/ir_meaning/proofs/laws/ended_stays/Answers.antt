use Rattle.std.proofs.Common.{◌≡◌, List, [], ◌∷◌, false, refl}
use Rattle.ir_model.specs.declared.function.Function.{Function}
use Rattle.ir_meaning.specs.declared.choice.Choice.{Choice}
use Rattle.ir_meaning.specs.State.{State, is_running}
use Rattle.ir_meaning.specs.Step.{step}
use Rattle.ir_meaning.specs.Run.{after}
use Rattle.ir_meaning.proofs.laws.ended_stays.Goals as goal

stays : (f : Function) (choice : Choice) (s : State) → is_running s.phase ≡ false → step f choice s ≡ s
unfolding step
stays f choice s over = rw over refl

stays_so : (f : Function) (s : State) (choices : List Choice) → is_running s.phase ≡ false → after f s choices ≡ s
stays_so f s [] over = refl
stays_so f s (choice ∷ choices) over = rw (stays f choice s over) (stays_so f s choices over)

pub returns : goal.returns
returns c = record { one_step = stays; all_steps = stays_so }
