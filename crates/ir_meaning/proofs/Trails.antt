-- How the trail of a state goes with its block and the block before.
use Rattle.std.specs.Prelude.{◌≡◌, ℕ, List, [], ◌∷◌, Option, Some, None, refl}
use Rattle.ir_model.specs.declared.function.Function.{Function}
use Rattle.ir_meaning.specs.declared.choice.Choice.{Choice}
use Rattle.ir_meaning.specs.State.{State}
use Rattle.ir_meaning.specs.Run.{start, Run, last}
use Rattle.ir_meaning.proofs.StepShape.{Stepped, stays, ends, goes_on, enters}
use Rattle.ir_meaning.proofs.RunInvariants.{after_keeps}

-- The trail begins with the block; its second one is the block before, and there is no second one where there was none.
abbrev pub Follows : List ℕ → ℕ → Option ℕ → Type 0
Follows [] b previous = ⊥
Follows (newest ∷ []) b previous = (newest ≡ b) × (previous ≡ None)
Follows (newest ∷ second ∷ older) b previous = (newest ≡ b) × (previous ≡ Some second)

abbrev pub HasTrail : State → Type 0
HasTrail s = Follows s.trail s.block s.previous

-- after one more block is entered
follows_more : (trail : List ℕ) (b : ℕ) (previous : Option ℕ) (next : ℕ) → Follows trail b previous
    → Follows (next ∷ trail) next (Some b)
follows_more [] b previous next h = absurd h
follows_more (newest ∷ []) b previous next h = (refl, rw h.0)
follows_more (newest ∷ second ∷ older) b previous next h = (refl, rw h.0)

pub trail_kept : (f : Function) (choice : Choice) (s t : State) → Stepped f choice s t → HasTrail s → HasTrail t
trail_kept f choice s t (stays e) h = rw e h
trail_kept f choice s t (ends how e) h = rw e h
trail_kept f choice s t (goes_on instr x memory events at other goes e) h = rw e h
trail_kept f choice s t (enters instr b block registers at last leads found phis e) h =
    rw e (follows_more s.trail s.block s.previous b h)

pub trail_of_run : (f : Function) (r : Run f) → HasTrail (last f r)
trail_of_run f r =
    after_keeps f HasTrail (trail_kept f) (start f r.args r.memory) r.choices (refl, refl)
