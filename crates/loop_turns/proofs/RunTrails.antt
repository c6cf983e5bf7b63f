-- The trail of a run is a walk from the entry.
use Rattle.std.proofs.Common.{◌≡◌, List, [], ◌∷◌, ℕ, refl, ap}
use Rattle.ir_model.specs.declared.function.Function.{Function}
use Rattle.ir_model.specs.Walks.{Trail}
use Rattle.ir_model.specs.Walks.Trail.{begins, enters as goes_along}
use Rattle.ir_meaning.specs.declared.choice.Choice.{Choice}
use Rattle.ir_meaning.specs.State.{State}
use Rattle.ir_meaning.specs.Operands.{chosen}
use Rattle.ir_meaning.specs.Run.{start, Run, last}
use Rattle.ir_meaning.proofs.StepShape.{Stepped, stays, ends, goes_on, enters}
use Rattle.ir_meaning.proofs.RunInvariants.{after_keeps}
use Rattle.loop_regions.proofs.EnteredEdges.{edge_of_entering}

-- The trail begins with the block in which the state stands, and is a walk from the entry.
abbrev pub IsWalked : Function → State → Type 0
IsWalked f s = (before : List ℕ) × (s.trail ≡ s.block ∷ before) × Trail f (s.block ∷ before)

walked_kept : (f : Function) (choice : Choice) (s t : State) → Stepped f choice s t → IsWalked f s → IsWalked f t
walked_kept f choice s t (stays e) h = rw e h
walked_kept f choice s t (ends how e) h = rw e h
walked_kept f choice s t (goes_on instr x memory events at other goes e) h = rw e h
walked_kept f choice s t (enters instr b block registers at last leads found phis e) h =
    let edge = edge_of_entering f (chosen choice) s instr b at leads in
    rw e (s.block ∷ h.0, ap (λ (xs : List ℕ). b ∷ xs) h.1, goes_along h.2 edge)

pub run_is_walked : (f : Function) (r : Run f) → IsWalked f (last f r)
run_is_walked f r =
    after_keeps f (IsWalked f) (walked_kept f) (start f r.args r.memory) r.choices ([], refl, begins)
