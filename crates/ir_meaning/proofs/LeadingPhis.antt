-- The phis at the head of a block, by their places.
use Rattle.std.specs.Prelude.{◌≡◌, ℕ, zero, suc, ◌<◌, ◌≤◌, List, [], ◌∷◌, length, Bool, true, false, cond, Option, Some}
use Rattle.std.specs.Prelude.{slice_get, refl}
use Rattle.std.proofs.Common.{ap, sym, ◌∙◌, inl, inr, get_or}
use Rattle.std.proofs.lemmas.Bool.{false≢true, both_ways, cases_lt}
use Rattle.std.proofs.lemmas.List.Sums.{take_while-cons}
use Rattle.std.proofs.lemmas.Option.{none-some, same_Some, slice_get-get_or}
use Rattle.ir_model.specs.declared.op.Op.{Op}
use Rattle.ir_model.specs.declared.op.Op.TheVariants.{Phi}
use Rattle.ir_model.specs.declared.function.Instr.{Instr}
use Rattle.ir_model.specs.Shapes.{is_phi, leading_phis, is_terminator}
use Rattle.ir_memory.specs.Memory.{Memory}
use Rattle.ir_meaning.specs.declared.value.Value.{Value}
use Rattle.ir_meaning.specs.declared.choice.Choice.{Choice}
use Rattle.ir_meaning.specs.State.{Event, State}
use Rattle.ir_meaning.specs.Effects.{Goes}
use Rattle.ir_meaning.specs.Step.{effect}

leading_first : (x : Instr) (xs : List Instr) (instr : Instr)
    → ((k : ℕ) → slice_get (leading_phis xs) k ≡ Some instr → (slice_get xs k ≡ Some instr) × (is_phi instr.op ≡ true))
    → (b : Bool) → is_phi x.op ≡ b → (k : ℕ) → slice_get (cond b (x ∷ leading_phis xs) []) k ≡ Some instr
    → (slice_get (x ∷ xs) k ≡ Some instr) × (is_phi instr.op ≡ true)
leading_first x xs instr rest false e k at = absurd (none-some instr at)
leading_first x xs instr rest true e zero at = (at, ap (λ (i : Instr). is_phi i.op) (sym (same_Some x instr at)) ∙ e)
leading_first x xs instr rest true e (suc k) at = rest k at

-- a leading phi stands at the same place in the block, and is a phi
pub leading_at : (instrs : List Instr) (instr : Instr) (k : ℕ) → slice_get (leading_phis instrs) k ≡ Some instr
    → (slice_get instrs k ≡ Some instr) × (is_phi instr.op ≡ true)
leading_at [] instr k at = absurd (none-some instr at)
leading_at (x ∷ xs) instr k at =
    leading_first x xs instr (leading_at xs instr) (is_phi x.op) refl k (ap (λ (found : List Instr). slice_get found k) (sym (take_while-cons (λ (i : Instr). is_phi i.op) x xs)) ∙ at)

-- what stands before their end is a phi
phi_before : (instrs : List Instr) (instr : Instr) (k : ℕ) → slice_get instrs k ≡ Some instr
    → k < length (leading_phis instrs) → is_phi instr.op ≡ true
phi_before instrs instr k at before =
    let there = leading_at instrs (get_or (leading_phis instrs) k instr) k (slice_get-get_or (leading_phis instrs) k instr before) in
    ap (λ (i : Instr). is_phi i.op) (same_Some instr (get_or (leading_phis instrs) k instr) (sym at ∙ there.0)) ∙ there.1

-- what is no phi stands behind them
pub behind_leading : (instrs : List Instr) (instr : Instr) (k : ℕ) → slice_get instrs k ≡ Some instr
    → is_phi instr.op ≡ false → length (leading_phis instrs) ≤ k
behind_leading instrs instr k at other =
    elim (cases_lt k (length (leading_phis instrs))) [
      | inl before ↦ absurd (both_ways (is_phi instr.op) other (phi_before instrs instr k at before))
      | inr behind ↦ behind
    ]

-- a phi is no terminator
pub last_no_phi : (op : Op) → is_terminator op ≡ true → is_phi op ≡ false
last_no_phi (Phi kind entries) last = absurd (false≢true last)
last_no_phi _ last = refl

-- a run is stuck at a phi, which is carried out by the branch that enters its block: so where it goes on there is none
pub going_no_phi : (choice : Choice) (s : State) (op : Op) (x : Option Value) (memory : Memory) (events : List Event)
    → effect choice s op ≡ Goes x memory events → is_phi op ≡ false
going_no_phi choice s (Phi kind entries) x memory events goes = cc
going_no_phi choice s _ x memory events goes = refl
