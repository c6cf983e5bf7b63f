-- A recurrence is true of its phi in every run.
use Rattle.std.specs.Prelude.{◌≡◌, ◌≢◌, ℕ, ◌≤◌, ◌==◌, ◌⊎◌, List, [], length, true, false, Option, Some, slice_get, map}
use Rattle.std.specs.Prelude.{option_map, unwrap_or, refl}
use Rattle.std.proofs.Common.{ap, sym, subst, ◌∙◌, arith, inl, inr}
use Rattle.std.proofs.lemmas.Bool.{both_ways, cases_eq, eq-eqb, ne_eqb, or_from, or_left}
use Rattle.std.proofs.lemmas.Option.{same_Some, slice_get-map}
use Rattle.scev_base.specs.declared.ids.BlockId.{BlockId}
use Rattle.ir_model.specs.declared.function.Param.{Param}
use Rattle.ir_model.specs.declared.function.Instr.{Instr}
use Rattle.ir_model.specs.declared.function.Block.{Block}
use Rattle.ir_model.specs.declared.function.Function.{Function}
use Rattle.ir_meaning.specs.State.{State}
use Rattle.ir_model.specs.Shapes.{block_of, is_phi, leading_phis}
use Rattle.ir_meaning.specs.Run.{GivesTo, last, IsFresh}
use Rattle.ir_meaning.specs.Thin.{IsThinFunction}
use Rattle.ir_meaning.proofs.LeadingPhis.{leading_at}
use Rattle.ir_meaning.proofs.ListPlaces.{some_at}
use Rattle.loop_regions.specs.Loops.{Loop}
use Rattle.loop_regions.specs.OneBlock.{one_block}
use Rattle.loop_regions.specs.Turns.{has, turn, turns}
use Rattle.scev_tree.specs.Tree.{affine}
use Rattle.classify.specs.Recurrence.{IsRecurrence}
use Rattle.classify.specs.Truth.{number_of, Holds, IsTrueOf}
use Rattle.scev_tree.proofs.AffineValue.{affine_value}
use Rattle.classify.proofs.DefinedOnce.{only_there, only_in_block, no_param}
use Rattle.classify.proofs.KeptNumbers.{Keeps}
use Rattle.classify.proofs.RecurrenceShape.{Shape, shape_of}
use Rattle.classify.proofs.RecurrenceInvariant.{Setting, at_turn, kept_in_run}

-- A state stands behind the leading phis of the block.
abbrev pub StandsBehind : (b : ℕ) → Block → State → Type 0
StandsBehind b block s = (s.block ≡ b) × (length (leading_phis block.instrs) ≤ s.place)

-- where the phi is fresh, the state stands behind the leading phis of its block: nothing else defines it
module _ (f : Function) (b p first step : ℕ) (shape : Shape f b p first step) (s : State) (block : Block) (found : block_of f s.block ≡ Some block) where
  phi_stands : slice_get shape.block.instrs shape.phi_at ≡ Some shape.phi
  phi_stands = (leading_at shape.block.instrs shape.phi shape.phi_at shape.phi_there).0

  same_number : (k : ℕ) (instr : Instr) → slice_get block.instrs k ≡ Some instr → GivesTo p instr → s.block ≡ b
  same_number k instr at gives =
      only_in_block f s.block b p k shape.phi_at block shape.block instr shape.phi shape.names found shape.is_block at gives phi_stands shape.phi_gives

  same_block : s.block ≡ b → block ≡ shape.block
  same_block here = same_Some block shape.block (sym found ∙ ap (λ (a : ℕ). block_of f a) here ∙ shape.is_block)

  behind_phis_of : (k : ℕ) (instr : Instr) → slice_get (leading_phis block.instrs) k ≡ Some instr → GivesTo p instr
      → s.place ≡ length (leading_phis block.instrs) → StandsBehind b shape.block s
  behind_phis_of k instr at gives place =
      let here = same_number k instr (leading_at block.instrs instr k at).0 gives in
      let count : length (leading_phis block.instrs) ≡ length (leading_phis shape.block.instrs) = ap (λ (one : Block). length (leading_phis one.instrs)) (same_block here) in
      (here, omega (arith, place, count))

  no_later_instr : (k : ℕ) (instr : Instr) → slice_get block.instrs k ≡ Some instr → is_phi instr.op ≡ false
      → GivesTo p instr → ⊥
  no_later_instr k instr at other gives =
      let here = same_number k instr at gives in
      let at' : slice_get shape.block.instrs k ≡ Some instr = subst (λ (one : Block). slice_get one.instrs k ≡ Some instr) (same_block here) at in
      let place = only_there f b p shape.phi_at shape.block shape.phi shape.names shape.is_block phi_stands shape.phi_gives k instr at' gives in
      let is : instr ≡ shape.phi = same_Some instr shape.phi (sym at' ∙ ap (λ (j : ℕ). slice_get shape.block.instrs j) place ∙ phi_stands) in
      both_ways (is_phi instr.op) other (ap (λ (i : Instr). is_phi i.op) is ∙ (leading_at shape.block.instrs shape.phi shape.phi_at shape.phi_there).1)

  no_param_is : (k : ℕ) (param : Param) → slice_get f.params k ≡ Some param → param.value.0 ≡ p → ⊥
  no_param_is k param at is =
      no_param f b p shape.phi_at k shape.block shape.phi param shape.names shape.is_block phi_stands shape.phi_gives at is

pub fresh_behind : (f : Function) (b p first step : ℕ) (shape : Shape f b p first step) (s : State) → IsFresh f s p
    → StandsBehind b shape.block s
fresh_behind f b p first step shape s (running, block, found, inl param) =
    let one = some_at (λ (p' : Param). p'.value.0 ≡ p) f.params param.2 in
    absurd (no_param_is f b p first step shape s block found one.0 one.1 one.2 one.3)
fresh_behind f b p first step shape s (running, block, found, inr (inl phi)) =
    let one = some_at (GivesTo p) (leading_phis block.instrs) phi.2 in
    behind_phis_of f b p first step shape s block found one.0 one.1 one.2 one.3 phi.1
fresh_behind f b p first step shape s (running, block, found, inr (inr instr)) =
    absurd (no_later_instr f b p first step shape s block found instr.0 instr.1 instr.3 instr.4 instr.5)

-- what is kept at a turn is what the tree stands for
holds_from_kept : (loops : List Loop) (s : State) (k p first step : ℕ) (l : Loop) → slice_get loops k ≡ Some l
    → Keeps (s.registers p) (at_turn first step (turn l s.trail)) → Holds loops s p (affine 32 k first step)
holds_from_kept loops s k p first step l at (inl poison) = inl poison
holds_from_kept loops s k p first step l at (inr number) =
    let same : turns loops s.trail k ≡ turn l s.trail = ap (λ (o : Option Loop). turn (unwrap_or o (record { header = 0; blocks = [] })) s.trail) at in
    inr (at_turn first step (turn l s.trail), number, affine_value (λ v. number_of (s.registers v)) (turns loops s.trail) 32 k first step ∙ ap (λ (t : ℕ). Some (at_turn first step t)) same)

-- in each loop in the setting of a recurrence
pub true_in_setting : (f : Function) (b p first step : ℕ) (loops : List Loop) (k : ℕ) (l : Loop)
    → Setting f b p first step l → slice_get loops k ≡ Some l → IsTrueOf f loops p (affine 32 k first step)
true_in_setting f b p first step loops k l g at r fresh =
    let behind = fresh_behind f b p first step g.shape (last f r) fresh in
    let kept = kept_in_run f b p first step l g r in
    holds_from_kept loops (last f r) k p first step l at (kept.1 behind.0 behind.1).0

-- a loop of one block has its header alone
one_block_setting : (f : Function) (b p first step : ℕ) → IsThinFunction f → IsRecurrence f b p first step
    → Setting f b p first step (one_block b)
one_block_setting f b p first step thin r = record {
  thin = thin;
  shape = shape_of f b p first step r;
  header = refl;
  before = λ a edge. among a (cases_eq a b);
}
  where
    among : (a : ℕ) → (a ≡ b) ⊎ (a ≡ b → ⊥)
        → ((a ≡ b) × (has (one_block b) a ≡ true)) ⊎ ((a ≢ b) × (has (one_block b) a ≡ false))
    among a (inl e) = inl (e, or_left (b == a) false (eq-eqb b a (sym e)))
    among a (inr apart) = inr (apart, or_from (b == a) false (ne_eqb b a (λ e. apart (sym e))) refl)

pub recurrences_are_true : (f : Function) (b p first step : ℕ) (loops : List Loop) (k : ℕ) → IsThinFunction f
    → IsRecurrence f b p first step → slice_get loops k ≡ Some (one_block b)
    → IsTrueOf f loops p (affine 32 k first step)
recurrences_are_true f b p first step loops k thin r at =
    true_in_setting f b p first step loops k (one_block b) (one_block_setting f b p first step thin r) at

-- the same for the loops of one block by their headers
pub true_by_header : (f : Function) (headers : List BlockId) (b p k first step : ℕ) → IsThinFunction f
    → IsRecurrence f b p first step → slice_get headers k ≡ Some (record { 0 = b })
    → IsTrueOf f (map (λ header. one_block header.0) headers) p (affine 32 k first step)
true_by_header f headers b p k first step thin r at =
    recurrences_are_true f b p first step (map (λ (header : BlockId). one_block header.0) headers) k thin r (slice_get-map (λ (header : BlockId). one_block header.0) headers k ∙ ap (λ (o : Option BlockId). option_map (λ (header : BlockId). one_block header.0) o) at)
