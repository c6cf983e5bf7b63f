-- A step that doesn't define a value keeps what is true of it, wherever the value is available.
use Rattle.std.proofs.Common.{◌≡◌, ◌≢◌, ◌⊎◌, ℕ, ◌<◌, List, [], ◌∷◌, length, Option, Some, slice_get, refl, sym, ap}
use Rattle.std.proofs.Common.{◌∙◌, subst, inl, inr, arith, unwrap_or}
use Rattle.std.proofs.lemmas.Option.{slice_get_within}
use Rattle.scev_base.specs.declared.ids.BlockId.{BlockId}
use Rattle.ir_model.specs.declared.function.Instr.{Instr}
use Rattle.ir_model.specs.declared.function.Block.{Block}
use Rattle.ir_model.specs.declared.function.Function.{Function}
use Rattle.ir_model.specs.declared.signature.Signatures.{Signatures}
use Rattle.ir_model.specs.Shapes.{block_of, leading_phis}
use Rattle.ir_model.specs.Walks.{Edge, Trail, Reachable}
use Rattle.ir_model.specs.Walks.Trail.{enters as goes_along}
use Rattle.ir_model.specs.WellMade.{IsWellMade}
use Rattle.ir_rules.specs.Accepted.{IsAccepted}
use Rattle.ir_memory.specs.Memory.{Memory}
use Rattle.ir_meaning.specs.declared.value.Value.{Value}
use Rattle.ir_meaning.specs.State.{Registers, Event, State}
use Rattle.ir_meaning.specs.Effects.{Goes}
use Rattle.ir_meaning.specs.Step.{with_phis, after_effect, behind_phis}
use Rattle.ir_meaning.specs.Run.{GivesTo}
use Rattle.ir_meaning.proofs.RegisterChanges.{given_other, phis_other}
use Rattle.ir_meaning.proofs.LeadingPhis.{leading_at}
use Rattle.ssa_check.specs.Checked.{Dominates}
use Rattle.ssa_check.specs.declared.definitions.Definition.TheVariants.{At}
use Rattle.ssa_check.specs.Tables.{definition_of}
use Rattle.ssa_check.proofs.Trails.{reaches}
use Rattle.loop_regions.specs.Loops.{Loop}
use Rattle.loop_regions.specs.Turns.{turn, turns}
use Rattle.loop_regions.proofs.TurnSteps.{turn_stays}
use Rattle.scev_tree.specs.Tree.{Tree}
use Rattle.tree_names.specs.Names.{HasOnly}
use Rattle.value_truth.specs.Available.{IsAvailable, MayName}
use Rattle.value_truth.specs.Truth.{Holds}
use Rattle.value_truth.proofs.FirstArrival.{passed_reachable}
use Rattle.value_truth.proofs.Fresh.{gives_there}
use Rattle.value_truth.proofs.Whereabouts.{other_given, before_phis, no_header}
use Rattle.value_truth.proofs.KeptNames.{holds_on}

-- definitions at one place
pub same_place : (d e : BlockId) (i j : ℕ) → At d i ≡ At e j → (d.0 ≡ e.0) × (i ≡ j)
same_place d e i j is =
    let block : d ≡ e = cc in
    (ap (λ (b : BlockId). b.0) block, cc)

module _ (signatures : Signatures) (f : Function) (made : IsWellMade f) (accepted : IsAccepted signatures f)
    (loops : List Loop) (v : ℕ) (tree : Tree) (d : BlockId) (i : ℕ) (is : definition_of f v ≡ At d i)
    (scope : HasOnly (MayName f loops v d.0 i) tree) (s : State) (before : List ℕ)
    (trail : Trail f (s.block ∷ before)) (block : Block) (found : block_of f s.block ≡ Some block) where
  -- ---- an instruction that goes on in its block

  module _ (instr : Instr) (x : Option Value) (memory : Memory) (events : List Event)
      (stands : slice_get block.instrs s.place ≡ Some instr) (other : (d.0 ≡ s.block) × (i ≡ s.place) → ⊥)
      (available : IsAvailable f v s.block s.place) where
    gives_none : (u : ℕ) → (u ≡ v) ⊎ IsAvailable f u d.0 i → GivesTo u instr → ⊥
    gives_none u (inl own) gives =
        let there = gives_there signatures f accepted s.block s.place block instr v found stands
        (subst (λ (n : ℕ). GivesTo n instr) own gives) in
        other (same_place d (record { 0 = s.block }) i s.place (sym is ∙ there))
    gives_none u (inr there) gives =
        other_given signatures f made accepted v d i is s.block s.place s.place block instr u found stands gives
        available (omega arith) there
        (passed_reachable f v d i is before s.block s.place trail (available before trail))

    pub kept_going : Holds loops s v tree → Holds loops (after_effect instr.result s (Goes x memory events)) v tree
    kept_going =
        holds_on f loops v tree s (after_effect instr.result s (Goes x memory events)) d i scope
        (λ u named. sym (given_other s.registers instr.result x u (gives_none u named)))
        (λ l loop at dominates. refl)

  -- ---- a branch into a block none of whose phis gives the value

  module _ (to : ℕ) (block_to : Block) (registers : Registers) (n : ℕ) (found_to : block_of f to ≡ Some block_to)
      (trail_is : s.trail ≡ s.block ∷ before)
      (edge : Edge f s.block to)
      (phis : with_phis s.registers n s.block (leading_phis block_to.instrs) s.registers ≡ Some registers)
      (other : (d.0 ≡ to) × (i < length (leading_phis block_to.instrs)) → ⊥)
      (available : IsAvailable f v to (length (leading_phis block_to.instrs))) where
    at_start : IsAvailable f v to 0
    at_start =
        before_phis signatures f made accepted v d i is to (length (leading_phis block_to.instrs)) other available

    longer : Trail f (to ∷ s.block ∷ before)
    longer = goes_along trail edge

    reachable : Reachable f to
    reachable = reaches f to (s.block ∷ before) longer

    none_given : (u : ℕ) → (u ≡ v) ⊎ IsAvailable f u d.0 i → (k : ℕ) (phi : Instr)
        → slice_get (leading_phis block_to.instrs) k ≡ Some phi → GivesTo u phi → ⊥
    none_given u named k phi at gives =
        let leads = leading_at block_to.instrs phi k at in
        let early = slice_get_within (leading_phis block_to.instrs) k phi at in
        elim named [
          | inl own ↦
              let there = gives_there signatures f accepted to k block_to phi v found_to leads.0
              (subst (λ (w : ℕ). GivesTo w phi) own gives) in
              let same = same_place d (record { 0 = to }) i k (sym is ∙ there) in
              other (same.0, subst (λ (j : ℕ). j < length (leading_phis block_to.instrs)) (sym same.1) early)
          | inr there ↦
              other_given signatures f made accepted v d i is to k 0 block_to phi u found_to leads.0 gives at_start
              (omega arith) there
              (passed_reachable f v d i is (s.block ∷ before) to 0 longer (at_start (s.block ∷ before) longer))
        ]

    same_turn : (l : ℕ) (loop : Loop) → slice_get loops l ≡ Some loop → Dominates f loop.header d.0
        → turns loops s.trail l ≡ turns loops (to ∷ s.trail) l
    same_turn l loop at dominates =
        let apart : to ≢ loop.header =
        λ e.
        no_header signatures f made accepted v d i is to (subst (λ (h : ℕ). Dominates f h d.0) (sym e) dominates)
        at_start reachable in
        let own : unwrap_or (slice_get loops l) (record { header = 0; blocks = [] }) ≡ loop =
        ap (λ (o : Option Loop). unwrap_or o (record { header = 0; blocks = [] })) at in
        ap (λ (k : Loop). turn k s.trail) own ∙ sym (turn_stays loop s.trail to apart)
        ∙ sym (ap (λ (k : Loop). turn k (to ∷ s.trail)) own)

    pub kept_entering : Holds loops s v tree → Holds loops (behind_phis to block_to s (Some registers)) v tree
    kept_entering =
        holds_on f loops v tree s (behind_phis to block_to s (Some registers)) d i scope
        (λ u named.
        sym (phis_other s.registers n s.block (leading_phis block_to.instrs) s.registers registers u
        (none_given u named) phis))
        same_turn
