-- What an instruction gives is defined there, and just after that it is available.
use Rattle.std.proofs.Common.{◌≡◌, ℕ, ◌<◌, ◌==◌, Some, slice_get, refl, sym, ap, ◌∙◌, subst, inl, inr, arith}
use Rattle.std.proofs.lemmas.Bool.{eq-eqb}
use Rattle.std.proofs.lemmas.List.Folds.{list_any-from_Any}
use Rattle.std.proofs.lemmas.Option.{slice_get_within}
use Rattle.ir_model.specs.declared.function.Param.{Param}
use Rattle.ir_model.specs.declared.function.Instr.{Instr}
use Rattle.ir_model.specs.declared.function.Block.{Block}
use Rattle.ir_model.specs.declared.function.Function.{Function}
use Rattle.ir_model.specs.declared.signature.Signatures.{Signatures}
use Rattle.ir_model.specs.Shapes.{block_of, leading_phis}
use Rattle.ir_rules.specs.Accepted.{IsAccepted}
use Rattle.ir_meaning.specs.State.{State}
use Rattle.ir_meaning.specs.Run.{GivesTo, IsFresh}
use Rattle.ir_meaning.proofs.ListPlaces.{some_at}
use Rattle.ir_meaning.proofs.LeadingPhis.{leading_at}
use Rattle.never_stuck.proofs.Accepted.{block_in}
use Rattle.ssa_check.specs.declared.definitions.Definition.TheVariants.{At}
use Rattle.ssa_check.specs.Tables.{definition_of}
use Rattle.ssa_check.proofs.Elements.{place_in}
use Rattle.ssa_check.proofs.Limited.{no_duplicate}
use Rattle.ssa_check.proofs.OnceDefined.{defined_there}
use Rattle.value_truth.specs.Available.{IsAvailable}
use Rattle.value_truth.proofs.FirstArrival.{at_passed}

module _ (signatures : Signatures) (f : Function) (accepted : IsAccepted signatures f) where
  -- what an instruction of a block gives is defined there
  pub gives_there : (b k : ℕ) (block : Block) (instr : Instr) (v : ℕ) → block_of f b ≡ Some block
      → slice_get block.instrs k ≡ Some instr → GivesTo v instr → definition_of f v ≡ At (record { 0 = b }) k
  gives_there b k block instr v found stands gives =
      let among = block_in f b block found in
      let at = place_in f.blocks block among.0 in
      let once = no_duplicate signatures f accepted.shape in
      defined_there f once at.0 block k instr v at.1 stands gives
      ∙ ap (λ (n : ℕ). At (record { 0 = n }) k) among.1

  -- and behind that instruction it is available
  pub behind_its_instr : (b : ℕ) (block : Block) (i index : ℕ) (instr : Instr) (v : ℕ) → block_of f b ≡ Some block
      → slice_get block.instrs i ≡ Some instr → GivesTo v instr → i < index → IsAvailable f v b index
  behind_its_instr b block i index instr v found stands gives behind before trail =
      let is = gives_there b i block instr v found stands gives in
      at_passed f v (record { 0 = b }) i is before b index (inr (refl, behind))

  pub fresh_available : (s : State) (v : ℕ) → IsFresh f s v → IsAvailable f v s.block s.place
  fresh_available s v (running, block, found, inl param) =
      λ before trail.
      inl (list_any-from_Any (λ (p : Param). p.value.0 == v) f.params
      (param.2.0, param.2.1, param.2.2, param.2.3, eq-eqb param.2.1.value.0 v param.2.4))
  fresh_available s v (running, block, found, inr (inl phi)) =
      let one = some_at (GivesTo v) (leading_phis block.instrs) phi.2 in
      behind_its_instr s.block block one.0 s.place one.1 v found (leading_at block.instrs one.1 one.0 one.2).0 one.3
      (subst (λ (n : ℕ). one.0 < n) (sym phi.1) (slice_get_within (leading_phis block.instrs) one.0 one.1 one.2))
  fresh_available s v (running, block, found, inr (inr instr)) =
      behind_its_instr s.block block instr.0 s.place instr.1 v found instr.3 instr.5 (omega (arith, instr.2))
