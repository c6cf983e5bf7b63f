-- Where a value is available, and what is given there.
use Rattle.std.proofs.Common.{◌≡◌, ℕ, ◌+◌, ◌<◌, ◌≤◌, ◌∷◌, Some, slice_get, sym}
use Rattle.std.proofs.Common.{inl, inr, arith}
use Rattle.std.proofs.lemmas.Bool.{cases_lt}
use Rattle.scev_base.specs.declared.ids.BlockId.{BlockId}
use Rattle.ir_model.specs.declared.function.Instr.{Instr}
use Rattle.ir_model.specs.declared.function.Block.{Block}
use Rattle.ir_model.specs.declared.function.Function.{Function}
use Rattle.ir_model.specs.declared.signature.Signatures.{Signatures}
use Rattle.ir_model.specs.Shapes.{block_of}
use Rattle.ir_model.specs.Walks.{Edge, Reachable}
use Rattle.ir_model.specs.Walks.Trail.{enters as goes_along}
use Rattle.ir_model.specs.WellMade.{IsWellMade}
use Rattle.ir_rules.specs.Accepted.{IsAccepted}
use Rattle.ir_meaning.specs.Run.{GivesTo}
use Rattle.never_stuck.proofs.DefinedOnce.{given_there}
use Rattle.ssa_check.specs.Checked.{Dominates}
use Rattle.ssa_check.specs.declared.definitions.Definition.TheVariants.{At}
use Rattle.ssa_check.specs.Tables.{definition_of}
use Rattle.ssa_check.proofs.Elements.{contains_cases}
use Rattle.ssa_check.proofs.Trails.{arrives}
use Rattle.ssa_check.proofs.Dominance.{part_before}
use Rattle.value_truth.specs.Available.{IsAvailable}
use Rattle.value_truth.proofs.Fresh.{gives_there}
use Rattle.value_truth.proofs.FirstArrival.{place, passed_at, at_passed, not_both}

module _ (signatures : Signatures) (f : Function) (made : IsWellMade f) (accepted : IsAccepted signatures f) where
  -- what is defined at a place an instruction there gives
  pub given_at_place : (v : ℕ) (d : BlockId) (i : ℕ) (block : Block) → definition_of f v ≡ At d i
      → block_of f d.0 ≡ Some block
      → (instr : Instr) × (slice_get block.instrs i ≡ Some instr) × GivesTo v instr
  given_at_place v d i block is found =
      given_there signatures f made accepted v d i block (place f v d i is).1 found

  module _ (v : ℕ) (d : BlockId) (i : ℕ) (is : definition_of f v ≡ At d i) where
    -- a register that is available where the value is defined isn't given where the value is available
    pub other_given : (b k ju : ℕ) (block : Block) (instr : Instr) (u : ℕ) → block_of f b ≡ Some block
        → slice_get block.instrs k ≡ Some instr → GivesTo u instr → IsAvailable f v b ju → ju ≤ k
        → IsAvailable f u d.0 i → Reachable f d.0 → ⊥
    other_given b k ju block instr u found stands gives v_there before u_there reachable =
        not_both f u v (record { 0 = b }) d k i (gives_there signatures f accepted b k block instr u found stands gives)
        is ju i u_there v_there (omega arith) before reachable

    -- a walk that has come behind an instruction which doesn't give the value had passed the value before
    pub before_instr : (b index : ℕ) → ((d.0 ≡ b) × (i ≡ index) → ⊥) → IsAvailable f v b (index + 1)
        → IsAvailable f v b index
    before_instr b index other available before trail =
        at_passed f v d i is before b index
        (elim (passed_at f v d i is before b (index + 1) (available before trail)) [
          | inl earlier ↦ inl earlier
          | inr here ↦
              elim (cases_lt i index) [
                | inl less ↦ inr (here.0, less)
                | inr more ↦ absurd (other (here.0, omega (arith, here.1, more)))
              ]
        ])

    -- where no phi of a block gives the value, it is available before the block's phis if it is behind them
    pub before_phis : (b count : ℕ) → ((d.0 ≡ b) × (i < count) → ⊥) → IsAvailable f v b count → IsAvailable f v b 0
    before_phis b count other available before trail =
        at_passed f v d i is before b 0
        (elim (passed_at f v d i is before b count (available before trail)) [
          | inl earlier ↦ inl earlier
          | inr here ↦ absurd (other here)
        ])

    -- what is available at the start of a block is so at the end of each block that leads to it
    pub at_the_end : (a b index : ℕ) → Edge f a b → ((d.0 ≡ a) → i < index) → IsAvailable f v b 0
        → IsAvailable f v a index
    at_the_end a b index edge within available before trail =
        at_passed f v d i is before a index
        (elim (passed_at f v d i is (a ∷ before) b 0 (available (a ∷ before) (goes_along trail edge))) [
          | inl earlier ↦
              elim (contains_cases a before d.0 earlier) [
                | inl same ↦ inr (sym same, within (sym same))
                | inr before_it ↦ inl before_it
              ]
          | inr here ↦ absurd (omega (arith, here.1))
        ])

    -- the header of a loop that dominates the value's block is no block at whose start the value is available
    pub no_header : (b : ℕ) → Dominates f b d.0 → IsAvailable f v b 0 → Reachable f b → ⊥
    no_header b dominates available reachable =
        let arrival = arrives f b reachable in
        elim (passed_at f v d i is arrival.0 b 0 (available arrival.0 arrival.1)) [
          | inl earlier ↦
              let part = part_before f arrival.1 d.0 earlier in
              arrival.2 (part.within b (dominates part.before part.is))
          | inr here ↦ absurd (omega (arith, here.1))
        ]
