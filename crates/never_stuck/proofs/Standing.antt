-- What a sound state stands at: an instruction, whose operands hold values.
use Rattle.std.proofs.Common.{◌≡◌, ℕ, suc, ◌<◌, ◌⊎◌, true, false, List, length, Option, Some, option_and_then}
use Rattle.std.proofs.Common.{option_map, unwrap_or, slice_get, sym, ◌∙◌, inl, inr, subst, ap, arith}
use Rattle.std.proofs.lemmas.Bool.{cases_lt, false≢true}
use Rattle.std.proofs.lemmas.Option.{same_Some, slice_get_cases}
use Rattle.scev_base.specs.declared.ids.BlockId.{BlockId}
use Rattle.scev_base.specs.declared.ids.ValueId.{ValueId}
use Rattle.ir_model.specs.declared.op.Op.{Op}
use Rattle.ir_model.specs.declared.op.Op.TheVariants.{Store}
use Rattle.ir_model.specs.declared.function.Instr.{Instr}
use Rattle.ir_model.specs.declared.function.Block.{Block}
use Rattle.ir_model.specs.declared.function.Function.{Function}
use Rattle.ir_model.specs.declared.signature.Signatures.{Signatures}
use Rattle.ir_model.specs.Places.{place_of}
use Rattle.ir_model.specs.Shapes.{MayHaveResult, block_of, operands, is_terminator, is_phi}
use Rattle.ir_model.specs.WellMade.{IsResultOf}
use Rattle.ir_rules.specs.Uses.{size_of, HasPassed, UsesAreDefined}
use Rattle.ir_meaning.specs.State.{State}
use Rattle.ir_meaning.specs.Step.{instr_at}
use Rattle.ir_meaning.specs.Run.{GivesTo}
use Rattle.never_stuck.proofs.Sound.{Holds, HoldsOperands, StandsIn, Sound}
use Rattle.ir_model.specs.WellMade.{IsWellMade}
use Rattle.ir_rules.specs.Accepted.{IsAccepted}
use Rattle.never_stuck.proofs.Accepted.{facts_at, last_at, no_late_phi}
use Rattle.never_stuck.proofs.DefinedOnce.{given_there}
use Rattle.never_stuck.proofs.Passed.{use_passed, operand_use}

pub some_within : {X : Type 0} (xs : List X) (k : ℕ) → k < length xs → (x : X) × (slice_get xs k ≡ Some x)
some_within xs k within =
    elim ((slice_get_cases xs k).1) [
      | inl there ↦ (there.0, there.2)
      | inr past ↦ absurd (omega (arith, past.0))
    ]

-- what ends a block has no result
ends_without : (op : Op) → is_terminator op ≡ true → MayHaveResult op → ⊥
ends_without (Store kind value to) last may = may
ends_without _ last may = false≢true (sym may ∙ last)

module _ (signatures : Signatures) (f : Function) (made : IsWellMade f) (accepted : IsAccepted signatures f) where
  module _ (s : State) (sound : Sound f s) where
    pub stands_at : (instr : Instr) × StandsIn f s.block s.place sound.block instr
    stands_at =
        let there = some_within sound.block.instrs s.place sound.within in
        (there.0, record { block = sound.at; instr = there.1 })

    module _ (instr : Instr) (stands : StandsIn f s.block s.place sound.block instr) where
      pub at_instr : instr_at f s ≡ Some instr
      at_instr =
          ap (λ (o : Option Block). option_and_then (λ (block : Block). slice_get block.instrs s.place) o) stands.block
          ∙ stands.instr

      pub no_phi : is_phi instr.op ≡ false
      no_phi = no_late_phi signatures f made accepted s.block s.place sound.block instr stands sound.behind

      pub operands_held : UsesAreDefined f → HoldsOperands f s.registers (operands instr.op)
      operands_held defined v there =
          sound.held v
          (use_passed f defined (record { value = v; user = s.block; block = s.block; index = s.place })
          (operand_use f s.block s.place sound.block instr v stands no_phi there) sound.before sound.walk)

      -- what is defined where the state stands is the instruction's result
      defined_here : (v : ℕ) (at : BlockId) (i : ℕ) → place_of f v ≡ Some (at, i) → at.0 ≡ s.block → i ≡ s.place
          → GivesTo v instr
      defined_here v at i is same here =
          let own : block_of f at.0 ≡ Some sound.block = rw same sound.at in
          let given = given_there signatures f made accepted v at i sound.block is own in
          let one : given.0 ≡ instr =
          same_Some given.0 instr (sym given.1 ∙ ap (λ (k : ℕ). slice_get sound.block.instrs k) here ∙ stands.instr) in
          rw (← one) given.2

      -- behind the instruction what was passed before is passed, and its result
      pub passed_next : (v index : ℕ) → index ≡ suc s.place → HasPassed f v sound.before s.block index
          → HasPassed f v sound.before s.block s.place ⊎ GivesTo v instr
      passed_next v index next passed =
          elim passed [
            | inl param ↦ inl (inl param)
            | inr there ↦
                elim there.3 [
                  | inl earlier ↦ inl (inr (there.0, there.1, there.2, inl earlier))
                  | inr here ↦
                      elim (cases_lt there.1 s.place) [
                        | inl before ↦ inl (inr (there.0, there.1, there.2, inr (here.0, before)))
                        | inr not_before ↦
                            inr (defined_here v there.0 there.1 there.2 here.0 (omega (arith, here.1)))
                      ]
                ]
          ]

      module _ (last : is_terminator instr.op ≡ true) where
        gives_none : (v : ℕ) → GivesTo v instr → ⊥
        gives_none v gives =
            let facts = facts_at signatures f made accepted s.block s.place sound.block instr stands in
            ends_without instr.op last
            (subst (λ (result : Option ValueId). IsResultOf instr.op result) gives facts.formed.result)

        -- at the end of the block no more is passed than before the terminator
        pub held_at_end : (v : ℕ) → HasPassed f v sound.before s.block (size_of f s.block) → Holds f s.registers v
        held_at_end v passed =
            let size : size_of f s.block ≡ length sound.block.instrs =
            ap (λ (o : Option Block). unwrap_or (option_map (λ (block : Block). length block.instrs) o) 0) sound.at in
            let next : size_of f s.block ≡ suc s.place =
            size ∙ sym (last_at signatures f made accepted s.block s.place sound.block instr stands last) in
            elim (passed_next v (size_of f s.block) next passed) [
              | inl before ↦ sound.held v before
              | inr gives ↦ absurd (gives_none v gives)
            ]
