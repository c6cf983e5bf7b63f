-- A block that is entered from a sound state: its phis all have values, and the state behind them is sound.
use Rattle.std.proofs.Common.{◌≡◌, ℕ, ◌<◌, ◌⊎◌, true, List, [], ◌∷◌, length, map, Option, Some, option_and_then}
use Rattle.std.proofs.Common.{Contains, slice_get, refl, sym, ◌∙◌, inl, inr, subst, ap, arith}
use Rattle.std.proofs.lemmas.Bool.{and_parts}
use Rattle.std.proofs.lemmas.Option.{same_Some, slice_get_within}
use Rattle.std.specs.List.{list_all}
use Rattle.scev_base.specs.declared.ids.BlockId.{BlockId}
use Rattle.ir_model.specs.declared.types.IrType.{IrType}
use Rattle.ir_model.specs.declared.op.Operand.{Operand}
use Rattle.ir_model.specs.declared.op.Operand.TheVariants as operand
use Rattle.ir_model.specs.declared.op.PhiEntry.{PhiEntry}
use Rattle.ir_model.specs.declared.op.TypedOperand.{TypedOperand}
use Rattle.ir_model.specs.declared.op.Op.TheVariants.{Phi}
use Rattle.ir_model.specs.declared.function.Instr.{Instr}
use Rattle.ir_model.specs.declared.function.Block.{Block}
use Rattle.ir_model.specs.declared.function.Function.{Function}
use Rattle.ir_model.specs.declared.signature.Signatures.{Signatures}
use Rattle.ir_model.specs.Defined.{given_type}
use Rattle.ir_model.specs.Kinds.{IsScalar}
use Rattle.ir_model.specs.Places.{place_of}
use Rattle.ir_model.specs.Shapes.{block_of, leading_phis, is_terminator}
use Rattle.ir_model.specs.Walks.{Edge}
use Rattle.ir_model.specs.Walks.Trail.{enters}
use Rattle.ir_model.specs.WellMade.{IsFormed}
use Rattle.ir_rules.specs.Types.{at_type, kind_of, fits, types_fit}
use Rattle.ir_rules.specs.Uses.{Use, size_of, uses, HasPassed, UsesAreDefined}
use Rattle.ir_meaning.specs.declared.value.Value.{Value}
use Rattle.ir_meaning.specs.State.{Registers, State}
use Rattle.ir_meaning.specs.Values.{is_of_type}
use Rattle.ir_meaning.specs.Operands.{operand_value}
use Rattle.ir_meaning.specs.Step.{phi_value, with_phis, behind_phis}
use Rattle.ir_meaning.proofs.LeadingPhis.{leading_at}
use Rattle.never_stuck.proofs.Elements.{contains_none, contains_cases}
use Rattle.never_stuck.proofs.Sound.{Holds, StandsIn, Sound}
use Rattle.ir_model.specs.WellMade.{IsWellMade}
use Rattle.ir_rules.specs.Accepted.{IsAccepted}
use Rattle.never_stuck.proofs.EnteredPhis.{entry_for, phi_shape}
use Rattle.never_stuck.proofs.Accepted.{facts_at, leading_ends}
use Rattle.never_stuck.proofs.DefinedOnce.{given_there}
use Rattle.never_stuck.proofs.TypedOps.{operand_typed}
use Rattle.never_stuck.proofs.DefinedTypes.{result_typed}
use Rattle.never_stuck.proofs.Passed.{use_passed, phi_use}
use Rattle.never_stuck.proofs.Registers.{SuitsResult, HasPhiValue, GivenIn, held_phis}
use Rattle.never_stuck.proofs.Standing.{some_within, held_at_end}

-- the operand of each entry fits where a phi's types do
entry_fits : (f : Function) (kind : IrType) (entries : List PhiEntry) (entry : PhiEntry) → Contains entries entry
    → list_all (λ (typed : TypedOperand). fits f typed.kind typed.value)
    (map (λ (entry : PhiEntry). at_type kind entry.value) entries) ≡ true
    → fits f kind entry.value ≡ true
entry_fits f kind [] entry there all = absurd (contains_none entry there)
entry_fits f kind (first ∷ entries) entry there all =
    let parts = and_parts (fits f kind first.value) (list_all (λ (typed : TypedOperand). fits f typed.kind typed.value)
    (map (λ (entry : PhiEntry). at_type kind entry.value) entries)) all in
    elim (contains_cases first entries entry there) [
      | inl here ↦ ap (λ (one : PhiEntry). fits f kind one.value) (sym here) ∙ parts.0
      | inr later ↦ entry_fits f kind entries entry later parts.1
    ]

module _ (signatures : Signatures) (f : Function) (made : IsWellMade f) (accepted : IsAccepted signatures f)
    (defined : UsesAreDefined f) (s : State) (sound : Sound f s) (instr : Instr)
    (stands : StandsIn f s.block s.place sound.block instr) (last : is_terminator instr.op ≡ true) where
  left_held : (v : ℕ) → HasPassed f v sound.before s.block (size_of f s.block) → Holds f s.registers v
  left_held = held_at_end signatures f made accepted s sound instr stands last

  module _ (to : ℕ) (edge : Edge f s.block to) (block : Block) (there : block_of f to ≡ Some block) where
    -- ---- the values of phis

    module _ (k : ℕ) (phi : Instr) (at : StandsIn f to k block phi) (kind : IrType) (entries : List PhiEntry)
        (shape : phi.op ≡ Phi kind entries) where
      scalar : IsScalar kind
      scalar =
          let formed : IsFormed (Phi kind entries) =
          subst IsFormed shape (facts_at signatures f made accepted to k block phi at).formed.op in
          formed.0

      entry_held : (entry : PhiEntry) → Contains entries entry → entry.from.0 ≡ s.block → (v : ℕ)
          → entry.value ≡ operand.Reg (record { 0 = v }) → Holds f s.registers v
      entry_held entry among from v reads =
          let use_ : Use = record { value = v; user = to; block = s.block; index = size_of f s.block } in
          let use_there : Contains (uses f) use_ =
          subst (λ (b : ℕ). Contains (uses f) (record { value = v; user = to; block = b; index = size_of f b })) from
          (phi_use f to k block phi kind entries entry v at shape among reads) in
          left_held v (use_passed f defined use_ use_there sound.before sound.walk)

      suits_result : (x : Value) → is_of_type kind x ≡ true → SuitsResult f phi.result x
      suits_result x typed v gives =
          let own : kind_of f v ≡ kind =
          result_typed signatures f made accepted to k block phi v at gives ∙ ap given_type shape in
          rw own typed

      phi_valued : (n : ℕ) → HasPhiValue f s.registers n s.block phi
      phi_valued n =
          let entry = entry_for signatures f made accepted s.block to block k phi kind entries edge at shape in
          let fit : types_fit f (Phi kind entries) ≡ true =
          ap (types_fit f) (sym shape) ∙ (facts_at signatures f made accepted to k block phi at).types in
          let found =
          operand_typed f s.registers n kind entry.0.value scalar (entry_fits f kind entries entry.0 entry.1 fit)
          (entry_held entry.0 entry.1 entry.2) in
          record {
            value = found.0;
            is = ap (phi_value s.registers n s.block) shape
                ∙ ap (λ (o : Option Operand). option_and_then (operand_value s.registers n kind) o) entry.3 ∙ found.1;
            suits = suits_result found.0 found.2;
          }

    leading_valued : (n k : ℕ) (phi : Instr) → slice_get (leading_phis block.instrs) k ≡ Some phi
        → HasPhiValue f s.registers n s.block phi
    leading_valued n k phi at =
        let leads = leading_at block.instrs phi k at in
        let shape = phi_shape phi.op leads.1 in
        phi_valued k phi (record { block = there; instr = leads.0 }) shape.0 shape.1 shape.2 n

    -- ---- behind the phis

    -- what was passed in a block that the walk entered, or in the block that is left
    held_before : (v : ℕ) (at : BlockId) (i : ℕ) → place_of f v ≡ Some (at, i) → Contains (s.block ∷ sound.before) at.0
        → Holds f s.registers v
    held_before v at i is among =
        elim (contains_cases s.block sound.before at.0 among) [
          | inl own ↦
              let found : block_of f at.0 ≡ Some sound.block = rw (← own) sound.at in
              let given = given_there signatures f made accepted v at i sound.block is found in
              let size : size_of f s.block ≡ length sound.block.instrs = rw sound.at refl in
              let within : i < size_of f s.block =
              rw size (slice_get_within sound.block.instrs i given.0 given.1) in
              left_held v (inr (at, i, is, inr (sym own, within)))
          | inr earlier ↦ sound.held v (inr (at, i, is, inl earlier))
        ]

    -- what was passed in the block itself is the result of one of its phis
    given_leading : (v : ℕ) (at : BlockId) (i : ℕ) → place_of f v ≡ Some (at, i) → at.0 ≡ to
        → i < length (leading_phis block.instrs) → GivenIn f (leading_phis block.instrs) v
    given_leading v at i is own within =
        let found : block_of f at.0 ≡ Some block = rw own there in
        let given = given_there signatures f made accepted v at i block is found in
        let phi = some_within (leading_phis block.instrs) i within in
        let leads = leading_at block.instrs phi.0 i phi.1 in
        let one : given.0 ≡ phi.0 = same_Some given.0 phi.0 (sym given.1 ∙ leads.0) in
        (i, phi.0, phi.1, rw (← one) given.2)

    held_or_given : (v : ℕ)
        → HasPassed f v (s.block ∷ sound.before) to (length (leading_phis block.instrs))
        → Holds f s.registers v ⊎ GivenIn f (leading_phis block.instrs) v
    held_or_given v passed =
        elim passed [
          | inl param ↦ inl (sound.held v (inl param))
          | inr at ↦
              elim at.3 [
                | inl among ↦ inl (held_before v at.0 at.1 at.2 among)
                | inr here ↦ inr (given_leading v at.0 at.1 at.2 here.0 here.1)
              ]
        ]

    pub entered_sound : (n : ℕ) → (registers : Registers)
        × (with_phis s.registers n s.block (leading_phis block.instrs) s.registers ≡ Some registers)
        × Sound f (behind_phis to block s (Some registers))
    entered_sound n =
        let set =
        held_phis f s.registers n s.block (leading_phis block.instrs) (leading_valued n) s.registers in (
          set.0,
          set.1,
          record {
            before = s.block ∷ sound.before;
            trail = ap (λ (trail : List ℕ). to ∷ trail) sound.trail;
            walk = enters sound.walk edge;
            block = block;
            at = there;
            within = leading_ends signatures f made accepted to block there;
            behind = omega arith;
            held = λ v passed. set.2 v (held_or_given v passed);
            bytes = sound.bytes;
          },
        )
