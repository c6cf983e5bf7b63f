-- Entries of phis: those from one block have one operand, so that each of them gives the value.
use Rattle.std.specs.Prelude.{◌≡◌, ℕ, ◌==◌, List, true, not, ◌||◌, Some, Contains, refl}
use Rattle.std.specs.List.{list_all}
use Rattle.std.proofs.Common.{ap, subst}
use Rattle.std.proofs.lemmas.Bool.{eqb-true, eq-eqb, false≢true}
use Rattle.scev_base.specs.Residue.{residue}
use Rattle.ir_model.specs.declared.types.IrType.{IrType}
use Rattle.ir_model.specs.declared.types.IrType.TheVariants.{Int, Ptr}
use Rattle.ir_model.specs.declared.op.Operand.{Operand}
use Rattle.ir_model.specs.declared.op.Operand.TheVariants as operand
use Rattle.ir_model.specs.declared.op.PhiEntry.{PhiEntry}
use Rattle.ir_model.specs.declared.op.Op.{Op}
use Rattle.ir_model.specs.declared.op.Op.TheVariants.{Phi}
use Rattle.ir_rules.specs.Blocks.{same_operand, entries_agree}
use Rattle.ir_meaning.specs.declared.value.Value.TheVariants as value
use Rattle.ir_meaning.specs.State.{Registers}
use Rattle.ir_meaning.specs.Operands.{of_type, operand_value}
use Rattle.ir_meaning.specs.Step.{phi_value}
use Rattle.ir_machine.specs.Narrow.{HasAgreeing}
use Rattle.ir_meaning.proofs.ListPlaces.{found_there}
use Rattle.never_stuck.proofs.Elements.{contains_at, find_has, one_of_all}

module _ (registers : Registers) (n : ℕ) where
  -- two operands of a type that are one have one value there
  pub same_value : (kind : IrType) (one other : Operand) → same_operand kind one other ≡ true
      → operand_value registers n kind one ≡ operand_value registers n kind other
  same_value kind (operand.Reg v) (operand.Reg w) same =
      ap (λ (k : ℕ). of_type kind (registers k)) (eqb-true v.0 w.0 same)
  same_value (Int w) (operand.Num a) (operand.Num b) same =
      ap (λ (k : ℕ). Some (value.Number k)) (eqb-true (residue w a) (residue w b) same)
  same_value _ (operand.Num a) (operand.Num b) same = refl
  same_value Ptr (operand.Global g) (operand.Global h) same =
      ap (λ (k : ℕ). Some (value.Pointer k 0)) (eqb-true g h same)
  same_value _ (operand.Global g) (operand.Global h) same = refl
  same_value kind operand.Null operand.Null same = refl
  same_value kind operand.Undef operand.Undef same = refl
  same_value kind operand.Poison operand.Poison same = refl
  same_value kind _ _ same = absurd (false≢true same)

  -- each entry for the block gives the value of the phi
  pub value_of_entry : (op : Op) (kind : IrType) (entries : List PhiEntry) (entry : PhiEntry) → op ≡ Phi kind entries
      → HasAgreeing op → Contains entries entry
      → phi_value registers n entry.from.0 op ≡ operand_value registers n kind entry.value
  value_of_entry op kind entries entry is agrees there =
      let agree : entries_agree kind entries ≡ true = subst HasAgreeing is agrees in
      let is_for = λ (one : PhiEntry). one.from.0 == entry.from.0 in
      let found = find_has is_for entries entry there (eq-eqb entry.from.0 entry.from.0 refl) in
      let first = found.0 in
      let place = found_there is_for entries first found.1 in
      let agree_with = λ (one other : PhiEntry).
      not (one.from.0 == other.from.0) || same_operand kind one.value other.value in
      let all = one_of_all (λ (one : PhiEntry). list_all (agree_with one) entries) entries first agree
      (contains_at entries place.0 first place.1) in
      let same = rw place.2 at (one_of_all (agree_with first) entries entry all there) in
      rw (is, found.1) (same_value kind first.value entry.value same)
