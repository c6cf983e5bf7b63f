-- The parts of a recurrence, by their places in its block.
use Rattle.std.specs.Prelude.{◌≡◌, ◌≢◌, ℕ, ◌==◌, List, [], true, not, Option, Some, None, option_map, slice_get, find}
use Rattle.std.specs.Prelude.{All, refl}
use Rattle.std.proofs.Common.{ap, sym, subst, ◌∙◌}
use Rattle.std.proofs.lemmas.Bool.{eqb-true, ne_eqb, not_from_false}
use Rattle.std.proofs.lemmas.Option.{none-some, same_Some}
use Rattle.ir_model.specs.declared.types.IrType.TheVariants.{Int}
use Rattle.ir_model.specs.declared.op.Operand.{Operand}
use Rattle.ir_model.specs.declared.op.Operand.TheVariants as operand
use Rattle.ir_model.specs.declared.op.PhiEntry.{PhiEntry}
use Rattle.ir_model.specs.declared.op.Op.TheVariants.{Phi}
use Rattle.ir_model.specs.declared.function.Instr.{Instr}
use Rattle.ir_model.specs.declared.function.Block.{Block}
use Rattle.ir_model.specs.declared.function.Function.{Function}
use Rattle.ir_meaning.specs.Run.{GivesTo}
use Rattle.ir_model.specs.Shapes.{block_of, is_phi, leading_phis}
use Rattle.ir_meaning.specs.Step.{entry_from}
use Rattle.ir_meaning.proofs.ListPlaces.{contained_at, all_at, kept_at, found_from_filter, found_there}
use Rattle.classify.specs.Names.{NamesAreOnce}
use Rattle.classify.specs.Recurrence.{IsNumeral, Increments, other_entries, IsRecurrence}

-- The phi stands among the leading ones, the `add` anywhere in the block.
pub record Shape (f : Function) (b p first step : ℕ) : Type 0 where
  pub names : NamesAreOnce f
  pub block : Block
  pub is_block : block_of f b ≡ Some block
  pub entries : List PhiEntry
  pub phi : Instr
  pub phi_at : ℕ
  pub phi_there : slice_get (leading_phis block.instrs) phi_at ≡ Some phi
  pub phi_gives : GivesTo p phi
  pub phi_op : phi.op ≡ Phi (Int 32) entries
  pub next : ℕ
  pub add : Instr
  pub add_at : ℕ
  pub add_there : slice_get block.instrs add_at ≡ Some add
  pub add_gives : GivesTo next add
  pub increments : Increments p step add.op
  pub from_inside : entry_from b entries ≡ Some (operand.Reg (record { 0 = next }))
  pub from_outside : (a : ℕ) (o : Operand) → a ≢ b → entry_from a entries ≡ Some o → IsNumeral first o

mapped : {A B : Type 0} (o : Option A) (g : A → B) (y : B) → option_map g o ≡ Some y
    → (x : A) × (o ≡ Some x) × (g x ≡ y)
mapped None g y e = absurd (none-some y e)
mapped (Some x) g y e = (x, refl, same_Some (g x) y e)

outside_numeral : (b first : ℕ) (entries : List PhiEntry)
    → All (λ entry. IsNumeral first entry.value) (other_entries b entries) → (a : ℕ) (o : Operand) → a ≢ b
    → entry_from a entries ≡ Some o → IsNumeral first o
outside_numeral b first entries starts a o apart e =
    let entry = mapped (find (λ (entry : PhiEntry). entry.from.0 == a) entries) (λ (entry : PhiEntry). entry.value) o e in
    let there = found_there (λ (entry : PhiEntry). entry.from.0 == a) entries entry.0 entry.1 in
    let other : not (entry.0.from.0 == b) ≡ true = not_from_false (entry.0.from.0 == b) (ne_eqb entry.0.from.0 b (λ is. apart (sym (eqb-true entry.0.from.0 a there.2) ∙ is))) in
    let kept = kept_at (λ (entry : PhiEntry). not (entry.from.0 == b)) entries there.0 entry.0 there.1 other in
    subst (λ (one : Operand). IsNumeral first one) entry.2 (all_at (λ (entry : PhiEntry). IsNumeral first entry.value) (other_entries b entries) kept.0 entry.0 starts kept.1)

pub shape_of : (f : Function) (b p first step : ℕ) → IsRecurrence f b p first step → Shape f b p first step
shape_of f b p first step r =
    let phi = r.phi.0 in
    let stands = contained_at r.block.instrs phi r.phi.1 in
    let is : is_phi phi.op ≡ true = rw r.phi.3 in
    let among = kept_at (λ (instr : Instr). is_phi instr.op) r.block.instrs stands.0 phi stands.1 is in
    let add = contained_at r.block.instrs r.adds.0 r.adds.1 in
    record {
      names = r.names;
      block = r.block;
      is_block = r.is_block;
      entries = r.entries;
      phi = phi;
      phi_at = among.0;
      phi_there = subst (λ (found : List Instr). slice_get found among.0 ≡ Some phi) r.phis_first among.1;
      phi_gives = r.phi.2;
      phi_op = r.phi.3;
      next = r.next;
      add = r.adds.0;
      add_at = add.0;
      add_there = add.1;
      add_gives = r.adds.2;
      increments = rw r.adds.3 r.increments;
      from_inside = ap (λ (found : Option PhiEntry). option_map (λ (entry : PhiEntry). entry.value) found) (found_from_filter (λ (entry : PhiEntry). entry.from.0 == b) r.entries _ [] r.back);
      from_outside = outside_numeral b first r.entries r.starts;
    }
