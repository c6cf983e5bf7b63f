-- A phi has one answer.
use Rattle.std.proofs.Common.{◌≡◌, ◌≢◌, ℕ, List, [], ◌∷◌, Option, Some, None, inl, inr, refl, sym, ap, ◌∙◌, subst}
use Rattle.std.specs.Prelude.{All, Contains, slice_get}
use Rattle.std.proofs.lemmas.List.Elements.{All-head}
use Rattle.std.proofs.lemmas.Option.{same_Some}
use Rattle.ir_model.specs.declared.types.IrType.TheVariants.{Int}
use Rattle.ir_model.specs.declared.op.Operand.{Operand}
use Rattle.ir_model.specs.declared.op.Operand.TheVariants as operand
use Rattle.ir_model.specs.declared.op.BinOp.TheVariants as binary
use Rattle.ir_model.specs.declared.op.PhiEntry.{PhiEntry}
use Rattle.ir_model.specs.declared.op.Op.{Op}
use Rattle.ir_model.specs.declared.op.Op.TheVariants.{Binary, Phi}
use Rattle.ir_model.specs.declared.function.Instr.{Instr}
use Rattle.ir_model.specs.declared.function.Block.{Block}
use Rattle.ir_model.specs.declared.function.Function.{Function}
use Rattle.ir_meaning.specs.Run.{GivesTo}
use Rattle.ir_model.specs.Shapes.{block_of}
use Rattle.ir_meaning.proofs.ListPlaces.{contained_at}
use Rattle.classify.specs.Names.{NamesAreOnce}
use Rattle.classify.specs.Recurrence.{IsNumeral, Increments, Has, entries_from, other_entries, IsRecurrence, IsAnswer}
use Rattle.classify.proofs.DefinedOnce.{only_there}

pub same_numeral : (m n : ℕ) (o : Operand) → IsNumeral m o → IsNumeral n o → m ≡ n
same_numeral m n (operand.Num z) h k = sym h ∙ k
same_numeral m n (operand.Reg v) h k = absurd h
same_numeral m n operand.Null h k = absurd h
same_numeral m n (operand.Global g) h k = absurd h
same_numeral m n operand.Undef h k = absurd h
same_numeral m n operand.Poison h k = absurd h

pub same_start : (m n : ℕ) (entries : List PhiEntry) → entries ≢ [] → All (λ entry. IsNumeral m entry.value) entries
    → All (λ entry. IsNumeral n entry.value) entries → m ≡ n
same_start m n [] some h k = absurd (some refl)
same_start m n (entry ∷ entries) some h k =
    same_numeral m n entry.value (All-head (λ (e : PhiEntry). IsNumeral m e.value) entry entries h) (All-head (λ (e : PhiEntry). IsNumeral n e.value) entry entries k)

-- a register is no numeral
pub no_numeral : (n v : ℕ) (o : Operand) → o ≡ operand.Reg (record { 0 = v }) → IsNumeral n o → ⊥
no_numeral n v o is h = subst (IsNumeral n) is h

same_step : (p m n : ℕ) (op : Op) → Increments p m op → Increments p n op → m ≡ n
same_step p m n (Binary binary.Add nuw nsw exact disjoint kind left right) h k =
    elim h.1 [
      | inl x ↦ elim k.1 [
        | inl y ↦ same_numeral m n right x.1 y.1
        | inr y ↦ absurd (no_numeral n p left x.0 y.0)
      ]
      | inr x ↦ elim k.1 [
        | inl y ↦ absurd (no_numeral m p left y.0 x.0)
        | inr y ↦ same_numeral m n left x.0 y.0
      ]
    ]
same_step p m n _ h k = absurd h

-- Where each name is defined once, one instruction of a block gives a register.
pub one_gives : (f : Function) (b v : ℕ) (block : Block) (x y : Instr) → NamesAreOnce f → block_of f b ≡ Some block
    → Contains block.instrs x → GivesTo v x → Contains block.instrs y → GivesTo v y → x ≡ y
one_gives f b v block x y names found in_x gives in_y gives' =
    let i = contained_at block.instrs x in_x in
    let j = contained_at block.instrs y in_y in
    let same : j.0 ≡ i.0 = only_there f b v i.0 block x names found i.1 gives j.0 y j.1 gives' in
    same_Some x y (sym i.1 ∙ ap (slice_get block.instrs) (sym same) ∙ j.1)

-- so it gives it by one operation
one_op : (f : Function) (b v : ℕ) (block : Block) (x y : Op) → NamesAreOnce f → block_of f b ≡ Some block
    → Has block v x → Has block v y → x ≡ y
one_op f b v block x y names found h k =
    sym h.3 ∙ ap (λ (instr : Instr). instr.op) (one_gives f b v block h.0 k.0 names found h.1 h.2 k.1 k.2) ∙ k.3

pub same_entries : (xs ys : List PhiEntry) → Phi (Int 32) xs ≡ Phi (Int 32) ys → xs ≡ ys
same_entries xs ys same = cc

-- the register that the first of some entries takes
first_register : List PhiEntry → ℕ
first_register [] = 0
first_register (entry ∷ entries) = register_number entry.value
  where
    register_number : Operand → ℕ
    register_number (operand.Reg v) = v.0
    register_number _ = 0

pub same_next : (b m n : ℕ) (xs : List PhiEntry)
    → xs ≡ record { value = operand.Reg (record { 0 = m }); from = record { 0 = b } } ∷ []
    → xs ≡ record { value = operand.Reg (record { 0 = n }); from = record { 0 = b } } ∷ [] → m ≡ n
unfolding first_register
same_next b m n xs h k = ap first_register (sym h ∙ k)

-- A phi of a block is a recurrence in one way.
pub one_recurrence : (f : Function) (b p first step first' step' : ℕ) → IsRecurrence f b p first step
    → IsRecurrence f b p first' step' → (first ≡ first') × (step ≡ step')
one_recurrence f b p first step first' step' r q =
    let block : q.block ≡ r.block = same_Some q.block r.block (sym q.is_block ∙ r.is_block) in
    let phi' = subst (λ (one : Block). Has one p (Phi (Int 32) q.entries)) block q.phi in
    let entries : q.entries ≡ r.entries = same_entries q.entries r.entries (one_op f b p r.block (Phi (Int 32) q.entries) (Phi (Int 32) r.entries) r.names r.is_block phi' r.phi) in
    let next : q.next ≡ r.next = same_next b q.next r.next (entries_from b r.entries) (subst (λ (es : List PhiEntry). entries_from b es ≡ record { value = operand.Reg (record { 0 = q.next }); from = record { 0 = b } } ∷ []) entries q.back) r.back in
    let adds' = subst (λ (v : ℕ). Has r.block v q.increment) next (subst (λ (one : Block). Has one q.next q.increment) block q.adds) in
    let op : q.increment ≡ r.increment = one_op f b r.next r.block q.increment r.increment r.names r.is_block adds' r.adds in (
      same_start first first' (other_entries b r.entries) r.outside r.starts (subst (λ (es : List PhiEntry). All (λ entry. IsNumeral first' entry.value) (other_entries b es)) entries q.starts),
      same_step p step step' r.increment r.increments (subst (Increments p step') op q.increments),
    )

-- What is reported of a phi is one thing.
pub one_answer : (f : Function) (b p : ℕ) (x y : Option (ℕ × ℕ)) → IsAnswer f b p x → IsAnswer f b p y → x ≡ y
one_answer f b p None None h k = refl
one_answer f b p None (Some y) h k = absurd (h y.0 y.1 k)
one_answer f b p (Some x) None h k = absurd (k x.0 x.1 h)
one_answer f b p (Some (first, step)) (Some (first', step')) h k =
    let same = one_recurrence f b p first step first' step' h k in
    rw (same.0, same.1) refl
