-- What is known of the parts of a recurrence.
use Rattle.std.proofs.Common.{IfSome, None, ◌≡◌, ◌≢◌, ℕ, ◌<◌, ◌^◌, List, [], ◌∷◌, Option, Some, ℤ, pos, negsuc, inl}
use Rattle.std.proofs.Common.{inr, refl, arith}
use Rattle.std.specs.Prelude.{All}
use Rattle.std.proofs.lemmas.List.Elements.{All-head}
use Rattle.scev_base.specs.Residue.{residue}
use Rattle.ir_model.specs.declared.op.Operand.{Operand}
use Rattle.ir_model.specs.declared.op.Operand.TheVariants as operand
use Rattle.ir_model.specs.declared.op.BinOp.TheVariants as binary
use Rattle.ir_model.specs.declared.op.PhiEntry.{PhiEntry}
use Rattle.ir_model.specs.declared.op.Op.{Op}
use Rattle.ir_model.specs.declared.op.Op.TheVariants.{Binary}
use Rattle.ir_model.specs.declared.function.Function.{Function}
use Rattle.classify.specs.Recurrence.{IsNumeral, Increments, IsAnswer}

residue_32-lt : (z : ℤ) → residue 32 z < 2 ^ 32
residue_32-lt (pos n) = omega arith
residue_32-lt (negsuc n) = omega arith

numeral-lt : (n : ℕ) (o : Operand) → IsNumeral n o → n < 2 ^ 32
numeral-lt n (operand.Num z) h = rw (← h) (residue_32-lt z)
numeral-lt n (operand.Reg v) h = absurd h
numeral-lt n operand.Null h = absurd h
numeral-lt n (operand.Global g) h = absurd h
numeral-lt n operand.Undef h = absurd h
numeral-lt n operand.Poison h = absurd h

start-lt : (n : ℕ) (entries : List PhiEntry) → entries ≢ [] → All (λ entry. IsNumeral n entry.value) entries
    → n < 2 ^ 32
start-lt n [] some all = absurd (some refl)
start-lt n (entry ∷ entries) some all =
    numeral-lt n entry.value (All-head (λ (e : PhiEntry). IsNumeral n e.value) entry entries all)

step-lt : (p n : ℕ) (op : Op) → Increments p n op → n < 2 ^ 32
step-lt p n (Binary binary.Add nuw nsw exact disjoint kind left right) h =
    elim h.1 [
      | inl l ↦ numeral-lt n right l.1
      | inr r ↦ numeral-lt n left r.0
    ]
step-lt p n _ h = absurd h

-- Both parts of an answer are residues.
pub answer_parts-lt : (f : Function) (b p : ℕ) (answer : Option (ℕ × ℕ)) (first step : ℕ) → IsAnswer f b p answer
    → answer ≡ Some (first, step)
    → (first < 2 ^ 32) × (step < 2 ^ 32)
answer_parts-lt f b p answer first step h is =
    let found = rw is at h in
    (start-lt first _ found.outside found.starts, step-lt p step found.increment found.increments)

-- So are those of an answer.
pub answer_small : (f : Function) (b p : ℕ) (answer : Option (ℕ × ℕ)) → IsAnswer f b p answer
    → IfSome answer (λ parts. (parts.0 < 2 ^ 32) × (parts.1 < 2 ^ 32))
answer_small f b p None h = tt
answer_small f b p (Some parts) h = answer_parts-lt f b p (Some parts) parts.0 parts.1 h refl
