-- The numeral beside a register in an `add`.
use Rattle.std.specs.Prelude.{◌≡◌, ◌⊎◌, ℕ, Option, Some, None, Bool, IfNone}
use Rattle.std.proofs.Common.{ap, subst, ◌∙◌, inl, inr}
use Rattle.ir_model.specs.declared.types.IrType.{IrType}
use Rattle.ir_model.specs.declared.op.Operand.{Operand}
use Rattle.ir_model.specs.declared.op.Operand.TheVariants as operand
use Rattle.ir_model.specs.declared.op.BinOp.{BinOp}
use Rattle.ir_model.specs.declared.op.BinOp.TheVariants as binary
use Rattle.ir_model.specs.declared.op.Op.{Op}
use Rattle.ir_model.specs.declared.op.Op.TheVariants.{Binary}
use Rattle.classify.specs.Recurrence.{IsNumeral, Increments}
use Rattle.classify.proofs.OneAnswer.{no_numeral}

-- Of two operands one is the register, and the other one stands beside it.
abbrev pub IsBeside : ℕ → Operand → Operand → Operand → Type 0
IsBeside p left right other =
    ((left ≡ operand.Reg (record { 0 = p })) × (right ≡ other)) ⊎ ((left ≡ other) × (right ≡ operand.Reg (record { 0 = p })))

-- an `add` whose other operand is no numeral increments nothing
numeral_beside : (p n : ℕ) (nuw nsw exact disjoint : Bool) (kind : IrType) (left right other : Operand)
    → IsBeside p left right other → Increments p n (Binary binary.Add nuw nsw exact disjoint kind left right)
    → IsNumeral n other
numeral_beside p n nuw nsw exact disjoint kind left right other (inl h) k =
    elim k.1 [
      | inl x ↦ subst (IsNumeral n) h.1 x.1
      | inr x ↦ absurd (no_numeral n p left h.0 x.0)
    ]
numeral_beside p n nuw nsw exact disjoint kind left right other (inr h) k =
    elim k.1 [
      | inl x ↦ absurd (no_numeral n p right h.1 x.1)
      | inr x ↦ subst (IsNumeral n) h.0 x.0
    ]

pub no_increment : (p : ℕ) (op : Op) (what : BinOp) (nuw nsw exact disjoint : Bool) (kind : IrType) (left right other : Operand) (o : Option ℕ)
    → op ≡ Binary what nuw nsw exact disjoint kind left right → what ≡ binary.Add → IsBeside p left right other
    → IfNone o ((n : ℕ) → IsNumeral n other → ⊥) → IfNone o ((step : ℕ) → Increments p step op → ⊥)
no_increment p op what nuw nsw exact disjoint kind left right other (Some n) is add beside none = tt
no_increment p op what nuw nsw exact disjoint kind left right other None is add beside none =
    let same : op ≡ Binary binary.Add nuw nsw exact disjoint kind left right = is ∙ ap (λ (b : BinOp). Binary b nuw nsw exact disjoint kind left right) add in
    λ step h. none step (numeral_beside p step nuw nsw exact disjoint kind left right other beside (subst (Increments p step) same h))
