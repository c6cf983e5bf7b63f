-- Functions of the thin forms: the operations, over `i32`, that have a meaning so far.
use Rattle.std.specs.Prelude.{◌≡◌, ◌≢◌, ℕ, ◌<◌, List, [], ◌∷◌, length, Option, Some, None, All}
use Rattle.scev_base.specs.declared.ids.ValueId.{ValueId}
use Rattle.ir_model.specs.declared.types.IrType.TheVariants.{Int}
use Rattle.ir_model.specs.declared.op.Operand.{Operand}
use Rattle.ir_model.specs.declared.op.Operand.TheVariants as operand
use Rattle.ir_model.specs.declared.op.BinOp.TheVariants as binary
use Rattle.ir_model.specs.declared.op.Op.{Op}
use Rattle.ir_model.specs.declared.op.Op.TheVariants.{Binary, Icmp, Phi, Jump, Branch, Ret}
use Rattle.ir_model.specs.declared.function.Instr.{Instr}
use Rattle.ir_model.specs.declared.function.Function.{Function}

-- an operand: a register of the table of values, of this many, or a numeral
abbrev pub IsThinOperand : ℕ → Operand → Type 0
IsThinOperand values (operand.Reg v) = v.0 < values
IsThinOperand values (operand.Num z) = Unit {0}
IsThinOperand values _ = ⊥

-- an operation that gives a value, where the tables have so many values and so many labels
abbrev pub IsThinGiving : ℕ → ℕ → Op → Type 0
IsThinGiving values labels (Phi kind entries) =
    (kind ≡ Int 32) × All (λ entry. IsThinOperand values entry.value × (entry.from.0 < labels)) entries
IsThinGiving values labels (Binary binary.Add nuw nsw exact disjoint kind left right) =
    (kind ≡ Int 32) × IsThinOperand values left × IsThinOperand values right
IsThinGiving values labels (Icmp pred kind left right) =
    (kind ≡ Int 32) × IsThinOperand values left × IsThinOperand values right
IsThinGiving values labels _ = ⊥

-- the end of a block
abbrev pub IsThinEnding : ℕ → ℕ → Op → Type 0
IsThinEnding values labels (Jump to) = to.0 < labels
IsThinEnding values labels (Branch cond there else_there) =
    IsThinOperand values cond × (there.0 < labels) × (else_there.0 < labels)
IsThinEnding values labels (Ret (Some typed)) = (typed.kind ≡ Int 32) × IsThinOperand values typed.value
IsThinEnding values labels _ = ⊥

abbrev pub HasResult : ℕ → Option ValueId → Type 0
HasResult values None = ⊥
HasResult values (Some v) = v.0 < values

-- instructions that give values, and a terminator
abbrev pub AreThinInstrs : ℕ → ℕ → List Instr → Type 0
AreThinInstrs values labels [] = ⊥
AreThinInstrs values labels (last ∷ []) = (last.result ≡ None) × IsThinEnding values labels last.op
AreThinInstrs values labels (instr ∷ next ∷ more) =
    HasResult values instr.result × IsThinGiving values labels instr.op × AreThinInstrs values labels (next ∷ more)

-- A function of the thin forms, whose ids stand in its tables.
pub record IsThinFunction (f : Function) : Type 0 where
  pub entry : f.blocks ≢ []
  pub params : All (λ p. (p.kind ≡ Int 32) × (p.value.0 < length f.values)) f.params
  pub blocks : All (λ block. (block.id.0 < length f.labels)
      × AreThinInstrs (length f.values) (length f.labels) block.instrs) f.blocks
