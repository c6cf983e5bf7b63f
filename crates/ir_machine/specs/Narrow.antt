-- What a machine holds: types of values, and registers.
use Rattle.std.specs.Prelude.{ℕ, ◌<◌, ◌≤◌, Option, Some, None, All, IsTrue}
use Rattle.scev_base.specs.declared.ids.ValueId.{ValueId}
use Rattle.ir_model.specs.declared.types.IrType.{IrType}
use Rattle.ir_model.specs.declared.types.IrType.TheVariants.{Int}
use Rattle.ir_model.specs.declared.op.TypedOperand.{TypedOperand}
use Rattle.ir_model.specs.declared.op.Op.{Op}
use Rattle.ir_model.specs.declared.op.Op.TheVariants.{Binary, Icmp, Cast, Select, Phi, Freeze, Alloca, Load, Store, Gep}
use Rattle.ir_model.specs.declared.op.Op.TheVariants.{Call, Switch, Ret}
use Rattle.ir_memory.specs.Spelling.{IsAccessWidth}
use Rattle.ir_rules.specs.Blocks.{entries_agree}

-- A type whose integers, if it has any, have 1 to 64 bits.
abbrev pub IsNarrow : IrType → Type 0
IsNarrow (Int w) = (1 ≤ w) × (w ≤ 64)
IsNarrow _ = Unit {0}

-- A type that loads and stores may have.
abbrev pub IsAccessed : IrType → Type 0
IsAccessed (Int w) = IsAccessWidth w
IsAccessed _ = Unit {0}

-- A machine holds the types of the operation.
abbrev pub IsNarrowOp : Op → Type 0
IsNarrowOp (Binary op nuw nsw exact disjoint kind left right) = IsNarrow kind
IsNarrowOp (Icmp pred kind left right) = IsNarrow kind
IsNarrowOp (Cast op nneg from operand to) = IsNarrow from × IsNarrow to
IsNarrowOp (Select cond left right) = IsNarrow left.kind × IsNarrow right.kind
IsNarrowOp (Phi kind entries) = IsNarrow kind
IsNarrowOp (Freeze kind operand) = IsNarrow kind
IsNarrowOp (Load kind from) = IsAccessed kind
IsNarrowOp (Store kind operand to) = IsAccessed kind
IsNarrowOp (Gep inbounds kind base indices) = All (λ (typed : TypedOperand). IsNarrow typed.kind) indices
IsNarrowOp (Call ret callee args) = IsNarrow ret × All (λ (typed : TypedOperand). IsNarrow typed.kind) args
IsNarrowOp (Switch kind operand other cases) = IsNarrow kind
IsNarrowOp (Ret (Some typed)) = IsNarrow typed.kind
IsNarrowOp _ = Unit {0}

-- A result, where there is one, is a register of a table of so many.
abbrev pub HasPlace : ℕ → Option ValueId → Type 0
HasPlace values None = Unit {0}
HasPlace values (Some v) = v.0 < values

abbrev pub IsAlloca : Op → Type 0
IsAlloca (Alloca kind) = Unit {0}
IsAlloca _ = ⊥

-- Where the operation is a phi, its entries from one block have one operand.
abbrev pub HasAgreeing : Op → Type 0
HasAgreeing (Phi kind entries) = IsTrue (entries_agree kind entries)
HasAgreeing _ = Unit {0}
