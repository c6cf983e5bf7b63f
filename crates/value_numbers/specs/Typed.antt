-- Operations that give an integer of so many bits.
use Rattle.std.specs.Prelude.{◌≡◌, ℕ}
use Rattle.ir_model.specs.declared.types.IrType.TheVariants.{Int}
use Rattle.ir_model.specs.declared.op.Op.{Op}
use Rattle.ir_model.specs.declared.op.Op.TheVariants.{Binary, Cast, Call}

-- An operation on two operands is at w bits, a conversion is to them, and a call's answer has them.
abbrev pub IsOfWidth : Op → ℕ → Type 0
IsOfWidth (Binary op nuw nsw exact disjoint kind left right) w = kind ≡ Int w
IsOfWidth (Cast op nneg from value to) w = to ≡ Int w
IsOfWidth (Call ret callee args) w = ret ≡ Int w
IsOfWidth op w = ⊥
