-- Which types stand where, and which flags an operation of two operands has.
use Rattle.std.specs.Prelude.{◌≡◌, Bool, false}
use Rattle.ir_model.specs.declared.types.IrType.{IrType}
use Rattle.ir_model.specs.declared.types.IrType.TheVariants.{Void, Int, Ptr, Array}
use Rattle.ir_model.specs.declared.op.BinOp.{BinOp}
use Rattle.ir_model.specs.declared.op.BinOp.TheVariants as binary
use Rattle.ir_model.specs.declared.op.CastOp.{CastOp}
use Rattle.ir_model.specs.declared.op.CastOp.TheVariants as cast

-- What a place takes: an integer; an integer or an array; an integer or a pointer; the same or `void`.
abbrev pub IsInt : IrType → Type 0
IsInt (Int width) = Unit {0}
IsInt _ = ⊥

abbrev pub IsStored : IrType → Type 0
IsStored (Int width) = Unit {0}
IsStored (Array dims width) = Unit {0}
IsStored _ = ⊥

abbrev pub IsScalar : IrType → Type 0
IsScalar (Int width) = Unit {0}
IsScalar Ptr = Unit {0}
IsScalar _ = ⊥

abbrev pub IsReturned : IrType → Type 0
IsReturned Void = Unit {0}
IsReturned kind = IsScalar kind

-- which flags an operation has
pub data FlagKind : Type 0 where
  Wraps : FlagKind
  Exact : FlagKind
  Disjoint : FlagKind
  NoFlag : FlagKind

abbrev pub flag_kind : BinOp → FlagKind
flag_kind binary.Add = Wraps
flag_kind binary.Sub = Wraps
flag_kind binary.Mul = Wraps
flag_kind binary.Shl = Wraps
flag_kind binary.Udiv = Exact
flag_kind binary.Sdiv = Exact
flag_kind binary.Lshr = Exact
flag_kind binary.Ashr = Exact
flag_kind binary.Or = Disjoint
flag_kind _ = NoFlag

-- The flags that an operation doesn't have aren't set: `nuw`, `nsw`, `exact` and `disjoint`; and `nneg` of a conversion.
abbrev pub HasFlags : FlagKind → Bool → Bool → Bool → Bool → Type 0
HasFlags Wraps nuw nsw exact disjoint = (exact ≡ false) × (disjoint ≡ false)
HasFlags Exact nuw nsw exact disjoint = (nuw ≡ false) × (nsw ≡ false) × (disjoint ≡ false)
HasFlags Disjoint nuw nsw exact disjoint = (nuw ≡ false) × (nsw ≡ false) × (exact ≡ false)
HasFlags NoFlag nuw nsw exact disjoint = (nuw ≡ false) × (nsw ≡ false) × (exact ≡ false) × (disjoint ≡ false)

abbrev pub HasNneg : CastOp → Bool → Type 0
HasNneg cast.Zext nneg = Unit {0}
HasNneg _ nneg = nneg ≡ false
