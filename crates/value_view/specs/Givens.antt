-- Operations of which expressions are formed.
use Rattle.std.specs.Prelude.{ℕ, ◌&&◌, nat_le, Bool, true, false, if◌then◌else◌, List, [], ◌∷◌, Option, Some, None}
use Rattle.scev_base.specs.Residue.{residue}
use Rattle.ir_model.specs.declared.types.IrType.{IrType}
use Rattle.ir_model.specs.declared.types.IrType.TheVariants.{Int}
use Rattle.ir_model.specs.declared.op.Operand.{Operand}
use Rattle.ir_model.specs.declared.op.Operand.TheVariants as operand
use Rattle.ir_model.specs.declared.op.BinOp.{BinOp}
use Rattle.ir_model.specs.declared.op.BinOp.TheVariants as binary
use Rattle.ir_model.specs.declared.op.CastOp.{CastOp}
use Rattle.ir_model.specs.declared.op.TypedOperand.{TypedOperand}
use Rattle.ir_model.specs.declared.op.Op.{Op}
use Rattle.ir_model.specs.declared.op.Op.TheVariants.{Binary, Cast, Call}
use Rattle.ir_model.specs.declared.min_max.MinMax.{MinMax}
use Rattle.ir_model.specs.declared.min_max.MinMax.TheVariants as minmax
use Rattle.ir_model.specs.Callees.{min_max_named}
use Rattle.value_view.specs.declared.source.Source.{Source}
use Rattle.value_view.specs.declared.source.Source.TheVariants.{Number, Register}
use Rattle.value_view.specs.declared.given.Pair.{Pair}
use Rattle.value_view.specs.declared.given.Pair.TheVariants as pair
use Rattle.value_view.specs.declared.given.Given.{Given}
use Rattle.value_view.specs.declared.given.Given.TheVariants as given
use Rattle.value_view.specs.declared.row.Row.{Row}

-- how many bits an integer has, and 0 of any other type
abbrev pub bits : IrType → ℕ
bits (Int n) = n
bits _ = 0

-- an operand of w bits: a number modulo 2^w, or a register
abbrev pub source_of : ℕ → Operand → Option Source
source_of w (operand.Reg v) = Some (Register v)
source_of w (operand.Num n) = Some (Number (residue w n))
source_of w _ = None

-- `or` is a sum where no bit is set in both
abbrev pub pair_of : BinOp → Bool → Option Pair
pair_of binary.Add disjoint = Some pair.Sum
pair_of binary.Sub disjoint = Some pair.Difference
pair_of binary.Mul disjoint = Some pair.Product
pair_of binary.Shl disjoint = Some pair.ShiftedUp
pair_of binary.Lshr disjoint = Some pair.ShiftedDown
pair_of binary.Udiv disjoint = Some pair.Quotient
pair_of binary.Xor disjoint = Some pair.Differing
pair_of binary.Or true = Some pair.Sum
pair_of _ disjoint = None

abbrev pub minimum_of : MinMax → Pair
minimum_of minmax.Smax = pair.Smax
minimum_of minmax.Umax = pair.Umax
minimum_of minmax.Smin = pair.Smin
minimum_of minmax.Umin = pair.Umin

-- an operation on two operands that are numerals or registers
abbrev pub given_pair : Option Pair → Option Source → Option Source → Given
given_pair (Some p) (Some left) (Some right) = given.Pair p left right
given_pair _ _ _ = given.Opaque

-- a conversion of an operand of v bits
abbrev pub given_source : CastOp → ℕ → Option Source → Given
given_source op v (Some source) = given.Cast op v source
given_source op v None = given.Opaque

-- it is one of an integer of 1 to 64 bits
abbrev pub given_cast : CastOp → IrType → Operand → Given
given_cast op (Int v) value =
    if nat_le 1 v && nat_le v 64 then given_source op v (source_of v value) else given.Opaque
given_cast op _ value = given.Opaque

abbrev pub given_call : Option MinMax → ℕ → List TypedOperand → Given
given_call (Some m) w (left ∷ right ∷ []) =
    given_pair (Some (minimum_of m)) (source_of w left.value) (source_of w right.value)
given_call _ w _ = given.Opaque

-- what an operation other than a phi gives, at w bits
abbrev pub given_by : ℕ → Op → Given
given_by w (Binary op nuw nsw exact disjoint kind left right) =
    given_pair (pair_of op disjoint) (source_of w left) (source_of w right)
given_by w (Cast op nneg from value to) = given_cast op from value
given_by w (Call ret callee args) = given_call (min_max_named callee) w args
given_by w _ = given.Opaque

abbrev pub has_nuw : Op → Bool
has_nuw (Binary op nuw nsw exact disjoint kind left right) = nuw
has_nuw _ = false

abbrev pub has_nsw : Op → Bool
has_nsw (Binary op nuw nsw exact disjoint kind left right) = nsw
has_nsw _ = false

-- the row of a value that no instruction defines
abbrev pub bare_row : ℕ → Row
bare_row n = record { block = None; bits = n; given = given.Opaque; nuw = false; nsw = false }
