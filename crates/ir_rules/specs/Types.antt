-- Rules on types: operands and literals have the types of their places, numerals fit their widths, and widths fit.
use Rattle.std.specs.Prelude.{ℕ, suc, ◌-◌, ◌^◌, ◌==◌, Bool, true, false, not, ◌&&◌, ◌||◌, nat_lt, nat_le, List, [], ◌∷◌, ◌++◌, length, map, flat_map, Some, None, ℤ, pos, neg_ℤ, int_lt, int_le, if◌then◌else◌, slice_get, option_map, unwrap_or}
use Rattle.std.specs.List.{list_all}
use Rattle.std.specs.Str.{bytes_eq}
use Rattle.ir_model.specs.declared.types.IrType.{IrType}
use Rattle.ir_model.specs.declared.types.IrType.TheVariants.{Void, Int, Ptr, Array}
use Rattle.ir_model.specs.declared.op.Operand.{Operand}
use Rattle.ir_model.specs.declared.op.Operand.TheVariants as operand
use Rattle.ir_model.specs.declared.op.CastOp.{CastOp}
use Rattle.ir_model.specs.declared.op.CastOp.TheVariants as cast
use Rattle.ir_model.specs.declared.op.TypedOperand.{TypedOperand}
use Rattle.ir_model.specs.declared.op.PhiEntry.{PhiEntry}
use Rattle.ir_model.specs.declared.op.Case.{Case}
use Rattle.ir_model.specs.declared.op.Op.{Op}
use Rattle.ir_model.specs.declared.op.Op.TheVariants.{Binary, Icmp, Cast, Select, Phi, Freeze, Alloca, Load, Store, Gep, Call, Branch, Switch, Ret}
use Rattle.ir_model.specs.declared.function.Param.{Param}
use Rattle.ir_model.specs.declared.function.ValueInfo.{ValueInfo}
use Rattle.ir_model.specs.declared.function.Function.{Function}
use Rattle.ir_model.specs.declared.rule.Place.{Place}
use Rattle.ir_model.specs.declared.rule.Place.TheVariants.{Value, BlockAt}
use Rattle.ir_model.specs.Shapes.{entry}
use Rattle.ir_rules.specs.Spots.{Spot, places_where}
use Rattle.ir_rules.specs.Names.{unless}

-- ---- kinds of types

abbrev pub is_int : IrType → Bool
is_int (Int width) = true
is_int _ = false

abbrev pub is_pointer : IrType → Bool
is_pointer Ptr = true
is_pointer _ = false

abbrev pub same_type : IrType → IrType → Bool
same_type Void Void = true
same_type (Int v) (Int w) = v == w
same_type Ptr Ptr = true
same_type (Array dims v) (Array others w) = bytes_eq dims others && (v == w)
same_type _ _ = false

-- the width of an integer, and of the elements of an array
abbrev pub width_of : IrType → ℕ
width_of (Int width) = width
width_of (Array dims width) = width
width_of _ = 0

abbrev pub dimensions : IrType → ℕ
dimensions (Array dims width) = length dims
dimensions _ = 0

-- ---- the operands of an operation, each with the type that its place wants

abbrev pub at_type : IrType → Operand → TypedOperand
at_type kind value = record { kind = kind; value = value }

-- a numeral as an operand
abbrev pub number : ℤ → Operand
number n = operand.Num n

abbrev pub wanted : Op → List TypedOperand
wanted (Binary op nuw nsw exact disjoint kind left right) = at_type kind left ∷ at_type kind right ∷ []
wanted (Icmp pred kind left right) = at_type kind left ∷ at_type kind right ∷ []
wanted (Cast op nneg from value to) = at_type from value ∷ []
wanted (Select cond left right) = at_type (Int 1) cond ∷ left ∷ right ∷ []
wanted (Phi kind entries) = map (λ (entry : PhiEntry). at_type kind entry.value) entries
wanted (Freeze kind value) = at_type kind value ∷ []
wanted (Load kind from) = at_type Ptr from ∷ []
wanted (Store kind value to) = at_type kind value ∷ at_type Ptr to ∷ []
wanted (Gep inbounds kind base indices) = at_type Ptr base ∷ indices
wanted (Call ret callee args) = args
wanted (Branch cond there other) = at_type (Int 1) cond ∷ []
wanted (Switch kind value other cases) =
    at_type kind value ∷ map (λ (one : Case). at_type one.kind (number one.number)) cases
wanted (Ret (Some value)) = value ∷ []
wanted _ = []

-- ---- types that aren't those of their places

-- the type of a value, as the function's table has it: in a well-made function that of its first definition
abbrev pub kind_of : Function → ℕ → IrType
kind_of f v = unwrap_or (option_map (λ (info : ValueInfo). info.kind) (slice_get f.values v)) Void

-- An operand may stand at a type.
abbrev pub fits : Function → IrType → Operand → Bool
fits f kind (operand.Reg v) = same_type kind (kind_of f v.0)
fits f kind (operand.Num n) = is_int kind
fits f kind operand.Null = is_pointer kind
fits f kind (operand.Global g) = is_pointer kind
fits f kind operand.Undef = true
fits f kind operand.Poison = true

abbrev pub operands_fit : Function → List TypedOperand → Bool
operands_fit f values = list_all (λ (typed : TypedOperand). fits f typed.kind typed.value) values

-- Integers stand where numbers are wanted, both arms of a `select` have one type, and so have the cases of a `switch`;
-- a `getelementptr` has, behind its first index, at most one for each dimension.
abbrev pub types_agree : Op → Bool
types_agree (Binary op nuw nsw exact disjoint kind left right) = is_int kind
types_agree (Cast op nneg from value to) = is_int from
types_agree (Select cond left right) = same_type left.kind right.kind
types_agree (Gep inbounds kind base indices) =
    list_all (λ (index : TypedOperand). is_int index.kind) indices && nat_le (length indices) (suc (dimensions kind))
types_agree (Switch kind value other cases) = is_int kind && list_all (λ (one : Case). same_type kind one.kind) cases
types_agree _ = true

abbrev pub types_fit : Function → Op → Bool
types_fit f op = types_agree op && operands_fit f (wanted op)

abbrev pub type_mismatches : Function → List Place
type_mismatches f = places_where (λ (spot : Spot). not (types_fit f spot.instr.op)) f

-- ---- numerals out of range

-- from -2^(w-1) to 2^w - 1; of no bits 0 alone
abbrev pub is_in_range : ℕ → ℤ → Bool
is_in_range w n = if w == 0 then (int_le (pos 0) n && int_le n (pos 0))
    else (int_le (neg_ℤ (pos (2 ^ (w - 1)))) n && int_lt n (pos (2 ^ w)))

abbrev pub literal_fits : IrType → Operand → Bool
literal_fits (Int w) (operand.Num n) = is_in_range w n
literal_fits _ _ = true

abbrev pub all_literals_fit : List TypedOperand → Bool
all_literals_fit values = list_all (λ (typed : TypedOperand). literal_fits typed.kind typed.value) values

abbrev pub literals_fit : Op → Bool
literals_fit op = all_literals_fit (wanted op)

abbrev pub literals_out_of_range : Function → List Place
literals_out_of_range f = places_where (λ (spot : Spot). not (literals_fit spot.instr.op)) f

-- ---- widths

-- An integer, and the elements of an array, have 1 to 64 bits.
abbrev pub is_wide : IrType → Bool
is_wide (Int width) = nat_le 1 width && nat_le width 64
is_wide (Array dims width) = nat_le 1 width && nat_le width 64
is_wide _ = true

-- What is loaded, stored or kept in a global has 8, 16, 32 or 64 bits.
abbrev pub is_whole : IrType → Bool
is_whole kind = (width_of kind == 8) || (width_of kind == 16) || (width_of kind == 32) || (width_of kind == 64)

-- A conversion leads from an integer to a strictly wider one, or to a strictly narrower one.
abbrev pub converts : CastOp → IrType → IrType → Bool
converts cast.Zext from to = is_int to && nat_lt (width_of from) (width_of to)
converts cast.Sext from to = is_int to && nat_lt (width_of from) (width_of to)
converts cast.Trunc from to = is_int to && nat_lt (width_of to) (width_of from)

abbrev pub widths_fit : Op → Bool
widths_fit (Binary op nuw nsw exact disjoint kind left right) = is_wide kind
widths_fit (Icmp pred kind left right) = is_wide kind
widths_fit (Cast op nneg from value to) = is_wide from && is_wide to && converts op from to
widths_fit (Select cond left right) = is_wide left.kind && is_wide right.kind
widths_fit (Phi kind entries) = is_wide kind
widths_fit (Freeze kind value) = is_wide kind
widths_fit (Alloca kind) = is_wide kind
widths_fit (Load kind from) = is_whole kind
widths_fit (Store kind value to) = is_whole kind
widths_fit (Gep inbounds kind base indices) =
    is_wide kind && list_all (λ (index : TypedOperand). is_wide index.kind) indices
widths_fit (Call ret callee args) = is_wide ret && list_all (λ (arg : TypedOperand). is_wide arg.kind) args
widths_fit (Switch kind value other cases) = is_wide kind && list_all (λ (one : Case). is_wide one.kind) cases
widths_fit (Ret (Some value)) = is_wide value.kind
widths_fit _ = true

abbrev pub bad_params : List Param → List Place
bad_params params = flat_map (λ (p : Param). unless (is_wide p.kind) (Value p.value)) params

-- the return type at the first block, then parameters, then instructions
abbrev pub bad_widths : Function → List Place
bad_widths f = unless (is_wide f.ret) (BlockAt (record { 0 = entry f.blocks }))
    ++ (bad_params f.params
    ++ places_where (λ (spot : Spot). not (widths_fit spot.instr.op)) f)
