-- The types of values, by their first definitions in text order.
use Rattle.std.specs.Prelude.{◌≡◌, ℕ, Bool, false, if◌then◌else◌, ◌==◌, List, [], ◌∷◌, Option, Some, None, slice_get, unwrap_or}
use Rattle.scev_base.specs.declared.ids.ValueId.{ValueId}
use Rattle.ir_model.specs.declared.types.IrType.{IrType}
use Rattle.ir_model.specs.declared.types.IrType.TheVariants.{Void, Int, Ptr}
use Rattle.ir_model.specs.declared.op.Op.{Op}
use Rattle.ir_model.specs.declared.op.Op.TheVariants.{Binary, Icmp, Cast, Select, Phi, Freeze, Alloca, Load, Gep, Call}
use Rattle.ir_model.specs.declared.function.Param.{Param}
use Rattle.ir_model.specs.declared.function.Instr.{Instr}
use Rattle.ir_model.specs.declared.function.Block.{Block}
use Rattle.ir_model.specs.declared.function.ValueInfo.{ValueInfo}

-- the type of what an instruction gives
abbrev pub given_type : Op → IrType
given_type (Binary op nuw nsw exact disjoint kind left right) = kind
given_type (Icmp pred kind left right) = Int 1
given_type (Cast op nneg from value to) = to
given_type (Select cond left right) = left.kind
given_type (Phi kind entries) = kind
given_type (Freeze kind value) = kind
given_type (Alloca kind) = Ptr
given_type (Load kind from) = kind
given_type (Gep inbounds kind base indices) = Ptr
given_type (Call ret callee args) = ret
given_type _ = Void

-- whether the result of an instruction is this value
abbrev pub is_value : Option ValueId → ℕ → Bool
is_value None v = false
is_value (Some result) v = result.0 == v

-- the first of two, where it is there
abbrev pub or_else : Option IrType → Option IrType → Option IrType
or_else None later = later
or_else (Some kind) later = Some kind

-- the type of the value's first definition by a parameter, by an instruction of a list, and by one of some blocks
abbrev pub param_type : List Param → ℕ → Option IrType
param_type [] v = None
param_type (p ∷ ps) v = if p.value.0 == v then Some p.kind else param_type ps v

abbrev pub instr_type : List Instr → ℕ → Option IrType
instr_type [] v = None
instr_type (instr ∷ instrs) v = if is_value instr.result v then Some (given_type instr.op) else instr_type instrs v

abbrev pub block_type : List Block → ℕ → Option IrType
block_type [] v = None
block_type (block ∷ blocks) v = or_else (instr_type block.instrs v) (block_type blocks v)

-- the type of the value's first definition, `Void` where it has none
unfoldable pub type_of : List Param → List Block → ℕ → IrType
type_of params blocks v = unwrap_or (or_else (param_type params v) (block_type blocks v)) Void

-- Each entry of the table has the type of its value.
abbrev pub HasTypes : List Param → List Block → List ValueInfo → Type 0
HasTypes params blocks values = (v : ℕ) (info : ValueInfo) → slice_get values v ≡ Some info → info.kind ≡ type_of params blocks v
