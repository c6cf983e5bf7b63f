-- A printed numeral leaves the types and the ids of a function.
use Rattle.std.proofs.Common.{◌≡◌, ℕ, List, [], ◌∷◌, ◌++◌, map, refl, ap, Some, None}
use Rattle.std.specs.List.{flat_map}
use Rattle.ir_model.specs.declared.types.IrType.{IrType}
use Rattle.ir_model.specs.declared.types.IrType.TheVariants.{Ptr, Int}
use Rattle.ir_model.specs.declared.op.Operand.{Operand}
use Rattle.ir_model.specs.declared.op.Operand.TheVariants as operand
use Rattle.ir_model.specs.declared.op.TypedOperand.{TypedOperand}
use Rattle.ir_model.specs.declared.op.PhiEntry.{PhiEntry}
use Rattle.ir_model.specs.declared.op.Case.{Case}
use Rattle.ir_model.specs.declared.op.Op.{Op}
use Rattle.ir_model.specs.declared.op.Op.TheVariants.{Binary, Icmp, Cast, Select, Phi, Freeze, Alloca, Load, Store, Gep, Call, Jump, Branch, Switch, Ret, Unreachable}
use Rattle.ir_model.specs.declared.function.Param.{Param}
use Rattle.ir_model.specs.declared.function.Instr.{Instr}
use Rattle.ir_model.specs.declared.function.Block.{Block}
use Rattle.ir_model.specs.declared.function.Function.{Function}
use Rattle.ir_model.specs.declared.function.ValueInfo.{ValueInfo}
use Rattle.ir_model.specs.Defined.{given_type, instr_type, block_type, type_of, HasTypes}
use Rattle.ir_model.specs.Sites.{Site, UsesBlock, operand_sites, typed_sites, entry_sites, op_sites, instr_sites, block_sites, function_sites}
use Rattle.ir_read_back.specs.Normal.{normal_operand, normal_typed, normal_entry, normal_case, normal_op, normal_instr, normal_block, normal_function}

-- ---- types

given_normal : (op : Op) → given_type (normal_op op) ≡ given_type op
given_normal (Ret None) = refl
given_normal (Ret (Some typed)) = refl
given_normal _ = refl

instr_type-normal : (instrs : List Instr) (v : ℕ) → instr_type (map normal_instr instrs) v ≡ instr_type instrs v
instr_type-normal [] v = refl
instr_type-normal (instr ∷ instrs) v = rw (given_normal instr.op, instr_type-normal instrs v) refl

block_type-normal : (blocks : List Block) (v : ℕ) → block_type (map normal_block blocks) v ≡ block_type blocks v
block_type-normal [] v = refl
block_type-normal (block ∷ blocks) v = rw (instr_type-normal block.instrs v, block_type-normal blocks v) refl

pub types_normal : (params : List Param) (blocks : List Block) (values : List ValueInfo)
    → HasTypes params blocks values → HasTypes params (map normal_block blocks) values
unfolding type_of
types_normal params blocks values has v info at = rw (block_type-normal blocks v) (has v info at)

-- ---- ids

same_flat : {A B : Type 0} (f : A → A) (g : A → List B) → ((x : A) → g (f x) ≡ g x) → (xs : List A)
    → flat_map g (map f xs) ≡ flat_map g xs
same_flat f g same [] = refl
same_flat f g same (x ∷ xs) = rw (same x, same_flat f g same xs) refl

operand_sites-normal : (kind : IrType) (value : Operand)
    → operand_sites (normal_operand kind value) ≡ operand_sites value
operand_sites-normal kind (operand.Num n) = refl
operand_sites-normal kind _ = refl

typed_sites-normal : (typed : TypedOperand) → typed_sites (normal_typed typed) ≡ typed_sites typed
typed_sites-normal typed = operand_sites-normal typed.kind typed.value

entry_sites-normal : (kind : IrType) (entry : PhiEntry) → entry_sites (normal_entry kind entry) ≡ entry_sites entry
entry_sites-normal kind entry =
    ap (λ (sites : List Site). sites ++ UsesBlock entry.from.0 ∷ []) (operand_sites-normal kind entry.value)

case_sites-normal : (cases : List Case)
    → map (λ (c : Case). UsesBlock c.to.0) (map normal_case cases) ≡ map (λ (c : Case). UsesBlock c.to.0) cases
case_sites-normal [] = refl
case_sites-normal (c ∷ cases) = ap (λ (sites : List Site). UsesBlock c.to.0 ∷ sites) (case_sites-normal cases)

op_sites-normal : (op : Op) → op_sites (normal_op op) ≡ op_sites op
op_sites-normal (Binary op nuw nsw exact disjoint kind left right) =
    rw (operand_sites-normal kind left, operand_sites-normal kind right) refl
op_sites-normal (Icmp pred kind left right) =
    rw (operand_sites-normal kind left, operand_sites-normal kind right) refl
op_sites-normal (Cast op nneg from value to) = operand_sites-normal from value
op_sites-normal (Select cond left right) =
    rw (operand_sites-normal (Int 1) cond, typed_sites-normal left, typed_sites-normal right) refl
op_sites-normal (Phi kind entries) = same_flat (normal_entry kind) entry_sites (entry_sites-normal kind) entries
op_sites-normal (Freeze kind value) = operand_sites-normal kind value
op_sites-normal (Alloca kind) = refl
op_sites-normal (Load kind from) = operand_sites-normal Ptr from
op_sites-normal (Store kind value to) =
    rw (operand_sites-normal kind value, operand_sites-normal Ptr to) refl
op_sites-normal (Gep inbounds kind base indices) =
    rw (operand_sites-normal Ptr base, same_flat normal_typed typed_sites typed_sites-normal indices) refl
op_sites-normal (Call ret callee args) = same_flat normal_typed typed_sites typed_sites-normal args
op_sites-normal (Jump to) = refl
op_sites-normal (Branch cond there other) = rw (operand_sites-normal (Int 1) cond) refl
op_sites-normal (Switch kind value other cases) =
    rw (operand_sites-normal kind value, case_sites-normal cases) refl
op_sites-normal (Ret None) = refl
op_sites-normal (Ret (Some typed)) = typed_sites-normal typed
op_sites-normal Unreachable = refl

instr_sites-normal : (instr : Instr) → instr_sites (normal_instr instr) ≡ instr_sites instr
instr_sites-normal instr = rw (op_sites-normal instr.op) refl

block_sites-normal : (block : Block) → block_sites (normal_block block) ≡ block_sites block
block_sites-normal block = rw (same_flat normal_instr instr_sites instr_sites-normal block.instrs) refl

pub sites_normal : (f : Function) → function_sites (normal_function f) ≡ function_sites f
sites_normal f = rw (same_flat normal_block block_sites block_sites-normal f.blocks) refl
