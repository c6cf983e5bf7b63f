-- The ids of a function in text order.
use Rattle.std.specs.Prelude.{ℕ, List, [], ◌∷◌, ◌++◌, map, Option, Some, None}
use Rattle.std.specs.List.{flat_map}
use Rattle.scev_base.specs.declared.ids.ValueId.{ValueId}
use Rattle.ir_model.specs.declared.op.Operand.{Operand}
use Rattle.ir_model.specs.declared.op.Operand.TheVariants as operand
use Rattle.ir_model.specs.declared.op.TypedOperand.{TypedOperand}
use Rattle.ir_model.specs.declared.op.PhiEntry.{PhiEntry}
use Rattle.ir_model.specs.declared.op.Case.{Case}
use Rattle.ir_model.specs.declared.op.Op.{Op}
use Rattle.ir_model.specs.declared.op.Op.TheVariants.{Binary, Icmp, Cast, Select, Phi, Freeze, Alloca, Load, Store, Gep, Call, Jump, Branch, Switch, Ret, Unreachable}
use Rattle.ir_model.specs.declared.function.Param.{Param}
use Rattle.ir_model.specs.declared.function.Instr.{Instr}
use Rattle.ir_model.specs.declared.function.Block.{Block}
use Rattle.ir_model.specs.declared.function.Function.{Function}

-- an id of a value, a block or a global, and whether it is defined there
pub data Site : Type 0 where
  DefinesValue : ℕ → Site
  UsesValue : ℕ → Site
  DefinesBlock : ℕ → Site
  UsesBlock : ℕ → Site
  UsesGlobal : ℕ → Site

abbrev pub operand_sites : Operand → List Site
operand_sites (operand.Reg v) = UsesValue v.0 ∷ []
operand_sites (operand.Global g) = UsesGlobal g ∷ []
operand_sites _ = []

abbrev pub typed_sites : TypedOperand → List Site
typed_sites typed = operand_sites typed.value

abbrev pub entry_sites : PhiEntry → List Site
entry_sites entry = operand_sites entry.value ++ UsesBlock entry.from.0 ∷ []

abbrev pub op_sites : Op → List Site
op_sites (Binary op nuw nsw exact disjoint kind left right) = operand_sites left ++ operand_sites right
op_sites (Icmp pred kind left right) = operand_sites left ++ operand_sites right
op_sites (Cast op nneg from value to) = operand_sites value
op_sites (Select cond left right) = operand_sites cond ++ (typed_sites left ++ typed_sites right)
op_sites (Phi kind entries) = flat_map entry_sites entries
op_sites (Freeze kind value) = operand_sites value
op_sites (Alloca kind) = []
op_sites (Load kind from) = operand_sites from
op_sites (Store kind value to) = operand_sites value ++ operand_sites to
op_sites (Gep inbounds kind base indices) = operand_sites base ++ flat_map typed_sites indices
op_sites (Call ret callee args) = flat_map typed_sites args
op_sites (Jump to) = UsesBlock to.0 ∷ []
op_sites (Branch cond there other) = operand_sites cond ++ (UsesBlock there.0 ∷ UsesBlock other.0 ∷ [])
op_sites (Switch kind value other cases) = operand_sites value
    ++ (UsesBlock other.0 ∷ map (λ (c : Case). UsesBlock c.to.0) cases)
op_sites (Ret None) = []
op_sites (Ret (Some typed)) = typed_sites typed
op_sites Unreachable = []

-- the result, where the instruction begins, and then its operands
abbrev pub result_sites : Option ValueId → List Site
result_sites None = []
result_sites (Some v) = DefinesValue v.0 ∷ []

abbrev pub instr_sites : Instr → List Site
instr_sites instr = result_sites instr.result ++ op_sites instr.op

abbrev pub block_sites : Block → List Site
block_sites block = DefinesBlock block.id.0 ∷ flat_map instr_sites block.instrs

abbrev pub function_sites : Function → List Site
function_sites f = map (λ (p : Param). DefinesValue p.value.0) f.params ++ flat_map block_sites f.blocks
