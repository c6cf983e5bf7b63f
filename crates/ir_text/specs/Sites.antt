-- A function without its ids.
use Rattle.std.specs.Prelude.{List, [], map, Option, Some, None}
use Rattle.scev_base.specs.declared.ids.ValueId.{ValueId}
use Rattle.ir_model.specs.declared.op.Operand.{Operand}
use Rattle.ir_model.specs.declared.op.Operand.TheVariants as operand
use Rattle.ir_model.specs.declared.op.TypedOperand.{TypedOperand}
use Rattle.ir_model.specs.declared.op.PhiEntry.{PhiEntry}
use Rattle.ir_model.specs.declared.op.Case.{Case}
use Rattle.ir_model.specs.declared.op.Op.{Op}
use Rattle.ir_model.specs.declared.op.Op.TheVariants.{Binary, Icmp, Cast, Select, Phi, Freeze, Alloca, Load, Store, Gep, Call, Jump, Branch, Switch, Ret, Unreachable}
use Rattle.ir_model.specs.declared.function.Param.{Param}
use Rattle.ir_model.specs.declared.function.Instr.{Instr}
use Rattle.ir_model.specs.declared.function.Block.{Block}
use Rattle.ir_model.specs.declared.function.Function.{Function}
use Rattle.ir_model.specs.declared.item.Item.{Item}
use Rattle.ir_model.specs.declared.item.Item.TheVariants as item
use Rattle.ir_model.specs.Sites.{Site, function_sites}
use Rattle.ir_text.specs.Mentions.{Mention}

abbrev pub bare_operand : Operand → Operand
bare_operand (operand.Reg v) = operand.Reg (record { 0 = 0 })
bare_operand (operand.Global g) = operand.Global 0
bare_operand other = other

abbrev pub bare_typed : TypedOperand → TypedOperand
bare_typed typed = record typed { value = bare_operand typed.value }

abbrev pub bare_entry : PhiEntry → PhiEntry
bare_entry entry = record { value = bare_operand entry.value; from = record { 0 = 0 } }

abbrev pub bare_case : Case → Case
bare_case c = record c { to = record { 0 = 0 } }

abbrev pub bare_op : Op → Op
bare_op (Binary op nuw nsw exact disjoint kind left right) =
    Binary op nuw nsw exact disjoint kind (bare_operand left) (bare_operand right)
bare_op (Icmp pred kind left right) = Icmp pred kind (bare_operand left) (bare_operand right)
bare_op (Cast op nneg from value to) = Cast op nneg from (bare_operand value) to
bare_op (Select cond left right) = Select (bare_operand cond) (bare_typed left) (bare_typed right)
bare_op (Phi kind entries) = Phi kind (map bare_entry entries)
bare_op (Freeze kind value) = Freeze kind (bare_operand value)
bare_op (Alloca kind) = Alloca kind
bare_op (Load kind from) = Load kind (bare_operand from)
bare_op (Store kind value to) = Store kind (bare_operand value) (bare_operand to)
bare_op (Gep inbounds kind base indices) = Gep inbounds kind (bare_operand base) (map bare_typed indices)
bare_op (Call ret callee args) = Call ret callee (map bare_typed args)
bare_op (Jump to) = Jump (record { 0 = 0 })
bare_op (Branch cond there other) = Branch (bare_operand cond) (record { 0 = 0 }) (record { 0 = 0 })
bare_op (Switch kind value other cases) = Switch kind (bare_operand value) (record { 0 = 0 }) (map bare_case cases)
bare_op (Ret None) = Ret None
bare_op (Ret (Some typed)) = Ret (Some (bare_typed typed))
bare_op Unreachable = Unreachable

abbrev pub bare_result : Option ValueId → Option ValueId
bare_result None = None
bare_result (Some v) = Some (record { 0 = 0 })

abbrev pub bare_instr : Instr → Instr
bare_instr instr = record instr { result = bare_result instr.result; op = bare_op instr.op }

abbrev pub bare_block : Block → Block
bare_block block = record { id = record { 0 = 0 }; instrs = map bare_instr block.instrs }

abbrev pub bare_param : Param → Param
bare_param param = record param { value = record { 0 = 0 } }

-- a function with each id 0 and with empty tables
abbrev pub bare_function : Function → Function
bare_function f = record f {
  params = map bare_param f.params;
  blocks = map bare_block f.blocks;
  values = [];
  labels =
      [];
}

abbrev pub without_ids : Item → Item
without_ids (item.Define f) = item.Define (bare_function f)
without_ids other = other

abbrev pub item_sites : Item → List Site
item_sites (item.Define f) = function_sites f
item_sites _ = []

-- An item without its ids, and the mentions in it.
pub record Draft : Type 0 where
  pub item : Item
  pub mentions : List Mention
