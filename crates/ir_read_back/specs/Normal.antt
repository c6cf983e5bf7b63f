-- A module with each numeral as it is printed: by its signed reading at its type's width, and as 0 or 1 at one bit.
use Rattle.std.specs.Prelude.{◌==◌, if◌then◌else◌, map, ℤ, pos, Option, Some, None}
use mathlib.Core.Former.{Count}
use Rattle.scev_base.specs.Residue.{residue, reading}
use Rattle.ir_model.specs.declared.types.IrType.{IrType}
use Rattle.ir_model.specs.declared.types.IrType.TheVariants.{Int, Ptr}
use Rattle.ir_model.specs.declared.op.Operand.{Operand}
use Rattle.ir_model.specs.declared.op.Operand.TheVariants as operand
use Rattle.ir_model.specs.declared.op.TypedOperand.{TypedOperand}
use Rattle.ir_model.specs.declared.op.PhiEntry.{PhiEntry}
use Rattle.ir_model.specs.declared.op.Case.{Case}
use Rattle.ir_model.specs.declared.op.Op.{Op}
use Rattle.ir_model.specs.declared.op.Op.TheVariants.{Binary, Icmp, Cast, Select, Phi, Freeze, Alloca, Load, Store, Gep, Call, Jump, Branch, Switch, Ret, Unreachable}
use Rattle.ir_model.specs.declared.function.Instr.{Instr}
use Rattle.ir_model.specs.declared.function.Block.{Block}
use Rattle.ir_model.specs.declared.function.Function.{Function}
use Rattle.ir_model.specs.declared.item.Global_.{Global_}
use Rattle.ir_model.specs.declared.item.Init.{Init, Row_of-Init, end_of-Init, more_of-Init, Row_of-InitPart, end_of-InitPart, more_of-InitPart}
use Rattle.ir_model.specs.declared.item.Init.TheVariants as init
use Rattle.ir_model.specs.declared.item.Item.{Item}
use Rattle.ir_model.specs.declared.item.Item.TheVariants as item
use Rattle.ir_model.specs.declared.item.Module.{Module}

-- a number at a type
abbrev pub normal_number : IrType → ℤ → ℤ
normal_number (Int width) n = if width == 1 then pos (residue 1 n) else reading width (residue width n)
normal_number _ n = n

abbrev pub normal_operand : IrType → Operand → Operand
normal_operand kind (operand.Num n) = operand.Num (normal_number kind n)
normal_operand kind other = other

abbrev pub normal_typed : TypedOperand → TypedOperand
normal_typed typed = record typed { value = normal_operand typed.kind typed.value }

abbrev pub normal_entry : IrType → PhiEntry → PhiEntry
normal_entry kind entry = record entry { value = normal_operand kind entry.value }

abbrev pub normal_case : Case → Case
normal_case c = record c { number = normal_number c.kind c.number }

-- each operand at its type
abbrev pub normal_op : Op → Op
normal_op (Binary op nuw nsw exact disjoint kind left right) =
    Binary op nuw nsw exact disjoint kind (normal_operand kind left) (normal_operand kind right)
normal_op (Icmp pred kind left right) = Icmp pred kind (normal_operand kind left) (normal_operand kind right)
normal_op (Cast op nneg from value to) = Cast op nneg from (normal_operand from value) to
normal_op (Select cond left right) = Select (normal_operand (Int 1) cond) (normal_typed left) (normal_typed right)
normal_op (Phi kind entries) = Phi kind (map (normal_entry kind) entries)
normal_op (Freeze kind value) = Freeze kind (normal_operand kind value)
normal_op (Alloca kind) = Alloca kind
normal_op (Load kind from) = Load kind (normal_operand Ptr from)
normal_op (Store kind value to) = Store kind (normal_operand kind value) (normal_operand Ptr to)
normal_op (Gep inbounds kind base indices) = Gep inbounds kind (normal_operand Ptr base) (map normal_typed indices)
normal_op (Call ret callee args) = Call ret callee (map normal_typed args)
normal_op (Jump to) = Jump to
normal_op (Branch cond there other) = Branch (normal_operand (Int 1) cond) there other
normal_op (Switch kind value other cases) = Switch kind (normal_operand kind value) other (map normal_case cases)
normal_op (Ret None) = Ret None
normal_op (Ret (Some typed)) = Ret (Some (normal_typed typed))
normal_op Unreachable = Unreachable

abbrev pub normal_instr : Instr → Instr
normal_instr instr = record instr { op = normal_op instr.op }

abbrev pub normal_block : Block → Block
normal_block block = record block { instrs = map normal_instr block.instrs }

abbrev pub normal_function : Function → Function
normal_function f = record f { blocks = map normal_block f.blocks }

-- an initialiser of a type
abbrev mutual
  pub normal_init : IrType → Init → Init
  normal_init kind (init.Literal value) = init.Literal (normal_operand kind value)
  normal_init kind init.Zero = init.Zero
  normal_init kind (init.Bytes text) = init.Bytes text
  normal_init kind (init.List' count parts) = init.List' count (normal_parts parts)

  -- the one initialiser that a part holds
  pub normal_held : {n : Count} → IrType → Row_of-Init n → Row_of-Init n
  normal_held kind (end_of-Init) = end_of-Init
  normal_held kind (more_of-Init value rest) = more_of-Init (normal_init kind value) (normal_held kind rest)

  pub normal_parts : {n : Count} → Row_of-InitPart n → Row_of-InitPart n
  normal_parts (end_of-InitPart) = end_of-InitPart
  normal_parts (more_of-InitPart kind pointer value rest) =
      more_of-InitPart kind pointer (normal_held kind value) (normal_parts rest)

abbrev pub normal_initialiser : IrType → Option Init → Option Init
normal_initialiser kind None = None
normal_initialiser kind (Some value) = Some (normal_init kind value)

abbrev pub normal_global : Global_ → Global_
normal_global g = record g { init = normal_initialiser g.kind g.init }

abbrev pub normal_item : Item → Item
normal_item (item.PassedOn text) = item.PassedOn text
normal_item (item.Global g) = item.Global (normal_global g)
normal_item (item.Declare d) = item.Declare d
normal_item (item.Define f) = item.Define (normal_function f)

unfoldable pub normal : Module → Module
normal m = record m { items = map normal_item m.items }
