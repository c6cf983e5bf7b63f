-- When a function is well made: its ids stand in its tables, and its parts are of the forms in which text has them.
use Rattle.std.specs.Prelude.{◌≡◌, ◌≢◌, ◌<◌, false, true, List, [], ◌∷◌, length, Option, Some, None, All}
use Rattle.scev_base.specs.declared.ids.ValueId.{ValueId}
use Rattle.ir_model.specs.declared.types.IrType.{IrType}
use Rattle.ir_model.specs.declared.types.IrType.TheVariants.{Array}
use Rattle.ir_model.specs.declared.op.TypedOperand.{TypedOperand}
use Rattle.ir_model.specs.declared.op.Case.{Case}
use Rattle.ir_model.specs.declared.op.Op.{Op}
use Rattle.ir_model.specs.declared.op.Op.TheVariants.{Binary, Icmp, Cast, Select, Phi, Freeze, Alloca, Load, Store, Gep, Call, Switch, Ret}
use Rattle.ir_model.specs.declared.function.Param.{Param}
use Rattle.ir_model.specs.declared.function.Instr.{Instr}
use Rattle.ir_model.specs.declared.function.Block.{Block}
use Rattle.ir_model.specs.declared.function.Function.{Function}
use Rattle.ir_model.specs.declared.item.Item.{Item}
use Rattle.ir_model.specs.declared.item.Item.TheVariants as item
use Rattle.ir_model.specs.declared.item.Module.{Module}
use Rattle.ir_model.specs.Defined.{HasTypes}
use Rattle.ir_model.specs.Kinds.{IsInt, IsScalar, IsReturned, flag_kind, HasFlags, HasNneg}
use Rattle.ir_model.specs.Shapes.{is_terminator, MayHaveResult, GivesValue}
use Rattle.ir_model.specs.Sites.{Site, DefinesValue, UsesValue, DefinesBlock, UsesBlock, UsesGlobal, function_sites}

-- ---- ids

-- The id stands in the function's table.
abbrev pub IsInTable : Function → Site → Type 0
IsInTable f (DefinesValue v) = v < length f.values
IsInTable f (UsesValue v) = v < length f.values
IsInTable f (DefinesBlock b) = b < length f.labels
IsInTable f (UsesBlock b) = b < length f.labels
IsInTable f (UsesGlobal g) = Unit {0}

-- Each id of a function stands in its table.
unfoldable pub HasIds : Function → Type 0
HasIds f = All (IsInTable f) (function_sites f)

abbrev pub ItemHasIds : Item → Type 0
ItemHasIds (item.Define f) = HasIds f
ItemHasIds _ = Unit {0}

-- So it is in each function of a module.
unfoldable pub HaveIds : Module → Type 0
HaveIds m = All ItemHasIds m.items

-- ---- forms

-- The type of what stands in memory: an integer, or an array of one dimension or more.
abbrev pub IsInMemory : IrType → Type 0
IsInMemory (Array dims width) = dims ≢ []
IsInMemory kind = IsInt kind

-- Types and flags are as the operation's form allows, and a phi has an entry.
abbrev pub IsFormed : Op → Type 0
IsFormed (Binary op nuw nsw exact disjoint kind left right) =
    IsScalar kind × HasFlags (flag_kind op) nuw nsw exact disjoint
IsFormed (Icmp pred kind left right) = IsScalar kind
IsFormed (Cast op nneg from value to) = IsScalar from × IsScalar to × HasNneg op nneg
IsFormed (Select cond left right) = IsScalar left.kind × IsScalar right.kind
IsFormed (Phi kind entries) = IsScalar kind × (entries ≢ [])
IsFormed (Freeze kind value) = IsScalar kind
IsFormed (Alloca kind) = IsInMemory kind
IsFormed (Load kind from) = IsInt kind
IsFormed (Store kind value to) = IsInt kind
IsFormed (Gep inbounds kind base indices) =
    IsInMemory kind × All (λ (typed : TypedOperand). IsScalar typed.kind) indices
IsFormed (Call ret callee args) = IsReturned ret × All (λ (typed : TypedOperand). IsScalar typed.kind) args
IsFormed (Switch kind value other cases) = IsScalar kind × All (λ (c : Case). IsScalar c.kind) cases
IsFormed (Ret (Some typed)) = IsScalar typed.kind
IsFormed _ = Unit {0}

-- What gives a value has a result; a call that gives none may have one, which a rule of its own refuses.
abbrev pub IsResultOf : Op → Option ValueId → Type 0
IsResultOf op None = GivesValue op → ⊥
IsResultOf op (Some v) = MayHaveResult op

pub record IsFormedInstr (instr : Instr) : Type 0 where
  pub op : IsFormed instr.op
  pub result : IsResultOf instr.op instr.result

-- instructions that end no block, and one that does
abbrev pub AreFormed : List Instr → Type 0
AreFormed [] = ⊥
AreFormed (last ∷ []) = IsFormedInstr last × (is_terminator last.op ≡ true)
AreFormed (instr ∷ next ∷ more) = IsFormedInstr instr × (is_terminator instr.op ≡ false) × AreFormed (next ∷ more)

-- A function is well made: its ids stand in its tables, which have the types of its values; it has a block, and its
-- types and instructions are of their forms.
pub record IsWellMade (f : Function) : Type 0 where
  pub ids : HasIds f
  pub types : HasTypes f.params f.blocks f.values
  pub ret : IsReturned f.ret
  pub params : All (λ (p : Param). IsScalar p.kind) f.params
  pub some_block : f.blocks ≢ []
  pub blocks : All (λ (block : Block). AreFormed block.instrs) f.blocks

-- A module is well made where its functions are.
abbrev pub IsWellMadeItem : Item → Type 0
IsWellMadeItem (item.Define f) = IsWellMade f
IsWellMadeItem _ = Unit {0}

abbrev pub AreWellMade : Module → Type 0
AreWellMade m = All IsWellMadeItem m.items
