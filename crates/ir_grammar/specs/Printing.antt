-- The printed text of a module.
use Rattle.std.specs.Prelude.{ℕ, ◌+◌, ◌/◌, ◌%◌, Bool, false, not, ◌==◌, ◌&&◌, nat_le, nat_lt, if◌then◌else◌, List, [], ◌∷◌, ◌++◌, length, drop, ℤ, Option, Some, None, unwrap_or, slice_get, codes, decimal, is_none}
use Rattle.std.specs.Fmt.{signed_decimal}
use Rattle.std.specs.List.{flat_map, filter, prefix_len}
use mathlib.Core.Former.{Count}
use Rattle.scev_base.specs.Residue.{residue, reading}
use Rattle.scev_base.specs.declared.ids.ValueId.{ValueId}
use Rattle.ir_model.specs.declared.types.IrType.{IrType}
use Rattle.ir_model.specs.declared.types.IrType.TheVariants.{Void, Int, Ptr, Array}
use Rattle.ir_model.specs.declared.op.Operand.{Operand}
use Rattle.ir_model.specs.declared.op.Operand.TheVariants as operand
use Rattle.ir_model.specs.declared.op.CastOp.{CastOp}
use Rattle.ir_model.specs.declared.op.CastOp.TheVariants as cast
use Rattle.ir_model.specs.declared.op.TypedOperand.{TypedOperand}
use Rattle.ir_model.specs.declared.op.PhiEntry.{PhiEntry}
use Rattle.ir_model.specs.declared.op.Case.{Case}
use Rattle.ir_model.specs.declared.op.Op.{Op}
use Rattle.ir_model.specs.declared.op.Op.TheVariants.{Binary, Icmp, Cast, Select, Phi, Freeze, Alloca, Load, Store, Gep, Call, Jump, Branch, Switch, Ret, Unreachable}
use Rattle.ir_model.specs.declared.function.Param.{Param}
use Rattle.ir_model.specs.declared.function.Instr.{Instr}
use Rattle.ir_model.specs.declared.function.Block.{Block}
use Rattle.ir_model.specs.declared.function.Function.{Function}
use Rattle.ir_model.specs.declared.function.ValueInfo.{ValueInfo}
use Rattle.ir_model.specs.declared.item.Global_.{Global_}
use Rattle.ir_model.specs.declared.item.Init.{Init, Row_of-Init, end_of-Init, more_of-Init, Row_of-InitPart, end_of-InitPart, more_of-InitPart}
use Rattle.ir_model.specs.declared.item.Init.TheVariants as init
use Rattle.ir_model.specs.declared.item.DeclaredParam.{DeclaredParam}
use Rattle.ir_model.specs.declared.item.Declare.{Declare}
use Rattle.ir_model.specs.declared.item.Item.{Item}
use Rattle.ir_model.specs.declared.item.Item.TheVariants as item
use Rattle.ir_model.specs.declared.item.Module.{Module}
use Rattle.ir_text.specs.Names.{is_word}
use Rattle.ir_grammar.specs.Operations.{binary_text, pred_text}
use Rattle.ir_model.specs.Sites.{Site, DefinesValue, UsesValue, DefinesBlock, UsesBlock, function_sites}
use Rattle.ir_grammar.specs.Numbering.{first_occurrences}

-- ---- names

-- an upper-case hexadecimal digit
abbrev pub hex_digit : ℕ → ℕ
hex_digit n = if nat_lt n 10 then 48 + n else 55 + n

-- a byte in a string: outside 32 to 126, and `"` and `\`, as `\` and two digits
abbrev pub escaped : ℕ → List ℕ
escaped b = if nat_le 32 b && nat_le b 126 && not (b == 34) && not (b == 92) then b ∷ []
    else 92 ∷ hex_digit (b / 16) ∷ hex_digit (b % 16) ∷ []

unfoldable pub quoted : List ℕ → List ℕ
quoted text = 34 ∷ (flat_map escaped text ++ 34 ∷ [])

-- a text name: as it is where it is a word, else as a string
unfoldable pub name_text : List ℕ → List ℕ
name_text name = if is_word name then name else quoted name

-- ---- numbers of what has no name

-- a value or a block
pub data Thing : Type 0 where
  Value : ℕ → Thing
  Block_ : ℕ → Thing

abbrev pub same_thing : Thing → Thing → Bool
same_thing (Value a) (Value b) = a == b
same_thing (Block_ a) (Block_ b) = a == b
same_thing _ _ = false

-- the text name that a function's table has for a value, and for a block
abbrev pub named_value : Function → ℕ → Option (List ℕ)
named_value f v = join (slice_get f.values v)
  where
    join : Option ValueInfo → Option (List ℕ)
    join None = None
    join (Some info) = info.name

abbrev pub named_block : Function → ℕ → Option (List ℕ)
named_block f b = unwrap_or (slice_get f.labels b) None

abbrev pub is_unnamed : Function → Thing → Bool
is_unnamed f (Value v) = is_none (named_value f v)
is_unnamed f (Block_ b) = is_none (named_block f b)

-- what is defined, and what is used, in text order
abbrev pub defined_things : List Site → List Thing
defined_things [] = []
defined_things (DefinesValue v ∷ sites) = Value v ∷ defined_things sites
defined_things (DefinesBlock b ∷ sites) = Block_ b ∷ defined_things sites
defined_things (_ ∷ sites) = defined_things sites

abbrev pub used_things : List Site → List Thing
used_things [] = []
used_things (UsesValue v ∷ sites) = Value v ∷ used_things sites
used_things (UsesBlock b ∷ sites) = Block_ b ∷ used_things sites
used_things (_ ∷ sites) = used_things sites

-- Values and blocks without a name, each once: by first definition, and then those that aren't defined by first use.
-- The place here is the number.
unfoldable pub unnamed_things : Function → List Thing
unnamed_things f = first_occurrences same_thing
    (filter (is_unnamed f) (defined_things (function_sites f) ++ used_things (function_sites f)))

unfoldable pub number_of : Function → Thing → ℕ
number_of f thing = prefix_len (λ other. not (same_thing thing other)) (unnamed_things f)

-- what is shown of a function's values and blocks behind a sigil, and the names of the module's globals
pub record Shown : Type 0 where
  pub values : ℕ → List ℕ
  pub labels : ℕ → List ℕ
  pub globals : List (List ℕ)

-- a text name, or else the number
abbrev pub text_or_number : Option (List ℕ) → ℕ → List ℕ
text_or_number (Some name) n = name_text name
text_or_number None n = decimal n

abbrev pub shown_in : List (List ℕ) → Function → Shown
shown_in globals f = record {
  values = λ v. text_or_number (named_value f v) (number_of f (Value v));
  labels = λ b. text_or_number (named_block f b) (number_of f (Block_ b));
  globals = globals;
}

-- ---- small parts

-- pieces with a separator between them
abbrev pub joined : {A : Type 0} → (A → List ℕ) → List ℕ → List A → List ℕ
joined text between [] = []
joined text between (x ∷ []) = text x
joined text between (x ∷ y ∷ ys) = text x ++ (between ++ joined text between (y ∷ ys))

-- a text with a space before it, or behind it, where there is any
abbrev pub behind_space : List ℕ → List ℕ
behind_space [] = []
behind_space (b ∷ bs) = 32 ∷ b ∷ bs

abbrev pub before_space : List ℕ → List ℕ
before_space [] = []
before_space (b ∷ bs) = (b ∷ bs) ++ 32 ∷ []

-- a word and a space where the flag is set
abbrev pub flag_word : Bool → List ℕ → List ℕ
flag_word set text = if set then text ++ 32 ∷ [] else []

-- the text of an array's elements within its dimensions
abbrev pub elements_text : List ℕ → ℕ → List ℕ
elements_text [] width = 105 ∷ decimal width
elements_text (d ∷ dims) width = codes "[" ++ (decimal d ++ (codes " x " ++ (elements_text dims width ++ codes "]")))

unfoldable pub type_text : IrType → List ℕ
type_text Void = codes "void"
type_text (Int width) = 105 ∷ decimal width
type_text Ptr = codes "ptr"
type_text (Array dims width) = elements_text dims width

-- a numeral by its signed reading; `true` and `false` at one bit
abbrev pub number_text : IrType → ℤ → List ℕ
number_text (Int width) n = if width == 1 then (if residue 1 n == 1 then codes "true" else codes "false")
    else signed_decimal (reading width (residue width n))
number_text _ n = signed_decimal n

-- ---- instructions

abbrev pub operand_text : Shown → IrType → Operand → List ℕ
operand_text shown kind (operand.Reg v) = 37 ∷ shown.values v.0
operand_text shown kind (operand.Num n) = number_text kind n
operand_text shown kind operand.Null = codes "null"
operand_text shown kind (operand.Global g) = 64 ∷ name_text (unwrap_or (slice_get shown.globals g) [])
operand_text shown kind operand.Undef = codes "undef"
operand_text shown kind operand.Poison = codes "poison"

abbrev pub typed_text : Shown → TypedOperand → List ℕ
typed_text shown typed = type_text typed.kind ++ (32 ∷ operand_text shown typed.kind typed.value)

abbrev pub pointer_text : Shown → Operand → List ℕ
pointer_text shown pointer = codes "ptr " ++ operand_text shown Ptr pointer

abbrev pub block_text : Shown → ℕ → List ℕ
block_text shown b = 37 ∷ shown.labels b

abbrev pub target_text : Shown → ℕ → List ℕ
target_text shown b = codes "label " ++ block_text shown b

-- `type v, v`
abbrev pub two_text : Shown → IrType → Operand → Operand → List ℕ
two_text shown kind left right =
    type_text kind ++ (32 ∷ (operand_text shown kind left ++ (codes ", " ++ operand_text shown kind right)))

abbrev pub cast_text : CastOp → Bool → List ℕ
cast_text cast.Zext nneg = codes "zext " ++ flag_word nneg (codes "nneg")
cast_text cast.Sext nneg = codes "sext "
cast_text cast.Trunc nneg = codes "trunc "

abbrev pub entry_text : Shown → IrType → PhiEntry → List ℕ
entry_text shown kind entry = codes "[ " ++ (operand_text shown kind entry.value
    ++ (codes ", " ++ (block_text shown entry.from.0 ++ codes " ]")))

abbrev pub case_text : Shown → Case → List ℕ
case_text shown c = type_text c.kind ++ (32 ∷ (number_text c.kind c.number ++ (codes ", " ++ target_text shown c.to.0)))

-- `, align n` where words are there
abbrev pub align_text : List ℕ → List ℕ
align_text [] = []
align_text (b ∷ bs) = codes ", " ++ (b ∷ bs)

-- the passed-on words at a place of the form
abbrev pub words_at : List (List ℕ) → ℕ → List ℕ
words_at words k = unwrap_or (slice_get words k) []

-- an argument, its words between its type and its operand
abbrev pub argument_text : Shown → List ℕ → TypedOperand → List ℕ
argument_text shown words arg = type_text arg.kind
    ++ (32 ∷ (before_space words ++ operand_text shown arg.kind arg.value))

abbrev pub arguments_text : Shown → List (List ℕ) → List TypedOperand → List ℕ
arguments_text shown words [] = []
arguments_text shown words (arg ∷ []) = argument_text shown (words_at words 0) arg
arguments_text shown words (arg ∷ other ∷ others) =
    argument_text shown (words_at words 0) arg ++ (codes ", " ++ arguments_text shown (drop 1 words) (other ∷ others))

-- an operation with its passed-on words
unfoldable pub op_text : Shown → Op → List (List ℕ) → List ℕ
op_text shown (Binary op nuw nsw exact disjoint kind left right) words = binary_text op
    ++ (32 ∷ (flag_word nuw (codes "nuw")
    ++ (flag_word nsw (codes "nsw") ++ (flag_word exact (codes "exact") ++ (flag_word disjoint (codes "disjoint")
    ++ two_text shown kind left right)))))
op_text shown (Icmp pred kind left right) words = codes "icmp "
    ++ (pred_text pred ++ (32 ∷ two_text shown kind left right))
op_text shown (Cast op nneg from value to) words =
    cast_text op nneg ++ (type_text from ++ (32 ∷ (operand_text shown from value ++ (codes " to " ++ type_text to))))
op_text shown (Select cond left right) words = codes "select i1 " ++ (operand_text shown (Int 1) cond
    ++ (codes ", " ++ (typed_text shown left ++ (codes ", " ++ typed_text shown right))))
op_text shown (Phi kind entries) words =
    codes "phi " ++ (type_text kind ++ (32 ∷ joined (entry_text shown kind) (codes ", ") entries))
op_text shown (Freeze kind value) words = codes "freeze " ++ (type_text kind ++ (32 ∷ operand_text shown kind value))
op_text shown (Alloca kind) words = codes "alloca " ++ (type_text kind ++ align_text (words_at words 0))
op_text shown (Load kind from) words =
    codes "load " ++ (type_text kind ++ (codes ", " ++ (pointer_text shown from ++ align_text (words_at words 0))))
op_text shown (Store kind value to) words = codes "store " ++ (type_text kind ++ (32 ∷ (operand_text shown kind value
    ++ (codes ", " ++ (pointer_text shown to ++ align_text (words_at words 0))))))
op_text shown (Gep inbounds kind base indices) words = codes "getelementptr " ++ (flag_word inbounds (codes "inbounds")
    ++ (type_text kind ++ (codes ", " ++ (pointer_text shown base
    ++ flat_map (λ index. codes ", " ++ typed_text shown index) indices))))
op_text shown (Call ret callee args) words = before_space (words_at words 0)
    ++ (codes "call " ++ (before_space (words_at words 1)
    ++ (type_text ret ++ (codes " @" ++ (name_text callee ++ (codes "(" ++ (arguments_text shown (drop 2 words) args
    ++ (codes ")" ++ behind_space (words_at words (2 + length args))))))))))
op_text shown (Jump to) words = codes "br " ++ target_text shown to.0
op_text shown (Branch cond there other) words = codes "br i1 " ++ (operand_text shown (Int 1) cond
    ++ (codes ", " ++ (target_text shown there.0 ++ (codes ", " ++ target_text shown other.0))))
op_text shown (Switch kind value other cases) words = codes "switch "
    ++ (type_text kind ++ (32 ∷ (operand_text shown kind value
    ++ (codes ", " ++ (target_text shown other.0
    ++ (codes " [" ++ (flat_map (λ c. 32 ∷ case_text shown c) cases ++ codes " ]")))))))
op_text shown (Ret None) words = codes "ret void"
op_text shown (Ret (Some typed)) words = codes "ret " ++ typed_text shown typed
op_text shown Unreachable words = codes "unreachable"

-- `%name = `, where there is a result
abbrev pub result_text : Shown → Option ValueId → List ℕ
result_text shown None = []
result_text shown (Some v) = 37 ∷ (shown.values v.0 ++ codes " = ")

-- an instruction's line
abbrev pub instr_text : Shown → Instr → List ℕ
instr_text shown instr = codes "  " ++ (result_text shown instr.result
    ++ (op_text shown instr.op instr.words ++ codes "\n"))

-- ---- functions

-- a block's lines: its label, and its instructions
abbrev pub block_lines : Shown → Block → List ℕ
block_lines shown block = shown.labels block.id.0 ++ (codes ":\n" ++ flat_map (instr_text shown) block.instrs)

abbrev pub param_text : Shown → Param → List ℕ
param_text shown param = type_text param.kind ++ (behind_space param.words
    ++ (codes " %" ++ shown.values param.value.0))

unfoldable pub function_text : List (List ℕ) → Function → List ℕ
function_text globals f = codes "define " ++ (before_space (words_at f.words 0)
    ++ (type_text f.ret ++ (codes " @" ++ (name_text f.name
    ++ (codes "(" ++ (joined (param_text (shown_in globals f)) (codes ", ") f.params
    ++ (codes ")" ++ (behind_space (words_at f.words 1)
    ++ (codes " {\n" ++ (flat_map (block_lines (shown_in globals f)) f.blocks ++ codes "}\n"))))))))))

-- ---- items

abbrev pub literal_text : IrType → Operand → List ℕ
literal_text kind value = operand_text (record { values = λ v. []; labels = λ b. []; globals = [] }) kind value

-- an initialiser of a type; a list is `[type init, ..]`
abbrev mutual
  pub init_text : IrType → Init → List ℕ
  init_text kind (init.Literal value) = literal_text kind value
  init_text kind init.Zero = codes "zeroinitializer"
  init_text kind (init.Bytes text) = 99 ∷ quoted text
  init_text kind (init.List' count parts) = codes "[" ++ (parts_text parts ++ codes "]")

  -- the one initialiser that a part holds
  pub part_text : {n : Count} → IrType → Row_of-Init n → List ℕ
  part_text kind (end_of-Init) = []
  part_text kind (more_of-Init value rest) = init_text kind value

  pub parts_text : {n : Count} → Row_of-InitPart n → List ℕ
  parts_text (end_of-InitPart) = []
  parts_text (more_of-InitPart kind pointer value rest) = type_text kind
      ++ (32 ∷ (part_text kind value ++ others_text rest))

  pub others_text : {n : Count} → Row_of-InitPart n → List ℕ
  others_text (end_of-InitPart) = []
  others_text (more_of-InitPart kind pointer value rest) =
      codes ", " ++ (type_text kind ++ (32 ∷ (part_text kind value ++ others_text rest)))

abbrev pub initialiser_text : IrType → Option Init → List ℕ
initialiser_text kind None = []
initialiser_text kind (Some value) = 32 ∷ init_text kind value

abbrev pub global_text : Global_ → List ℕ
global_text g = 64 ∷ (name_text g.name ++ (codes " = " ++ (before_space g.before
    ++ ((if g.constant then codes "constant " else codes "global ")
    ++ (type_text g.kind ++ (initialiser_text g.kind g.init
    ++ (flat_map (λ words. 44 ∷ behind_space words) g.after ++ codes "\n")))))))

abbrev pub declared_text : DeclaredParam → List ℕ
declared_text param = type_text param.kind ++ behind_space param.words

abbrev pub declare_text : Declare → List ℕ
declare_text d = codes "declare " ++ (before_space d.before ++ (type_text d.ret ++ (codes " @" ++ (name_text d.name
    ++ (codes "(" ++ (joined declared_text (codes ", ") d.params
    ++ (codes ")" ++ (behind_space d.after ++ codes "\n"))))))))

abbrev pub item_text : List (List ℕ) → Item → List ℕ
item_text globals (item.PassedOn text) = text ++ codes "\n"
item_text globals (item.Global g) = global_text g
item_text globals (item.Declare d) = declare_text d
item_text globals (item.Define f) = function_text globals f

-- the text of a module, item by item
unfoldable pub module_text : Module → List ℕ
module_text m = flat_map (item_text m.globals) m.items
