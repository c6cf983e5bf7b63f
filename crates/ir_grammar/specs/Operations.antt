-- How instructions are written, one production each, with the names that are mentioned in them; ids are 0.
use Rattle.std.specs.Prelude.{◌≡◌, ℕ, Bool, true, false, List, [], ◌∷◌, ◌++◌, IsTrue, ◌⊎◌, ◌↔◌, ℤ, pos, Some, None, Contains, All, map, codes, nat_eq}
use Rattle.std.specs.List.{starts_with, IsDistinct}
use Rattle.std.specs.Str.{bytes_eq}
use Rattle.scev_base.specs.declared.pred.Pred.{Pred}
use Rattle.scev_base.specs.declared.pred.Pred.TheVariants as pred
use Rattle.ir_model.specs.declared.types.IrType.{IrType}
use Rattle.ir_model.specs.declared.op.Operand.{Operand}
use Rattle.ir_model.specs.declared.op.Operand.TheVariants as operand
use Rattle.ir_model.specs.declared.op.BinOp.{BinOp}
use Rattle.ir_model.specs.declared.op.BinOp.TheVariants as binary
use Rattle.ir_model.specs.declared.op.CastOp.{CastOp}
use Rattle.ir_model.specs.declared.op.CastOp.TheVariants as cast
use Rattle.ir_model.specs.declared.op.TypedOperand.{TypedOperand}
use Rattle.ir_model.specs.declared.op.PhiEntry.{PhiEntry}
use Rattle.ir_model.specs.declared.op.Case.{Case}
use Rattle.ir_model.specs.declared.op.Op.{Op}
use Rattle.ir_model.specs.declared.op.Op.TheVariants.{Binary, Icmp, Cast, Select, Phi, Freeze, Alloca, Load, Store, Gep, Call, Jump, Branch, Switch, Ret, Unreachable}
use Rattle.ir_model.specs.Callees.{is_min_max}
use Rattle.ir_model.specs.Kinds.{FlagKind, Wraps, Exact, Disjoint, NoFlag, flag_kind}
use Rattle.ir_text.specs.declared.token.TokenKind.TheVariants.{Numeral}
use Rattle.ir_text.specs.Tokens.{Lexeme}
use Rattle.ir_text.specs.Listed.{word, sign}
use Rattle.ir_text.specs.Language.{Language, ◌·◌, nothing, optional, one, keyword, punctuation, comma}
use Rattle.ir_text.specs.Written.{IsGlobal}
use Rattle.ir_text.specs.Mentions.{Mention, Mentioning, ◌⊙◌, silent, uses_value, uses_block, uses_global, InOrder}
use Rattle.ir_model.specs.Kinds.{IsInt, IsStored, IsScalar, IsReturned}
use Rattle.ir_text.specs.Types.{IsNumeral, SpellsTypeOf}
use Rattle.ir_text.specs.PassedOn.{passed_text, SpellsWords}

-- ---- operands

-- a numeral; `true` is 1 and `false` is 0
abbrev pub SpellsNumber : ℤ → Language
SpellsNumber n ts = one (IsNumeral n) ts
    ⊎ ((n ≡ pos 1) × keyword (codes "true") ts)
    ⊎ ((n ≡ pos 0) × keyword (codes "false") ts)

abbrev pub SpellsOperand : Operand → Mentioning
SpellsOperand (operand.Reg v) ms ts = (v.0 ≡ 0) × uses_value ms ts
SpellsOperand (operand.Num n) ms ts = silent (SpellsNumber n) ms ts
SpellsOperand operand.Null ms ts = silent (keyword (codes "null")) ms ts
SpellsOperand (operand.Global g) ms ts = (g ≡ 0) × uses_global ms ts
SpellsOperand operand.Undef ms ts = silent (keyword (codes "undef")) ms ts
SpellsOperand operand.Poison ms ts = silent (keyword (codes "poison")) ms ts

-- words and signs between operands
abbrev pub the_word : List ℕ → Mentioning
the_word text = silent (keyword text)

abbrev pub the_sign : ℕ → Mentioning
the_sign b = silent (punctuation b)

abbrev pub the_comma : Mentioning
the_comma = silent comma

-- a type of these kinds
abbrev pub the_type : (IrType → Type 0) → IrType → Mentioning
the_type Is kind = silent (SpellsTypeOf Is kind)

-- `type v`, and `ptr v`
abbrev pub SpellsTyped : TypedOperand → Mentioning
SpellsTyped typed = the_type IsScalar typed.kind ⊙ SpellsOperand typed.value

abbrev pub SpellsPointer : Operand → Mentioning
SpellsPointer pointer = the_word (codes "ptr") ⊙ SpellsOperand pointer

-- `%block`, and `label %block`
abbrev pub SpellsBlockName : ℕ → Mentioning
SpellsBlockName id ms ts = (id ≡ 0) × uses_block ms ts

abbrev pub SpellsTarget : ℕ → Mentioning
SpellsTarget id = the_word (codes "label") ⊙ SpellsBlockName id

-- ---- flags

-- Some of these words, each at most once, in any order.
abbrev pub AreFlags : List (List ℕ) → List (List ℕ) → Language
AreFlags allowed found ts = (ts ≡ map word found) × IsDistinct bytes_eq found × All (Contains allowed) found

-- The flag is set where its word is there.
abbrev pub IsFlag : List (List ℕ) → List ℕ → Bool → Type 0
IsFlag found text set = IsTrue set ↔ Contains found text

-- `nuw` and `nsw`
abbrev pub SpellsWraps : Bool → Bool → Language
SpellsWraps nuw nsw ts = (found : List (List ℕ)) × AreFlags (codes "nuw" ∷ codes "nsw" ∷ []) found ts
    × IsFlag found (codes "nuw") nuw × IsFlag found (codes "nsw") nsw

-- a word where it is set
abbrev pub SpellsFlag : List ℕ → Bool → Language
SpellsFlag text true = keyword text
SpellsFlag text false = nothing

-- words that are read and dropped
abbrev pub dropped_word : List ℕ → Language
dropped_word text = optional (keyword text)

-- ---- operations of two operands, comparisons, conversions

abbrev pub binary_text : BinOp → List ℕ
binary_text binary.Add = codes "add"
binary_text binary.Sub = codes "sub"
binary_text binary.Mul = codes "mul"
binary_text binary.Shl = codes "shl"
binary_text binary.Udiv = codes "udiv"
binary_text binary.Sdiv = codes "sdiv"
binary_text binary.Lshr = codes "lshr"
binary_text binary.Ashr = codes "ashr"
binary_text binary.Urem = codes "urem"
binary_text binary.Srem = codes "srem"
binary_text binary.And = codes "and"
binary_text binary.Xor = codes "xor"
binary_text binary.Or = codes "or"

-- the flags of an operation of two operands
pub record BinaryFlags : Type 0 where
  pub nuw : Bool
  pub nsw : Bool
  pub exact : Bool
  pub disjoint : Bool

abbrev pub SpellsBinaryFlags : FlagKind → BinaryFlags → Language
SpellsBinaryFlags Wraps flags ts = (flags.exact ≡ false) × (flags.disjoint ≡ false) × SpellsWraps flags.nuw flags.nsw ts
SpellsBinaryFlags Exact flags ts = (flags.nuw ≡ false) × (flags.nsw ≡ false) × (flags.disjoint ≡ false)
    × SpellsFlag (codes "exact") flags.exact ts
SpellsBinaryFlags Disjoint flags ts = (flags.nuw ≡ false) × (flags.nsw ≡ false) × (flags.exact ≡ false)
    × SpellsFlag (codes "disjoint") flags.disjoint ts
SpellsBinaryFlags NoFlag flags ts = (flags.nuw ≡ false) × (flags.nsw ≡ false) × (flags.exact ≡ false)
    × (flags.disjoint ≡ false) × nothing ts

-- `type v, v`
abbrev pub SpellsTwo : IrType → Operand → Operand → Mentioning
SpellsTwo kind left right = the_type IsScalar kind ⊙ SpellsOperand left ⊙ the_comma ⊙ SpellsOperand right

abbrev pub pred_text : Pred → List ℕ
pred_text pred.Eq = codes "eq"
pred_text pred.Ne = codes "ne"
pred_text pred.Ugt = codes "ugt"
pred_text pred.Uge = codes "uge"
pred_text pred.Ult = codes "ult"
pred_text pred.Ule = codes "ule"
pred_text pred.Sgt = codes "sgt"
pred_text pred.Sge = codes "sge"
pred_text pred.Slt = codes "slt"
pred_text pred.Sle = codes "sle"

abbrev pub cast_text : CastOp → List ℕ
cast_text cast.Zext = codes "zext"
cast_text cast.Sext = codes "sext"
cast_text cast.Trunc = codes "trunc"

-- the flags of a conversion, of which those of `trunc` are dropped
abbrev pub SpellsCastFlags : CastOp → Bool → Language
SpellsCastFlags cast.Zext nneg ts = SpellsFlag (codes "nneg") nneg ts
SpellsCastFlags cast.Sext nneg ts = (nneg ≡ false) × nothing ts
SpellsCastFlags cast.Trunc nneg ts = (nneg ≡ false) × (dropped_word (codes "nuw") · dropped_word (codes "nsw")) ts

-- ---- the rest

-- `[ v, %block ]`
abbrev pub SpellsEntry : PhiEntry → Mentioning
SpellsEntry entry = the_sign 91 ⊙ SpellsOperand entry.value ⊙ the_comma ⊙ SpellsBlockName entry.from.0 ⊙ the_sign 93

-- `align n`, and the same behind a comma where it is there, whose text has no comma
abbrev pub alignment : Language
alignment = keyword (codes "align") · one (λ t. t.kind ≡ Numeral)

abbrev pub SpellsAlign : List ℕ → Language
SpellsAlign text ts = ((text ≡ []) × nothing ts)
    ⊎ ((align : List Lexeme) × (ts ≡ sign 44 ∷ align) × alignment align × (text ≡ passed_text align))

-- the flags of `getelementptr`, of which `nuw` and `nusw` are dropped
abbrev pub SpellsGepFlags : Bool → Language
SpellsGepFlags inbounds ts = (found : List (List ℕ))
    × AreFlags (codes "inbounds" ∷ codes "nuw" ∷ codes "nusw" ∷ []) found ts × IsFlag found (codes "inbounds") inbounds

-- an argument, and the text of the passed-on words between its type and its operand
pub record Argument : Type 0 where
  pub typed : TypedOperand
  pub words : List ℕ

abbrev pub SpellsArgument : Argument → Mentioning
SpellsArgument arg = the_type IsScalar arg.typed.kind ⊙ silent (SpellsWords arg.words) ⊙ SpellsOperand arg.typed.value

-- things with commas between them: one or more, or any number
abbrev pub WithCommas : {A : Type 0} → (A → List Mention → List Lexeme → Type 0) → List A → Mentioning
WithCommas Spells [] ms ts = ⊥
WithCommas Spells (x ∷ []) ms ts = Spells x ms ts
WithCommas Spells (x ∷ y ∷ ys) ms ts = (Spells x ⊙ the_comma ⊙ WithCommas Spells (y ∷ ys)) ms ts

abbrev pub Listing : {A : Type 0} → (A → List Mention → List Lexeme → Type 0) → List A → Mentioning
Listing Spells [] = silent nothing
Listing Spells (x ∷ xs) = WithCommas Spells (x ∷ xs)

-- `tail` and `notail`, each where it is there, in this order
abbrev pub SpellsTail : List ℕ → Language
SpellsTail text ts = (text ≡ passed_text ts) × (dropped_word (codes "tail") · dropped_word (codes "notail")) ts

-- `llvm.` and what begins so
abbrev pub is_intrinsic : List ℕ → Bool
is_intrinsic name = starts_with nat_eq name (codes "llvm.")

-- What may be called: what is no intrinsic of LLVM, and the minima and maxima, at whatever type.
abbrev pub IsCallee : List ℕ → Type 0
IsCallee name = (is_intrinsic name ≡ false) ⊎ IsTrue (is_min_max name)

-- `case`, with its type and its target
abbrev pub SpellsCase : Case → Mentioning
SpellsCase c = the_type IsScalar c.kind ⊙ silent (SpellsNumber c.number) ⊙ the_comma ⊙ SpellsTarget c.to.0

-- The operation, and its passed-on words in the order of the text, one text for each place where some may stand.
abbrev pub SpellsOp : Op → List (List ℕ) → Mentioning
SpellsOp (Binary op nuw nsw exact disjoint kind left right) words ms ts = (words ≡ [])
    × (the_word (binary_text op)
    ⊙ silent (SpellsBinaryFlags (flag_kind op) (record { nuw = nuw; nsw = nsw; exact = exact; disjoint = disjoint }))
    ⊙ SpellsTwo kind left right) ms ts
SpellsOp (Icmp pred kind left right) words ms ts = (words ≡ [])
    × (the_word (codes "icmp") ⊙ silent (dropped_word (codes "samesign")) ⊙ the_word (pred_text pred)
    ⊙ SpellsTwo kind left right) ms ts
SpellsOp (Cast op nneg from value to) words ms ts = (words ≡ [])
    × (the_word (cast_text op) ⊙ silent (SpellsCastFlags op nneg)
    ⊙ SpellsTyped (record { kind = from; value = value }) ⊙ the_word (codes "to") ⊙ the_type IsScalar to) ms ts
SpellsOp (Select cond left right) words ms ts = (words ≡ [])
    × (the_word (codes "select") ⊙ the_word (codes "i1") ⊙ SpellsOperand cond ⊙ the_comma
    ⊙ SpellsTyped left ⊙ the_comma ⊙ SpellsTyped right) ms ts
SpellsOp (Phi kind entries) words ms ts = (words ≡ [])
    × (the_word (codes "phi") ⊙ the_type IsScalar kind ⊙ WithCommas SpellsEntry entries) ms ts
SpellsOp (Freeze kind value) words ms ts = (words ≡ [])
    × (the_word (codes "freeze") ⊙ SpellsTyped (record { kind = kind; value = value })) ms ts
SpellsOp (Alloca kind) words ms ts = (align : List ℕ) × (words ≡ align ∷ [])
    × (the_word (codes "alloca") ⊙ the_type IsStored kind ⊙ silent (SpellsAlign align)) ms ts
SpellsOp (Load kind from) words ms ts = (align : List ℕ) × (words ≡ align ∷ [])
    × (the_word (codes "load") ⊙ the_type IsInt kind ⊙ the_comma ⊙ SpellsPointer from
    ⊙ silent (SpellsAlign align)) ms ts
SpellsOp (Store kind value to) words ms ts = (align : List ℕ) × (words ≡ align ∷ [])
    × (the_word (codes "store") ⊙ the_type IsInt kind ⊙ SpellsOperand value ⊙ the_comma
    ⊙ SpellsPointer to ⊙ silent (SpellsAlign align)) ms ts
SpellsOp (Gep inbounds kind base indices) words ms ts = (words ≡ [])
    × (the_word (codes "getelementptr") ⊙ silent (SpellsGepFlags inbounds) ⊙ the_type IsStored kind ⊙ the_comma
    ⊙ SpellsPointer base ⊙ InOrder (λ index. the_comma ⊙ SpellsTyped index) indices) ms ts
SpellsOp (Call ret callee args) words ms ts = (tail before after : List ℕ) × (arguments : List Argument)
    × (words ≡ tail ∷ before ∷ (map (λ (arg : Argument). arg.words) arguments ++ after ∷ []))
    × (args ≡ map (λ (arg : Argument). arg.typed) arguments)
    × IsCallee callee
    × (silent (SpellsTail tail) ⊙ the_word (codes "call") ⊙ silent (SpellsWords before) ⊙ the_type IsReturned ret
    ⊙ silent (one (IsGlobal callee)) ⊙ the_sign 40 ⊙ Listing SpellsArgument arguments ⊙ the_sign 41
    ⊙ silent (SpellsWords after)) ms ts
SpellsOp (Jump to) words ms ts = (words ≡ []) × (the_word (codes "br") ⊙ SpellsTarget to.0) ms ts
SpellsOp (Branch cond there other) words ms ts = (words ≡ [])
    × (the_word (codes "br") ⊙ the_word (codes "i1") ⊙ SpellsOperand cond ⊙ the_comma
    ⊙ SpellsTarget there.0 ⊙ the_comma ⊙ SpellsTarget other.0) ms ts
SpellsOp (Switch kind value other cases) words ms ts = (words ≡ [])
    × (the_word (codes "switch") ⊙ SpellsTyped (record { kind = kind; value = value }) ⊙ the_comma
    ⊙ SpellsTarget other.0 ⊙ the_sign 91 ⊙ InOrder SpellsCase cases ⊙ the_sign 93) ms ts
SpellsOp (Ret None) words ms ts = (words ≡ []) × (the_word (codes "ret") ⊙ the_word (codes "void")) ms ts
SpellsOp (Ret (Some typed)) words ms ts = (words ≡ []) × (the_word (codes "ret") ⊙ SpellsTyped typed) ms ts
SpellsOp Unreachable words ms ts = (words ≡ []) × the_word (codes "unreachable") ms ts
