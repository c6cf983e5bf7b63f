-- How functions with a body are written, with the names that are mentioned in them; ids are 0.
use Rattle.std.specs.Prelude.{◌≡◌, ◌≢◌, ℕ, Bool, true, false, ◌||◌, List, [], ◌∷◌, IsTrue, ◌⊎◌, Option, Some, None, nat_eq, codes}
use Rattle.std.specs.List.{starts_with}
use Rattle.scev_base.specs.declared.ids.ValueId.{ValueId}
use Rattle.ir_model.specs.declared.types.IrType.{IrType}
use Rattle.ir_model.specs.declared.op.Op.{Op}
use Rattle.ir_model.specs.declared.function.Param.{Param}
use Rattle.ir_model.specs.declared.function.Instr.{Instr}
use Rattle.ir_model.specs.declared.function.Block.{Block}
use Rattle.ir_model.specs.declared.function.Function.{Function}
use Rattle.ir_model.specs.Shapes.{is_terminator, MayHaveResult, GivesValue}
use Rattle.ir_text.specs.declared.token.TokenKind.TheVariants.{Group}
use Rattle.ir_text.specs.Names.{is_word}
use Rattle.ir_text.specs.Tokens.{Lexeme}
use Rattle.ir_text.specs.Language.{Language, ◌·◌, ◌or◌, nothing, one, keyword, Many}
use Rattle.ir_text.specs.Written.{IsGlobal}
use Rattle.ir_text.specs.Mentions.{DefinesValue, DefinesBlock, Mentioning, ◌⊙◌, silent, defines_value, defines_block, unwritten, InOrder}
use Rattle.ir_model.specs.Kinds.{IsScalar, IsReturned}
use Rattle.ir_text.specs.Types.{SpellsTypeOf}
use Rattle.ir_text.specs.PassedOn.{SpellsWords, in_parentheses, attachments, metadata_pairs}
use Rattle.ir_grammar.specs.Operations.{SpellsOp, Listing, SpellsTail, the_word, the_sign, the_type}

-- ---- what an instruction gives

-- `%name =` in front of an operation that may have a result; where nothing stands there, what gives a value is defined
-- without a name, where the instruction begins, and what gives none has no result.
abbrev pub SpellsResult : Op → Option ValueId → Mentioning
SpellsResult op None ms ts = (GivesValue op → ⊥) × silent nothing ms ts
SpellsResult op (Some v) ms ts = (v.0 ≡ 0)
    × ((MayHaveResult op × (defines_value ⊙ the_sign 61) ms ts) ⊎ (GivesValue op × unwritten (DefinesValue None) ms ts))

-- ---- instructions

abbrev pub SpellsInstr : Instr → Mentioning
SpellsInstr instr = SpellsResult instr.op instr.result ⊙ SpellsOp instr.op instr.words ⊙ silent attachments

-- A name of a function whose calls and declarations are dropped.
abbrev pub is_dropped_name : List ℕ → Bool
is_dropped_name name = starts_with nat_eq name (codes "llvm.dbg.") || starts_with nat_eq name (codes "llvm.lifetime.")

abbrev pub IsDroppedCallee : Lexeme → Type 0
IsDroppedCallee t = (name : List ℕ) × IsGlobal name t × IsTrue (is_dropped_name name)

-- a debug record
abbrev pub IsRecord : Lexeme → Type 0
IsRecord t = (t.kind ≡ Group) × (name : List ℕ) × (t.text ≡ 35 ∷ name) × IsTrue (is_word name)

-- Records and calls that are dropped.
abbrev pub dropped_call : Language
dropped_call ts = (tail before after : List ℕ) × (ret : IrType)
    × (SpellsTail tail · keyword (codes "call") · SpellsWords before · SpellsTypeOf IsReturned ret · one IsDroppedCallee
    · in_parentheses · SpellsWords after) ts

abbrev pub dropped_instr : Language
dropped_instr = ((one IsRecord · in_parentheses) or dropped_call) · attachments

-- ---- blocks

-- an instruction of a block, with what is dropped before it
abbrev pub SpellsLine : Instr → Mentioning
SpellsLine instr = silent (Many dropped_instr) ⊙ SpellsInstr instr

-- instructions that end no block, and one that does
abbrev pub SpellsInstrs : List Instr → Mentioning
SpellsInstrs [] ms ts = ⊥
SpellsInstrs (last ∷ []) ms ts = (is_terminator last.op ≡ true) × SpellsLine last ms ts
SpellsInstrs (instr ∷ next ∷ more) ms ts = (is_terminator instr.op ≡ false)
    × (SpellsLine instr ⊙ SpellsInstrs (next ∷ more)) ms ts

-- its label, or nothing where it goes without a name, and its instructions
abbrev pub SpellsBlock : Block → Mentioning
SpellsBlock block = (λ ms ts. (block.id.0 ≡ 0) × (defines_block ms ts ⊎ unwritten (DefinesBlock None) ms ts))
    ⊙ SpellsInstrs block.instrs

-- ---- functions

-- `type W %name`, where the name may be left out
abbrev pub SpellsParam : Param → Mentioning
SpellsParam param = the_type IsScalar param.kind ⊙ silent (SpellsWords param.words)
    ⊙ (λ ms ts. (param.value.0 ≡ 0) × (defines_value ms ts ⊎ unwritten (DefinesValue None) ms ts))

-- a function whose tables are empty
abbrev pub SpellsFunction : Function → Mentioning
SpellsFunction f ms ts = (before after : List ℕ) × (f.words ≡ before ∷ after ∷ []) × (f.blocks ≢ []) × (f.values ≡ [])
    × (f.labels ≡ [])
    × (the_word (codes "define") ⊙ silent (SpellsWords before) ⊙ the_type IsReturned f.ret
    ⊙ silent (one (IsGlobal f.name)) ⊙ the_sign 40 ⊙ Listing SpellsParam f.params ⊙ the_sign 41
    ⊙ silent (SpellsWords after) ⊙ silent metadata_pairs
    ⊙ the_sign 123 ⊙ InOrder SpellsBlock f.blocks ⊙ the_sign 125) ms ts
