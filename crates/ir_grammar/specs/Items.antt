-- How the items of a module are written, and what of a module is dropped.
use Rattle.std.specs.Prelude.{◌≡◌, ℕ, Bool, true, false, List, [], ◌∷◌, ◌++◌, Option, Some, None, codes}
use Rattle.ir_model.specs.declared.types.IrType.{IrType}
use Rattle.ir_model.specs.declared.op.Operand.{Operand}
use Rattle.ir_model.specs.declared.op.Operand.TheVariants as operand
use Rattle.ir_model.specs.declared.item.Global_.{Global_}
use Rattle.ir_model.specs.declared.item.Init.{Init}
use Rattle.ir_model.specs.declared.item.Init.TheVariants as init
use Rattle.ir_model.specs.declared.item.InitPart.{InitPart}
use Rattle.ir_model.specs.declared.item.DeclaredParam.{DeclaredParam}
use Rattle.ir_model.specs.declared.item.Declare.{Declare}
use Rattle.ir_model.specs.declared.item.Item.{Item}
use Rattle.ir_model.specs.declared.item.Item.TheVariants as item
use Rattle.ir_text.specs.declared.token.TokenKind.TheVariants.{Metadata}
use Rattle.ir_text.specs.Tokens.{Lexeme}
use Rattle.ir_text.specs.Listed.{InSequence, SeparatedByCommas, sign}
use Rattle.ir_text.specs.Language.{Language, ◌·◌, ◌or◌, nothing, optional, one, keyword, punctuation, comma, Many}
use Rattle.ir_text.specs.Written.{IsGlobal, IsStringToken, IsByteString}
use Rattle.ir_text.specs.Mentions.{Mentioning, silent}
use Rattle.ir_text.specs.Sites.{Draft}
use Rattle.ir_model.specs.Kinds.{IsScalar, IsStored, IsReturned}
use Rattle.ir_text.specs.Types.{SpellsTypeOf}
use Rattle.ir_text.specs.PassedOn.{passed_text, ArePieces, IsPassedOn, is_external, SpellsWords, IsAttributeGroup, in_parentheses, in_braces, metadata_node, attachments, metadata_pairs}
use Rattle.ir_grammar.specs.Operations.{SpellsNumber}
use Rattle.ir_grammar.specs.Functions.{SpellsFunction, IsDroppedCallee, is_dropped_name}
use Rattle.ir_grammar.specs.Layout.{IsLayout}

-- ---- lines that are passed on

abbrev pub passed_line : Language
passed_line = (keyword (codes "source_filename") · punctuation 61 · one IsStringToken)
    or (keyword (codes "target") · keyword (codes "triple") · punctuation 61 · one IsStringToken)
    or (keyword (codes "target") · keyword (codes "datalayout") · punctuation 61 · one IsLayout)
    or (keyword (codes "attributes") · one IsAttributeGroup · punctuation 61 · in_braces)

-- ---- globals

-- a numeral, `true`, `false`, `null`, `undef` or `poison`
abbrev pub SpellsLiteral : Operand → Language
SpellsLiteral (operand.Num n) = SpellsNumber n
SpellsLiteral operand.Null = keyword (codes "null")
SpellsLiteral operand.Undef = keyword (codes "undef")
SpellsLiteral operand.Poison = keyword (codes "poison")
SpellsLiteral _ = λ ts. ⊥

-- An initialiser: a literal, `zeroinitializer`, a byte string, or `[ type init, .. ]` with one part or more.
mutual
  pub data SpellsInit : Init → List Lexeme → Type 0 where
    literal : {ts : List Lexeme} (value : Operand) → SpellsLiteral value ts → SpellsInit (init.Literal value) ts
    zero : {ts : List Lexeme} → keyword (codes "zeroinitializer") ts → SpellsInit init.Zero ts
    bytes : {ts : List Lexeme} (text : List ℕ) → one (IsByteString text) ts → SpellsInit (init.Bytes text) ts
    list : {ts : List Lexeme} (parts : List InitPart) (inner : List Lexeme) → ts ≡ sign 91 ∷ (inner ++ sign 93 ∷ [])
        → SpellsParts parts inner → SpellsInit (init.List parts) ts

  pub data SpellsParts : List InitPart → List Lexeme → Type 0 where
    last : {ts : List Lexeme} (part : InitPart) (kind value : List Lexeme) → ts ≡ kind ++ value
        → SpellsTypeOf IsStored part.kind kind → SpellsInit part.init value → SpellsParts (part ∷ []) ts
    more : {ts : List Lexeme} (part : InitPart) (parts : List InitPart) (kind value rest : List Lexeme)
        → ts ≡ kind ++ (value ++ sign 44 ∷ rest)
        → SpellsTypeOf IsStored part.kind kind → SpellsInit part.init value → SpellsParts parts rest
        → SpellsParts (part ∷ parts) ts

-- the initialiser, which is absent exactly where the words before say that the global stands outside the module
abbrev pub SpellsInitialiser : Bool → Option Init → Language
SpellsInitialiser true None = nothing
SpellsInitialiser false (Some value) = SpellsInit value
SpellsInitialiser _ _ = λ ts. ⊥

abbrev pub constant_word : Bool → List ℕ
constant_word true = codes "constant"
constant_word false = codes "global"

-- runs of passed-on words, each behind a comma
abbrev pub SpellsBehindCommas : List (List ℕ) → Language
SpellsBehindCommas = InSequence (λ text. comma · SpellsWords text)

abbrev pub SpellsGlobal : Global_ → Language
SpellsGlobal g ts = (pieces : List (List Lexeme))
    × (one (IsGlobal g.name) · punctuation 61 · (λ us. ArePieces pieces us × (g.before ≡ passed_text us))
    · keyword (constant_word g.constant) · SpellsTypeOf IsStored g.kind
    · SpellsInitialiser (is_external pieces) g.init · SpellsBehindCommas g.after · attachments) ts

-- ---- declarations

abbrev pub SpellsDeclaredParam : DeclaredParam → Language
SpellsDeclaredParam param = SpellsTypeOf IsScalar param.kind · SpellsWords param.words

-- things with commas between them, any number
abbrev pub ListedByCommas : {A : Type 0} → (A → List Lexeme → Type 0) → List A → Language
ListedByCommas Spells [] = nothing
ListedByCommas Spells (x ∷ xs) = SeparatedByCommas Spells (x ∷ xs)

abbrev pub SpellsDeclare : Declare → Language
SpellsDeclare d ts = (is_dropped_name d.name ≡ false)
    × (keyword (codes "declare") · metadata_pairs · SpellsWords d.before · SpellsTypeOf IsReturned d.ret
    · one (IsGlobal d.name)
    · punctuation 40 · ListedByCommas SpellsDeclaredParam d.params · punctuation 41 · SpellsWords d.after) ts

-- ---- items

-- Metadata, and declarations of functions whose calls are dropped.
abbrev pub dropped_item : Language
dropped_item = (one (λ t. t.kind ≡ Metadata) · punctuation 61 · optional (keyword (codes "distinct")) · metadata_node)
    or (keyword (codes "declare") · metadata_pairs · IsPassedOn
    · (λ ts. (ret : IrType) × SpellsTypeOf IsReturned ret ts)
    · one IsDroppedCallee · in_parentheses · IsPassedOn)

abbrev pub SpellsDraft : Item → Mentioning
SpellsDraft (item.PassedOn text) = silent (λ ts. passed_line ts × (text ≡ passed_text ts))
SpellsDraft (item.Global g) = silent (SpellsGlobal g)
SpellsDraft (item.Declare d) = silent (SpellsDeclare d)
SpellsDraft (item.Define f) = SpellsFunction f

-- A comma at the end of an item, behind which an empty run of words stands, isn't followed by metadata: that would
-- be an attachment.
abbrev pub EndsApart : List Lexeme → List Lexeme → Type 0
EndsApart own behind = (before more : List Lexeme) (t : Lexeme) → own ≡ before ++ sign 44 ∷ [] → behind ≡ t ∷ more
    → t.kind ≡ Metadata → ⊥

-- items, with what is dropped before, between and behind them
abbrev pub SpellsItems : List Draft → Language
SpellsItems [] = Many dropped_item
SpellsItems (x ∷ xs) = Many dropped_item
    · (λ ts. (own behind : List Lexeme) × (ts ≡ own ++ behind) × SpellsDraft x.item x.mentions own
    × SpellsItems xs behind × EndsApart own behind)
