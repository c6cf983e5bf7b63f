-- Which texts spell a module, and where a text that spells none is refused.
use Rattle.std.specs.Prelude.{◌≡◌, ◌≢◌, ℕ, ◌+◌, true, List, [], ◌∷◌, ◌++◌, length, map, Some, slice_get, ◌⊎◌, codes}
use Rattle.ir_model.specs.declared.item.Module.{Module}
use Rattle.ir_text.specs.declared.token.TokenKind.TheVariants.{Word, Quoted, Sign, Dots}
use Rattle.ir_text.specs.Tokens.{Lexeme, Placed, Lexed}
use Rattle.ir_text.specs.Listed.{word, sign}
use Rattle.ir_text.specs.Language.{Language, ◌·◌, keyword}
use Rattle.ir_model.specs.Kinds.{IsReturned}
use Rattle.ir_text.specs.Types.{SpellsTypeOf}
use Rattle.ir_model.specs.declared.types.IrType.{IrType}
use Rattle.ir_text.specs.Written.{IsGlobal}
use Rattle.ir_text.specs.PassedOn.{left_out_words, IsPassedOn}
use Rattle.ir_grammar.specs.Operations.{is_intrinsic}
use Rattle.ir_grammar.specs.Layout.{IsLayoutFault}
use Rattle.ir_grammar.specs.Items.{SpellsItems}
use Rattle.ir_text.specs.Sites.{Draft}
use Rattle.ir_grammar.specs.Numbering.{IsNumberedModule}

abbrev pub lexemes_of : List Placed → List Lexeme
lexemes_of placed = map (λ (p : Placed). p.lexeme) placed

-- The bytes spell the module: their tokens, which reach to the end, are its items without ids, and its ids are those
-- of the names that are mentioned.
pub record Spells (bytes : List ℕ) (m : Module) : Type 0 where
  pub placed : List Placed
  pub lexed : Lexed 0 bytes placed (length bytes)
  pub drafts : List Draft
  pub spelled : SpellsItems drafts (lexemes_of placed)
  pub numbered : IsNumberedModule drafts m

-- The bytes spell no module.
abbrev pub SpellsNone : List ℕ → Type 0
SpellsNone bytes = (m : Module) → Spells bytes m → ⊥

-- ---- where a text is refused

-- Some tokens behind these make them a module's.
pub record Viable (ts : List Lexeme) : Type 0 where
  pub others : List Lexeme
  pub drafts : List Draft
  pub spelled : SpellsItems drafts (ts ++ others)

-- The tokens before a refusal, and the token at which it comes, where there is one; `end` is where all tokens end.
pub record IsRefusal (bytes : List ℕ) (before behind : List Placed) (end : ℕ) : Type 0 where
  pub lexed : Lexed 0 bytes (before ++ behind) end
  pub viable : Viable (lexemes_of before)
  pub stops : (t : Placed) (more : List Placed) → behind ≡ t ∷ more → Viable (lexemes_of before ++ t.lexeme ∷ []) → ⊥
  pub none : SpellsNone bytes

-- ---- what is left out by name

-- the parts of LLVM IR that are left out by name, by their numbers
abbrev pub left_out : List (List ℕ)
left_out = codes "ptr" ∷ codes "{" ∷ codes "<" ∷ codes "..." ∷ codes "E" ∷ codes "p" ∷ codes "llvm." ∷ left_out_words

-- a word or a sign of the list; `E` and `p` are specifications of a data layout, `llvm.` begins names
abbrev pub IsLeftOutToken : Lexeme → ℕ → Type 0
IsLeftOutToken t number = ((t.kind ≡ Word) ⊎ ((b : ℕ) × (t.kind ≡ Sign b)) ⊎ (t.kind ≡ Dots))
    × (slice_get left_out number ≡ Some t.text) × (number ≢ 4) × (number ≢ 5) × (number ≢ 6)

-- `call` with its passed-on words and its type
abbrev pub begun_call : Language
begun_call = keyword (codes "call") · IsPassedOn · (λ ts. (ret : IrType) × SpellsTypeOf IsReturned ret ts)

-- The token of a refusal, behind these, is left out under this number, and the place is this byte: that of the token;
-- of a specification within the string of a data layout; of the callee of a call, where its name begins `llvm.`.
abbrev pub IsLeftOut : List Lexeme → Placed → ℕ → ℕ → Type 0
IsLeftOut before t number at = (IsLeftOutToken t.lexeme number × (at ≡ t.from))
    ⊎ ((front : List Lexeme) × (before ≡ front ++ word (codes "target") ∷ word (codes "datalayout") ∷ sign 61 ∷ [])
    × (t.lexeme.kind ≡ Quoted) × (inner : List ℕ) × (t.lexeme.text ≡ 34 ∷ (inner ++ 34 ∷ []))
    × (offset : ℕ) × IsLayoutFault inner number offset × (at ≡ t.from + (1 + offset)))
    ⊎ ((front call : List Lexeme) × (before ≡ front ++ call) × begun_call call
    × (name : List ℕ) × IsGlobal name t.lexeme × (is_intrinsic name ≡ true) × (number ≡ 6) × (at ≡ t.from))

-- where a refusal comes: at the token behind what can go on, or where all tokens end
abbrev pub refused_at : List Placed → ℕ → ℕ
refused_at [] end = end
refused_at (t ∷ more) end = t.from

-- The bytes are refused at this place: at the token of the refusal, which isn't left out by name, or where all tokens
-- end.
pub record IsNotInGrammar (bytes : List ℕ) (at : ℕ) : Type 0 where
  pub before : List Placed
  pub behind : List Placed
  pub end : ℕ
  pub refusal : IsRefusal bytes before behind end
  pub place : at ≡ refused_at behind end
  pub named : (t : Placed) (more : List Placed) → behind ≡ t ∷ more → (number place : ℕ)
      → IsLeftOut (lexemes_of before) t number place → ⊥

-- The bytes are refused at what is left out under this number.
pub record IsUnsupported (bytes : List ℕ) (number at : ℕ) : Type 0 where
  pub before : List Placed
  pub token : Placed
  pub behind : List Placed
  pub end : ℕ
  pub refusal : IsRefusal bytes before (token ∷ behind) end
  pub named : IsLeftOut (lexemes_of before) token number at
