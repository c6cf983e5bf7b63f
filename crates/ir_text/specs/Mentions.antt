-- The names that stand in the text of a function, in text order. What is spelled with them is seen without ids: each
-- id in it is 0, and the mentions say which name stands there.
use Rattle.std.specs.Prelude.{◌≡◌, ℕ, List, [], ◌∷◌, ◌++◌, Option, Some}
use Rattle.ir_text.specs.Tokens.{Lexeme}
use Rattle.ir_text.specs.Language.{Language, ◌·◌, one}
use Rattle.ir_text.specs.Written.{Name, IsLocal, IsLabel, IsGlobal}

-- A mention of a value, a block or a global by its name. What is defined may go without a name.
pub data Mention : Type 0 where
  DefinesValue : Option Name → Mention
  UsesValue : Name → Mention
  DefinesBlock : Option Name → Mention
  UsesBlock : Name → Mention
  UsesGlobal : List ℕ → Mention

-- which token lists are sentences, with which mentions in them
abbrev pub Mentioning : Type 1
Mentioning = List Mention → List Lexeme → Type 0

-- a sentence of the first, and then one of the second
infixr 20 ◌⊙◌
abbrev pub ◌⊙◌ : Mentioning → Mentioning → Mentioning
(A ⊙ B) ms ts = (before behind : List Mention) × (ms ≡ before ++ behind) × (A before · B behind) ts

-- a sentence with no mention in it
abbrev pub silent : Language → Mentioning
silent A ms ts = (ms ≡ []) × A ts

-- one token, with one mention
abbrev pub mentions : Mention → (Lexeme → Type 0) → Mentioning
mentions m Is ms ts = (ms ≡ m ∷ []) × one Is ts

-- `%name` of a value and of a block, `@name` of a global
abbrev pub uses_value : Mentioning
uses_value ms ts = (name : Name) × mentions (UsesValue name) (IsLocal name) ms ts

abbrev pub uses_block : Mentioning
uses_block ms ts = (name : Name) × mentions (UsesBlock name) (IsLocal name) ms ts

abbrev pub uses_global : Mentioning
uses_global ms ts = (name : List ℕ) × mentions (UsesGlobal name) (IsGlobal name) ms ts

-- `%name` of a value, and `name:` of a block, where they are defined; and where nothing is written
abbrev pub defines_value : Mentioning
defines_value ms ts = (name : Name) × mentions (DefinesValue (Some name)) (IsLocal name) ms ts

abbrev pub defines_block : Mentioning
defines_block ms ts = (name : Name) × mentions (DefinesBlock (Some name)) (IsLabel name) ms ts

abbrev pub unwritten : Mention → Mentioning
unwritten m ms ts = (ms ≡ m ∷ []) × (ts ≡ [])

-- each thing of a list, one after another
abbrev pub InOrder : {A : Type 0} → (A → List Mention → List Lexeme → Type 0) → List A → Mentioning
InOrder Spells [] ms ts = (ms ≡ []) × (ts ≡ [])
InOrder Spells (x ∷ xs) ms ts = (Spells x ⊙ InOrder Spells xs) ms ts
