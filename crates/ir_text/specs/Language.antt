-- Languages over tokens: which lists of tokens are sentences, and how languages are put together.
use Rattle.std.specs.Prelude.{◌≡◌, ℕ, List, [], ◌∷◌, ◌++◌, ◌⊎◌}
use Rattle.ir_text.specs.Tokens.{Lexeme}
use Rattle.ir_text.specs.Listed.{word, sign}

-- which token lists are sentences
abbrev pub Language : Type 1
Language = List Lexeme → Type 0

-- A sentence of the first, and then one of the second.
infixr 20 ◌·◌
abbrev pub ◌·◌ : Language → Language → Language
(A · B) ts = (us vs : List Lexeme) × (ts ≡ us ++ vs) × A us × B vs

-- A sentence of one of two.
infixr 15 ◌or◌
abbrev pub ◌or◌ : Language → Language → Language
(A or B) ts = A ts ⊎ B ts

-- nothing at all
abbrev pub nothing : Language
nothing ts = ts ≡ []

-- a sentence of the language, or nothing
abbrev pub optional : Language → Language
optional A = A or nothing

-- one token, of which something holds
abbrev pub one : (Lexeme → Type 0) → Language
one Is ts = (t : Lexeme) × (ts ≡ t ∷ []) × Is t

-- this token, this word, this sign
abbrev pub token : Lexeme → Language
token t ts = ts ≡ t ∷ []

abbrev pub keyword : List ℕ → Language
keyword text = token (word text)

abbrev pub punctuation : ℕ → Language
punctuation b = token (sign b)

abbrev pub comma : Language
comma = punctuation 44

-- Any number of sentences, one after another.
pub data Many (A : List Lexeme → Type 0) : List Lexeme → Type 0 where
  none : Many A []
  more : {ts : List Lexeme} (us vs : List Lexeme) → ts ≡ us ++ vs → A us → Many A vs → Many A ts
