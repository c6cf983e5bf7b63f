-- How the parts of a production stand in a list of tokens.
use Rattle.std.specs.Prelude.{◌≡◌, ℕ, List, [], ◌∷◌, ◌++◌}
use Rattle.ir_text.specs.Tokens.{Lexeme}
use Rattle.ir_text.specs.declared.token.TokenKind.TheVariants.{Word, Label, Local, Global, Sign}

-- the tokens of fixed texts and of plain names
abbrev pub word : List ℕ → Lexeme
word text = record { kind = Word; text = text }

abbrev pub sign : ℕ → Lexeme
sign b = record { kind = Sign b; text = b ∷ [] }

abbrev pub local : List ℕ → Lexeme
local name = record { kind = Local; text = 37 ∷ name }

abbrev pub global : List ℕ → Lexeme
global name = record { kind = Global; text = 64 ∷ name }

abbrev pub label : List ℕ → Lexeme
label name = record { kind = Label; text = name ++ 58 ∷ [] }

-- each thing of a list is spelled, one after another
abbrev pub InSequence : {A : Type 0} → (A → List Lexeme → Type 0) → List A → List Lexeme → Type 0
InSequence Spells [] ts = ts ≡ []
InSequence Spells (x ∷ xs) ts = (front rest : List Lexeme) × (ts ≡ front ++ rest) × Spells x front
    × InSequence Spells xs rest

-- one thing or more, with commas between them
abbrev pub SeparatedByCommas : {A : Type 0} → (A → List Lexeme → Type 0) → List A → List Lexeme → Type 0
SeparatedByCommas Spells [] ts = ⊥
SeparatedByCommas Spells (x ∷ []) ts = Spells x ts
SeparatedByCommas Spells (x ∷ y ∷ ys) ts = (front rest : List Lexeme) × (ts ≡ front ++ (sign 44 ∷ rest))
    × Spells x front × SeparatedByCommas Spells (y ∷ ys) rest
