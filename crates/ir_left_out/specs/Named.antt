-- What is left out by name, of the token at a place.
use Rattle.std.specs.Prelude.{◌≡◌, ◌≢◌, ℕ, List, [], ◌∷◌, codes, Option, slice_get, Some, MatchOption, take}
use Rattle.ir_text.specs.Tokens.{Lexeme, Placed}
use Rattle.ir_lex.specs.Tokenized.{Tokenized, lexemes, placed}
use Rattle.ir_grammar.specs.Spelled.{left_out, IsLeftOutToken, IsLeftOut}

-- Of the tokens, the one at this place is left out under this number, and the place of the refusal is this byte.
abbrev pub IsLeftOutAt : Tokenized → ℕ → ℕ → ℕ → Type 0
IsLeftOutAt t at number place = (token : Placed) × (slice_get (placed t) at ≡ Some token)
    × IsLeftOut (take at (lexemes t)) token number place

-- the number of a token of the list, where it is one
abbrev pub NumbersToken : Lexeme → Option ℕ → Type 0
NumbersToken t found =
    MatchOption found ((number : ℕ) → IsLeftOutToken t number → ⊥) (λ number. IsLeftOutToken t number)

-- A text has this number in the list, and isn't of those that are no tokens.
abbrev pub IsLeftOutText : List ℕ → ℕ → Type 0
IsLeftOutText text number = (slice_get left_out number ≡ Some text) × (number ≢ 4) × (number ≢ 5) × (number ≢ 6)

-- the number of a text, where it has one
abbrev pub NumbersText : List ℕ → Option ℕ → Type 0
NumbersText text found =
    MatchOption found ((number : ℕ) → IsLeftOutText text number → ⊥) (λ number. IsLeftOutText text number)

-- the texts before those that are no tokens
abbrev pub first_texts : List (List ℕ)
first_texts = codes "ptr" ∷ codes "{" ∷ codes "<" ∷ codes "..." ∷ []
