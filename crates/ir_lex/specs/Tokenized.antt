-- An input with its tokens.
use Rattle.std.specs.Prelude.{ℕ, ◌≤◌, List, map, length}
use Rattle.std.specs.List.{slice_range}
use Rattle.ir_text.specs.declared.token.Token.{Token}
use Rattle.ir_text.specs.Tokens.{Lexeme, Placed}

pub record Tokenized : Type 0 where
  pub bytes : List ℕ
  pub tokens : List Token

-- a token without its place
abbrev pub lexeme_of : List ℕ → Token → Lexeme
lexeme_of bytes t = record { kind = t.kind; text = slice_range bytes t.from t.to }

abbrev pub lexemes : Tokenized → List Lexeme
lexemes t = map (lexeme_of t.bytes) t.tokens

-- a token with the byte at which it begins
abbrev pub placed_of : List ℕ → Token → Placed
placed_of bytes t = record { lexeme = lexeme_of bytes t; from = t.from }

abbrev pub placed : Tokenized → List Placed
placed t = map (placed_of t.bytes) t.tokens

-- The token stands within the bytes.
abbrev pub IsWithin : List ℕ → Token → Type 0
IsWithin bytes t = (t.from ≤ t.to) × (t.to ≤ length bytes)
