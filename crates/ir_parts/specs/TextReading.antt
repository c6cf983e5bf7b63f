-- The text that tokens are passed on as, token by token.
use Rattle.std.specs.Prelude.{ℕ, ◌-◌, Bool, false, ◌||◌, ◌&&◌, not, if◌then◌else◌, List, [], ◌∷◌, take}
use Rattle.ir_text.specs.Tokens.{Lexeme}
use Rattle.ir_text.specs.PassedOn.{is_sign_token, is_string_next, stand_close}
use Rattle.ir_lex.specs.Tokenized.{Tokenized}
use Rattle.ir_parts.specs.Reading.{left_from, begins}

-- the tokens from one place to another
abbrev pub between : Tokenized → ℕ → ℕ → List Lexeme
between t at to = take (to - at) (left_from t at)

-- Whether two tokens stand close, by the tokens from the first, from the second, and from the third on.
abbrev pub close_by : Bool → List Lexeme → List Lexeme → List Lexeme → Bool
close_by before ts us vs = begins (is_sign_token 44) us || begins (is_sign_token 41) us || begins (is_sign_token 40) ts
    || (is_string_next ts && begins (is_sign_token 61) us && is_string_next vs)
    || (before && begins (is_sign_token 61) ts && is_string_next us)

-- whether a space stands behind the first of the tokens
abbrev pub stands_apart : Bool → List Lexeme → Bool
stands_apart before [] = false
stands_apart before (t ∷ []) = false
stands_apart before (t ∷ u ∷ us) = not (stand_close before t u us)

-- the text of the first of the tokens, and the space behind it
abbrev pub first_text : List Lexeme → List ℕ
first_text [] = []
first_text (t ∷ ts) = t.text

abbrev pub space_behind : Bool → List Lexeme → List ℕ
space_behind before ts = if stands_apart before ts then 32 ∷ [] else []
