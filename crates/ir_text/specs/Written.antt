-- Names as they are written, and what they say.
use Rattle.std.specs.Prelude.{◌≡◌, ℕ, ◌+◌, ◌*◌, ◌&&◌, if◌then◌else◌, ◌==◌, List, [], ◌∷◌, ◌++◌, IsTrue, ◌⊎◌}
use Rattle.std.specs.List.{list_all}
use Rattle.std.specs.Char.{digit_value, is_ascii_hexdigit}
use Rattle.std.specs.Str.Parse.{digits_value}
use Rattle.ir_text.specs.declared.token.TokenKind.TheVariants.{Label, Local, Global, Quoted}
use Rattle.ir_text.specs.Bytes.{is_no_quote}
use Rattle.ir_text.specs.Names.{is_word, is_number}
use Rattle.ir_text.specs.Tokens.{Lexeme}

-- A name: a text, or the number of what has none.
pub data Name : Type 0 where
  Text : List ℕ → Name
  Number : ℕ → Name

-- What the bytes of a string mean: `\` and two hexadecimal digits are the byte that they write, `\\` is one `\`.
unfoldable pub unescaped : List ℕ → List ℕ
unescaped [] = []
unescaped (b ∷ []) = b ∷ []
unescaped (b ∷ c ∷ []) = if (b == 92) && (c == 92) then 92 ∷ [] else b ∷ unescaped (c ∷ [])
unescaped (b ∷ c ∷ d ∷ bs) =
    if (b == 92) && (c == 92) then 92 ∷ unescaped (d ∷ bs)
    else (if (b == 92) && (is_ascii_hexdigit c && is_ascii_hexdigit d) then (16 * digit_value c + digit_value d)
    ∷ unescaped bs
    else b ∷ unescaped (c ∷ d ∷ bs))

-- The text is a string, and its bytes mean these.
abbrev pub IsQuoted : List ℕ → List ℕ → Type 0
IsQuoted text bytes = (inner : List ℕ) × (text ≡ 34 ∷ (inner ++ 34 ∷ [])) × IsTrue (list_all is_no_quote inner)
    × (bytes ≡ unescaped inner)

-- What is written says the name: a word and a string are texts, digits are a number.
abbrev pub Says : List ℕ → Name → Type 0
Says written (Text name) = (IsTrue (is_word written) × (written ≡ name)) ⊎ IsQuoted written name
Says written (Number n) = IsTrue (is_number written) × (digits_value 10 written ≡ n)

-- A global that is written with digits has the text name of its digits.
abbrev pub SaysGlobal : List ℕ → List ℕ → Type 0
SaysGlobal written name = (IsTrue (is_word written) × (written ≡ name))
    ⊎ (IsTrue (is_number written) × (written ≡ name)) ⊎ IsQuoted written name

-- `%name`, `name:` and `@name`
abbrev pub IsLocal : Name → Lexeme → Type 0
IsLocal name t = (t.kind ≡ Local) × (written : List ℕ) × (t.text ≡ 37 ∷ written) × Says written name

abbrev pub IsLabel : Name → Lexeme → Type 0
IsLabel name t = (t.kind ≡ Label) × (written : List ℕ) × (t.text ≡ written ++ 58 ∷ []) × Says written name

abbrev pub IsGlobal : List ℕ → Lexeme → Type 0
IsGlobal name t = (t.kind ≡ Global) × (written : List ℕ) × (t.text ≡ 64 ∷ written) × SaysGlobal written name

-- a string, which no byte string is; and a byte string of these bytes
abbrev pub IsStringToken : Lexeme → Type 0
IsStringToken t = (t.kind ≡ Quoted) × (bytes : List ℕ) × IsQuoted t.text bytes

abbrev pub IsByteString : List ℕ → Lexeme → Type 0
IsByteString bytes t = (t.kind ≡ Quoted) × (text : List ℕ) × (t.text ≡ 99 ∷ text) × IsQuoted text bytes
