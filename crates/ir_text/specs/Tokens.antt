-- The tokens of a text, by longest match: what stands between them, how one token stands at the start of a text, and
-- how they follow one another up to the end or to a bad byte.
use Rattle.std.specs.Prelude.{◌≡◌, ℕ, ◌+◌, ◌^◌, ◌<◌, ◌≤◌, Bool, false, List, [], ◌∷◌, ◌++◌, length, IsTrue, ◌⊎◌, ℤ, pos, negsuc, ◌-◌, ◌≤ℤ◌}
use Rattle.std.specs.List.{list_all}
use Rattle.std.specs.Str.Parse.{digits_value, signed_digits_value}
use Rattle.ir_text.specs.Bytes.{is_blank, is_digit, is_sign, is_no_line_feed}
use Rattle.ir_text.specs.Names.{dots, is_word, is_number, is_signed_number, IsString, IsName}
use Rattle.ir_text.specs.declared.token.TokenKind.{TokenKind}
use Rattle.ir_text.specs.declared.token.TokenKind.TheVariants.{Word, Label, Numeral, Local, Global, Metadata, Group, Quoted, Sign, Dots}

-- a token without its place
pub record Lexeme : Type 0 where
  pub kind : TokenKind
  pub text : List ℕ

-- a token with the byte of the text at which it begins, from 0
pub record Placed : Type 0 where
  pub lexeme : Lexeme
  pub from : ℕ

-- line feed
abbrev pub line_feed : ℕ
line_feed = 10

-- `!`
abbrev pub bang : ℕ
bang = 33

-- `#`
abbrev pub hash : ℕ
hash = 35

-- `%`
abbrev pub percent : ℕ
percent = 37

-- `:`
abbrev pub colon : ℕ
colon = 58

-- `;`
abbrev pub semicolon : ℕ
semicolon = 59

-- `@`
abbrev pub at_sign : ℕ
at_sign = 64

-- `c`
abbrev pub letter_c : ℕ
letter_c = 99

-- the first byte, if there is one, is a digit
abbrev pub begins_with_digit : List ℕ → Bool
begins_with_digit [] = false
begins_with_digit (b ∷ bs) = is_digit b

-- behind digits stands no digit
abbrev pub NoDigitFollows : List ℕ → List ℕ → Type 0
NoDigitFollows name next = IsTrue (is_number name) → begins_with_digit next ≡ false

-- a name behind its sigil
abbrev pub IsSigilName : ℕ → List ℕ → List ℕ → Type 0
IsSigilName sigil text next = (name : List ℕ) × (text ≡ sigil ∷ name) × IsName name × NoDigitFollows name next

-- a word or a numeral behind a `!` or a `#`
abbrev pub IsTagged : ℕ → List ℕ → List ℕ → Type 0
IsTagged sigil text next = (name : List ℕ) × (text ≡ sigil ∷ name)
    × (IsTrue (is_word name) ⊎ (IsTrue (is_signed_number name) × (begins_with_digit next ≡ false)))

-- from -2^127 to 2^127 - 1
abbrev pub FitsSigned128 : ℤ → Type 0
FitsSigned128 z = (negsuc (2 ^ 127 - 1) ≤ℤ z) × (z ≤ℤ pos (2 ^ 127 - 1))

-- The text has the form of a token of the kind, where `next` stands behind it.
unfoldable pub HasForm : TokenKind → List ℕ → List ℕ → Type 0
HasForm Word text next = IsTrue (is_word text)
HasForm Label text next = (name : List ℕ) × (text ≡ name ++ colon ∷ []) × IsName name
HasForm Numeral text next =
    IsTrue (is_signed_number text) × (begins_with_digit next ≡ false) × FitsSigned128 (signed_digits_value 10 text)
HasForm Local text next = IsSigilName percent text next
HasForm Global text next = IsSigilName at_sign text next
HasForm Metadata text next = (text ≡ bang ∷ []) ⊎ IsTagged bang text next
HasForm Group text next = IsTagged hash text next
HasForm Quoted text next = IsString text ⊎ ((string : List ℕ) × (text ≡ letter_c ∷ string) × IsString string)
HasForm (Sign b) text next = (text ≡ b ∷ []) × IsTrue (is_sign b)
HasForm Dots text next = text ≡ dots

-- The number of an unnamed value or block is below 2^64.
unfoldable pub NumberFits : TokenKind → List ℕ → Type 0
NumberFits Label text =
    (name : List ℕ) → text ≡ name ++ colon ∷ [] → IsTrue (is_number name) → digits_value 10 name < 2 ^ 64
NumberFits Local text =
    (name : List ℕ) → text ≡ percent ∷ name → IsTrue (is_number name) → digits_value 10 name < 2 ^ 64
NumberFits _ text = Unit {0}

-- A token of the kind begins where the text stands, with `next` behind it: it has the form, nothing longer has the
-- form of a token, and its number fits.
pub record IsTokenAt (kind : TokenKind) (text next : List ℕ) : Type 0 where
  pub form : HasForm kind text next
  pub longest : (other : TokenKind) (more rest : List ℕ)
      → more ++ rest ≡ text ++ next
      → HasForm other more rest
      → length more ≤ length text
  pub fits : NumberFits kind text

-- Blanks and comments. A comment runs from `;` to the line's end.
pub data IsGap : List ℕ → Type 0 where
  none : IsGap []
  blank : {b : ℕ} {bytes : List ℕ} → IsTrue (is_blank b) → IsGap bytes → IsGap (b ∷ bytes)
  comment : {bytes : List ℕ} (text rest : List ℕ)
      → bytes ≡ semicolon ∷ (text ++ line_feed ∷ rest)
      → IsTrue (list_all is_no_line_feed text)
      → IsGap rest
      → IsGap bytes

-- Nothing, or a comment that ends with the text.
abbrev pub IsEnd : List ℕ → Type 0
IsEnd bytes = (bytes ≡ []) ⊎ ((text : List ℕ) × (bytes ≡ semicolon ∷ text) × IsTrue (list_all is_no_line_feed text))

-- A byte that is no blank and begins no comment and no token.
pub record IsBadByte (bytes : List ℕ) : Type 0 where
  pub first : ℕ
  pub others : List ℕ
  pub bytes_are : bytes ≡ first ∷ others
  pub no_blank : is_blank first ≡ false
  pub no_comment : first ≡ semicolon → ⊥
  pub no_token : (kind : TokenKind) (text next : List ℕ) → text ++ next ≡ bytes → IsTokenAt kind text next → ⊥

-- The tokens of the bytes, which begin at this place of a text, and where they end: at the text's length, or at the
-- first bad byte.
pub data Lexed : ℕ → List ℕ → List Placed → ℕ → Type 0 where
  ends_whole : {at : ℕ} {bytes : List ℕ} (gap rest : List ℕ)
      → bytes ≡ gap ++ rest
      → IsGap gap
      → IsEnd rest
      → Lexed at bytes [] (at + length bytes)
  ends_bad : {at : ℕ} {bytes : List ℕ} (gap rest : List ℕ)
      → bytes ≡ gap ++ rest
      → IsGap gap
      → IsBadByte rest
      → Lexed at bytes [] (at + length gap)
  goes_on : {at end : ℕ} {bytes : List ℕ} {placed : List Placed} (kind : TokenKind) (gap text rest : List ℕ)
      → bytes ≡ gap ++ (text ++ rest)
      → IsGap gap
      → IsTokenAt kind text rest
      → Lexed (at + (length gap + length text)) rest placed end
      → Lexed at bytes (record { lexeme = record { kind = kind; text = text }; from = at + length gap } ∷ placed) end

-- The tokens of the bytes, without their places.
pub data AreLexemes : List ℕ → List Lexeme → Type 0 where
  end : {bytes : List ℕ} (gap rest : List ℕ) → bytes ≡ gap ++ rest → IsGap gap → IsEnd rest → AreLexemes bytes []
  more : {bytes : List ℕ} {lexemes : List Lexeme} (kind : TokenKind) (gap text rest : List ℕ)
      → bytes ≡ gap ++ (text ++ rest)
      → IsGap gap
      → IsTokenAt kind text rest
      → AreLexemes rest lexemes
      → AreLexemes bytes (record { kind = kind; text = text } ∷ lexemes)

-- The first bad byte of the bytes is this one of them, from 0; before it stand tokens, blanks and comments alone.
pub data IsFirstBad : List ℕ → ℕ → Type 0 where
  here : {bytes : List ℕ} (gap rest : List ℕ)
      → bytes ≡ gap ++ rest
      → IsGap gap
      → IsBadByte rest
      → IsFirstBad bytes (length gap)
  later : {bytes : List ℕ} {at : ℕ} (kind : TokenKind) (gap text rest : List ℕ)
      → bytes ≡ gap ++ (text ++ rest)
      → IsGap gap
      → IsTokenAt kind text rest
      → IsFirstBad rest at
      → IsFirstBad bytes (length gap + (length text + at))
