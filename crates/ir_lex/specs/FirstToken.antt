-- The token at the start of a text, computed from the text: its kind and its length.
use Rattle.std.specs.Prelude.{ℕ, ◌+◌, ◌^◌, Bool, ◌||◌, ◌&&◌, not, if◌then◌else◌, nat_lt, nat_le, nat_eq, ◌==◌, List, [], ◌∷◌, take, drop, Option, Some, None, slice_index}
use Rattle.std.specs.List.{list_all, starts_with}
use Rattle.std.specs.Str.Parse.{digits_value, starts_with_minus}
use Rattle.ir_text.specs.Bytes.{is_digit, is_sign}
use Rattle.ir_text.specs.Names.{dots}
use Rattle.ir_text.specs.Tokens.{bang, hash, percent, colon, at_sign, letter_c}
use Rattle.ir_text.specs.declared.token.TokenKind.{TokenKind}
use Rattle.ir_text.specs.declared.token.TokenKind.TheVariants.{Word, Label, Numeral, Local, Global, Metadata, Group, Quoted, Sign, Dots}
use Rattle.ir_lex.specs.Lengths.{and_before, word_len, string_len, name_len, signed_len, tag_len}

-- if it is digits, the number is below 2^64
unfoldable pub fits_unsigned : List ℕ → Bool
fits_unsigned name = not (list_all is_digit name) || nat_lt (digits_value 10 name) (2 ^ 64)

-- digits below 2^127, or `-` and digits up to that
unfoldable pub fits_signed : List ℕ → Bool
fits_signed text =
    if starts_with_minus text then nat_le (digits_value 10 (drop 1 text)) (2 ^ 127)
    else nat_lt (digits_value 10 text) (2 ^ 127)

-- a name with `:` directly behind it
unfoldable pub begins_label : List ℕ → Bool
begins_label bytes = nat_lt 0 (name_len bytes) && (slice_index bytes (name_len bytes) == colon)

-- a string, maybe behind a `c`
unfoldable pub quoted_len : List ℕ → ℕ
quoted_len [] = 0
quoted_len (b ∷ bs) = if b == letter_c then and_before (string_len bs) else string_len (b ∷ bs)

-- three dots that begin no word of four bytes or more
unfoldable pub begins_dots : List ℕ → Bool
begins_dots bytes = (word_len bytes == 2) && starts_with nat_eq bytes dots

-- something of a length behind one byte
abbrev pub behind_one : TokenKind → ℕ → Option (TokenKind × ℕ)
behind_one kind len = if len == 0 then None else Some (kind, len + 1)

-- what stands at the start, if it fits
abbrev pub if_fits : Bool → TokenKind → ℕ → Option (TokenKind × ℕ)
if_fits fits kind len = if fits then Some (kind, len) else None

-- a numeral or a sign
unfoldable pub numeral_or_sign : List ℕ → Option (TokenKind × ℕ)
numeral_or_sign [] = None
numeral_or_sign (b ∷ bs) =
    let len = signed_len (b ∷ bs) in
    if nat_lt 0 len then if_fits (fits_signed (take len (b ∷ bs))) Numeral len
    else (if is_sign b then Some (Sign b, 1) else None)

-- a token that begins with no sigil
unfoldable pub plain : List ℕ → Option (TokenKind × ℕ)
plain bytes =
    if begins_label bytes then if_fits (fits_unsigned (take (name_len bytes) bytes)) Label (name_len bytes + 1)
    else (if nat_lt 0 (quoted_len bytes) then Some (Quoted, quoted_len bytes)
    else (if begins_dots bytes then Some (Dots, 3)
    else (if nat_lt 0 (word_len bytes) then Some (Word, word_len bytes)
    else numeral_or_sign bytes)))

-- what stands behind a `%`
unfoldable pub local : List ℕ → Option (TokenKind × ℕ)
local bytes = if fits_unsigned (take (name_len bytes) bytes) then behind_one Local (name_len bytes) else None

-- The token with which a text begins, and its length.
unfoldable pub first_token : List ℕ → Option (TokenKind × ℕ)
first_token [] = None
first_token (b ∷ bs) =
    if b == percent then local bs
    else (if b == at_sign then behind_one Global (name_len bs)
    else (if b == bang then Some (Metadata, tag_len bs + 1)
    else (if b == hash then behind_one Group (tag_len bs)
    else plain (b ∷ bs))))
