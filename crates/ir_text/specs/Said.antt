-- The name that a token says, computed from the token.
use Rattle.std.specs.Prelude.{ℕ, ◌-◌, Bool, true, false, ◌&&◌, nat_le, nat_eq, if◌then◌else◌, List, [], ◌∷◌, length, take, drop, Option, Some, None}
use Rattle.std.specs.List.{list_all, starts_with, ends_with}
use Rattle.std.specs.Str.Parse.{digits_value}
use Rattle.ir_text.specs.declared.token.TokenKind.{TokenKind}
use Rattle.ir_text.specs.declared.token.TokenKind.TheVariants.{Label, Local, Global}
use Rattle.ir_text.specs.Bytes.{is_no_quote}
use Rattle.ir_text.specs.Names.{is_word, is_number}
use Rattle.ir_text.specs.Tokens.{Lexeme}
use Rattle.ir_text.specs.Written.{Name, Text, Number, unescaped}

-- what stands between the first and the last byte
abbrev pub inner_text : List ℕ → List ℕ
inner_text text = take (length text - 2) (drop 1 text)

-- a `"`, bytes other than `"`, a `"`
unfoldable pub is_string_text : List ℕ → Bool
is_string_text text = nat_le 2 (length text) && starts_with nat_eq text (34 ∷ []) && ends_with nat_eq text (34 ∷ [])
    && list_all is_no_quote (inner_text text)

-- the name that is written, if it is one
unfoldable pub said : List ℕ → Option Name
said written = if is_word written then Some (Text written)
    else (if is_number written then Some (Number (digits_value 10 written))
    else (if is_string_text written then Some (Text (unescaped (inner_text written))) else None))

-- the same of a global, which has a text always
unfoldable pub said_global_text : List ℕ → Option (List ℕ)
said_global_text written = if is_word written then Some written
    else (if is_number written then Some written
    else (if is_string_text written then Some (unescaped (inner_text written)) else None))

abbrev pub is_local_kind : TokenKind → Bool
is_local_kind Local = true
is_local_kind _ = false

abbrev pub is_label_kind : TokenKind → Bool
is_label_kind Label = true
is_label_kind _ = false

abbrev pub is_global_kind : TokenKind → Bool
is_global_kind Global = true
is_global_kind _ = false

-- what `%name`, `name:` and `@name` say; None of every other token
unfoldable pub said_local : Lexeme → Option Name
said_local t = if is_local_kind t.kind && starts_with nat_eq t.text (37 ∷ []) then said (drop 1 t.text) else None

unfoldable pub said_label : Lexeme → Option Name
said_label t = if is_label_kind t.kind && ends_with nat_eq t.text (58 ∷ [])
    then said (take (length t.text - 1) t.text) else None

unfoldable pub said_global : Lexeme → Option (List ℕ)
said_global t = if is_global_kind t.kind && starts_with nat_eq t.text (64 ∷ [])
    then said_global_text (drop 1 t.text) else None
