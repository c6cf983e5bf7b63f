-- Reading types, where a place takes some kinds of them. A kind that isn't taken is refused at its first token.
use Rattle.std.specs.Prelude.{ℕ, zero, suc, ◌^◌, Bool, true, false, ◌&&◌, ◌==◌, nat_lt, if◌then◌else◌, List, [], ◌∷◌, length, Option, Some, None, codes}
use Rattle.std.specs.List.{list_all}
use Rattle.std.specs.Str.Parse.{digits_value, starts_with_minus, without_leading_sign}
use Rattle.ir_model.specs.declared.types.IrType.{IrType}
use Rattle.ir_model.specs.declared.types.IrType.TheVariants.{Void, Int, Ptr, Array}
use Rattle.ir_text.specs.declared.token.TokenKind.{TokenKind}
use Rattle.ir_text.specs.declared.token.TokenKind.TheVariants.{Numeral}
use Rattle.ir_text.specs.Bytes.{is_digit}
use Rattle.ir_text.specs.Tokens.{Lexeme}
use Rattle.ir_parts.specs.Reading.{Read, ◌>>=◌, pure, one_at, is_word_kind, is_keyword, is_punctuation, keyword_at, punctuation_at, choose, repeated_at}

-- the number, where it is below the other
abbrev pub below : ℕ → ℕ → Option ℕ
below most n = if nat_lt n most then Some n else None

-- the width of `iN`, which is below 2^32
unfoldable pub int_width_of : List ℕ → Option ℕ
int_width_of [] = None
int_width_of (b ∷ bs) =
    if (b == 105) && (nat_lt 0 (length bs) && list_all is_digit bs) then below (2 ^ 32) (digits_value 10 bs) else None

abbrev pub int_width : Lexeme → Option ℕ
int_width t = if is_word_kind t.kind then int_width_of t.text else None

-- the number of a numeral, which is from 0 to 2^64 - 1
unfoldable pub dimension_of : List ℕ → Option ℕ
dimension_of text =
    if starts_with_minus text then below 1 (digits_value 10 (without_leading_sign text))
    else below (2 ^ 64) (digits_value 10 (without_leading_sign text))

abbrev pub is_numeral_kind : TokenKind → Bool
is_numeral_kind Numeral = true
is_numeral_kind _ = false

abbrev pub dimension : Lexeme → Option ℕ
dimension t = if is_numeral_kind t.kind then dimension_of t.text else None

-- `iN`
abbrev pub int_at : Read ℕ
int_at = one_at int_width

-- `[ d x`
unfoldable pub dimension_at : Read ℕ
dimension_at = do
  _ ← punctuation_at 91
  d ← one_at dimension
  _ ← keyword_at (codes "x")
  pure d

abbrev pub dimensions_at : Read (List ℕ)
dimensions_at = repeated_at (is_punctuation 91) dimension_at

-- so many `]`
unfoldable pub closings_at : ℕ → Read (Unit {0})
closings_at zero = pure tt
closings_at (suc n) = punctuation_at 93 >>= λ _. closings_at n

-- an array
unfoldable pub array_at : Read IrType
array_at = do
  dims ← dimensions_at
  width ← int_at
  _ ← closings_at (length dims)
  pure (Array dims width)

unfoldable pub pointer_at : Read IrType
pointer_at = do
  _ ← keyword_at (codes "ptr")
  pure Ptr

unfoldable pub void_at : Read IrType
void_at = do
  _ ← keyword_at (codes "void")
  pure Void

-- a type of integers
unfoldable pub int_type_at : Read IrType
int_type_at = do
  width ← int_at
  pure (Int width)

-- the same or an array
unfoldable pub stored_type_at : Read IrType
stored_type_at = choose (is_punctuation 91) array_at int_type_at

-- a type of integers or `ptr`
unfoldable pub scalar_type_at : Read IrType
scalar_type_at = choose (is_keyword (codes "ptr")) pointer_at int_type_at

-- the same or `void`
unfoldable pub returned_type_at : Read IrType
returned_type_at = choose (is_keyword (codes "void")) void_at scalar_type_at

-- any type
unfoldable pub type_at : Read IrType
type_at = choose (is_punctuation 91) array_at returned_type_at
