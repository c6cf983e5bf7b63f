-- Reading initialisers: a literal, `zeroinitializer`, a byte string, or a list of parts in brackets.
use Rattle.std.specs.Prelude.{ℕ, zero, suc, Bool, ◌&&◌, nat_eq, if◌then◌else◌, List, [], ◌∷◌, length, drop, Option, Some, None, codes}
use Rattle.std.specs.List.{starts_with}
use Rattle.ir_model.specs.declared.item.Init.{Init}
use Rattle.ir_model.specs.declared.item.Init.TheVariants as init
use Rattle.ir_model.specs.declared.item.InitPart.{InitPart}
use Rattle.ir_text.specs.Tokens.{Lexeme}
use Rattle.ir_text.specs.Written.{unescaped}
use Rattle.ir_text.specs.Said.{inner_text, is_string_text}
use Rattle.ir_text.specs.PassedOn.{is_quoted}
use Rattle.ir_parts.specs.Reading.{Read, ◌>>=◌, pure, ◌⊗◌, ◌▷◌, made, one_at, is_keyword, is_punctuation, keyword_at, punctuation_at, choose, repeated_at}
use Rattle.ir_parts.specs.TypeReading.{stored_type_at}
use Rattle.ir_parts.specs.ListReading.{with_commas_at}
use Rattle.ir_items.specs.LiteralReading.{literal_at}

-- ---- what is no list

-- a `c` and a string
unfoldable pub is_byte_text : List ℕ → Bool
is_byte_text text = starts_with nat_eq text (99 ∷ []) && is_string_text (drop 1 text)

abbrev pub is_byte_string : Lexeme → Bool
is_byte_string t = is_quoted t.kind && is_byte_text t.text

-- the bytes that it means
abbrev pub byte_string : Lexeme → Option (List ℕ)
byte_string t = if is_byte_string t then Some (unescaped (inner_text (drop 1 t.text))) else None

unfoldable pub bytes_init_at : Read Init
bytes_init_at = do
  text ← one_at byte_string
  pure (init.Bytes text)

unfoldable pub zero_init_at : Read Init
zero_init_at = do
  _ ← keyword_at (codes "zeroinitializer")
  pure init.Zero

unfoldable pub literal_init_at : Read Init
literal_init_at = do
  value ← literal_at
  pure (init.Literal value)

unfoldable pub word_init_at : Read Init
word_init_at = choose (is_keyword (codes "zeroinitializer")) zero_init_at literal_init_at

unfoldable pub plain_init_at : Read Init
plain_init_at = choose is_byte_string bytes_init_at word_init_at

-- ---- lists, whose parts are read so

unfoldable pub part_at : Read Init → Read InitPart
part_at value = made (λ p. record { kind = p.0; init = p.1 }) (stored_type_at ⊗ value)

-- parts that stand each behind a comma
unfoldable pub more_parts_at : Read Init → Read (List InitPart)
more_parts_at value = repeated_at (is_punctuation 44) (punctuation_at 44 ▷ part_at value)

unfoldable pub list_at : Read Init → Read Init
list_at value = do
  _ ← punctuation_at 91
  parts ← with_commas_at (part_at value)
  _ ← punctuation_at 93
  pure (init.List parts)

-- lists within lists, at most so many
unfoldable pub nested_at : ℕ → Read Init
nested_at zero = plain_init_at
nested_at (suc most) = choose (is_punctuation 91) (list_at (nested_at most)) plain_init_at

-- any number: there are no more of them than tokens
unfoldable pub init_at : Read Init
init_at ts = nested_at (length ts) ts
