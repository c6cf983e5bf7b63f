-- What the escapes in the name of a token mean.
use Rattle.std.specs.Prelude.{◌≡◌, ℕ, ◌-◌, Bool, ◌==◌, if◌then◌else◌, List, length, take, drop}
use Rattle.std.specs.Prelude.{Option, Some, None, slice_get}
use Rattle.std.specs.List.{list_any}
use Rattle.std.specs.Map.{lookup}
use Rattle.std.specs.Option.{option_and_then}
use Rattle.ir_lex.specs.Tokenized.{Tokenized, lexemes}
use Rattle.ir_text.specs.Tokens.{Lexeme}
use Rattle.ir_text.specs.Written.{unescaped}
use Rattle.ir_text.specs.Said.{inner_text, is_label_kind}

-- a name behind its sigil, or before the `:` of a label
abbrev pub written_of : Lexeme → List ℕ
written_of t = if is_label_kind t.kind then take (length t.text - 1) t.text else drop 1 t.text

abbrev pub has_escape : List ℕ → Bool
has_escape text = list_any (λ b. b == 92) text

-- the bytes that a string with a `\` in it means
abbrev pub meant : List ℕ → Option (List ℕ)
meant written = if has_escape written then Some (unescaped (inner_text written)) else None

abbrev pub meant_of : Lexeme → Option (List ℕ)
meant_of t = meant (written_of t)

-- what is known at a position
abbrev pub meaning_at : List (ℕ × List ℕ) → ℕ → Option (List ℕ)
meaning_at known at = lookup (λ k. at == k) known

-- At the position of each lexeme whose name has an escape, what it means is known, and at each other one nothing.
abbrev pub AreMeaningsOf : List (ℕ × List ℕ) → List Lexeme → Type 0
AreMeaningsOf known lexemes = (at : ℕ) → meaning_at known at ≡ option_and_then meant_of (slice_get lexemes at)

abbrev pub AreMeanings : List (ℕ × List ℕ) → Tokenized → Type 0
AreMeanings known tokens = AreMeaningsOf known (lexemes tokens)
