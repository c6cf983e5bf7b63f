-- Readings of what mentions no name: what stands before a callee and behind a call, and debug records.
use Rattle.std.specs.Prelude.{ℕ, Bool, true, false, ◌&&◌, ◌==◌, List, [], ◌∷◌, codes}
use Rattle.ir_text.specs.declared.token.TokenKind.{TokenKind}
use Rattle.ir_text.specs.declared.token.TokenKind.TheVariants.{Group}
use Rattle.ir_text.specs.Names.{is_word}
use Rattle.ir_text.specs.Tokens.{Lexeme}
use Rattle.ir_text.specs.PassedOn.{passed_text}
use Rattle.ir_parts.specs.declared.ending.Run.{Run}
use Rattle.ir_parts.specs.Reading.{Read, ◌⊗◌, ◌▷◌, made, token_at, keyword_at, taking}
use Rattle.ir_parts.specs.TypeReading.{returned_type_at}
use Rattle.ir_parts.specs.WordsReading.{words_at, parentheses_at}
use Rattle.ir_parts.specs.MetadataReading.{attachments_at}
use Rattle.ir_body.specs.Flags.{flag_at}
use Rattle.ir_functions.specs.declared.calls.CallHead.{CallHead}

-- ---- before the callee

-- `tail` and `notail`, each where it is there
unfoldable pub tail_at : Read (List ℕ)
tail_at = made (λ p. passed_text p.1) (taking (flag_at (codes "tail") ⊗ flag_at (codes "notail")))

unfoldable pub head_at : Read CallHead
head_at = made (λ p. record { tail = p.0; before = p.1.0.1; ret = p.1.1 })
    (tail_at ⊗ (keyword_at (codes "call") ▷ (words_at ⊗ returned_type_at)))

-- passed-on words and attachments, with the tokens of these
unfoldable pub trailing_at : Read ((Run × List ℕ) × (Unit {0} × List Lexeme))
trailing_at = words_at ⊗ taking attachments_at

-- ---- debug records

-- `#` and a word
abbrev pub is_group_kind : TokenKind → Bool
is_group_kind Group = true
is_group_kind _ = false

unfoldable pub is_record_text : List ℕ → Bool
is_record_text [] = false
is_record_text (b ∷ bs) = (b == 35) && is_word bs

abbrev pub is_record : Lexeme → Bool
is_record t = is_group_kind t.kind && is_record_text t.text

unfoldable pub record_at : Read (Unit {0})
record_at = token_at is_record ▷ parentheses_at ▷ attachments_at
