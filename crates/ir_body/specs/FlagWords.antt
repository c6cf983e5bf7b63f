-- Reading some of a list of words, each at most once, in any order.
use Rattle.std.specs.Prelude.{ℕ, zero, suc, Bool, ◌&&◌, if◌then◌else◌, List, [], ◌∷◌, Option, Some, None}
use Rattle.std.specs.Str.{bytes_eq}
use Rattle.ir_text.specs.Tokens.{Lexeme}
use Rattle.ir_text.specs.PassedOn.{is_among}
use Rattle.ir_parts.specs.Reading.{Read, ◌>>=◌, pure, made, one_at, is_word_kind, choose}

-- the words but this one
abbrev pub without : List (List ℕ) → List ℕ → List (List ℕ)
without [] text = []
without (w ∷ ws) text = if bytes_eq w text then without ws text else w ∷ without ws text

-- whether a token is one of the words, and which
abbrev pub is_open : List (List ℕ) → Lexeme → Bool
is_open open_words t = is_word_kind t.kind && is_among open_words t.text

abbrev pub word_of : List (List ℕ) → Lexeme → Option (List ℕ)
word_of open_words t = if is_open open_words t then Some t.text else None

-- at most so many of the words, none of them twice
unfoldable pub words_at : ℕ → List (List ℕ) → Read (List (List ℕ))
words_at zero open_words = pure []
words_at (suc most) open_words = choose (is_open open_words)
    (one_at (word_of open_words) >>= λ w. made (λ found. w ∷ found) (words_at most (without open_words w))) (pure [])
