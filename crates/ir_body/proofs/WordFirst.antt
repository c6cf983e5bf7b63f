-- A word is read where it stands first.
use Rattle.std.proofs.Common.{◌≡◌, ℕ, ◌+◌, true, List, ap, ◌∙◌}
use Rattle.ir_lex.specs.Tokenized.{Tokenized}
use Rattle.ir_parts.specs.Reading.{Read, go_on, ◌>>=◌, choose, begins, is_keyword, keyword_at, left_from}
use Rattle.ir_parts.proofs.Places.{token_passes}
use Rattle.ir_parts.proofs.Readers.{chosen_first}

pub word_first : {A : Type 0} (t : Tokenized) (at : ℕ) (text : List ℕ) (next other : Read A)
    → begins (is_keyword text) (left_from t at) ≡ true
    → choose (is_keyword text) (keyword_at text >>= λ _. next) other (left_from t at) ≡ next (left_from t (at + 1))
word_first t at text next other passes =
    chosen_first (is_keyword text) (keyword_at text >>= λ _. next) other (left_from t at) passes
    ∙ ap (λ r. go_on r (λ _. next)) (token_passes t at (is_keyword text) passes)
