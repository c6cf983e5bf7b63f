-- `tail` and `notail` at a place of the tokens, with their text.
use Rattle.std.proofs.Common.{◌≡◌, ℕ, ◌-◌, ◌≤◌, Bool, List, length, take, Ok, sym, ap, ◌∙◌, arith, codes}
use Rattle.ir_text.specs.PassedOn.{passed_text}
use Rattle.ir_lex.specs.Tokenized.{Tokenized}
use Rattle.ir_parts.specs.Reading.{left_from, taking}
use Rattle.ir_parts.proofs.Places.{length_left}
use Rattle.ir_body.specs.Flags.{flag_at}
use Rattle.ir_functions.specs.Silent.{tail_at}

pub tail_is : (t : Tokenized) (from at end : ℕ) (tail notail : Bool) (text : List ℕ) → from ≤ end
    → end ≤ length t.tokens
    → flag_at (codes "tail") (left_from t from) ≡ Ok (tail, left_from t at)
    → flag_at (codes "notail") (left_from t at) ≡ Ok (notail, left_from t end)
    → text ≡ passed_text (take (end - from) (left_from t from))
    → tail_at (left_from t from) ≡ Ok (text, left_from t end)
unfolding tail_at taking
tail_is t from at end tail notail text forth within first second says =
    let so_many : length (left_from t from) - length (left_from t end) ≡ end - from =
    omega (arith, length_left t from, length_left t end) in
    rw (first, second) (ap (λ (n : ℕ). Ok (passed_text (take n (left_from t from)), left_from t end)) so_many
    ∙ ap (λ (text : List ℕ). Ok (text, left_from t end)) (sym says))
