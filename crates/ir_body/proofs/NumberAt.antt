-- The number that the token at a place is.
use Rattle.std.proofs.Common.{◌≡◌, ℕ, ◌≤◌, length, Option, Some, None}
use Rattle.std.specs.Prelude.{ℤ}
use Rattle.ir_lex.specs.Tokenized.{Tokenized}
use Rattle.ir_parts.specs.Reading.{left_from, first_given, Reads}
use Rattle.ir_parts.proofs.Places.{one_given, one_not_given}
use Rattle.ir_body.specs.Cases.{number_of, number_at, number_or_fault}

pub number_given : (t : Tokenized) (at : ℕ) (found : Option ℤ) → first_given number_of (left_from t at) ≡ found
    → at ≤ length t.tokens → Reads t (number_or_fault found at) (number_at (left_from t at))
unfolding number_at
number_given t at (Some n) e within = one_given t at number_of n e
number_given t at None e within = one_not_given t at number_of e within
