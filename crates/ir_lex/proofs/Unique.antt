-- The tokens of a text are determined, and a text with a bad byte has none.
use Rattle.std.proofs.Common.{ℕ, ◌≡◌, List, sym, ap, ◌∙◌, arith}
use Rattle.ir_text.specs.Tokens.{Lexeme, AreLexemes, IsFirstBad}
use Rattle.ir_lex.proofs.OneLexing.{one_lexing}
use Rattle.ir_lex.proofs.WithPlaces.{lexemes_of, with_places, bad_with_places}

-- Any two lists of tokens of one text are the same.
pub one_list : {bytes : List ℕ} {a b : List Lexeme}
    → AreLexemes bytes a
    → AreLexemes bytes b
    → a ≡ b
one_list first second =
    let one = with_places first 0 in
    let other = with_places second 0 in
    sym one.lexemes_are ∙ ap lexemes_of (one_lexing one.lexed other.lexed).0 ∙ other.lexemes_are

-- A text with a bad byte has no list of tokens.
pub no_list : {bytes : List ℕ} {at : ℕ} {ts : List Lexeme}
    → IsFirstBad bytes at
    → AreLexemes bytes ts
    → ⊥
no_list bad tokens =
    let stopped = bad_with_places bad 0 in
    let whole = with_places tokens 0 in
    omega (arith, (one_lexing stopped.lexed whole.lexed).1, stopped.before)
