use Rattle.std.proofs.Common.{ℕ, Option, subst}
use Rattle.std.specs.Prelude.{MatchOption}
use Rattle.ir_lex.specs.Tokenized.{Tokenized}
use Rattle.ir_left_out.specs.Named.{IsLeftOutAt}
use Rattle.ir_reader.proofs.ReadRefusals.{unsupported, not_in_grammar}
use Rattle.ir_reader.proofs.reader.refusal.Goals as goal

-- what is said of the token, where something is found or nothing
abbrev Found : Tokenized → ℕ → Option (ℕ × ℕ) → Type 0
Found t at found = MatchOption found ((number place : ℕ) → IsLeftOutAt t at number place → ⊥)
    (λ named. IsLeftOutAt t at named.0 named.1)

pub returns-in-Ok-Some : goal.returns-in-Ok-Some
returns-in-Ok-Some c =
    let t = c.args.tokens.now in
    let at = c.args.at_token in
    unsupported t at c.args.end c.in-Ok-Some.number c.in-Ok-Some.at
    (subst (Found t at) c.in-Ok-Some.field-0-is c.in-Ok-Some.ensures)

pub returns-in-Ok-None : goal.returns-in-Ok-None
returns-in-Ok-None c =
    let t = c.args.tokens.now in
    let at = c.args.at_token in
    rw c.place.ensures (not_in_grammar t at c.args.end (subst (Found t at) c.in-Ok-None.field-0-is
    c.in-Ok-None.ensures))
