use Rattle.std.proofs.Common.{◌≡◌, length, subst, arith}
use Rattle.std.proofs.lemmas.Simd.{map-map}
use Rattle.ir_text.specs.Tokens.{Lexed}
use Rattle.ir_lex.specs.Tokenized.{placed_of, placed, lexemes}
use Rattle.ir_lex.proofs.WithPlaces.{end_within, lexemes_are_lexed, first_bad_is_lexed}
use Rattle.ir_lex.proofs.tokenize.tokens.Goals as goal

pub returns-then-end-input-clause-bad : goal.returns-then-end-input-clause-bad
returns-then-end-input-clause-bad c =
    (first_bad_is_lexed c.args.input.now c.in-Ok.end).1
    (placed c.in-Ok.found, c.in-Ok.ensures.lexed, c.if-end-input.true)

pub returns-clause-lexemes : goal.returns-clause-lexemes
returns-clause-lexemes c =
    let input = c.args.input.now in
    let found = c.in-Ok.found in
    let whole : c.in-Ok.end ≡ length input = omega (arith, end_within c.in-Ok.ensures.lexed, c.if-end-input.false) in
    let lexed = subst (λ n. Lexed 0 input (placed found) n) whole c.in-Ok.ensures.lexed in
    (lexemes_are_lexed input (lexemes found)).1
    (placed found, lexed, map-map (λ p. p.lexeme) (placed_of found.bytes) found.tokens)
