use Rattle.std.proofs.Common.{ℕ, ◌≡◌, ◌+◌, ◌-◌, length, take, drop, List, [], ◌∷◌, ◌++◌, map, false, sym, ap, ◌∙◌, subst, refl, Option, is_ok}
use Rattle.std.proofs.lemmas.List.{take_rest, map-append}
use Rattle.std.proofs.lemmas.Bool.{cond-true}
use Rattle.ir_text.specs.declared.token.Token.{Token}
use Rattle.ir_text.specs.declared.token.TokenKind.{TokenKind}
use Rattle.ir_lex.specs.declared.packed.Packed.{Packed}
use Rattle.ir_lex.specs.Gap.{gap_len}
use Rattle.ir_lex.specs.Packed.{unpacked}
use Rattle.ir_lex.specs.FirstToken.{first_token}
use Rattle.ir_lex.proofs.TokensFound.{AreFound, AreAll, all_found, bad_found, one_more}
use Rattle.ir_lex.proofs.tokenize.lex.Goals as goal

-- the gap that was measured is that of the rest
gap_is : (input : List ℕ) (at n : ℕ)
    → n ≡ gap_len false (take (length input - at) (drop at input))
    → at + n ≡ at + gap_len false (drop at input)
gap_is input at n h = ap (λ k. at + k) (h ∙ ap (gap_len false) (take_rest input at))

-- and so is the rest behind it
rest_is : (input : List ℕ) (from : ℕ) (found : Option (TokenKind × ℕ))
    → found ≡ first_token (take (length input - from) (drop from input))
    → first_token (drop from input) ≡ found
rest_is input from found h = sym (h ∙ ap first_token (take_rest input from))

-- one token more, packed
one_packed : (packed : List Packed) (p : Packed) (t : Token)
    → unpacked p ≡ t
    → map unpacked packed ++ t ∷ [] ≡ map unpacked (packed ++ p ∷ [])
one_packed packed p t is = ap (λ x. map unpacked packed ++ x ∷ []) (sym is) ∙ sym (map-append unpacked packed (p ∷ []))

at_end : (c : goal.After-new)
    → AreAll c.args.input.now (map unpacked c.loop-found.found.items) (length c.args.input.now)
at_end c =
    let input = c.args.input.now in
    let at = c.loop-found.end in
    let gap = gap_is input at c.gap_len.result c.gap_len.ensures.value in
    let found = map unpacked c.loop-found.found.items in
    all_found input found at (at + c.gap_len.result) c.loop-found.invariant gap c.if-from-input.true

pub returns-then-from-input-clause-lexed : goal.returns-then-from-input-clause-lexed
returns-then-from-input-clause-lexed c = rw (c.new.ensures.bytes, c.new.ensures.tokens) (at_end c).lexed

pub returns-then-from-input-clause-in_order : goal.returns-then-from-input-clause-in_order
returns-then-from-input-clause-in_order c = rw c.new.ensures.tokens (at_end c).in_order

at_bad : (c : goal.After-new-in_default)
    → AreAll c.args.input.now (map unpacked c.loop-found.found.items) (c.loop-found.end + c.gap_len.result)
at_bad c =
    let input = c.args.input.now in
    let at = c.loop-found.end in
    let from = at + c.gap_len.result in
    let gap = gap_is input at c.gap_len.result c.gap_len.ensures.value in
    let rest = rest_is input from _ c.in_default.ensures.value in
    let found = map unpacked c.loop-found.found.items in
    bad_found input found at from c.loop-found.invariant gap c.if-from-input.false rest

pub returns-in_default-clause-lexed : goal.returns-in_default-clause-lexed
returns-in_default-clause-lexed c =
    rw (c.new-in_default.ensures.bytes, c.new-in_default.ensures.tokens) (at_bad c).lexed

pub returns-in_default-clause-in_order : goal.returns-in_default-clause-in_order
returns-in_default-clause-in_order c = rw c.new-in_default.ensures.tokens (at_bad c).in_order

pub loop-found-preserved : goal.loop-found-preserved
loop-found-preserved c =
    let input = c.args.input.now in
    let at = c.loop-found.end in
    let from = at + c.gap_len.result in
    let gap = gap_is input at c.gap_len.result c.gap_len.ensures.value in
    let rest = rest_is input from _ c.in-Some.ensures.value in
    let to = from + c.in-Some.len in
    let pushed = c.push.ensures.items ∙ cond-true (is_ok c.push.result) _ _ c.if-is_err.ensures.negation in
    let before = c.loop-found.found.items in
    let viewed =
    one_packed before c.in-Some-pack.token _ c.in-Some-pack.ensures.packed ∙ sym (ap (map unpacked) pushed) in
    subst (λ l. AreFound input l to) viewed
    (one_more input (map unpacked before) at from c.loop-found.invariant gap c.if-from-input.false
    c.in-Some.kind c.in-Some.len to rest c.in-Some.ensures.within.0 refl)
