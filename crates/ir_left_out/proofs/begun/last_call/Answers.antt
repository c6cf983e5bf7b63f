use Rattle.std.proofs.Common.{◌≡◌, ◌+◌, ◌-◌, ◌<◌, ◌≤◌, ℕ, suc, List, ◌∷◌, drop, take, Some, None, Option, length, sym, ap, ◌∙◌, arith}
use Rattle.std.specs.Option.{option_and_then}
use Rattle.ir_text.specs.Tokens.{Lexeme}
use Rattle.ir_lex.specs.Tokenized.{lexemes}
use Rattle.ir_parts.proofs.Places.{length_left}
use Rattle.ir_left_out.specs.Begun.{deeper, depth_before}
use Rattle.ir_left_out.proofs.CallPlace.{one_stop, call_there, no_call, further}
use Rattle.ir_left_out.proofs.begun.last_call.Goals as goal

-- the loop's place is behind the one that is looked at
behind : (n : ℕ) → 0 < n → suc (n - 1) ≡ n
behind n h = omega arith

-- how deep a place stands, by what the way back found
one_back : (ts : List Lexeme) (end at depth : ℕ) (t : Lexeme) (found : Option ℕ) → 0 < at → at ≤ end
    → drop (at - 1) ts ≡ t ∷ drop (at - 1 + 1) ts → depth_before (drop at (take end ts)) ≡ Some depth
    → found ≡ deeper t.kind t.text depth
    → (depth_before (drop (suc (at - 1)) (take end ts)) ≡ Some depth)
    × (depth_before (drop (at - 1) (take end ts)) ≡ found)
one_back ts end at depth t found some within first e is =
    let there : suc (at - 1) ≡ at = behind at some in
    let rest : depth_before (drop (suc (at - 1)) (take end ts)) ≡ Some depth =
    ap (λ (n : ℕ). depth_before (drop n (take end ts))) there ∙ e in (
      rest,
      ap depth_before (further ts (at - 1) end t (omega arith) first)
          ∙ (ap (option_and_then (λ depth. deeper t.kind t.text depth)) rest ∙ sym is),
    )

pub returns-in_default-deeper-clause-only : goal.returns-in_default-deeper-clause-only
returns-in_default-deeper-clause-only c front rest parts e =
    let ts : List Lexeme = take c.args.end (lexemes c.args.tokens.now) in
    let back = one_back (lexemes c.args.tokens.now) c.args.end c.back.at c.back.depth
    (record { kind = c.in-Some.kind; text = c.in-Some.text.now }) None (omega arith)
    (omega (arith, c.back.invariant.within)) c.in-Some.ensures.0 c.back.invariant.going_on
    c.in_default-deeper.ensures.value in
    one_stop ts (c.back.at - 1) (length front)
    (record { depth = c.back.depth; behind = back.0; stops = back.1 })
    (call_there ts front rest parts e)

pub back-preserved : goal.back-preserved
back-preserved c =
    let back = one_back (lexemes c.args.tokens.now) c.args.end c.back.at c.back.depth
    (record { kind = c.in-Some.kind; text = c.in-Some.text.now }) (Some c.in-Some-deeper.deeper) (omega arith)
    (omega (arith, c.back.invariant.within)) c.in-Some.ensures.0 c.back.invariant.going_on
    c.in-Some-deeper.ensures.value in
    record {
      going_on = back.1;
      within = omega (arith, c.back.invariant.within, c.in-Some-deeper.ensures.most);
    }

pub returns-in_default-clause-only : goal.returns-in_default-clause-only
returns-in_default-clause-only c front rest parts e =
    absurd (omega (
      arith,
      ap length c.in_default.ensures,
      length_left c.args.tokens.now (c.back.at - 1),
      c.back.invariant.within,
    ))

pub returns-clause-only : goal.returns-clause-only
returns-clause-only c front rest parts e =
    let ts : List Lexeme = take c.args.end (lexemes c.args.tokens.now) in
    let none : c.back.at ≡ 0 = omega arith in
    absurd (no_call ts front rest c.back.depth
    (ap (λ (n : ℕ). depth_before (drop n ts)) (sym none) ∙ c.back.invariant.going_on) parts e)
