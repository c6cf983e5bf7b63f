use Rattle.std.proofs.Common.{◌≡◌, [], ap, ◌∙◌, reverse, refl, arith}
use Rattle.std.proofs.lemmas.Bool.{false≢true}
use Rattle.ir_parts.specs.Reading.{left_from}
use Rattle.ir_parts.specs.BracketsReading.{closed_at}
use Rattle.ir_parts.proofs.Closing.{closed_forth, closed_refuses, closed_ends, closed_done, some_reversed}
use Rattle.ir_parts.proofs.brackets.behind_brackets.Goals as goal

pub returns-in_default-clause-value : goal.returns-in_default-clause-value
returns-in_default-clause-value c =
    let w = c.loop-kind.waited in (
      c.loop-kind.invariant.reading ∙ closed_ends c.args.tokens.now c.loop-kind.at (reverse w) c.in_default.ensures
          (some_reversed w (λ (e : w ≡ []). false≢true (c.loop-kind-test.ensures.1 e))),
      c.loop-kind.invariant.within,
    )

pub returns-then-not-branch-clause-value : goal.returns-then-not-branch-clause-value
returns-then-not-branch-clause-value c =
    let w = c.loop-kind.waited in (
      c.loop-kind.invariant.reading ∙ closed_refuses c.args.tokens.now c.loop-kind.at c.in-Some.kind c.in-Some.text.now
          (reverse w) (reverse c.pass.new.waited) c.in-Some.ensures.0
          (some_reversed w (λ (e : w ≡ []). false≢true (c.loop-kind-test.ensures.1 e)))
          (rw (c.bracket_of.ensures, c.if-not-branch.true) at c.in_ok-pass.ensures),
      c.loop-kind.invariant.within,
    )

pub loop-kind-preserved : goal.loop-kind-preserved
loop-kind-preserved c =
    let w = c.loop-kind.waited in
    record {
      reading = c.loop-kind.invariant.reading ∙ closed_forth c.args.tokens.now c.loop-kind.at c.in-Some.kind
          c.in-Some.text.now
          (reverse w) (reverse c.pass.new.waited) c.in-Some.ensures.0
          (some_reversed w (λ (e : w ≡ []). false≢true (c.loop-kind-test.ensures.1 e)))
          (rw (c.bracket_of.ensures, c.if-not-branch.false) at c.in_ok-pass.ensures);
      forth = omega (arith, c.loop-kind.invariant.forth);
      within = omega (arith, c.in-Some.ensures.1);
      first = λ e. absurd (omega (arith, c.loop-kind.invariant.forth));
    }

pub returns-clause-value : goal.returns-clause-value
returns-clause-value c =
    c.loop-kind.invariant.reading
    ∙ (ap (λ w. closed_at (reverse w) (left_from c.args.tokens.now c.loop-kind.at)) (c.loop-kind-test.ensures.0 refl)
    ∙ closed_done (left_from c.args.tokens.now c.loop-kind.at))
