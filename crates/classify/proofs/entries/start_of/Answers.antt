use Rattle.std.proofs.Common.{◌∙◌, ap, sym, refl, inl, inr, Some}
use Rattle.classify.proofs.PhiLoops.{start_skip, start_next, no_numeral_start, two_starts}
use Rattle.classify.proofs.entries.start_of.Goals as goal
use Rattle.classify.proofs.entries.start_of.Goals.{then-ne+in_ok-start+in_default-2, then-ne+in_ok-start+in_default}
use Rattle.classify.proofs.entries.start_of.Goals.{else-ne}

pub returns-in_err-start-clause-none : goal.returns-in_err-start-clause-none
returns-in_err-start-clause-none c =
    rw c.from_residual.ensures
    (λ m some all. no_numeral_start c.args.entries.now c.args.header.0 c.loop-entry.first c.loop-entry.entry-index _ _ c.loop-entry-test.true refl c.loop-entry.invariant (sym c.if-ne.ensures) c.in_err-start.ensures.none m all)

pub returns-in-Some-clause-none : goal.returns-in-Some-clause-none
returns-in-Some-clause-none c = λ m some all.
    two_starts c.args.entries.now c.args.header.0 c.loop-entry.first c.loop-entry.entry-index _ _ c.loop-entry-test.true refl c.loop-entry.invariant (sym c.if-ne.ensures) c.in-Some.earlier c.in_ok-start.start c.in-Some.is c.in_ok-start.ensures.some c.if-earlier-start.true m all

pub loop-entry-preserved : goal.loop-entry-preserved
loop-entry-preserved c =
    let entries = c.args.entries.now in
    let b = c.args.header.0 in
    let i = c.loop-entry.entry-index in
    elim c.if-ne.branch [
      | then-ne+in_ok-start+in_default-2 w ↦ rw w.first-is (start_next entries b c.loop-entry.first i _ _ c.loop-entry-test.true refl c.loop-entry.invariant (sym w.if-ne.ensures) w.in_ok-start.start w.in_ok-start.ensures.some (inr (w.in-Some.is ∙ ap (λ k. Some k) w.if-earlier-start.false)))
      | then-ne+in_ok-start+in_default w ↦ rw w.first-is (start_next entries b c.loop-entry.first i _ _ c.loop-entry-test.true refl c.loop-entry.invariant (sym w.if-ne.ensures) w.in_ok-start.start w.in_ok-start.ensures.some (inl w.in_default.is))
      | else-ne w ↦ rw w.first-is (start_skip entries b c.loop-entry.first i _ _ c.loop-entry-test.true refl c.loop-entry.invariant (sym w.if-ne.ensures))
    ]
