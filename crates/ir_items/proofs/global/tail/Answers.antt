use Rattle.std.proofs.Common.{sym, arith}
use Rattle.std.proofs.lemmas.Result.{err_from_is_err_and}
use Rattle.ir_items.proofs.TailLoop.{tail_begins, tail_more, tail_no_more, tail_ends, tail_attached, tail_not_attached}
use Rattle.ir_items.proofs.global.tail.Goals as goal

pub runs-init : goal.runs-init
runs-init c = record {
  reading = rw c.new-after.ensures (tail_begins c.args.tokens.now c.args.from);
  forth = omega arith;
  within = c.requires;
}

pub returns-in_err-next-clause-value : goal.returns-in_err-next-clause-value
returns-in_err-next-clause-value c =
    let p = err_from_is_err_and c.from_residual.result c.from_residual.ensures.1 in
    rw (p.1, p.2) (tail_no_more c.args.tokens.now c.args.from c.in_err-next.field-0.0 c.runs.at c.runs.after
    c.runs.ending c.runs.invariant.reading c.runs-test.ensures c.in_err-next.ensures.value)

pub runs-preserved : goal.runs-preserved
runs-preserved c = record {
  reading = rw c.in_ok-push.ensures.ok (tail_more c.args.tokens.now c.args.from c.runs.at c.in_ok-next.behind
      c.runs.after c.runs.ending c.in_ok-next.next c.runs.invariant.reading c.runs-test.ensures
      c.in_ok-next.ensures.value c.in_ok-next.ensures.forth);
  forth = omega (arith, c.in_ok-next.ensures.forth, c.runs.invariant.forth);
  within = c.in_ok-next.ensures.forth.1;
}

pub returns-then-not-starts_sign-clause-value : goal.returns-then-not-starts_sign-clause-value
returns-then-not-starts_sign-clause-value c =
    tail_ends c.args.tokens.now c.args.from c.runs.at c.runs.after c.runs.ending c.runs.invariant.reading
    (sym c.if-not-starts_sign.ensures.value)

pub returns-in_err-at-clause-value : goal.returns-in_err-at-clause-value
returns-in_err-at-clause-value c =
    let p = err_from_is_err_and c.from_residual-in_err-at.result c.from_residual-in_err-at.ensures.1 in
    rw (p.1, p.2) (tail_not_attached c.args.tokens.now c.args.from c.in_err-at.field-0.0 c.runs.at c.runs.after
    c.runs.ending c.runs.invariant.reading c.runs-test.ensures (sym c.if-not-starts_sign.ensures.value)
    c.in_err-at.ensures.value)

pub returns-clause-value : goal.returns-clause-value
returns-clause-value c =
    tail_attached c.args.tokens.now c.args.from c.runs.at c.in_ok-at.at c.runs.after c.runs.ending
    c.runs.invariant.reading c.runs-test.ensures (sym c.if-not-starts_sign.ensures.value) c.in_ok-at.ensures.value
