use Rattle.std.proofs.lemmas.Result.{err_from_is_err_and}
use Rattle.ir_functions.proofs.BehindAt.{ended_there, first_refused, then_refused}
use Rattle.ir_functions.proofs.calls.read_behind.Goals as goal

pub returns-in_err-said-clause-value : goal.returns-in_err-said-clause-value
returns-in_err-said-clause-value c =
    let p = err_from_is_err_and c.from_residual.result c.from_residual.ensures.1 in
    rw (p.1, p.2) (first_refused c.args.tokens.now c.args.from c.in_err-said.field-0.0 c.in_err-said.ensures.value)

pub returns-in_err-at-clause-value : goal.returns-in_err-at-clause-value
returns-in_err-at-clause-value c =
    let p = err_from_is_err_and c.from_residual-in_err-at.result c.from_residual-in_err-at.ensures.1 in
    rw (p.1, p.2) (then_refused c.args.tokens.now c.args.from c.in_ok-said.end _ c.in_err-at.field-0.0
    c.in_ok-said.ensures.value c.in_err-at.ensures.value)

pub returns-clause-value : goal.returns-clause-value
returns-clause-value c =
    ended_there c.args.tokens.now c.args.from c.in_ok-said.end c.in_ok-at.at c.in_ok-said.said c.in_ok-said.text
    c.in_ok-at.ensures.forth.0 c.in_ok-at.ensures.forth.1 c.in_ok-said.ensures.value c.in_ok-at.ensures.value
    c.ending_if-tail.result c.ending_if-tail.ensures
