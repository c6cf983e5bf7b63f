use Rattle.std.proofs.Common.{arith}
use Rattle.std.proofs.lemmas.Result.{err_from_is_err_and}
use Rattle.ir_items.proofs.LineReaders.{line_taken, line_refused}
use Rattle.ir_items.proofs.lines.passed_line.Goals as goal

pub returns-in_err-at-clause-value : goal.returns-in_err-at-clause-value
returns-in_err-at-clause-value c =
    let p = err_from_is_err_and c.from_residual.result c.from_residual.ensures.1 in
    rw (p.1, p.2) (line_refused c.args.tokens.now c.args.from c.in_err-at.field-0.0 c.in_err-at.ensures.value)

pub returns-clause-value : goal.returns-clause-value
returns-clause-value c =
    line_taken c.args.tokens.now c.args.from c.in_ok-at.at c.in_ok-text.text
    (omega (arith, c.in_ok-at.ensures.forth.0)) c.in_ok-at.ensures.forth.1 c.in_ok-at.ensures.value
    c.in_ok-text.ensures
