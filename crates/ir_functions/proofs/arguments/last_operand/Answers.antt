use Rattle.std.proofs.Common.{sym, arith}
use Rattle.ir_functions.proofs.ArgumentAt.{last_there, last_none}
use Rattle.ir_functions.proofs.arguments.last_operand.Goals as goal

pub returns-in-Ok-clause-value : goal.returns-in-Ok-clause-value
returns-in-Ok-clause-value c =
    last_there c.args.tokens.now c.args.from c.args.end c.args.ending _ _
    (omega (arith, c.requires.0, c.if-from-end.false)) c.requires.1 (sym c.if-not-may_be_operand.ensures)
    c.in-Ok.ensures.value

pub returns-in-Err-CannotGoOn-clause-value : goal.returns-in-Err-CannotGoOn-clause-value
returns-in-Err-CannotGoOn-clause-value c =
    let refused = rw c.in-Err-CannotGoOn.field-0-is at c.in-Err-CannotGoOn.ensures.value in
    last_none c.args.tokens.now c.args.from c.args.end c.args.ending _
    (omega (arith, c.requires.0, c.if-from-end.false)) c.requires.1 (sym c.if-not-may_be_operand.ensures)
    refused.0
