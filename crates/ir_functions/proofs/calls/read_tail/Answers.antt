use Rattle.std.proofs.Common.{arith}
use Rattle.ir_functions.proofs.TailAt.{tail_is}
use Rattle.ir_functions.proofs.calls.read_tail.Goals as goal

pub returns-clause-value : goal.returns-clause-value
returns-clause-value c =
    tail_is c.args.tokens.now c.args.from c.read_flag-at.result.1 c.read_flag-at-2.result.1 c.read_flag-at.result.0
    c.read_flag-at-2.result.0 c.in_ok-text.text
    (omega (arith, c.read_flag-at.ensures.forth.0, c.read_flag-at-2.ensures.forth.0))
    c.read_flag-at-2.ensures.forth.1 c.read_flag-at.ensures.value c.read_flag-at-2.ensures.value c.in_ok-text.ensures
