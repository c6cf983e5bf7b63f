use Rattle.ir_parts.specs.Reading.{left_from}
use Rattle.ir_functions.proofs.LineAt.{named_read}
use Rattle.ir_functions.proofs.lines.named_line.Goals as goal

pub returns-clause-value : goal.returns-clause-value
returns-clause-value c =
    let t = c.args.tokens.now in
    rw c.named_instr-instr.ensures (named_read t c.in_ok-value.value c.in_ok-operation.operation c.in_ok-operation.tail
    (left_from t c.args.from) (left_from t c.in_ok-value.at) (left_from t c.in_ok-at.at)
    (left_from t c.in_ok-operation.at) c.in_ok-value.ensures.value c.in_ok-at.ensures.value
    c.in_ok-operation.ensures.value)
