use Rattle.ir_parts.specs.Reading.{left_from}
use Rattle.ir_functions.proofs.LineAt.{unnamed_read}
use Rattle.ir_functions.proofs.lines.unnamed_line.Goals as goal

pub returns-clause-value : goal.returns-clause-value
returns-clause-value c =
    let t = c.args.tokens.now in
    rw c.numbered_instr-instr.ensures (unnamed_read t c.args.from c.in_ok-operation.operation c.in_ok-operation.tail
    (left_from t c.args.from) (left_from t c.in_ok-operation.at) c.requires.nameless c.in_ok-operation.ensures.value)
