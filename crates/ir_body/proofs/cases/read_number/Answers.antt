use Rattle.ir_body.proofs.NumberAt.{number_given}
use Rattle.ir_body.proofs.cases.read_number.Goals as goal

pub returns-clause-value : goal.returns-clause-value
returns-clause-value c =
    rw c.number_or_fault.ensures (number_given c.args.tokens.now c.args.from c.in_ok-found.found
    c.in_ok-found.ensures.value c.requires)
