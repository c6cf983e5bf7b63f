use Rattle.ir_parts.proofs.Places.{one_given, one_not_given}
use Rattle.ir_body.specs.Operands.{operand_at, operand_of}
use Rattle.ir_body.proofs.operands.read_operand.Goals as goal

pub returns-in-Some-clause-value : goal.returns-in-Some-clause-value
unfolding operand_at
returns-in-Some-clause-value c =
    one_given c.args.tokens.now c.args.from operand_of _ (rw c.in-Some.is at c.in_ok-value.ensures.value)

pub returns-in-None-clause-value : goal.returns-in-None-clause-value
unfolding operand_at
returns-in-None-clause-value c =
    one_not_given c.args.tokens.now c.args.from operand_of (rw c.in-None.is at c.in_ok-value.ensures.value) c.requires
