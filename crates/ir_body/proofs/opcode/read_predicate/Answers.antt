use Rattle.std.proofs.Common.{sym}
use Rattle.ir_parts.proofs.Places.{one_given, one_not_given}
use Rattle.ir_body.specs.Opcodes.{predicate_of, predicate_at}
use Rattle.ir_body.proofs.opcode.read_predicate.Goals as goal

pub returns-in-Some-clause-value : goal.returns-in-Some-clause-value
unfolding predicate_at
returns-in-Some-clause-value c =
    one_given c.args.tokens.now c.args.from predicate_of c.in-Some.predicate (sym c.in-Some.ensures.value)

pub returns-in-None-clause-value : goal.returns-in-None-clause-value
unfolding predicate_at
returns-in-None-clause-value c =
    one_not_given c.args.tokens.now c.args.from predicate_of (sym c.in-None.ensures.value) c.requires
