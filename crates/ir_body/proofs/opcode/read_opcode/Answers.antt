use Rattle.std.proofs.Common.{sym}
use Rattle.ir_parts.proofs.Places.{one_given, one_not_given}
use Rattle.ir_body.specs.Opcodes.{opcode_of, opcode_at}
use Rattle.ir_body.proofs.opcode.read_opcode.Goals as goal

pub returns-in-Some-clause-value : goal.returns-in-Some-clause-value
unfolding opcode_at
returns-in-Some-clause-value c =
    one_given c.args.tokens.now c.args.from (opcode_of c.args.has_result) c.in-Some.opcode (sym c.in-Some.ensures.value)

pub returns-in-None-clause-value : goal.returns-in-None-clause-value
unfolding opcode_at
returns-in-None-clause-value c =
    one_not_given c.args.tokens.now c.args.from (opcode_of c.args.has_result) (sym c.in-None.ensures.value) c.requires
