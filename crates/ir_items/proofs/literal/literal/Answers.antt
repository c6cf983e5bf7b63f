use Rattle.ir_parts.proofs.Places.{one_given, one_not_given}
use Rattle.ir_items.specs.LiteralReading.{literal_of}
use Rattle.ir_items.proofs.literal.literal.Goals as goal

pub returns-in-Some-clause-value : goal.returns-in-Some-clause-value
returns-in-Some-clause-value c =
    one_given c.args.tokens.now c.args.from literal_of c.in-Some.value (rw c.in-Some.is at c.in_ok-value.ensures.value)

pub returns-in-None-clause-value : goal.returns-in-None-clause-value
returns-in-None-clause-value c =
    one_not_given c.args.tokens.now c.args.from literal_of (rw c.in-None.is at c.in_ok-value.ensures.value) c.requires
