use Rattle.ir_parts.proofs.Places.{one_given, one_not_given}
use Rattle.ir_items.specs.InitReading.{byte_string}
use Rattle.ir_items.proofs.initialiser.byte_string.Goals as goal

pub returns-in-Some-clause-value : goal.returns-in-Some-clause-value
returns-in-Some-clause-value c =
    one_given c.args.tokens.now c.args.from byte_string c.in-Some.text (rw c.in-Some.is at c.in_ok-text.ensures.value)

pub returns-in-None-clause-value : goal.returns-in-None-clause-value
returns-in-None-clause-value c =
    one_not_given c.args.tokens.now c.args.from byte_string (rw c.in-None.is at c.in_ok-text.ensures.value) c.requires
