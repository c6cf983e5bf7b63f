use Rattle.ir_text.specs.Said.{said_global}
use Rattle.ir_parts.proofs.Places.{one_given, one_not_given}
use Rattle.ir_parts.proofs.global_names.read_global_name.Goals as goal

pub returns-in-Some-clause-value : goal.returns-in-Some-clause-value
returns-in-Some-clause-value c =
    one_given c.args.tokens.now c.args.from said_global c.in-Some.name (rw c.in-Some.is at c.in_ok-name.ensures.value)

pub returns-in-None-clause-value : goal.returns-in-None-clause-value
returns-in-None-clause-value c =
    one_not_given c.args.tokens.now c.args.from said_global (rw c.in-None.is at c.in_ok-name.ensures.value) c.requires
