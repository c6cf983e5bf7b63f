use Rattle.ir_parts.proofs.Places.{one_given, one_not_given}
use Rattle.ir_body.specs.Aligned.{numeral_of, numeral_at}
use Rattle.ir_body.proofs.aligned.numeral.Goals as goal

pub returns-in-Some-clause-value : goal.returns-in-Some-clause-value
unfolding numeral_at
returns-in-Some-clause-value c =
    one_given c.args.tokens.now c.args.from numeral_of _ (rw c.in-Some.is at c.in_ok-text.ensures.value)

pub returns-in-None-clause-value : goal.returns-in-None-clause-value
unfolding numeral_at
returns-in-None-clause-value c =
    one_not_given c.args.tokens.now c.args.from numeral_of (rw c.in-None.is at c.in_ok-text.ensures.value) c.requires
