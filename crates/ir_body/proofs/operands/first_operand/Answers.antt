use Rattle.ir_body.proofs.OperandAt.{register_at, global_at, numeral_at, word_at, no_operand_at}
use Rattle.ir_body.proofs.operands.first_operand.Goals as goal

pub returns-in-Local-clause-value : goal.returns-in-Local-clause-value
returns-in-Local-clause-value c =
    register_at c.args.tokens.now c.args.from c.in-Some.text.now c.register.result
    (rw c.in-Local.is at c.in-Some.ensures.0) c.register.ensures

pub returns-in-Global-clause-value : goal.returns-in-Global-clause-value
returns-in-Global-clause-value c =
    global_at c.args.tokens.now c.args.from c.in-Some.text.now c.global.result
    (rw c.in-Global.is at c.in-Some.ensures.0) c.global.ensures

pub returns-in-Some-numeral-clause-value : goal.returns-in-Some-numeral-clause-value
returns-in-Some-numeral-clause-value c =
    numeral_at c.args.tokens.now c.args.from c.in-Some.text.now c.in-Some-numeral.value
    (rw c.in-Numeral.is at c.in-Some.ensures.0) c.in-Some-numeral.ensures

pub returns-in-Word-clause-value : goal.returns-in-Word-clause-value
returns-in-Word-clause-value c =
    word_at c.args.tokens.now c.args.from c.in-Some.text.now c.word_operand.result
    (rw c.in-Word.is at c.in-Some.ensures.0) c.word_operand.ensures

pub returns-in_default-kind-clause-value : goal.returns-in_default-kind-clause-value
returns-in_default-kind-clause-value c =
    no_operand_at c.args.tokens.now c.args.from c.in-Some.kind c.in-Some.text.now c.in-Some.ensures.0
    c.in_default-kind.not-Local c.in_default-kind.not-Global c.in_default-kind.not-Numeral c.in_default-kind.not-Word
