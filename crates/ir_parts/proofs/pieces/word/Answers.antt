use Rattle.std.proofs.Common.{sym}
use Rattle.ir_parts.specs.WordsReading.{passed_word}
use Rattle.ir_parts.proofs.Places.{one_given, one_not_given}
use Rattle.ir_parts.proofs.pieces.word.Goals as goal

pub returns-in-Some-clause-value : goal.returns-in-Some-clause-value
returns-in-Some-clause-value c = one_given c.args.tokens.now c.args.from passed_word c.in-Some.says (sym
    c.in-Some.ensures.value)

pub returns-in-None-clause-value : goal.returns-in-None-clause-value
returns-in-None-clause-value c = one_not_given c.args.tokens.now c.args.from passed_word (sym c.in-None.ensures.value)
    c.requires
