use Rattle.std.proofs.Common.{◌+◌, sym}
use Rattle.std.proofs.lemmas.List.{take_rest}
use Rattle.ir_eval.proofs.Words.{word_before, word_alone}
use Rattle.ir_eval.proofs.arguments.first_word.Goals as goal

pub returns-in-Some : goal.returns-in-Some
returns-in-Some c =
    let i = c.in-Some.i in
    rw (take_rest c.args.text.now (i + 1)) (word_before c.args.text.now i (sym c.in-Some.ensures))

pub returns-in-None : goal.returns-in-None
returns-in-None c = word_alone c.args.text.now (sym c.in-None.ensures)
