use Rattle.std.proofs.lemmas.Result.{err_from_is_err_and}
use Rattle.ir_parts.proofs.WordsReader.{words_there, words_refused}
use Rattle.ir_parts.proofs.runs.words.Goals as goal

pub returns-in_err-said-clause-value : goal.returns-in_err-said-clause-value
returns-in_err-said-clause-value c =
    let p = err_from_is_err_and c.from_residual.result c.from_residual.ensures.1 in
    rw (p.1, p.2) (words_refused c.args.tokens.now c.args.from c.in_err-said.field-0.0 c.in_err-said.ensures.value)

pub returns-clause-value : goal.returns-clause-value
returns-clause-value c =
    words_there c.args.tokens.now c.args.from c.in_ok-said.at c.in_ok-said.said c.in_ok-text.text
    c.in_ok-said.ensures.forth.0 c.in_ok-said.ensures.forth.1 c.in_ok-said.ensures.value c.in_ok-text.ensures
