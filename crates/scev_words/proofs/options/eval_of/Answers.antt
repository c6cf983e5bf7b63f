use Rattle.std.proofs.Common.{Some, None, sym, ◌∙◌}
use Rattle.scev_words.specs.SaidBy.{said_by}
use Rattle.scev_words.proofs.AskedWith.{some_asked, none_asked, goes_on, ends_there}
use Rattle.scev_words.proofs.options.eval_of.Goals as goal

pub loop-word-preserved : goal.loop-word-preserved
loop-word-preserved c =
    let step =
    goes_on (said_by c.loop-word.said) c.args.words.now c.loop-word.word-index c.as_bytes.result.now
    (Some (said_by c.in_ok-said.said)) c.loop-word-test.true (rw c.as_bytes.ensures c.word-item.is)
    c.in_ok-said.ensures in
    sym step ∙ c.loop-word.invariant

pub returns-in_err-said-clause-none : goal.returns-in_err-said-clause-none
returns-in_err-said-clause-none c =
    let stop =
    goes_on (said_by c.loop-word.said) c.args.words.now c.loop-word.word-index c.as_bytes.result.now None
    c.loop-word-test.true (rw c.as_bytes.ensures c.word-item.is) c.in_err-said.ensures in
    none_asked c.args.words.now c.from_residual.result (rw c.from_residual.ensures (sym stop ∙ c.loop-word.invariant))

pub returns-clause-some : goal.returns-clause-some
returns-clause-some c =
    let all =
    ends_there (said_by c.loop-word.said) c.args.words.now c.loop-word.word-index c.loop-word-test.false in
    some_asked c.args.words.now c.request_of.result (c.request_of.ensures ∙ (all ∙ c.loop-word.invariant))

pub returns-clause-none : goal.returns-clause-none
returns-clause-none c =
    let all =
    ends_there (said_by c.loop-word.said) c.args.words.now c.loop-word.word-index c.loop-word-test.false in
    none_asked c.args.words.now c.request_of.result (c.request_of.ensures ∙ (all ∙ c.loop-word.invariant))
