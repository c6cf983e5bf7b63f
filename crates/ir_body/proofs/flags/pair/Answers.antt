use Rattle.std.proofs.Common.{sym}
use Rattle.ir_body.proofs.WordsFirst.{one_first, other_first, neither_first}
use Rattle.ir_body.proofs.flags.pair.Goals as goal

pub returns-then-starts_keyword-clause-value : goal.returns-then-starts_keyword-clause-value
returns-then-starts_keyword-clause-value c =
    one_first c.args.tokens.now c.args.from c.args.one.now c.args.other.now c.requires.apart c.read_flag-set.result.0 _
    (sym c.if-starts_keyword.ensures.value) c.read_flag-set.ensures.value

pub returns-then-starts_keyword-2-clause-value : goal.returns-then-starts_keyword-2-clause-value
returns-then-starts_keyword-2-clause-value c =
    other_first c.args.tokens.now c.args.from c.args.one.now c.args.other.now c.requires.apart
    c.read_flag-set-then-starts_keyword-2.result.0 _ (sym c.if-starts_keyword-2.ensures.value)
    c.read_flag-set-then-starts_keyword-2.ensures.value

pub returns-clause-value : goal.returns-clause-value
returns-clause-value c =
    neither_first c.args.tokens.now c.args.from c.args.one.now c.args.other.now c.requires.apart
    (sym c.if-starts_keyword.ensures.value) (sym c.if-starts_keyword-2.ensures.value)
