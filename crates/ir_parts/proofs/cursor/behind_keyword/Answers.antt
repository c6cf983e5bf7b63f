use Rattle.std.proofs.Common.{sym}
use Rattle.ir_parts.specs.Reading.{is_keyword}
use Rattle.ir_parts.proofs.Places.{token_passes, token_fails}
use Rattle.ir_parts.proofs.cursor.behind_keyword.Goals as goal

pub returns-then-starts_keyword-clause-value : goal.returns-then-starts_keyword-clause-value
returns-then-starts_keyword-clause-value c =
    token_passes c.args.tokens.now c.args.from (is_keyword c.args.text.now) (sym c.if-starts_keyword.ensures.value)

pub returns-else-starts_keyword-clause-value : goal.returns-else-starts_keyword-clause-value
returns-else-starts_keyword-clause-value c =
    token_fails c.args.tokens.now c.args.from (is_keyword c.args.text.now) (sym c.if-starts_keyword.ensures.value)
    c.requires
