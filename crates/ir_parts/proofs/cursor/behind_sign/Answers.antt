use Rattle.std.proofs.Common.{sym}
use Rattle.ir_parts.specs.Reading.{is_punctuation}
use Rattle.ir_parts.proofs.Places.{token_passes, token_fails}
use Rattle.ir_parts.proofs.cursor.behind_sign.Goals as goal

pub returns-then-starts_sign-clause-value : goal.returns-then-starts_sign-clause-value
returns-then-starts_sign-clause-value c =
    token_passes c.args.tokens.now c.args.from (is_punctuation c.args.sign) (sym c.if-starts_sign.ensures.value)

pub returns-else-starts_sign-clause-value : goal.returns-else-starts_sign-clause-value
returns-else-starts_sign-clause-value c =
    token_fails c.args.tokens.now c.args.from (is_punctuation c.args.sign) (sym c.if-starts_sign.ensures.value)
    c.requires
