use Rattle.std.proofs.Common.{sym}
use Rattle.ir_parts.specs.WordsReading.{is_string_token}
use Rattle.ir_parts.proofs.Places.{token_passes, token_fails}
use Rattle.ir_parts.proofs.pieces.string.Goals as goal

pub returns-then-starts_string-clause-value : goal.returns-then-starts_string-clause-value
returns-then-starts_string-clause-value c =
    token_passes c.args.tokens.now c.args.from is_string_token (sym c.if-starts_string.ensures.value)

pub returns-else-starts_string-clause-value : goal.returns-else-starts_string-clause-value
returns-else-starts_string-clause-value c =
    token_fails c.args.tokens.now c.args.from is_string_token (sym c.if-starts_string.ensures.value) c.requires
