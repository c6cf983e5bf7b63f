use Rattle.std.proofs.Common.{sym}
use Rattle.ir_parts.specs.WordsReading.{is_group}
use Rattle.ir_parts.proofs.Places.{token_passes, token_fails}
use Rattle.ir_parts.proofs.pieces.group.Goals as goal

pub returns-then-starts_group-clause-value : goal.returns-then-starts_group-clause-value
returns-then-starts_group-clause-value c =
    token_passes c.args.tokens.now c.args.from is_group (sym c.if-starts_group.ensures.value)

pub returns-else-starts_group-clause-value : goal.returns-else-starts_group-clause-value
returns-else-starts_group-clause-value c =
    token_fails c.args.tokens.now c.args.from is_group (sym c.if-starts_group.ensures.value) c.requires
