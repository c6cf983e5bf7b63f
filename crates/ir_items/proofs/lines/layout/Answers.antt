use Rattle.std.proofs.Common.{sym}
use Rattle.ir_parts.proofs.Places.{token_passes, token_fails}
use Rattle.ir_items.specs.LineReading.{is_layout}
use Rattle.ir_items.proofs.lines.layout.Goals as goal

pub returns-then-starts_layout-clause-value : goal.returns-then-starts_layout-clause-value
returns-then-starts_layout-clause-value c = token_passes c.args.tokens.now c.args.from is_layout (sym
    c.if-starts_layout.ensures.value)

pub returns-else-starts_layout-clause-value : goal.returns-else-starts_layout-clause-value
returns-else-starts_layout-clause-value c = token_fails c.args.tokens.now c.args.from is_layout (sym
    c.if-starts_layout.ensures.value) c.requires
