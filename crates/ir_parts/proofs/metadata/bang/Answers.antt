use Rattle.std.proofs.Common.{sym}
use Rattle.ir_parts.specs.MetadataReading.{is_bang}
use Rattle.ir_parts.proofs.Places.{token_passes, token_fails}
use Rattle.ir_parts.proofs.metadata.bang.Goals as goal

pub returns-then-starts_bang-clause-value : goal.returns-then-starts_bang-clause-value
returns-then-starts_bang-clause-value c = token_passes c.args.tokens.now c.args.from is_bang (sym
    c.if-starts_bang.ensures.value)

pub returns-else-starts_bang-clause-value : goal.returns-else-starts_bang-clause-value
returns-else-starts_bang-clause-value c = token_fails c.args.tokens.now c.args.from is_bang (sym
    c.if-starts_bang.ensures.value) c.requires
