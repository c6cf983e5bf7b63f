use Rattle.std.proofs.Common.{sym}
use Rattle.ir_parts.specs.MetadataReading.{is_metadata}
use Rattle.ir_parts.proofs.Places.{token_passes, token_fails}
use Rattle.ir_parts.proofs.metadata.metadata.Goals as goal

pub returns-then-starts_metadata-clause-value : goal.returns-then-starts_metadata-clause-value
returns-then-starts_metadata-clause-value c = token_passes c.args.tokens.now c.args.from is_metadata (sym
    c.if-starts_metadata.ensures.value)

pub returns-else-starts_metadata-clause-value : goal.returns-else-starts_metadata-clause-value
returns-else-starts_metadata-clause-value c = token_fails c.args.tokens.now c.args.from is_metadata (sym
    c.if-starts_metadata.ensures.value) c.requires
