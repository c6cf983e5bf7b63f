use Rattle.std.proofs.Common.{sym}
use Rattle.ir_parts.specs.MetadataReading.{is_metadata_number}
use Rattle.ir_parts.proofs.Places.{token_passes, token_fails}
use Rattle.ir_parts.proofs.metadata.number.Goals as goal

pub returns-then-starts_number-clause-value : goal.returns-then-starts_number-clause-value
returns-then-starts_number-clause-value c = token_passes c.args.tokens.now c.args.from is_metadata_number (sym
    c.if-starts_number.ensures.value)

pub returns-else-starts_number-clause-value : goal.returns-else-starts_number-clause-value
returns-else-starts_number-clause-value c = token_fails c.args.tokens.now c.args.from is_metadata_number (sym
    c.if-starts_number.ensures.value) c.requires
