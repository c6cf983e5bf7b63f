use Rattle.std.proofs.Common.{sym}
use Rattle.ir_parts.specs.MetadataReading.{is_metadata_word}
use Rattle.ir_parts.proofs.Places.{token_passes, token_fails}
use Rattle.ir_parts.proofs.metadata.metadata_word.Goals as goal

pub returns-then-starts_metadata_word-clause-value : goal.returns-then-starts_metadata_word-clause-value
returns-then-starts_metadata_word-clause-value c = token_passes c.args.tokens.now c.args.from is_metadata_word (sym
    c.if-starts_metadata_word.ensures.value)

pub returns-else-starts_metadata_word-clause-value : goal.returns-else-starts_metadata_word-clause-value
returns-else-starts_metadata_word-clause-value c = token_fails c.args.tokens.now c.args.from is_metadata_word (sym
    c.if-starts_metadata_word.ensures.value) c.requires
