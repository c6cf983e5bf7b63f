use Rattle.ir_parts.proofs.Told.{tells_place}
use Rattle.ir_parts.proofs.MetadataReaders.{attachments_read}
use Rattle.ir_parts.proofs.metadata.skip_metadata.Goals as goal

pub returns-clause-sentence : goal.returns-clause-sentence
returns-clause-sentence c =
    tells_place attachments_read c.args.tokens.now c.args.from c.requires c.attachments.result
    c.attachments.ensures.value
