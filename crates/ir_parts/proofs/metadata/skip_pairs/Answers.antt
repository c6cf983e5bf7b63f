use Rattle.ir_parts.proofs.Told.{tells_place}
use Rattle.ir_parts.proofs.MetadataReaders.{pairs_read}
use Rattle.ir_parts.proofs.metadata.skip_pairs.Goals as goal

pub returns-clause-sentence : goal.returns-clause-sentence
returns-clause-sentence c =
    tells_place pairs_read c.args.tokens.now c.args.from c.requires c.all_pairs.result c.all_pairs.ensures.value
