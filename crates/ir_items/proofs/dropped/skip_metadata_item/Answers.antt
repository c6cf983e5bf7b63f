use Rattle.ir_parts.proofs.Told.{tells_place}
use Rattle.ir_items.proofs.DroppedReaders.{metadata_item_reads}
use Rattle.ir_items.proofs.dropped.skip_metadata_item.Goals as goal

pub returns-clause-sentence : goal.returns-clause-sentence
returns-clause-sentence c =
    tells_place metadata_item_reads c.args.tokens.now c.args.from c.requires c.metadata_item.result
    c.metadata_item.ensures.value
