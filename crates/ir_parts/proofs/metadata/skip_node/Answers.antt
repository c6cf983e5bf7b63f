use Rattle.ir_parts.proofs.Told.{tells_place}
use Rattle.ir_parts.proofs.MetadataReaders.{node_reads}
use Rattle.ir_parts.proofs.metadata.skip_node.Goals as goal

pub returns-clause-sentence : goal.returns-clause-sentence
returns-clause-sentence c =
    tells_place node_reads c.args.tokens.now c.args.from c.requires c.node.result c.node.ensures.value
