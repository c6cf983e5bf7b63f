use Rattle.ir_parts.proofs.Told.{tells}
use Rattle.ir_parts.proofs.TypeReaders.{stored_types}
use Rattle.ir_parts.proofs.read_types.read_stored_type.Goals as goal

pub returns-clause-sentence : goal.returns-clause-sentence
returns-clause-sentence c = tells stored_types c.args.tokens.now c.args.from c.requires c.stored_type.result
    c.stored_type.ensures.value
