use Rattle.ir_parts.proofs.Told.{tells}
use Rattle.ir_parts.proofs.TypeReaders.{returned_types}
use Rattle.ir_parts.proofs.read_types.read_returned_type.Goals as goal

pub returns-clause-sentence : goal.returns-clause-sentence
returns-clause-sentence c = tells returned_types c.args.tokens.now c.args.from c.requires c.returned_type.result
    c.returned_type.ensures.value
