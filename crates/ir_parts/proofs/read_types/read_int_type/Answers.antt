use Rattle.ir_parts.proofs.Told.{tells}
use Rattle.ir_parts.proofs.TypeReaders.{int_types}
use Rattle.ir_parts.proofs.read_types.read_int_type.Goals as goal

pub returns-clause-sentence : goal.returns-clause-sentence
returns-clause-sentence c = tells int_types c.args.tokens.now c.args.from c.requires c.int_type.result
    c.int_type.ensures.value
