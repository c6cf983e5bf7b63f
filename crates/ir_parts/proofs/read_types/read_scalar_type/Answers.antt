use Rattle.ir_parts.proofs.Told.{tells}
use Rattle.ir_parts.proofs.TypeReaders.{scalar_types}
use Rattle.ir_parts.proofs.read_types.read_scalar_type.Goals as goal

pub returns-clause-sentence : goal.returns-clause-sentence
returns-clause-sentence c = tells scalar_types c.args.tokens.now c.args.from c.requires c.scalar_type.result
    c.scalar_type.ensures.value
