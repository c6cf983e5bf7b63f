use Rattle.ir_parts.proofs.Told.{tells}
use Rattle.ir_parts.proofs.TypeReaders.{any_types}
use Rattle.ir_parts.proofs.read_types.read_type.Goals as goal

pub returns-clause-sentence : goal.returns-clause-sentence
returns-clause-sentence c = tells any_types c.args.tokens.now c.args.from c.requires c.any_type.result
    c.any_type.ensures.value
