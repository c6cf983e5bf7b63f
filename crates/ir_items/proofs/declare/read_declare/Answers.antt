use Rattle.ir_items.proofs.DeclareTells.{declare_tells}
use Rattle.ir_items.proofs.declare.read_declare.Goals as goal

pub returns-clause-sentence : goal.returns-clause-sentence
returns-clause-sentence c =
    declare_tells c.args.tokens.now c.args.from c.requires c.declare.result c.declare.ensures.value
