use Rattle.ir_parts.specs.Reading.{left_from}
use Rattle.ir_functions.proofs.DefinedAt.{type_no_name}
use Rattle.ir_functions.proofs.params.param.Goals as goal

pub param_name-requires-clause-nameless : goal.param_name-requires-clause-nameless
param_name-requires-clause-nameless c =
    type_no_name c.args.tokens.now c.args.from c.in_ok-kind.kind (left_from c.args.tokens.now c.in_ok-kind.at)
    c.in_ok-kind.ensures.value
