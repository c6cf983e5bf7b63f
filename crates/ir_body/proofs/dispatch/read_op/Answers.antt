use Rattle.ir_parts.specs.Places.{mentions_at}
use Rattle.ir_body.specs.declared.operation.Operation.{Operation}
use Rattle.ir_body.specs.Views.{bare_operation, operation_sites}
use Rattle.ir_body.proofs.Sentences.{tells_as}
use Rattle.ir_body.proofs.OpTellers.{op_tells}
use Rattle.ir_body.proofs.dispatch.read_op.Goals as goal

pub returns-clause-grammar : goal.returns-clause-grammar
returns-clause-grammar c =
    tells_as (op_tells c.args.has_result) (λ (x : Operation). (
      bare_operation x,
      mentions_at c.args.tokens.now (operation_sites x),
    )) c.args.tokens.now c.args.from c.requires c.operation.result
    c.operation.ensures.value
