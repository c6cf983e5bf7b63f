use Rattle.std.proofs.Common.{sym}
use Rattle.ir_body.proofs.SaidAt.{block_name_read, no_block_name}
use Rattle.ir_body.proofs.operands.read_block_name.Goals as goal

pub returns-then-starts_local-clause-value : goal.returns-then-starts_local-clause-value
returns-then-starts_local-clause-value c = block_name_read c.args.tokens.now c.args.from
    (sym c.if-starts_local.ensures.value)

pub returns-else-starts_local-clause-value : goal.returns-else-starts_local-clause-value
returns-else-starts_local-clause-value c =
    no_block_name c.args.tokens.now c.args.from (sym c.if-starts_local.ensures.value) c.requires
