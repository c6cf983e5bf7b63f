use Rattle.std.proofs.Common.{sym}
use Rattle.ir_functions.proofs.DefinedAt.{definition_read, no_definition}
use Rattle.ir_functions.proofs.definitions.definition.Goals as goal

pub returns-then-starts_local-clause-value : goal.returns-then-starts_local-clause-value
returns-then-starts_local-clause-value c = definition_read c.args.tokens.now c.args.from
    (sym c.if-starts_local.ensures.value)

pub returns-else-starts_local-clause-value : goal.returns-else-starts_local-clause-value
returns-else-starts_local-clause-value c =
    no_definition c.args.tokens.now c.args.from (sym c.if-starts_local.ensures.value) c.requires
