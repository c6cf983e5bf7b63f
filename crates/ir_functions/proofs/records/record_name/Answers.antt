use Rattle.std.proofs.Common.{sym}
use Rattle.ir_parts.proofs.Places.{token_passes, token_fails}
use Rattle.ir_functions.specs.Silent.{is_record}
use Rattle.ir_functions.proofs.records.record_name.Goals as goal

pub returns-then-starts_record-clause-value : goal.returns-then-starts_record-clause-value
returns-then-starts_record-clause-value c =
    token_passes c.args.tokens.now c.args.from is_record (sym c.if-starts_record.ensures.value)

pub returns-else-starts_record-clause-value : goal.returns-else-starts_record-clause-value
returns-else-starts_record-clause-value c =
    token_fails c.args.tokens.now c.args.from is_record (sym c.if-starts_record.ensures.value) c.requires
