use Rattle.std.proofs.Common.{sym}
use Rattle.ir_functions.proofs.LabelAt.{label_read, no_label_read}
use Rattle.ir_functions.proofs.labels.block_name.Goals as goal

pub returns-then-starts_label-clause-value : goal.returns-then-starts_label-clause-value
returns-then-starts_label-clause-value c = label_read c.args.tokens.now c.args.from
    (sym c.if-starts_label.ensures.value)

pub returns-else-starts_label-clause-value : goal.returns-else-starts_label-clause-value
returns-else-starts_label-clause-value c = no_label_read c.args.tokens.now c.args.from
    (sym c.if-starts_label.ensures.value)
