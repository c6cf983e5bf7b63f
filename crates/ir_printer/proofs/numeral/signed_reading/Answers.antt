use Rattle.std.proofs.Common.{sym, ◌∙◌}
use Rattle.std.proofs.lemmas.Int.{to_z-of_z}
use mir.Syntax.{w128}
use Rattle.scev_base.proofs.BitLemmas.{wide}
use Rattle.ir_printer.proofs.numeral.signed_reading.Goals as goal

pub returns-then-width-ge128 : goal.returns-then-width-ge128
returns-then-width-ge128 c =
    to_z-of_z w128 c.args.n c.ranges.n ∙ sym (wide c.args.n c.args.width c.if-width-ge128.true c.ranges.n)
