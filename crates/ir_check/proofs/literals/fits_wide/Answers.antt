use Rattle.ir_check.proofs.Ranges.{in_range_wide}
use Rattle.ir_check.proofs.literals.fits_wide.Goals as goal

pub returns : goal.returns
returns c = in_range_wide c.args.width c.args.number c.requires c.ranges.number
