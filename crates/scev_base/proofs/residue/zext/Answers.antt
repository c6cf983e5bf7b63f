use Rattle.std.proofs.Common.{arith}
use Rattle.std.proofs.Math.Pow.{pow_mono}
use Rattle.scev_base.proofs.residue.zext.Goals as goal

pub returns-clause-below : goal.returns-clause-below
returns-clause-below c = omega (arith, pow_mono c.requires.wider)
