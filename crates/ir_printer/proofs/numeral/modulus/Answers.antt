use Rattle.std.proofs.Common.{arith}
use Rattle.std.proofs.lemmas.Nat.{one_shl}
use Rattle.std.proofs.Math.Pow.{pow_mono}
use Rattle.ir_printer.proofs.numeral.modulus.Goals as goal

pub returns-clause-value : goal.returns-clause-value
returns-clause-value c = one_shl c.args.width 128 c.requires

pub returns-clause-bound : goal.returns-clause-bound
returns-clause-bound c = omega
    (arith, one_shl c.args.width 128 c.requires, pow_mono {i = c.args.width} {j = 127} (omega arith))
