use Rattle.std.proofs.Common.{◌-◌, ◌^◌, ◌≤◌, arith}
use Rattle.std.proofs.Math.Pow.{pow_mono}
use Rattle.std.proofs.lemmas.Nat.{one_shl}
use Rattle.std.proofs.lemmas.Int.{ints, to_z_pos}
use mir.Syntax.{w128}
use Rattle.ir_check.proofs.literals.half.Goals as goal

pub returns-clause-value : goal.returns-clause-value
returns-clause-value c =
    let most : 2 ^ (c.args.width - 1) ≤ 2 ^ 126 = pow_mono {i = c.args.width - 1} {j = 126} (omega arith) in
    rw (one_shl (c.args.width - 1) 128 (omega arith)) (to_z_pos w128 (2 ^ (c.args.width - 1)) (omega arith))

pub returns-clause-bound : goal.returns-clause-bound
returns-clause-bound c =
    let most : 2 ^ (c.args.width - 1) ≤ 2 ^ 126 = pow_mono {i = c.args.width - 1} {j = 126} (omega arith) in
    rw (one_shl (c.args.width - 1) 128 (omega arith), to_z_pos w128 (2 ^ (c.args.width - 1)) (omega arith))
    (omega (arith, ints))
