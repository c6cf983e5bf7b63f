use Rattle.std.proofs.Common.{◌≡◌}
use Rattle.rows_algebra.proofs.polynomials.power.Given as goal

abbrev pub invariant-loop-i : goal.invariant-loop-i
invariant-loop-i l = l.power.bits ≡ 32
