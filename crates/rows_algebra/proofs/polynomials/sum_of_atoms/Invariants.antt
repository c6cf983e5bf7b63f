use Rattle.std.proofs.Common.{◌≡◌}
use Rattle.rows_algebra.proofs.polynomials.sum_of_atoms.Given as goal

abbrev pub invariant-loop-i : goal.invariant-loop-i
invariant-loop-i l = l.sum.bits ≡ 32
