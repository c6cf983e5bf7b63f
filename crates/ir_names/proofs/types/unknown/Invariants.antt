use Rattle.std.proofs.Common.{◌≡◌, None, replicate}
use Rattle.ir_names.proofs.types.unknown.Given as goal

abbrev pub invariant-loop-at : goal.invariant-loop-at
invariant-loop-at l = l.kinds ≡ replicate l._at None
