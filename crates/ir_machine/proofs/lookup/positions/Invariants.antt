use Rattle.std.proofs.Common.{◌≡◌, length, vec_len}
use Rattle.ir_machine.proofs.lookup.positions.Given as goal

-- there is a position for each number
abbrev pub invariant-loop-at : goal.invariant-loop-at
invariant-loop-at l = vec_len l.positions ≡ length l.f.labels
