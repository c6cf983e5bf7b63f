use Rattle.std.proofs.Common.{◌≡◌, ◌≤◌, drop, slice_get}
use Rattle.ir_rules.specs.Limits.{past, past_limits}
use Rattle.ir_check.proofs.limits.past_limit.Given as goal

abbrev pub invariant-loop-at : goal.invariant-loop-at
invariant-loop-at l = record {
  small : l.instrs ≤ 8192;
  rest : slice_get (past l.at l.instrs (drop l.at l.f.blocks)) 0 ≡ slice_get (past_limits l.f) 0;
}
