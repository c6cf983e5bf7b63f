use Rattle.std.proofs.Common.{◌≡◌, ◌+◌, ◌≤◌, drop, slice_get}
use Rattle.ir_rules.specs.Limits.{instrs_past}
use Rattle.ir_check.proofs.limits.past_in.Given as goal

abbrev pub invariant-loop-at : goal.invariant-loop-at
invariant-loop-at l = record {
  small : l.before + l.at ≤ 8192;
  rest : slice_get (instrs_past l.b.0 (l.before + l.at) (drop l.at l.instrs)) 0
      ≡ slice_get (instrs_past l.b.0 l.before l.instrs) 0;
}
