use Rattle.std.proofs.Common.{◌≡◌, drop, length}
use Rattle.ir_rules.specs.Values.{same_types, kinds_of}
use Rattle.ir_check.proofs.kinds.same_types.Given as goal

abbrev pub invariant-loop-at : goal.invariant-loop-at
invariant-loop-at l = record {
  long : length l.args ≡ length l.kinds;
  rest : same_types (kinds_of (drop l.at l.args)) (drop l.at l.kinds) ≡ same_types (kinds_of l.args) l.kinds;
}
