use Rattle.std.proofs.Common.{◌≤◌, ◌-◌, length}
use Rattle.ir_items.proofs.TailLoop.{TailRead}
use Rattle.ir_items.proofs.global.tail.Given as goal

abbrev pub invariant-runs : goal.invariant-runs
invariant-runs l = record {
  reading : TailRead l.tokens l.from l.at l.after l.ending;
  forth : l.from ≤ l.at;
  within : l.at ≤ length l.tokens.tokens;
}

abbrev pub decreases-runs : goal.decreases-runs
decreases-runs l = length l.tokens.tokens - l.at
