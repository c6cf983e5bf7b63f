use Rattle.std.proofs.Common.{◌≡◌, ◌≤◌, ◌-◌, ◌++◌}
use Rattle.ir_text.specs.PassedOn.{spaced, passed_text}
use Rattle.ir_parts.specs.TextReading.{between}
use Rattle.ir_parts.proofs.passed_text.text_between.Given as goal

abbrev pub invariant-tokens : goal.invariant-tokens
invariant-tokens l = record {
  so_far : l.text.items ++ spaced l.before (between l.tokens l.at l.to) ≡ passed_text (between l.tokens l.from l.to);
  forth : l.from ≤ l.at;
  within : l.at ≤ l.to;
}

abbrev pub decreases-tokens : goal.decreases-tokens
decreases-tokens l = l.to - l.at
