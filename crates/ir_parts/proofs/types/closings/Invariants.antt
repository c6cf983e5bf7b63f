use Rattle.std.proofs.Common.{◌≡◌, ◌≤◌, ◌-◌, length}
use Rattle.ir_parts.specs.Reading.{left_from}
use Rattle.ir_parts.specs.TypeReading.{closings_at}
use Rattle.ir_parts.proofs.types.closings.Given as goal

abbrev pub invariant-loop-i : goal.invariant-loop-i
invariant-loop-i l = record {
  reading : closings_at l.count (left_from l.tokens l.from) ≡ closings_at (l.count - l._i) (left_from l.tokens l.at);
  forth : l.from ≤ l.at;
  within : l.at ≤ length l.tokens.tokens;
}
