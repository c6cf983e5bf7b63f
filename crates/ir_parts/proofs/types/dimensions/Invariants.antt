use Rattle.std.proofs.Common.{◌≤◌, ◌-◌, length}
use Rattle.ir_parts.specs.Reading.{left_from, is_punctuation}
use Rattle.ir_parts.specs.TypeReading.{dimension_at, dimensions_at}
use Rattle.ir_parts.proofs.Loops.{Repeats}
use Rattle.ir_parts.proofs.types.dimensions.Given as goal

abbrev pub invariant-loop-dims : goal.invariant-loop-dims
invariant-loop-dims l = record {
  reading : Repeats (is_punctuation 91) dimension_at l.dims (left_from l.tokens l.at) (dimensions_at (left_from
      l.tokens l.from));
  forth : l.from ≤ l.at;
  within : l.at ≤ length l.tokens.tokens;
}

abbrev pub decreases-loop-dims : goal.decreases-loop-dims
decreases-loop-dims l = length l.tokens.tokens - l.at
