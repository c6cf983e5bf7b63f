use Rattle.std.proofs.Common.{◌≤◌, ◌-◌, List, length}
use Rattle.ir_parts.specs.Reading.{left_from, repeated_at}
use Rattle.ir_parts.specs.MetadataReading.{is_metadata, pair_at}
use Rattle.ir_parts.proofs.Loops.{Repeats}
use Rattle.ir_parts.proofs.metadata.all_pairs.Given as goal

abbrev pub invariant-pairs : goal.invariant-pairs
invariant-pairs l = record {
  reading : (found : List (Unit {0})) × Repeats is_metadata pair_at found (left_from l.tokens l.at) (repeated_at
      is_metadata pair_at (left_from l.tokens l.from));
  forth : l.from ≤ l.at;
  within : l.at ≤ length l.tokens.tokens;
}

abbrev pub decreases-pairs : goal.decreases-pairs
decreases-pairs l = length l.tokens.tokens - l.at
