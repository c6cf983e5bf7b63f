use Rattle.std.proofs.Common.{◌≤◌, ◌-◌, List, length}
use Rattle.ir_parts.specs.Reading.{left_from, repeated_at, is_punctuation}
use Rattle.ir_parts.specs.MetadataReading.{attachment_at}
use Rattle.ir_parts.proofs.Loops.{Repeats}
use Rattle.ir_parts.proofs.metadata.attachments.Given as goal

abbrev pub invariant-attachments : goal.invariant-attachments
invariant-attachments l = record {
  reading : (found : List (Unit {0})) × Repeats (is_punctuation 44) attachment_at found (left_from l.tokens l.at)
      (repeated_at (is_punctuation 44) attachment_at (left_from l.tokens l.from));
  forth : l.from ≤ l.at;
  within : l.at ≤ length l.tokens.tokens;
}

abbrev pub decreases-attachments : goal.decreases-attachments
decreases-attachments l = length l.tokens.tokens - l.at
