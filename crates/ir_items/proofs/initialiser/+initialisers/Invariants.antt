use Rattle.std.proofs.Common.{◌+◌, ◌-◌, ◌*◌, ◌≤◌, length}
use Rattle.ir_parts.specs.Reading.{left_from, is_punctuation, punctuation_at, ◌▷◌, repeated_at}
use Rattle.ir_parts.proofs.Loops.{Repeats}
use Rattle.ir_items.specs.InitReading.{part_at, init_at}
use Rattle.ir_items.proofs.initialiser.+initialisers.Given as goal

-- Each function calls the next, and the last one the first with room for one list less.
abbrev pub decreases-list : goal.decreases-list
decreases-list l = 6 * l.room + 5

abbrev pub decreases-parts : goal.decreases-parts
decreases-parts l = 6 * l.room + 4

abbrev pub decreases-more_parts : goal.decreases-more_parts
decreases-more_parts l = 6 * l.room + 3

abbrev pub decreases-next_part : goal.decreases-next_part
decreases-next_part l = 6 * l.room + 2

abbrev pub decreases-part : goal.decreases-part
decreases-part l = 6 * l.room + 1

abbrev pub decreases-nested : goal.decreases-nested
decreases-nested l = 6 * l.room

abbrev pub invariant-more_parts-parts : goal.invariant-more_parts-parts
invariant-more_parts-parts l = record {
  reading : Repeats (is_punctuation 44) (punctuation_at 44 ▷ part_at init_at) l.parts (left_from l.tokens l.at)
      (repeated_at (is_punctuation 44) (punctuation_at 44 ▷ part_at init_at) (left_from l.tokens l.from));
  forth : l.from ≤ l.at;
  within : l.at ≤ length l.tokens.tokens;
}

abbrev pub decreases-more_parts-parts : goal.decreases-more_parts-parts
decreases-more_parts-parts l = length l.tokens.tokens - l.at
