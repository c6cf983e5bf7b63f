use Rattle.std.proofs.Common.{◌≡◌, ◌≤◌, ◌-◌, List, length}
use Rattle.ir_parts.specs.declared.ending.Run.{Run}
use Rattle.ir_parts.specs.Reading.{left_from}
use Rattle.ir_parts.specs.WordsReading.{begins_piece, piece_at, pieces_at, of_pieces}
use Rattle.ir_parts.proofs.Loops.{Repeats}
use Rattle.ir_parts.proofs.runs.run.Given as goal

abbrev pub invariant-pieces : goal.invariant-pieces
invariant-pieces l = record {
  reading : (pieces : List Run) × (l.so_far ≡ of_pieces pieces)
      × Repeats begins_piece piece_at pieces (left_from l.tokens l.at) (pieces_at (left_from l.tokens l.from));
  forth : l.from ≤ l.at;
  within : l.at ≤ length l.tokens.tokens;
}

abbrev pub decreases-pieces : goal.decreases-pieces
decreases-pieces l = length l.tokens.tokens - l.at
