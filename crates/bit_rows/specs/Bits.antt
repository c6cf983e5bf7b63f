-- Words as bits.
use Rattle.std.specs.Prelude.{ℕ, ◌/◌, ◌%◌, Bool, List, map, ◌==◌, slice_index}
use Rattle.std.specs.List.{range_with_len}
use Rattle.std.specs.Int.{bit_at}

-- bit k of the words, counted from the lowest bit of the first one
abbrev pub bit_of : List ℕ → ℕ → Bool
bit_of words k = bit_at (slice_index words (k / 64)) (k % 64) == 1

-- the first `count` bits of the words
unfoldable pub bits_of : List ℕ → ℕ → List Bool
bits_of words count = map (bit_of words) (range_with_len 0 count)
