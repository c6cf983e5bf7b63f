-- What is seen of the sources and the sinks in memory.
use Rattle.std.specs.Prelude.{◌≡◌, ℕ, ◌-◌, ◌<◌, min, List, ◌++◌, length, drop, Contains, ◌⊎◌}
use Rattle.scev_outside.specs.Faults.{next_count}

-- A source in memory. Both counts stay at their last value.
pub record SourceState : Type 0 where
  -- the bytes that are left
  pub left : List ℕ
  -- the most bytes that one read gives
  pub most : ℕ
  -- the numbers of the calls that fail, counted from 0
  pub fails : List ℕ
  -- how many calls were made, which is the number of the next one
  pub calls : ℕ
  -- how many calls failed
  pub faults : ℕ

-- How many bytes a read gives into so much room: the least of the most of one read, what is left, and the room.
abbrev pub given_count : SourceState → ℕ → ℕ
given_count source room = min source.most (min (length source.left) room)

-- The source after a read that gave n bytes.
abbrev pub after_read : SourceState → ℕ → SourceState
after_read source n = record source { left = drop n source.left; calls = next_count source.calls }

-- The source after a read that failed.
abbrev pub after_failed_read : SourceState → SourceState
after_failed_read source =
    record source { calls = next_count source.calls; faults = next_count source.faults }

-- A sink in memory. Both counts stay at their last value.
pub record SinkState : Type 0 where
  -- the bytes that it took
  pub taken : List ℕ
  -- how many more bytes it takes
  pub room : ℕ
  -- the most bytes that one write takes
  pub most : ℕ
  -- the numbers of the calls that fail, counted from 0
  pub fails : List ℕ
  -- how many calls were made, which is the number of the next one
  pub calls : ℕ
  -- how many calls failed
  pub faults : ℕ

-- A write of so many bytes fails: the call is listed, or there are bytes and no room for one.
abbrev pub WriteFails : SinkState → ℕ → Type 0
WriteFails sink n = Contains sink.fails sink.calls ⊎ ((0 < n) × (sink.room ≡ 0))

-- How many of so many bytes a write takes: the least of the most of one write, the room, and the bytes.
abbrev pub taken_count : SinkState → ℕ → ℕ
taken_count sink n = min sink.most (min sink.room n)

-- The sink after a write that took these bytes.
abbrev pub after_write : SinkState → List ℕ → SinkState
after_write sink bytes =
    record sink { taken = sink.taken ++ bytes; room = sink.room - length bytes; calls = next_count sink.calls }

-- The sink after a write that failed.
abbrev pub after_failed_write : SinkState → SinkState
after_failed_write sink =
    record sink { calls = next_count sink.calls; faults = next_count sink.faults }
