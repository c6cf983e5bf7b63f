-- Counters that stay at their last value.
use Rattle.std.specs.Prelude.{ℕ, ◌+◌, ◌-◌, ◌^◌, if◌then◌else◌, ◌==◌}

-- one more, up to 2^64 - 1
abbrev pub one_more : ℕ → ℕ
one_more count = if count == 2 ^ 64 - 1 then count else count + 1
