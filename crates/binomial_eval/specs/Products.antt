-- How many multiplications are counted.
use Rattle.std.specs.Prelude.{ℕ, zero, suc, ◌+◌, ◌≤◌}
use Rattle.scev_base.specs.Counting.{one_more}

-- what a counter is after so many further steps
unfoldable pub after_steps : ℕ → ℕ → ℕ
after_steps zero count = count
after_steps (suc steps) count = one_more (after_steps steps count)

-- A counter doesn't fall, and rises by no more than so many.
abbrev pub RisesAtMost : ℕ → ℕ → ℕ → Type 0
RisesAtMost old new most = (old ≤ new) × (new ≤ old + most)
