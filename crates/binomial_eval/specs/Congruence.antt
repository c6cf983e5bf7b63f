-- Linear congruences modulo 2^w.
use Rattle.std.specs.Prelude.{◌≡◌, ℕ, ◌*◌, ◌%◌, ◌^◌, ◌≤◌}

-- b times t is d modulo 2^w.
abbrev pub IsSolution : ℕ → ℕ → ℕ → ℕ → Type 0
IsSolution b d w t = (b * t) % 2 ^ w ≡ d % 2 ^ w

-- So it is, and no smaller number does it.
abbrev pub IsLeastSolution : ℕ → ℕ → ℕ → ℕ → Type 0
IsLeastSolution b d w t =
    IsSolution b d w t × ((other : ℕ) → IsSolution b d w other → t ≤ other)
