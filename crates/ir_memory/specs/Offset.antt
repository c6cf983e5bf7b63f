-- Where a part of an object stands.
use Rattle.std.specs.Prelude.{ℕ, ◌+◌, ◌*◌, ◌%◌, ◌^◌, List, sum_by}

-- The base plus each index times its size, modulo 2^64.
abbrev pub offset_from : ℕ → List (ℕ × ℕ) → ℕ
offset_from base parts = (base + sum_by (λ part. part.0 * part.1) parts) % 2 ^ 64
