-- Binomial coefficients as a power of 2 times an odd number.
use Rattle.std.specs.Prelude.{◌≡◌, ℕ, ◌*◌, ◌%◌, ◌^◌, ◌≤◌}
use Rattle.binomial_eval.specs.Choose.{choose}
use Rattle.scev_fold.specs.declared.binomials.Binomial.{Binomial}

-- It is C(n, k): its power of 2 times an odd number, of which it keeps the residue modulo 2^64. Each step from C(n, 0)
-- adds at most 64 to the power.
abbrev pub IsBinomial : ℕ → ℕ → Binomial → Type 0
IsBinomial n k c = (a : ℕ) × (choose n k ≡ 2 ^ c.twos * a) × (a % 2 ≡ 1) × (c.twos ≤ 64 * k) × (c.odd ≡ a % 2 ^ 64)
