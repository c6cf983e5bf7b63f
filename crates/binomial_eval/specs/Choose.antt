-- Binomial coefficients of whole numbers.
use Rattle.std.specs.Prelude.{ℕ, zero, suc, ◌+◌}

-- How many ways there are to choose so many of so many things, by Pascal's rule.
unfoldable pub choose : ℕ → ℕ → ℕ
choose n zero = 1
choose zero (suc k) = 0
choose (suc n) (suc k) = choose n k + choose n (suc k)
