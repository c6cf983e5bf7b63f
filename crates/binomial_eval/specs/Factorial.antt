-- Factorials of whole numbers.
use Rattle.std.specs.Prelude.{ℕ, zero, suc, ◌*◌}

-- The product of the numbers from 1 to this one, which is 1 where there are none.
unfoldable pub factorial : ℕ → ℕ
factorial zero = 1
factorial (suc k) = suc k * factorial k
