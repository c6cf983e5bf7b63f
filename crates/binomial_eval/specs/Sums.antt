-- Sums modulo 2^w, and the sum that a recurrence comes to at a turn.
use Rattle.std.specs.Prelude.{ℕ, suc, ◌+◌, ◌*◌, ◌%◌, ◌^◌, List, [], ◌∷◌}
use Rattle.binomial_eval.specs.Choose.{choose}

-- the sum of two numbers modulo 2^w
abbrev pub modular_add : ℕ → ℕ → ℕ → ℕ
modular_add w a b = (a + b) % 2 ^ w

-- At a turn, each part times the turn's binomial coefficient at the part's place, added. The first part's
-- place is given, and each further place is one more.
unfoldable pub binomial_sum_from : ℕ → ℕ → List ℕ → ℕ
binomial_sum_from place t [] = 0
binomial_sum_from place t (part ∷ parts) =
    part * choose t place + binomial_sum_from (suc place) t parts

-- the same, with the first part at place 0
abbrev pub binomial_sum : ℕ → List ℕ → ℕ
binomial_sum t parts = binomial_sum_from 0 t parts
