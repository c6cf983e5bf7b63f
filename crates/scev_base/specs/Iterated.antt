-- Iterated sums: what a chain of recurrences is at a turn (Bachmann, Wang, Zima 1994).
use Rattle.std.specs.Prelude.{ℕ, zero, suc, List, [], ◌∷◌}

-- The parts are the first one and the rest. At turn 0 the sum is its first part. At each further turn it is
-- its value at the turn before, and that of the sum without its first part, added. A single part stays as it is.
unfoldable pub iterated : {A : Type 0} → (A → A → A) → ℕ → A → List A → A
iterated add zero first rest = first
iterated add (suc t) first [] = first
iterated add (suc t) first (second ∷ rest) = add (iterated add t first (second ∷ rest)) (iterated add t second rest)
