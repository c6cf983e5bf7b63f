-- What is read where operands are used.
use Rattle.std.specs.Prelude.{◌≡◌, ◌⊎◌, ℕ, List, Contains, Option}
use Rattle.value_view.specs.declared.reading.Reading.{Reading}
use Rattle.value_exprs.specs.View.{View, conditions_of, number_of_loop, Leaves}

-- the conditions of the exits of a loop read the register, and an operand leaves the loop
abbrev pub IsReadLeaving : View → ℕ → Option ℕ → ℕ → Type 0
IsReadLeaving view v place x = (l : ℕ) × Leaves view v place l × Contains (conditions_of view l) (record { 0 = x })

-- one of these readings is of the register, or leaves such a loop
abbrev pub IsReadBy : View → List Reading → ℕ → Type 0
IsReadBy view reads x = (reading : Reading) × Contains reads reading
    × ((reading.register.0 ≡ x) ⊎ IsReadLeaving view reading.register.0 (number_of_loop reading.place) x)
