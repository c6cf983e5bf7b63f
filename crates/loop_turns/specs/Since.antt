-- What happened on a trail since a block was entered the last time.
use Rattle.std.specs.Prelude.{◌≡◌, ℕ, List, ◌∷◌, ◌++◌, Contains}
use Rattle.loop_regions.specs.Loops.{Loop}
use Rattle.loop_regions.specs.Turns.{turn}

-- The trail has entered a block, and since it did so the last time it hasn't entered a loop's header: no turn of
-- the loop has begun, and its turn is what it was.
pub record NoTurnSince (l : Loop) (d : ℕ) (trail : List ℕ) : Type 0 where
  pub since : List ℕ
  pub older : List ℕ
  pub is : trail ≡ since ++ d ∷ older
  pub last : Contains since d → ⊥
  pub header : Contains since l.header → ⊥
  pub same : turn l trail ≡ turn l (d ∷ older)
