-- The value of a recurrence at a turn.
use Rattle.std.specs.Prelude.{◌≡◌, ℕ, List, [], ◌∷◌}
use Rattle.scev_base.specs.Iterated.{iterated}

-- At this turn the recurrence of these parts has this value. No parts are no recurrence.
abbrev pub HasValue : {A : Type 0} → (A → A → A) → ℕ → List A → A → Type 0
HasValue plus turn [] value = ⊥
HasValue plus turn (first ∷ rest) value = iterated plus turn first rest ≡ value
