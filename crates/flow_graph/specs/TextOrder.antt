-- Blocks in text order.
use Rattle.std.specs.Prelude.{◌≡◌, ◌==◌, ℕ, ◌<◌, Some, position}
use Rattle.ir_model.specs.declared.function.Function.{Function}

-- One block stands before another one in the text.
abbrev pub StandsBefore : Function → ℕ → ℕ → Type 0
StandsBefore f a b = (i j : ℕ) → position (λ block. block.id.0 == a) f.blocks ≡ Some i
    → position (λ block. block.id.0 == b) f.blocks ≡ Some j → i < j
