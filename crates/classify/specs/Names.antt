-- The names of a function, and how often each is defined.
use Rattle.std.specs.Prelude.{◌≡◌, ◌==◌, ℕ, List, ◌++◌, count_by, Contains}
use Rattle.ir_model.specs.declared.function.Function.{Function}
use Rattle.ir_model.specs.Shapes.{defined_values, used_values, defined_blocks, used_blocks}

-- Each name that is defined or used is defined once.
abbrev pub AreOnce : List ℕ → List ℕ → Type 0
AreOnce defined used = (id : ℕ) → Contains (defined ++ used) id → count_by (λ other. other == id) defined ≡ 1

pub record NamesAreOnce (f : Function) : Type 0 where
  pub values : AreOnce (defined_values f) (used_values f)
  pub blocks : AreOnce (defined_blocks f) (used_blocks f)
