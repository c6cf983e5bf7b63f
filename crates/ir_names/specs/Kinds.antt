-- A table of types that are known so far.
use Rattle.std.specs.Prelude.{◌≡◌, ℕ, ◌<◌, ◌==◌, if◌then◌else◌, List, length, Option, Some, None, slice_get}
use Rattle.ir_model.specs.declared.types.IrType.{IrType}
use Rattle.ir_model.specs.declared.function.Param.{Param}
use Rattle.ir_model.specs.declared.function.Block.{Block}
use Rattle.ir_model.specs.Defined.{or_else, param_type, block_type}

-- The table has for each of its values what the function says.
abbrev pub AreTypesBy : List (Option IrType) → (ℕ → Option IrType) → Type 0
AreTypesBy kinds f = (v : ℕ) → v < length kinds → slice_get kinds v ≡ Some (f v)

-- The new table has for each value what the old one had, and where that was nothing, what the function adds.
pub record Notes (old new : List (Option IrType)) (adds : ℕ → Option IrType) : Type 0 where
  pub length_same : length new ≡ length old
  pub noted : (f : ℕ → Option IrType) → AreTypesBy old f → AreTypesBy new (λ v. or_else (f v) (adds v))

-- one value's type
abbrev pub only : ℕ → IrType → ℕ → Option IrType
only value kind v = if value == v then Some kind else None

-- the type of a value's first definition, if it has one
abbrev pub first_type : List Param → List Block → ℕ → Option IrType
first_type params blocks v = or_else (param_type params v) (block_type blocks v)
