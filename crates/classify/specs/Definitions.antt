-- Where registers are defined.
use Rattle.std.specs.Prelude.{◌≡◌, ◌↔◌, ℕ, List, [], ◌∷◌, length, Bool, IsTrue, Option, Some, None, slice_get}
use Rattle.ir_model.specs.declared.function.Instr.{Instr}
use Rattle.ir_model.specs.declared.function.Block.{Block}
use Rattle.ir_model.specs.declared.function.Function.{Function}
use Rattle.ir_model.specs.Shapes.{leading_phis}
use Rattle.classify.specs.Names.{NamesAreOnce}
use Rattle.classify.specs.Recurrence.{phis}

-- whether each name of a function is defined once; for each register of its table the place of an instruction that
-- gives it: the position of the block, and that of the instruction in it; and for each block whether its phis come
-- first
pub record Found : Type 0 where
  pub once : Bool
  pub places : List (Option (ℕ × ℕ))
  pub first : List Bool

-- The instruction at the place gives its result to the register.
abbrev pub IsGivenAt : Function → ℕ → ℕ × ℕ → Type 0
IsGivenAt f v place = (block : Block) × (instr : Instr) × (slice_get f.blocks place.0 ≡ Some block)
    × (slice_get block.instrs place.1 ≡ Some instr) × (instr.result ≡ Some (record { 0 = v }))

-- The phis of the block come first.
abbrev pub IsPhisFirst : Block → Type 0
IsPhisFirst block = phis block.instrs ≡ leading_phis block.instrs

-- A list tells of each block whether its phis come first.
abbrev pub TellFirst : List Block → List Bool → Type 0
TellFirst [] [] = Unit {0}
TellFirst (block ∷ blocks) (first ∷ more) = (IsTrue first ↔ IsPhisFirst block) × TellFirst blocks more
TellFirst [] (first ∷ more) = ⊥
TellFirst (block ∷ blocks) [] = ⊥

-- What was found is so: each place gives its register, and a register without a place is given by no instruction.
pub record AreDefinitions (f : Function) (found : Found) : Type 0 where
  pub once : IsTrue found.once ↔ NamesAreOnce f
  pub count : length found.places ≡ length f.values
  pub given : (v : ℕ) (place : ℕ × ℕ) → slice_get found.places v ≡ Some (Some place) → IsGivenAt f v place
  pub none : (v : ℕ) (place : ℕ × ℕ) → slice_get found.places v ≡ Some None → IsGivenAt f v place → ⊥
  pub first : TellFirst f.blocks found.first
