-- The places of the instructions that give registers their results, while blocks are walked.
use Rattle.std.specs.Prelude.{◌≡◌, ◌⊎◌, ℕ, List, length, Option, Some, None, slice_get, slice_set}
use Rattle.scev_base.specs.declared.ids.ValueId.{ValueId}
use Rattle.ir_model.specs.declared.function.Instr.{Instr}
use Rattle.ir_model.specs.declared.function.Block.{Block}

-- the places after one of an instruction with this result, where it has one
abbrev pub placed : List (Option (ℕ × ℕ)) → Option ValueId → ℕ × ℕ → List (Option (ℕ × ℕ))
placed places None place = places
placed places (Some v) place = slice_set places v.0 (Some place)

-- an instruction of a list gives its result to the register
abbrev pub IsGivenIn : List Instr → ℕ → ℕ → Type 0
IsGivenIn instrs v k = (instr : Instr) × (slice_get instrs k ≡ Some instr) × (instr.result ≡ Some (record { 0 = v }))

-- The instructions of a block, of this position, were placed: each place is an old one or one of theirs, and a register
-- without a place had none, and is given by none of them.
pub record ArePlaced (block : ℕ) (instrs : List Instr) (old new : List (Option (ℕ × ℕ))) : Type 0 where
  pub count : length new ≡ length old
  pub given : (v : ℕ) (place : ℕ × ℕ) → slice_get new v ≡ Some (Some place)
      → (slice_get old v ≡ Some (Some place)) ⊎ ((place.0 ≡ block) × IsGivenIn instrs v place.1)
  pub none : (v : ℕ) → slice_get new v ≡ Some None
      → (slice_get old v ≡ Some None) × ((k : ℕ) → IsGivenIn instrs v k → ⊥)

-- an instruction of a list of blocks gives its result to the register
abbrev pub IsGivenAmong : List Block → ℕ → ℕ × ℕ → Type 0
IsGivenAmong blocks v place = (block : Block) × (instr : Instr) × (slice_get blocks place.0 ≡ Some block)
    × (slice_get block.instrs place.1 ≡ Some instr) × (instr.result ≡ Some (record { 0 = v }))

-- each place gives its register, and a register without a place is given by no instruction of the blocks
pub record ArePlaces (blocks : List Block) (places : List (Option (ℕ × ℕ))) : Type 0 where
  pub given : (v : ℕ) (place : ℕ × ℕ) → slice_get places v ≡ Some (Some place) → IsGivenAmong blocks v place
  pub none : (v : ℕ) (place : ℕ × ℕ) → slice_get places v ≡ Some None → IsGivenAmong blocks v place → ⊥
