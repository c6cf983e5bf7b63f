-- What is known of a function that is accepted.
use Rattle.std.specs.Prelude.{◌≡◌, ◌≢◌, ◌<◌, ℕ, false, List, ◌∷◌, Some, Contains, flat_map, slice_get, slice_index_or}
use Rattle.scev_base.specs.declared.ids.BlockId.{BlockId}
use Rattle.ir_model.specs.declared.function.Instr.{Instr}
use Rattle.ir_model.specs.declared.function.Block.{Block}
use Rattle.ir_model.specs.declared.function.Function.{Function}
use Rattle.ir_model.specs.declared.signature.Signatures.{Signatures}
use Rattle.ir_model.specs.Shapes.{block_of, is_phi, operands, register_of}
use Rattle.ir_model.specs.Walks.{Reachable, Trail}
use Rattle.ir_rules.specs.Uses.{HasPassed}
use Rattle.ssa_check.specs.declared.definitions.Definition.TheVariants.{At}
use Rattle.ssa_check.specs.Tables.{definition_of}

-- a function, what its rules see of its module, and a rank for each of its values
pub record CheckedParts : Type 0 where
  pub function : Function
  pub signatures : Signatures
  pub ranks : List ℕ

-- Every walk from the entry that reaches the start of a block has passed the value's definition.
abbrev pub IsAssigned : Function → ℕ → ℕ → Type 0
IsAssigned f v b = (before : List ℕ) → Trail f (b ∷ before) → HasPassed f v before b 0

-- Every walk from the entry that reaches a block has entered another one, or the same.
abbrev pub Dominates : Function → ℕ → ℕ → Type 0
Dominates f d b = (before : List ℕ) → Trail f (b ∷ before) → Contains (b ∷ before) d

-- An instruction of a block, other than a phi, has this result and reads this value.
pub record Reads (block : Block) (result v : ℕ) : Type 0 where
  pub at : ℕ
  pub instr : Instr
  pub stands : slice_get block.instrs at ≡ Some instr
  pub no_phi : is_phi instr.op ≡ false
  pub gives : instr.result ≡ Some (record { 0 = result })
  pub reads : Contains (flat_map register_of (operands instr.op)) v

-- In reachable blocks each operand of an instruction other than a phi has a lower rank than the instruction's result.
-- What is defined in a block that dominates another one has a lower rank than what is defined in the other one; and
-- what no instruction defines has a lower rank than what one does.
pub record AreRanks (f : Function) (ranks : List ℕ) : Type 0 where
  pub reads : (b result v : ℕ) (block : Block) → Reachable f b → block_of f b ≡ Some block → Reads block result v
      → slice_index_or ranks v 0 < slice_index_or ranks result 0
  pub dominating : (v x : ℕ) (d b : BlockId) (i j : ℕ) → definition_of f v ≡ At d i → definition_of f x ≡ At b j
      → Reachable f b.0 → Dominates f d.0 b.0 → d.0 ≢ b.0 → slice_index_or ranks v 0 < slice_index_or ranks x 0
  pub bare : (v x : ℕ) (b : BlockId) (j : ℕ) → ((d : BlockId) (i : ℕ) → definition_of f v ≡ At d i → ⊥)
      → definition_of f x ≡ At b j → slice_index_or ranks v 0 < slice_index_or ranks x 0
