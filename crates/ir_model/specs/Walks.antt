-- Edges of a function, and walks along them.
use Rattle.std.specs.Prelude.{◌≡◌, ℕ, List, [], ◌∷◌, ◌⊎◌, Some, flat_map, Contains}
use Rattle.ir_model.specs.declared.function.Instr.{Instr}
use Rattle.ir_model.specs.declared.function.Block.{Block}
use Rattle.ir_model.specs.declared.function.Function.{Function}
use Rattle.ir_model.specs.Shapes.{targets, block_of, entry}

-- the blocks to which a block leads
abbrev pub successors : List Instr → List ℕ
successors instrs = flat_map (λ instr. targets instr.op) instrs

-- There is an edge from a block to another one.
abbrev pub Edge : Function → ℕ → ℕ → Type 0
Edge f a b = (block : Block) × (block_of f a ≡ Some block) × Contains (successors block.instrs) b

-- A walk of one or more edges leads from a block through these blocks to another one.
abbrev pub Walk : Function → ℕ → List ℕ → ℕ → Type 0
Walk f a [] b = Edge f a b
Walk f a (c ∷ more) b = Edge f a c × Walk f c more b

-- A block is reachable: it is the first one, or a walk leads to it from there.
abbrev pub Reachable : Function → ℕ → Type 0
Reachable f b = (b ≡ entry f.blocks) ⊎ ((between : List ℕ) × Walk f (entry f.blocks) between b)

-- The blocks that a walk from the entry enters, the newest first.
pub data Trail (f : Function) : List ℕ → Type 0 where
  begins : Trail f (entry f.blocks ∷ [])
  enters : {b to : ℕ} {trail : List ℕ} → Trail f (b ∷ trail) → Edge f b to → Trail f (to ∷ b ∷ trail)
