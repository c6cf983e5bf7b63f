-- The rule on uses: on every walk from the entry a use comes after its definition.
use Rattle.std.specs.Prelude.{◌≡◌, ◌⊎◌, ℕ, suc, ◌<◌, true, List, [], ◌∷◌, ◌++◌, length, map, flat_map, Option, Some, None, Contains, slice_get, unwrap_or, option_map}
use Rattle.scev_base.specs.declared.ids.BlockId.{BlockId}
use Rattle.ir_model.specs.declared.op.Op.{Op}
use Rattle.ir_model.specs.declared.op.Op.TheVariants.{Phi}
use Rattle.ir_model.specs.declared.op.PhiEntry.{PhiEntry}
use Rattle.ir_model.specs.declared.function.Instr.{Instr}
use Rattle.ir_model.specs.declared.function.Block.{Block}
use Rattle.ir_model.specs.declared.function.Function.{Function}
use Rattle.ir_model.specs.Places.{is_param, place_of}
use Rattle.ir_model.specs.Shapes.{operands, register_of, block_of}
use Rattle.ir_model.specs.Walks.{Trail}

-- A use of a value by an instruction of a block, and where it is read: in a block, behind so many of its instructions.
-- A phi reads an entry's operand at the end of the block that the entry is from.
pub record Use : Type 0 where
  pub value : ℕ
  pub user : ℕ
  pub block : ℕ
  pub index : ℕ

-- how many instructions a block has
abbrev pub size_of : Function → ℕ → ℕ
size_of f b = unwrap_or (option_map (λ (block : Block). length block.instrs) (block_of f b)) 0

abbrev pub op_uses : Function → ℕ → ℕ → Op → List Use
op_uses f b i (Phi kind entries) = flat_map (λ (entry : PhiEntry).
    map (λ v. record { value = v; user = b; block = entry.from.0; index = size_of f entry.from.0 })
    (register_of entry.value)) entries
op_uses f b i op = map (λ v. record { value = v; user = b; block = b; index = i }) (flat_map register_of (operands op))

-- the uses of the instructions of a block, behind so many of it
abbrev pub uses_from : Function → ℕ → ℕ → List Instr → List Use
uses_from f b i [] = []
uses_from f b i (instr ∷ instrs) = op_uses f b i instr.op ++ uses_from f b (suc i) instrs

-- all uses, in text order
abbrev pub uses : Function → List Use
uses f = flat_map (λ (block : Block). uses_from f block.id.0 0 block.instrs) f.blocks

-- A walk that stands in a block, behind so many of its instructions, and has entered the blocks of a list before, has
-- passed a value's definition.
abbrev pub HasPassed : Function → ℕ → List ℕ → ℕ → ℕ → Type 0
HasPassed f v before b index = (is_param f.params v ≡ true)
    ⊎ ((at : BlockId) × (i : ℕ) × (place_of f v ≡ Some (at, i)) × (Contains before at.0 ⊎ ((at.0 ≡ b) × (i < index))))

-- Some walk from the entry reaches the use and hasn't passed the definition.
abbrev pub IsBroken : Function → Use → Type 0
IsBroken f use_ = (before : List ℕ) × Trail f (use_.block ∷ before)
    × (HasPassed f use_.value before use_.block use_.index → ⊥)

-- No use of the function is broken.
abbrev pub UsesAreDefined : Function → Type 0
UsesAreDefined f = (k : ℕ) (use_ : Use) → slice_get (uses f) k ≡ Some use_ → IsBroken f use_ → ⊥

-- The first use of the function, in text order, that is broken.
pub record IsFirstBroken (f : Function) (use_ : Use) : Type 0 where
  pub at : ℕ
  pub is : slice_get (uses f) at ≡ Some use_
  pub broken : IsBroken f use_
  pub first : (k : ℕ) (other : Use) → k < at → slice_get (uses f) k ≡ Some other → IsBroken f other → ⊥
