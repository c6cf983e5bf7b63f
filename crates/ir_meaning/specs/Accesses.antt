-- What instructions do to memory, row by row (LLVM Language Reference, "Memory Access and Addressing Operations").
use Rattle.std.specs.Prelude.{ℕ, ◌==◌, Bool, not, ◌&&◌, nat_le, if◌then◌else◌, List, [], ◌∷◌, length, Option, Some}
use Rattle.std.specs.Prelude.{None, option_map, option_and_then}
use Rattle.scev_base.specs.Residue.{residue, reading}
use Rattle.ir_model.specs.declared.types.IrType.{IrType}
use Rattle.ir_model.specs.declared.types.IrType.TheVariants.{Int, Array}
use Rattle.ir_model.specs.declared.op.TypedOperand.{TypedOperand}
use Rattle.ir_rules.specs.Limits.{int_size, array_size}
use Rattle.ir_memory.specs.declared.loaded.Loaded.{Loaded}
use Rattle.ir_memory.specs.declared.loaded.Loaded.TheVariants as loaded
use Rattle.ir_memory.specs.Spelling.{byte_count}
use Rattle.ir_memory.specs.Memory.{Memory, block_at, with_block, is_in_block, load_of, store_of}
use Rattle.ir_memory.specs.Offset.{offset_from}
use Rattle.ir_meaning.specs.declared.value.Value.{Value}
use Rattle.ir_meaning.specs.declared.value.Value.TheVariants as value
use Rattle.ir_meaning.specs.Phases as phase
use Rattle.ir_meaning.specs.State.{Registers}
use Rattle.ir_meaning.specs.Operands.{operand_value}
use Rattle.ir_meaning.specs.Effects.{Effect, Goes, Ends}

-- ---- blocks

-- the bytes of what stands in memory
abbrev pub type_size : IrType → ℕ
type_size (Int w) = int_size w
type_size (Array dims w) = array_size dims w
type_size _ = 0

-- `alloca`: a pointer to a new last block of the type's size, in which nothing is written
abbrev pub allocated : Memory → IrType → Effect
allocated memory kind = Goes (Some (value.Pointer (length memory) 0)) (with_block memory (type_size kind)) []

-- ---- loads and stores

abbrev pub value_loaded : Loaded → Value
value_loaded (loaded.Number n) = value.Number n
value_loaded loaded.Poison = value.Poison

abbrev pub value_stored : Value → Loaded
value_stored (value.Number n) = loaded.Number n
value_stored _ = loaded.Poison

-- `load` at a pointer, of w bits, with the chosen number; undefined at null and poison, and where a byte isn't in the
-- block
abbrev pub loaded_at : Memory → ℕ → ℕ → Value → Effect
loaded_at memory w n (value.Pointer block offset) =
    if is_in_block memory block offset (byte_count w)
    then Goes (Some (value_loaded (load_of memory block offset w n))) memory []
    else Ends phase.Undefined
loaded_at memory w n _ = Ends phase.Undefined

-- `store` of a value of w bits at a pointer; undefined where a load is
abbrev pub stored_at : Memory → ℕ → Value → Value → Effect
stored_at memory w x (value.Pointer block offset) =
    if is_in_block memory block offset (byte_count w)
    then Goes None (store_of memory block offset w (value_stored x)) []
    else Ends phase.Undefined
stored_at memory w x _ = Ends phase.Undefined

-- ---- addresses

-- how many bytes each index of a type steps: the first one the whole type, each further one what stands in one
-- dimension less
abbrev pub steps_within : List ℕ → ℕ → List ℕ
steps_within [] w = []
steps_within (dim ∷ dims) w = array_size dims w ∷ steps_within dims w

abbrev pub index_steps : IrType → List ℕ
index_steps (Int w) = int_size w ∷ []
index_steps (Array dims w) = array_size dims w ∷ steps_within dims w
index_steps _ = []

-- an index of w bits, read as signed and brought to 64 bits
abbrev pub widened : ℕ → Value → Value
widened w (value.Number n) = value.Number (residue 64 (reading w n))
widened w x = x

abbrev pub index_value : Registers → ℕ → TypedOperand → IrType → Option Value
index_value registers n typed (Int w) = option_map (widened w) (operand_value registers n (Int w) typed.value)
index_value registers n typed _ = None

-- the values of all indices; none where one of them has none
abbrev pub index_values : Registers → ℕ → List TypedOperand → Option (List Value)
index_values registers n [] = Some []
index_values registers n (typed ∷ more) =
    option_and_then (λ x. option_map (λ xs. x ∷ xs) (index_values registers n more))
    (index_value registers n typed typed.kind)

-- each index with the bytes that it steps; none where one is poison
abbrev pub parts_of : List ℕ → List Value → Option (List (ℕ × ℕ))
parts_of (step ∷ steps) (value.Number k ∷ more) = option_map (λ parts. (k, step) ∷ parts) (parts_of steps more)
parts_of (step ∷ steps) (_ ∷ more) = None
parts_of _ _ = Some []

-- The address so far from a base, modulo 2^64. With `inbounds` it is poison where it leaves 0 to the block's size, and
-- at null where it isn't null. Without, every address at null is null.
abbrev pub address_at : Memory → Bool → Value → List (ℕ × ℕ) → Value
address_at memory inbounds (value.Pointer block offset) parts =
    if inbounds && not (nat_le (offset_from offset parts) (length (block_at memory block))) then value.Poison
    else value.Pointer block (offset_from offset parts)
address_at memory inbounds value.Null parts =
    if inbounds && not (offset_from 0 parts == 0) then value.Poison else value.Null
address_at memory inbounds _ parts = value.Poison

abbrev pub address_by : Memory → Bool → Value → Option (List (ℕ × ℕ)) → Value
address_by memory inbounds base None = value.Poison
address_by memory inbounds base (Some parts) = address_at memory inbounds base parts

-- `getelementptr` of a type, at a base, with its indices brought to 64 bits
abbrev pub addressed : Memory → Bool → IrType → Value → List Value → Effect
addressed memory inbounds kind base indices =
    Goes (Some (address_by memory inbounds base (parts_of (index_steps kind) indices))) memory []
