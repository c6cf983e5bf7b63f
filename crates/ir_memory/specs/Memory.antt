-- The memory of a program: a list of blocks, each a list of bytes.
use Rattle.std.specs.Prelude.{◌≡◌, ◌≢◌, ℕ, ◌+◌, ◌<◌, ◌≤◌, ◌⊎◌, Bool, true, false, ◌&&◌, ◌==◌, nat_lt, nat_le, List, [], ◌∷◌, ◌++◌, replicate, Some, slice_get, length, take, drop, slice_index_or, slice_set}
use Rattle.std.specs.List.{list_all}
use Rattle.ir_memory.specs.declared.byte.Byte.{Byte}
use Rattle.ir_memory.specs.declared.byte.Byte.TheVariants as byte
use Rattle.ir_memory.specs.declared.loaded.Loaded.{Loaded}
use Rattle.ir_memory.specs.Spelling.{byte_count, loaded_from, stored_as}

-- a memory, block by block
abbrev pub Memory : Type 0
Memory = List (List Byte)

-- the bytes of a block; none where there is no such block
abbrev pub block_at : Memory → ℕ → List Byte
block_at memory block = slice_index_or memory block []

-- There is such a block, and so many bytes from the offset on are all in it.
abbrev pub InBlock : Memory → ℕ → ℕ → ℕ → Type 0
InBlock memory block offset count =
    (block < length memory) × (offset + count ≤ length (block_at memory block))

abbrev pub is_in_block : Memory → ℕ → ℕ → ℕ → Bool
is_in_block memory block offset count =
    nat_lt block (length memory) && nat_le (offset + count) (length (block_at memory block))

-- whether each byte is a number below 256, poison or unwritten
abbrev pub is_byte : Byte → Bool
is_byte (byte.Number n) = nat_lt n 256
is_byte byte.Poison = true
is_byte byte.Unwritten = true

abbrev pub are_bytes : Memory → Bool
are_bytes memory = list_all (list_all is_byte) memory

-- whether two memories have blocks of the same sizes
abbrev pub same_sizes : Memory → Memory → Bool
same_sizes [] [] = true
same_sizes (block ∷ blocks) (other ∷ others) = (length block == length other) && same_sizes blocks others
same_sizes _ _ = false

-- so many bytes of a block from the offset on
abbrev pub bytes_at : Memory → ℕ → ℕ → ℕ → List Byte
bytes_at memory block offset count = take count (drop offset (block_at memory block))

-- a list with these bytes in place of its own from the offset on
abbrev pub overwritten : List Byte → ℕ → List Byte → List Byte
overwritten old offset bytes = take offset old ++ (bytes ++ drop (offset + length bytes) old)

-- the memory with these bytes in a block from the offset on
abbrev pub with_bytes : Memory → ℕ → ℕ → List Byte → Memory
with_bytes memory block offset bytes =
    slice_set memory block (overwritten (block_at memory block) offset bytes)

-- the memory with a last block of so many bytes that nothing wrote
abbrev pub with_block : Memory → ℕ → Memory
with_block memory size = memory ++ replicate size byte.Unwritten ∷ []

-- what a load gives, at a block, an offset and a width in bits, with the choice
abbrev pub load_of : Memory → ℕ → ℕ → ℕ → ℕ → Loaded
load_of memory block offset bits choice =
    loaded_from (bytes_at memory block offset (byte_count bits)) bits choice

-- the memory after a store of the value, at a block, an offset and a width in bits
abbrev pub store_of : Memory → ℕ → ℕ → ℕ → Loaded → Memory
store_of memory block offset bits value =
    with_bytes memory block offset (stored_as (byte_count bits) value)

-- A byte of a block is this one.
abbrev pub IsByteOf : Memory → ℕ → ℕ → Byte → Type 0
IsByteOf memory block i one = slice_get (block_at memory block) i ≡ Some one

-- So many bytes of a block from the offset on, and so many of another block or the same from the place
-- on, have none in common.
abbrev pub AreApart : ℕ → ℕ → ℕ → ℕ → ℕ → ℕ → Type 0
AreApart block offset size other place count =
    (block ≢ other) ⊎ (offset + size ≤ place) ⊎ (place + count ≤ offset)
