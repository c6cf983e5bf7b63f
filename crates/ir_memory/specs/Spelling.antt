-- What bytes of memory spell, and which bytes a value is stored as.
use Rattle.std.specs.Prelude.{◌≡◌, ℕ, zero, suc, ◌+◌, ◌*◌, ◌/◌, ◌%◌, ◌^◌, ◌<◌, Bool, true, false, if◌then◌else◌, List, [], ◌∷◌, replicate, ◌⊎◌}
use Rattle.std.specs.List.{list_any}
use Rattle.ir_memory.specs.declared.byte.Byte.{Byte}
use Rattle.ir_memory.specs.declared.byte.Byte.TheVariants as byte
use Rattle.ir_memory.specs.declared.loaded.Loaded.{Loaded}
use Rattle.ir_memory.specs.declared.loaded.Loaded.TheVariants as loaded

-- a width of loads and stores, in bits
abbrev pub IsAccessWidth : ℕ → Type 0
IsAccessWidth bits = (bits ≡ 8) ⊎ (bits ≡ 16) ⊎ (bits ≡ 32) ⊎ (bits ≡ 64)

-- how many bytes a width takes
abbrev pub byte_count : ℕ → ℕ
byte_count bits = bits / 8

-- whether a byte is poison
abbrev pub is_poison : Byte → Bool
is_poison (byte.Number n) = false
is_poison byte.Poison = true
is_poison byte.Unwritten = false

-- whether nothing wrote the byte
abbrev pub is_unwritten : Byte → Bool
is_unwritten (byte.Number n) = false
is_unwritten byte.Poison = false
is_unwritten byte.Unwritten = true

-- the number of a byte, and 0 for a byte that holds none
abbrev pub number_of : Byte → ℕ
number_of (byte.Number n) = n
number_of byte.Poison = 0
number_of byte.Unwritten = 0

-- The number that bytes spell: the first counts 1, the next 256, and each further one 256 times the
-- one before.
abbrev pub spelled : List Byte → ℕ
spelled [] = 0
spelled (first ∷ others) = number_of first + 256 * spelled others

-- What bytes give to a load: poison if one of them is poison; else, if nothing wrote one of them, the
-- choice as a whole, cut to the width; else the number that they spell.
abbrev pub loaded_from : List Byte → ℕ → ℕ → Loaded
loaded_from bytes bits choice =
    if list_any is_poison bytes then loaded.Poison
    else (
    if list_any is_unwritten bytes then loaded.Number (choice % 2 ^ bits)
    else loaded.Number (spelled bytes))

-- the lowest bytes of a number, so many, the lowest first
unfoldable pub number_bytes : ℕ → ℕ → List Byte
number_bytes zero n = []
number_bytes (suc count) n = byte.Number (n % 256) ∷ number_bytes count (n / 256)

-- the bytes, so many, that a value is stored as
abbrev pub stored_as : ℕ → Loaded → List Byte
stored_as count (loaded.Number n) = number_bytes count n
stored_as count loaded.Poison = replicate count byte.Poison

-- The value is poison, or a number of the width.
abbrev pub FitsWidth : ℕ → Loaded → Type 0
FitsWidth bits (loaded.Number n) = n < 2 ^ bits
FitsWidth bits loaded.Poison = Unit {0}

-- The byte holds a number, which is below 256.
abbrev pub IsNumber : Byte → Type 0
IsNumber (byte.Number n) = n < 256
IsNumber byte.Poison = ⊥
IsNumber byte.Unwritten = ⊥
