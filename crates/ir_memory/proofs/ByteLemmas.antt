-- What keeps a memory's bytes bytes, and what bytes spell.
use Rattle.std.proofs.Common.{◌≡◌, ℕ, zero, suc, ◌+◌, ◌/◌, ◌%◌, ◌^◌, ◌<◌, ◌≤◌, true, List, [], ◌∷◌, ◌++◌, replicate, length, take, drop, inl, inr, refl, arith}
use Rattle.std.proofs.Math.Nat.{pow-suc, pow-le-pow_right}
use Rattle.std.proofs.lemmas.Bool.{cases_Bool, cases_lt, lt-ltb, ltb-true, and_parts, and_from}
use Rattle.std.proofs.lemmas.List.{get_or_past, length-take}
use Rattle.std.proofs.lemmas.List.Elements.{All-append, All-drop, All-get_or, All-push, All-replicate, All-set, All-take}
use Rattle.std.proofs.lemmas.List.Sums.{AllPass-from_list_all, list_all-from_AllPass}
use Rattle.std.proofs.lemmas.Nat.{mod_below, pow_pos}
use Rattle.std.specs.List.{list_all, list_any}
use Rattle.ir_memory.specs.declared.byte.Byte.{Byte}
use Rattle.ir_memory.specs.declared.byte.Byte.TheVariants as byte
use Rattle.ir_memory.specs.declared.loaded.Loaded.{Loaded}
use Rattle.ir_memory.specs.declared.loaded.Loaded.TheVariants as loaded
use Rattle.ir_memory.specs.Spelling.{IsAccessWidth, FitsWidth, byte_count, is_poison, is_unwritten, number_of, spelled, number_bytes, stored_as}
use Rattle.ir_memory.specs.Memory.{Memory, is_byte, are_bytes, block_at, bytes_at, overwritten, with_block, load_of, store_of}
use Rattle.ir_memory.proofs.StoredLemmas.{whole_bytes}

-- ---- lists of bytes

-- Each member of the list is a byte.
abbrev AreBytes : List Byte → Type 0
AreBytes bytes = list_all is_byte bytes ≡ true

number_bytes-bytes : (count n : ℕ) → AreBytes (number_bytes count n)
unfolding number_bytes
number_bytes-bytes zero n = refl
number_bytes-bytes (suc count) n =
    and_from (is_byte (byte.Number (n % 256))) (list_all is_byte (number_bytes count (n / 256)))
    (lt-ltb (n % 256) 256 (mod_below n 256 (omega arith))) (number_bytes-bytes count (n / 256))

stored_as-bytes : (count : ℕ) (value : Loaded) → AreBytes (stored_as count value)
stored_as-bytes count (loaded.Number n) = number_bytes-bytes count n
stored_as-bytes count loaded.Poison =
    list_all-from_AllPass is_byte (replicate count byte.Poison)
    (All-replicate (λ (b : Byte). is_byte b ≡ true) count byte.Poison refl)

overwritten-bytes : (old : List Byte) (offset : ℕ) (bytes : List Byte) → AreBytes old → AreBytes bytes
    → AreBytes (overwritten old offset bytes)
overwritten-bytes old offset bytes before written =
    let P : Byte → Type 0 = λ b. is_byte b ≡ true in
    let each = AllPass-from_list_all is_byte old before in
    let rest = drop (offset + length bytes) old in
    list_all-from_AllPass is_byte (overwritten old offset bytes)
    (All-append P (take offset old) (bytes ++ rest) (All-take P offset old each)
    (All-append P bytes rest (AllPass-from_list_all is_byte bytes written)
    (All-drop P (offset + length bytes) old each)))

-- ---- memories

-- the bytes of a block
block_at-bytes : (memory : Memory) (block : ℕ) → are_bytes memory ≡ true → AreBytes (block_at memory block)
block_at-bytes memory block bytes =
    elim (cases_lt block (length memory)) [
      | inl within ↦
          All-get_or AreBytes memory block [] within (AllPass-from_list_all (list_all is_byte) memory bytes)
      | inr past ↦ rw (get_or_past memory block [] past) refl
    ]

bytes_at-bytes : (memory : Memory) (block offset count : ℕ) → are_bytes memory ≡ true
    → list_all is_byte (bytes_at memory block offset count) ≡ true
bytes_at-bytes memory block offset count bytes =
    let P : Byte → Type 0 = λ b. is_byte b ≡ true in
    let each = AllPass-from_list_all is_byte (block_at memory block) (block_at-bytes memory block bytes) in
    list_all-from_AllPass is_byte (bytes_at memory block offset count)
    (All-take P count (drop offset (block_at memory block)) (All-drop P offset (block_at memory block) each))

-- a new block leaves them bytes
pub with_block-bytes : (memory : Memory) (size : ℕ) → are_bytes memory ≡ true
    → are_bytes (with_block memory size) ≡ true
with_block-bytes memory size bytes =
    let block = replicate size byte.Unwritten in
    let unwritten = All-replicate (λ (b : Byte). is_byte b ≡ true) size byte.Unwritten refl in
    let new = list_all-from_AllPass is_byte block unwritten in
    list_all-from_AllPass (list_all is_byte) (with_block memory size)
    (All-push AreBytes memory block (AllPass-from_list_all (list_all is_byte) memory bytes) new)

-- so does a store
pub store_of-bytes : (memory : Memory) (block offset bits : ℕ) (value : Loaded) → are_bytes memory ≡ true
    → are_bytes (store_of memory block offset bits value) ≡ true
store_of-bytes memory block offset bits value bytes =
    let written = stored_as (byte_count bits) value in
    list_all-from_AllPass (list_all is_byte) (store_of memory block offset bits value)
    (All-set AreBytes memory block (overwritten (block_at memory block) offset written)
    (overwritten-bytes (block_at memory block) offset written (block_at-bytes memory block bytes)
    (stored_as-bytes (byte_count bits) value))
    (AllPass-from_list_all (list_all is_byte) memory bytes))

-- ---- what bytes spell

number_of-below : (one : Byte) → is_byte one ≡ true → number_of one < 256
number_of-below (byte.Number n) is = ltb-true n 256 is
number_of-below byte.Poison is = omega arith
number_of-below byte.Unwritten is = omega arith

spelled-below : (bytes : List Byte) → list_all is_byte bytes ≡ true → spelled bytes < 256 ^ length bytes
spelled-below [] are = omega arith
spelled-below (first ∷ others) are =
    let parts = and_parts (is_byte first) (list_all is_byte others) are in
    let here = number_of-below first parts.0 in
    let rest = spelled-below others parts.1 in
    rw pow-suc (omega (arith, here, rest))

-- those of an access, a number of its width
spelled_fits : (memory : Memory) (block offset bits : ℕ) → IsAccessWidth bits → are_bytes memory ≡ true
    → spelled (bytes_at memory block offset (byte_count bits)) < 2 ^ bits
spelled_fits memory block offset bits width bytes =
    let count = byte_count bits in
    let there = bytes_at memory block offset count in
    let short : length there ≤ count = omega (arith, length-take count (drop offset (block_at memory block))) in
    let most : 256 ^ length there ≤ 256 ^ count =
    pow-le-pow_right {n = 256} (omega arith) {i = length there} {j = count} short in
    let below = spelled-below there (bytes_at-bytes memory block offset count bytes) in
    omega (arith, below, most, (whole_bytes bits width).1)

-- what a load gives is of the width
pub load_of-fits : (memory : Memory) (block offset bits choice : ℕ) → IsAccessWidth bits → are_bytes memory ≡ true
    → FitsWidth bits (load_of memory block offset bits choice)
load_of-fits memory block offset bits choice width bytes =
    let there = bytes_at memory block offset (byte_count bits) in
    elim (cases_Bool (list_any is_poison there)) [
      | inl poison ↦ rw poison tt
      | inr whole ↦
          elim (cases_Bool (list_any is_unwritten there)) [
            | inl chosen ↦ rw (whole, chosen) (mod_below choice (2 ^ bits) (pow_pos bits))
            | inr written ↦
                rw (whole, written) (spelled_fits memory block offset bits width bytes)
          ]
    ]
