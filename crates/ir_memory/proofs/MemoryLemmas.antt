-- What a write into a block leaves, and what single bytes say of a load.
use Rattle.std.proofs.Common.{◌≡◌, ◌≢◌, ℕ, ◌+◌, ◌-◌, ◌^◌, ◌%◌, ◌<◌, ◌≤◌, Bool, true, false, ◌⊎◌, inl, inr, List, [], ◌++◌, length, get_or, take, drop, refl, sym, ap, ◌∙◌, arith, length-append, length-take, length-drop, get_or-set_same, get_or-set_other}
use Rattle.std.proofs.lemmas.Bool.{cases_eq}
use Rattle.std.proofs.lemmas.List.{drop-take, take-append-le, take-take, drop-drop, drop_at, take_at, length-take-le, get_or-take, get_or-drop}
use Rattle.std.proofs.lemmas.List.Folds.{list_any_at, list_any_none}
use Rattle.std.proofs.lemmas.Option.{slice_get_within, slice_get-get_or, get_or_from_slice_get}
use Rattle.std.specs.List.{list_any}
use Rattle.ir_memory.specs.declared.byte.Byte.{Byte}
use Rattle.ir_memory.specs.declared.byte.Byte.TheVariants as byte
use Rattle.ir_memory.specs.declared.loaded.Loaded.{Loaded}
use Rattle.ir_memory.specs.declared.loaded.Loaded.TheVariants as loaded
use Rattle.ir_memory.specs.Spelling.{IsAccessWidth, FitsWidth, byte_count, is_poison, is_unwritten, stored_as, loaded_from}
use Rattle.ir_memory.specs.Memory.{Memory, InBlock, AreApart, IsByteOf, block_at, bytes_at, overwritten, with_bytes, load_of, store_of}
use Rattle.ir_memory.proofs.StoredLemmas.{whole_bytes, length-stored_as, loaded_from-stored_as}

pub length-overwritten : (old : List Byte) (offset : ℕ) (bytes : List Byte) → offset + length bytes ≤ length old
    → length (overwritten old offset bytes) ≡ length old
length-overwritten old offset bytes within = simp (length-append, length-take, length-drop) (omega arith)

-- where bytes were written, they stand
pub overwritten_at : (old : List Byte) (offset : ℕ) (bytes : List Byte) (count : ℕ) → offset ≤ length old
    → length bytes ≡ count → take count (drop offset (overwritten old offset bytes)) ≡ bytes
overwritten_at old offset bytes count within same =
    rw (drop_at (take offset old) (bytes ++ drop (offset + length bytes) old) offset (length-take-le offset old within))
    (take_at bytes (drop (offset + length bytes) old) count same)

-- before them nothing changes
pub overwritten_before : (old : List Byte) (offset : ℕ) (bytes : List Byte) (place count : ℕ) → offset ≤ length old
    → place + count ≤ offset → take count (drop place (overwritten old offset bytes)) ≡ take count (drop place old)
overwritten_before old offset bytes place count within before =
    let rest = bytes ++ drop (offset + length bytes) old in
    let front : place + count ≤ length (take offset old) = rw (length-take-le offset old within) before in
    let end = place + count in
    let same = take-append-le end (take offset old) rest front ∙ take-take end offset old before in
    sym (drop-take place count (overwritten old offset bytes)) ∙ ap (λ (xs : List Byte). drop place xs) same
    ∙ drop-take place count old

-- behind them nothing changes
pub overwritten_after : (old : List Byte) (offset : ℕ) (bytes : List Byte) (place : ℕ) → offset ≤ length old
    → offset + length bytes ≤ place → drop place (overwritten old offset bytes) ≡ drop place old
overwritten_after old offset bytes place within after =
    let end = offset + length bytes in
    let more = place - end in
    let there : end + more ≡ place = omega arith in
    let front = drop_at (take offset old) (bytes ++ drop end old) offset (length-take-le offset old within) in
    let behind : drop end (overwritten old offset bytes) ≡ drop end old =
    sym (drop-drop (length bytes) offset (overwritten old offset bytes))
    ∙ rw front (drop_at bytes (drop end old) (length bytes) refl) in
    rw (← there, ← drop-drop more end (overwritten old offset bytes), behind)
    (drop-drop more end old)

-- the block that is written
pub block_at-same : (memory : Memory) (block : ℕ) (offset : ℕ) (bytes : List Byte) → block < length memory
    → block_at (with_bytes memory block offset bytes) block ≡ overwritten (block_at memory block) offset bytes
block_at-same memory block offset bytes within =
    get_or-set_same memory block (overwritten (block_at memory block) offset bytes) [] within

-- any other block
pub block_at-other : (memory : Memory) (block : ℕ) (offset : ℕ) (bytes : List Byte) (other : ℕ) → block ≢ other
    → block_at (with_bytes memory block offset bytes) other ≡ block_at memory other
block_at-other memory block offset bytes other apart =
    get_or-set_other memory block other (overwritten (block_at memory block) offset bytes) [] (λ e. apart (sym e))

pub stored_is_loaded : (memory : Memory) (block offset bits choice : ℕ) (value : Loaded) → IsAccessWidth bits
    → FitsWidth bits value → InBlock memory block offset (byte_count bits)
    → load_of (store_of memory block offset bits value) block offset bits choice ≡ value
stored_is_loaded memory block offset bits choice value width fits inside =
    let count = byte_count bits in
    let bytes = stored_as count value in
    let whole = whole_bytes bits width in
    let there : bytes_at (store_of memory block offset bits value) block offset count ≡ bytes =
    ap (λ (xs : List Byte). take count (drop offset xs)) (block_at-same memory block offset bytes inside.0)
    ∙ overwritten_at (block_at memory block) offset bytes count (omega arith) (length-stored_as count value) in
    ap (λ (xs : List Byte). loaded_from xs bits choice) there
    ∙ loaded_from-stored_as count bits choice value whole.0 whole.1 fits

-- blocks keep their sizes
pub sizes_stay : (memory : Memory) (block offset count : ℕ) (bytes : List Byte) → length bytes ≡ count
    → InBlock memory block offset count → (other : ℕ)
    → length (block_at (with_bytes memory block offset bytes) other) ≡ length (block_at memory other)
sizes_stay memory block offset count bytes same inside other =
    elim (cases_eq block other) [
      | inl e ↦
          rw (← e, block_at-same memory block offset bytes inside.0)
          (length-overwritten (block_at memory block) offset bytes (omega arith))
      | inr apart ↦ ap (λ (xs : List Byte). length xs) (block_at-other memory block offset bytes other apart)
    ]

-- bytes of another block stay
bytes_of_other : (memory : Memory) (block offset : ℕ) (bytes : List Byte) (other place count : ℕ) → block ≢ other
    → bytes_at (with_bytes memory block offset bytes) other place count ≡ bytes_at memory other place count
bytes_of_other memory block offset bytes other place count apart =
    ap (λ (xs : List Byte). take count (drop place xs)) (block_at-other memory block offset bytes other apart)

-- bytes of the same block stay, before and behind
bytes_of_same : (memory : Memory) (block offset size : ℕ) (bytes : List Byte) → length bytes ≡ size
    → InBlock memory block offset size → (place count : ℕ) → (offset + size ≤ place) ⊎ (place + count ≤ offset)
    → bytes_at (with_bytes memory block offset bytes) block place count ≡ bytes_at memory block place count
bytes_of_same memory block offset size bytes same inside place count (inl after) =
    rw (block_at-same memory block offset bytes inside.0)
    (ap (λ (xs : List Byte). take count xs)
    (overwritten_after (block_at memory block) offset bytes place (omega arith) (omega arith)))
bytes_of_same memory block offset size bytes same inside place count (inr before) =
    rw (block_at-same memory block offset bytes inside.0)
    (overwritten_before (block_at memory block) offset bytes place count (omega arith) before)

-- bytes elsewhere stay
pub bytes_stay : (memory : Memory) (block offset size : ℕ) (bytes : List Byte) → length bytes ≡ size
    → InBlock memory block offset size → (other place count : ℕ) → AreApart block offset size other place count
    → bytes_at (with_bytes memory block offset bytes) other place count ≡ bytes_at memory other place count
bytes_stay memory block offset size bytes same inside other place count (inl apart) =
    bytes_of_other memory block offset bytes other place count apart
bytes_stay memory block offset size bytes same inside other place count (inr apart) =
    elim (cases_eq block other) [
      | inl e ↦ rw (← e) (bytes_of_same memory block offset size bytes same inside place count apart)
      | inr differ ↦ bytes_of_other memory block offset bytes other place count differ
    ]

-- a byte among those of a load, in its block
pub byte_of_load : (memory : Memory) (block offset count k : ℕ) (default : Byte)
    → k < length (bytes_at memory block offset count)
    → IsByteOf memory block (offset + k) (get_or (bytes_at memory block offset count) k default) × (k < count)
byte_of_load memory block offset count k default within =
    let old = block_at memory block in
    let short : k < count = omega (arith, length-take count (drop offset old), within) in
    let inside : offset + k < length old =
    omega (arith, length-take count (drop offset old), length-drop offset old, within) in
    let same = get_or-take count (drop offset old) k default short ∙ get_or-drop offset old k default in
    (rw same (slice_get-get_or old (offset + k) default inside), short)

-- a byte of a block, among those of a load
pub load_of_byte : (memory : Memory) (block offset count i : ℕ) (one default : Byte) → offset ≤ i → i < offset + count
    → IsByteOf memory block i one
    → (i - offset < length (bytes_at memory block offset count))
    × (get_or (bytes_at memory block offset count) (i - offset) default ≡ one)
load_of_byte memory block offset count i one default from to there =
    let old = block_at memory block in
    let inside : i < length old = slice_get_within old i one there in
    let place : offset + (i - offset) ≡ i = omega arith in
    let short : i - offset < count = omega arith in
    let same =
    get_or-take count (drop offset old) (i - offset) default short
    ∙ get_or-drop offset old (i - offset) default ∙ ap (λ (k : ℕ). get_or old k default) place in (
      omega (arith, length-take count (drop offset old), length-drop offset old),
      same ∙ get_or_from_slice_get old i one default there,
    )

-- one byte of a load that passes a test
pub any_of_load : (test : Byte → Bool) (memory : Memory) (block offset count i : ℕ) (one : Byte) → offset ≤ i
    → i < offset + count → IsByteOf memory block i one → test one ≡ true
    → list_any test (bytes_at memory block offset count) ≡ true
any_of_load test memory block offset count i one from to there passes =
    let found = load_of_byte memory block offset count i one one from to there in
    list_any_at test (bytes_at memory block offset count) (i - offset) one found.0 (ap test found.1 ∙ passes)

-- a byte is poison, or the test says that it isn't
poison_or_not : (one : Byte) → (one ≡ byte.Poison) ⊎ (is_poison one ≡ false)
poison_or_not (byte.Number n) = inr refl
poison_or_not byte.Poison = inl refl
poison_or_not byte.Unwritten = inr refl

-- no byte of a load is poison
no_poison : (memory : Memory) (block offset count : ℕ)
    → ((k : ℕ) → offset ≤ k → k < offset + count → IsByteOf memory block k byte.Poison → ⊥)
    → list_any is_poison (bytes_at memory block offset count) ≡ false
no_poison memory block offset count none =
    list_any_none is_poison (bytes_at memory block offset count) (λ k default within.
    let found = byte_of_load memory block offset count k default within in
    elim (poison_or_not (get_or (bytes_at memory block offset count) k default)) [
      | inl e ↦ absurd (none (offset + k) (omega arith) (omega arith) (rw e at found.0))
      | inr e ↦ e
    ])

pub poison_is_loaded : (memory : Memory) (block offset bits choice i : ℕ) → offset ≤ i → i < offset + byte_count bits
    → IsByteOf memory block i byte.Poison → load_of memory block offset bits choice ≡ loaded.Poison
poison_is_loaded memory block offset bits choice i from to there =
    rw (any_of_load is_poison memory block offset (byte_count bits) i byte.Poison from to there refl)

pub choice_is_loaded : (memory : Memory) (block offset bits choice i : ℕ)
    → ((k : ℕ) → offset ≤ k → k < offset + byte_count bits → IsByteOf memory block k byte.Poison → ⊥) → offset ≤ i
    → i < offset + byte_count bits → IsByteOf memory block i byte.Unwritten
    → load_of memory block offset bits choice ≡ loaded.Number (choice % 2 ^ bits)
choice_is_loaded memory block offset bits choice i none from to there =
    let count = byte_count bits in
    let unwritten = any_of_load is_unwritten memory block offset count i byte.Unwritten from to there refl in
    rw (no_poison memory block offset count none, unwritten)
