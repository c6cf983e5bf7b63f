-- What the bytes that a value is stored as give to a load.
use Rattle.std.proofs.Common.{◌≡◌, ℕ, zero, suc, ◌+◌, ◌*◌, ◌/◌, ◌%◌, ◌^◌, ◌<◌, false, inl, inr, List, [], ◌∷◌, length, get_or, refl, ap, arith}
use Rattle.std.proofs.Math.Nat.{pow-suc}
use Rattle.std.proofs.lemmas.List.{length-replicate}
use Rattle.std.proofs.lemmas.Nat.{div_below, mod_below}
use Rattle.std.specs.List.{list_any}
use Rattle.ir_memory.specs.declared.byte.Byte.{Byte}
use Rattle.ir_memory.specs.declared.byte.Byte.TheVariants as byte
use Rattle.ir_memory.specs.declared.loaded.Loaded.{Loaded}
use Rattle.ir_memory.specs.declared.loaded.Loaded.TheVariants as loaded
use Rattle.ir_memory.specs.Spelling.{IsAccessWidth, IsNumber, FitsWidth, byte_count, is_poison, is_unwritten, spelled, number_bytes, stored_as, loaded_from}

-- each of the four widths is some whole bytes
pub whole_bytes : (bits : ℕ) → IsAccessWidth bits → (0 < byte_count bits) × (256 ^ byte_count bits ≡ 2 ^ bits)
whole_bytes bits (inl e) = rw e (omega arith, refl)
whole_bytes bits (inr (inl e)) = rw e (omega arith, refl)
whole_bytes bits (inr (inr (inl e))) = rw e (omega arith, refl)
whole_bytes bits (inr (inr (inr e))) = rw e (omega arith, refl)

pub length-number_bytes : (count n : ℕ) → length (number_bytes count n) ≡ count
unfolding number_bytes
length-number_bytes zero n = refl
length-number_bytes (suc count) n = ap suc (length-number_bytes count (n / 256))

pub length-stored_as : (count : ℕ) (value : Loaded) → length (stored_as count value) ≡ count
length-stored_as count (loaded.Number n) = length-number_bytes count n
length-stored_as count loaded.Poison = length-replicate count byte.Poison

-- each byte of a number is a number below 256
pub number_bytes-numbers : (count n k : ℕ) (default : Byte) → k < length (number_bytes count n)
    → IsNumber (get_or (number_bytes count n) k default)
unfolding number_bytes
number_bytes-numbers zero n k default within = absurd (omega arith)
number_bytes-numbers (suc count) n zero default within = mod_below n 256 (omega arith)
number_bytes-numbers (suc count) n (suc k) default within =
    number_bytes-numbers count (n / 256) k default (omega arith)

pub is_poison-number_bytes : (count n : ℕ) → list_any is_poison (number_bytes count n) ≡ false
unfolding number_bytes
is_poison-number_bytes zero n = refl
is_poison-number_bytes (suc count) n = is_poison-number_bytes count (n / 256)

pub is_unwritten-number_bytes : (count n : ℕ) → list_any is_unwritten (number_bytes count n) ≡ false
unfolding number_bytes
is_unwritten-number_bytes zero n = refl
is_unwritten-number_bytes (suc count) n = is_unwritten-number_bytes count (n / 256)

pub spelled-number_bytes : (count n : ℕ) → n < 256 ^ count → spelled (number_bytes count n) ≡ n
unfolding number_bytes
spelled-number_bytes zero n fits = omega arith
spelled-number_bytes (suc count) n fits =
    let rest : n / 256 < 256 ^ count = div_below n 256 (256 ^ count) (omega arith) (rw pow-suc at fits) in
    omega (arith, spelled-number_bytes count (n / 256) rest)

-- bytes that are numbers are the bytes of the number that they spell
pub number_bytes-spelled : (bytes : List Byte)
    → ((k : ℕ) (default : Byte) → k < length bytes → IsNumber (get_or bytes k default))
    → bytes ≡ number_bytes (length bytes) (spelled bytes)
unfolding number_bytes
number_bytes-spelled [] numbers = refl
number_bytes-spelled (byte.Number n ∷ bytes) numbers =
    let first : n < 256 = numbers 0 byte.Poison (omega arith) in
    let low : (n + 256 * spelled bytes) % 256 ≡ n = omega arith in
    let high : (n + 256 * spelled bytes) / 256 ≡ spelled bytes = omega arith in
    let rest = number_bytes-spelled bytes (λ k default within. numbers (suc k) default (omega arith)) in
    rw (low, high) (ap (λ (others : List Byte). byte.Number n ∷ others) rest)
number_bytes-spelled (byte.Poison ∷ bytes) numbers = absurd (numbers 0 byte.Poison (omega arith))
number_bytes-spelled (byte.Unwritten ∷ bytes) numbers =
    absurd (numbers 0 byte.Poison (omega arith))

-- what was stored is read again
pub loaded_from-stored_as : (count bits choice : ℕ) (value : Loaded) → 0 < count → 256 ^ count ≡ 2 ^ bits
    → FitsWidth bits value → loaded_from (stored_as count value) bits choice ≡ value
loaded_from-stored_as count bits choice (loaded.Number n) some same fits =
    let small : n < 256 ^ count = rw same fits in
    rw
    (is_poison-number_bytes count n, is_unwritten-number_bytes count n, spelled-number_bytes count n small)
loaded_from-stored_as zero bits choice loaded.Poison some same fits = absurd (omega arith)
loaded_from-stored_as (suc count) bits choice loaded.Poison some same fits = refl
