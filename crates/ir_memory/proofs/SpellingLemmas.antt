-- How a number is read from its bytes, and its bytes are written, one after another.
use Rattle.std.proofs.Common.{◌≡◌, ℕ, suc, ◌+◌, ◌-◌, ◌*◌, ◌/◌, ◌%◌, ◌^◌, ◌<◌, ◌≤◌, List, ◌++◌, length, get_or, set, take, drop, sym, ap, arith, append_assoc, length-set}
use Rattle.std.proofs.Math.Nat.{pow-le-pow_right}
use Rattle.std.proofs.lemmas.Grind.{pow_more}
use Rattle.std.proofs.lemmas.List.{at_drop_more, take_more_set, take_all, append-nil}
use Rattle.ir_memory.specs.declared.byte.Byte.{Byte}
use Rattle.ir_memory.specs.declared.byte.Byte.TheVariants as byte
use Rattle.ir_memory.specs.Spelling.{number_of, spelled, number_bytes}

-- one more byte in front
pub spelled_more : (bytes : List Byte) (i number n : ℕ) (default : Byte) → 0 < i → i ≤ length bytes
    → number ≡ spelled (drop i bytes) → n ≡ number_of (get_or bytes (i - 1) default)
    → 256 * number + n ≡ spelled (drop (i - 1) bytes)
spelled_more bytes i number n default positive within e h =
    let below : i - 1 < length bytes = omega arith in
    let next : i - 1 + 1 ≡ i = omega arith in
    let step = at_drop_more spelled bytes (i - 1) default below in
    let same = ap (λ (k : ℕ). spelled (drop k bytes)) next in
    omega (arith, step, same, e, h)

-- and the number stays below 256 to as many as there are bytes
pub below_more_bytes : (size i number n : ℕ) → 0 < i → i ≤ size → number < 256 ^ (size - i) → n < 256
    → 256 * number + n < 256 ^ (size - (i - 1))
below_more_bytes size i number n positive within small fits =
    let next : size - (i - 1) ≡ size - i + 1 = omega arith in
    rw (next, pow_more) (omega arith)

-- up to eight bytes fit a machine's number
pub fits_more_bytes : (size i number n : ℕ) → size ≤ 8 → 0 < i → i ≤ size → number < 256 ^ (size - i) → n < 256
    → 256 * number + n < 2 ^ 64
fits_more_bytes size i number n short positive within small fits =
    let below = below_more_bytes size i number n positive within small fits in
    let most : 256 ^ (size - (i - 1)) ≤ 256 ^ 8 =
    pow-le-pow_right {n = 256} (omega arith) {i = size - (i - 1)} {j = 8} (omega arith) in
    omega (arith, below, most)

-- one more byte of a number is written
pub number_bytes_more : (bytes : List Byte) (i number rest : ℕ) → i < length bytes
    → number_bytes (length bytes) number ≡ take i bytes ++ number_bytes (length bytes - i) rest
    → number_bytes (length (set bytes i (byte.Number (rest % 256)))) number
    ≡ take (i + 1) (set bytes i (byte.Number (rest % 256)))
    ++ number_bytes (length (set bytes i (byte.Number (rest % 256))) - (i + 1)) (rest / 256)
unfolding number_bytes
number_bytes_more bytes i number rest within e =
    let next : length bytes - i ≡ suc (length bytes - (i + 1)) = omega arith in
    rw (length-set, take_more_set bytes i (byte.Number (rest % 256)) within, append_assoc) (rw next at e)

-- at the end the bytes are the number's
pub number_bytes_all : (bytes : List Byte) (i size number rest : ℕ) → length bytes ≡ size → size ≤ i
    → number_bytes (length bytes) number ≡ take i bytes ++ number_bytes (length bytes - i) rest
    → bytes ≡ number_bytes size number
unfolding number_bytes
number_bytes_all bytes i size number rest same done e =
    let none : length bytes - i ≡ 0 = omega arith in
    let whole : length bytes ≤ i = omega arith in
    rw (← same) (sym (rw (none, take_all i bytes whole, append-nil) at e))
