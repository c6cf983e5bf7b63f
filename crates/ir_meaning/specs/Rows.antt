-- What instructions give to numbers of w bits, row by row (LLVM Language Reference, "Instruction Reference").
use Rattle.std.specs.Prelude.{ℕ, ◌+◌, ◌-◌, ◌*◌, ◌/◌, ◌%◌, ◌^◌, ◌==◌, Bool, true, false, not, ◌&&◌, ◌||◌, if◌then◌else◌}
use Rattle.std.specs.Prelude.{nat_lt, nat_le, Option, Some, None, ℤ, pos, neg_ℤ, ◌+ℤ◌, ◌*ℤ◌, int_lt, int_le, int_div}
use Rattle.std.specs.Prelude.{int_rem, bit_and, bit_or, bit_xor}
use Rattle.std.specs.Int.{int_div_euclid}
use Rattle.scev_base.specs.Residue.{residue, reading}
use Rattle.scev_base.specs.declared.pred.Pred.{Pred}
use Rattle.scev_base.specs.declared.pred.Pred.TheVariants as pred
use Rattle.ir_model.specs.declared.min_max.MinMax.{MinMax}
use Rattle.ir_model.specs.declared.min_max.MinMax.TheVariants.{Umin, Umax, Smin, Smax}
use Rattle.ir_model.specs.declared.op.BinOp.{BinOp}
use Rattle.ir_model.specs.declared.op.BinOp.TheVariants as binary
use Rattle.ir_model.specs.declared.op.CastOp.{CastOp}
use Rattle.ir_model.specs.declared.op.CastOp.TheVariants as cast
use Rattle.ir_meaning.specs.declared.value.Value.{Value}
use Rattle.ir_meaning.specs.declared.value.Value.TheVariants as value

-- poison where an operand is; else what two numbers give
abbrev pub on_numbers : (ℕ → ℕ → Value) → Value → Value → Value
on_numbers row (value.Number a) (value.Number b) = row a b
on_numbers row _ _ = value.Poison

-- whether an unsigned result needs more than w bits
abbrev pub wraps_unsigned : ℕ → ℕ → Bool
wraps_unsigned w n = nat_le (2 ^ w) n

-- whether a signed result isn't from -2^(w-1) to 2^(w-1) - 1
abbrev pub wraps_signed : ℕ → ℤ → Bool
wraps_signed w z = int_lt z (neg_ℤ (pos (2 ^ (w - 1)))) || int_le (pos (2 ^ (w - 1))) z

-- `add`: the sum modulo 2^w; poison where `nuw` or `nsw` is given and the sum wraps so
abbrev pub added : ℕ → Bool → Bool → ℕ → ℕ → Value
added w nuw nsw a b =
    if (nuw && wraps_unsigned w (a + b)) || (nsw && wraps_signed w (reading w a +ℤ reading w b)) then value.Poison
    else value.Number ((a + b) % 2 ^ w)

-- `sub`: the difference modulo 2^w; poison where `nuw` is given and it is below 0, or `nsw` and it wraps
abbrev pub subtracted : ℕ → Bool → Bool → ℕ → ℕ → Value
subtracted w nuw nsw a b =
    if (nuw && nat_lt a b) || (nsw && wraps_signed w (reading w a +ℤ neg_ℤ (reading w b))) then value.Poison
    else value.Number ((a + (2 ^ w - b)) % 2 ^ w)

-- `mul`: the product modulo 2^w; poison where `nuw` or `nsw` is given and the product wraps so
abbrev pub multiplied : ℕ → Bool → Bool → ℕ → ℕ → Value
multiplied w nuw nsw a b =
    if (nuw && wraps_unsigned w (a * b)) || (nsw && wraps_signed w (reading w a *ℤ reading w b)) then value.Poison
    else value.Number ((a * b) % 2 ^ w)

-- `shl` by b: the product with 2^b modulo 2^w; poison where b is at least w, where `nuw` is given and a set bit leaves,
-- and where `nsw` is given and a bit that leaves differs from the new sign, so that the signed product doesn't fit
abbrev pub shifted_left : ℕ → Bool → Bool → ℕ → ℕ → Value
shifted_left w nuw nsw a b =
    if nat_le w b || ((nuw && wraps_unsigned w (a * 2 ^ b)) || (nsw && wraps_signed w (reading w a *ℤ pos (2 ^ b))))
    then value.Poison else value.Number ((a * 2 ^ b) % 2 ^ w)

-- `lshr` and `ashr` by b: the quotient by 2^b, rounded down, of the number and of its signed reading; poison where b is
-- at least w, and where `exact` is given and a set bit leaves
abbrev pub leaves_set_bit : ℕ → ℕ → Bool
leaves_set_bit a b = not (a % 2 ^ b == 0)

abbrev pub shifted_right : ℕ → Bool → ℕ → ℕ → Value
shifted_right w exact a b =
    if nat_le w b || (exact && leaves_set_bit a b) then value.Poison else value.Number (a / 2 ^ b)

abbrev pub shifted_signed : ℕ → Bool → ℕ → ℕ → Value
shifted_signed w exact a b =
    if nat_le w b || (exact && leaves_set_bit a b) then value.Poison
    else value.Number (residue w (int_div_euclid (reading w a) (pos (2 ^ b))))

-- `udiv` and `urem` by a divisor that isn't 0; poison where `exact` is given and there is a remainder
abbrev pub divided : Bool → ℕ → ℕ → Value
divided exact a b = if exact && not (a % b == 0) then value.Poison else value.Number (a / b)

abbrev pub remainder : ℕ → ℕ → Value
remainder a b = value.Number (a % b)

-- `sdiv` and `srem`: the quotient of the signed readings, rounded towards 0, and what it leaves
abbrev pub divided_signed : ℕ → Bool → ℕ → ℕ → Value
divided_signed w exact a b =
    if exact && not (residue w (int_rem (reading w a) (reading w b)) == 0) then value.Poison
    else value.Number (residue w (int_div (reading w a) (reading w b)))

abbrev pub remainder_signed : ℕ → ℕ → ℕ → Value
remainder_signed w a b = value.Number (residue w (int_rem (reading w a) (reading w b)))

-- `and`, `or` and `xor`, bit by bit; poison where `disjoint` is given and both have a set bit
abbrev pub conjoined : ℕ → ℕ → Value
conjoined a b = value.Number (bit_and a b)

abbrev pub disjoined : Bool → ℕ → ℕ → Value
disjoined disjoint a b = if disjoint && not (bit_and a b == 0) then value.Poison else value.Number (bit_or a b)

abbrev pub exclusive : ℕ → ℕ → Value
exclusive a b = value.Number (bit_xor a b)

-- A division by 0 or by poison is undefined.
abbrev pub by_divisor : (ℕ → ℕ → Value) → Value → Value → Option Value
by_divisor row x (value.Number b) = if b == 0 then None else Some (on_numbers row x (value.Number b))
by_divisor row x _ = None

-- A signed one by -1 is, too, for the least number, and for poison, which may stand for it.
abbrev pub may_be_least : ℕ → Value → Bool
may_be_least w (value.Number a) = a == 2 ^ (w - 1)
may_be_least w value.Poison = true
may_be_least w _ = false

abbrev pub is_minus_one : ℕ → Value → Bool
is_minus_one w (value.Number b) = b == 2 ^ w - 1
is_minus_one w _ = false

abbrev pub by_signed_divisor : ℕ → (ℕ → ℕ → Value) → Value → Value → Option Value
by_signed_divisor w row x y = if is_minus_one w y && may_be_least w x then None else by_divisor row x y

-- an operation of two operands of w bits, with its flags `nuw`, `nsw`, `exact` and `disjoint`; none where the behaviour
-- is undefined
abbrev pub binary_row : BinOp → Bool → Bool → Bool → Bool → ℕ → Value → Value → Option Value
binary_row binary.Add nuw nsw exact disjoint w x y = Some (on_numbers (added w nuw nsw) x y)
binary_row binary.Sub nuw nsw exact disjoint w x y = Some (on_numbers (subtracted w nuw nsw) x y)
binary_row binary.Mul nuw nsw exact disjoint w x y = Some (on_numbers (multiplied w nuw nsw) x y)
binary_row binary.Shl nuw nsw exact disjoint w x y = Some (on_numbers (shifted_left w nuw nsw) x y)
binary_row binary.Udiv nuw nsw exact disjoint w x y = by_divisor (divided exact) x y
binary_row binary.Sdiv nuw nsw exact disjoint w x y = by_signed_divisor w (divided_signed w exact) x y
binary_row binary.Lshr nuw nsw exact disjoint w x y = Some (on_numbers (shifted_right w exact) x y)
binary_row binary.Ashr nuw nsw exact disjoint w x y = Some (on_numbers (shifted_signed w exact) x y)
binary_row binary.Urem nuw nsw exact disjoint w x y = by_divisor remainder x y
binary_row binary.Srem nuw nsw exact disjoint w x y = by_signed_divisor w (remainder_signed w) x y
binary_row binary.And nuw nsw exact disjoint w x y = Some (on_numbers conjoined x y)
binary_row binary.Xor nuw nsw exact disjoint w x y = Some (on_numbers exclusive x y)
binary_row binary.Or nuw nsw exact disjoint w x y = Some (on_numbers (disjoined disjoint) x y)

-- a conversion from v bits to w bits: zero extension, which gives poison on a negative number where `nneg` is given;
-- sign extension; the lowest bits
abbrev pub converted : CastOp → Bool → ℕ → ℕ → Value → Value
converted cast.Zext nneg v w (value.Number a) =
    if nneg && nat_le (2 ^ (v - 1)) a then value.Poison else value.Number a
converted cast.Sext nneg v w (value.Number a) = value.Number (residue w (reading v a))
converted cast.Trunc nneg v w (value.Number a) = value.Number (a % 2 ^ w)
converted op nneg v w _ = value.Poison

-- the minima and maxima, in the unsigned and the signed reading
abbrev pub min_max_row : MinMax → ℕ → ℕ → ℕ → Value
min_max_row Umin w a b = value.Number (if nat_le a b then a else b)
min_max_row Umax w a b = value.Number (if nat_le a b then b else a)
min_max_row Smin w a b = value.Number (if int_le (reading w a) (reading w b) then a else b)
min_max_row Smax w a b = value.Number (if int_le (reading w a) (reading w b) then b else a)

-- whether a comparison holds
abbrev pub holds : Pred → ℕ → ℕ → ℕ → Bool
holds pred.Eq w a b = a == b
holds pred.Ne w a b = not (a == b)
holds pred.Ugt w a b = nat_lt b a
holds pred.Uge w a b = nat_le b a
holds pred.Ult w a b = nat_lt a b
holds pred.Ule w a b = nat_le a b
holds pred.Sgt w a b = int_lt (reading w b) (reading w a)
holds pred.Sge w a b = int_le (reading w b) (reading w a)
holds pred.Slt w a b = int_lt (reading w a) (reading w b)
holds pred.Sle w a b = int_le (reading w a) (reading w b)

-- `icmp`: 1 where the comparison holds, else 0
abbrev pub compared : Pred → ℕ → ℕ → ℕ → Value
compared pred w a b = value.Number (if holds pred w a b then 1 else 0)

-- `icmp` of pointers by `eq` or `ne`, with the chosen number: null is null alone, pointers of one block compare by
-- their offsets, and of two blocks the choice modulo 2 is the answer; no other predicate has a meaning
abbrev pub same_pointer : Value → Value → Option Bool
same_pointer value.Null value.Null = Some true
same_pointer (value.Pointer block offset) (value.Pointer other at) =
    if block == other then Some (offset == at) else None
same_pointer x y = Some false

abbrev pub same_answer : Bool → Bool → Bool
same_answer true equal = equal
same_answer false equal = not equal

abbrev pub answered : Bool → ℕ → Option Bool → Value
answered equal n None = value.Number (n % 2)
answered equal n (Some same) = value.Number (if same_answer same equal then 1 else 0)

abbrev pub compared_pointers : Bool → ℕ → Value → Value → Value
compared_pointers equal n value.Poison y = value.Poison
compared_pointers equal n x value.Poison = value.Poison
compared_pointers equal n x y = answered equal n (same_pointer x y)
