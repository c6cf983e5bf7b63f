-- Each row gives a value of its type.
use Rattle.std.proofs.Common.{◌≡◌, ℕ, ◌+◌, ◌-◌, ◌*◌, ◌/◌, ◌%◌, ◌^◌, ◌<◌, ◌≤◌, Bool, true, false, cond, ◌&&◌, Option}
use Rattle.std.proofs.Common.{Some, None, ℤ, pos, negsuc, bit_and, bit_or, bit_xor, refl, arith}
use Rattle.std.specs.Prelude.{◌==◌, nat_le, int_le, int_div, int_rem}
use Rattle.std.specs.Int.{int_div_euclid}
use Rattle.std.proofs.Math.Nat.{div-le_self, mod-le}
use Rattle.std.proofs.Math.Pow.{pow_mono}
use Rattle.std.proofs.lemmas.Bool.{lt-ltb, ltb-true}
use Rattle.std.proofs.lemmas.Option.{same_Some}
use Rattle.std.proofs.lemmas.Nat.{pow_pos, mod_below, and_le_l, or_lt, xor_lt}
use Rattle.scev_base.specs.Residue.{residue, reading}
use Rattle.scev_base.specs.declared.pred.Pred.{Pred}
use Rattle.ir_model.specs.declared.types.IrType.TheVariants.{Int}
use Rattle.ir_model.specs.declared.min_max.MinMax.{MinMax}
use Rattle.ir_model.specs.declared.min_max.MinMax.TheVariants.{Umin, Umax, Smin, Smax}
use Rattle.ir_model.specs.declared.op.BinOp.{BinOp}
use Rattle.ir_model.specs.declared.op.BinOp.TheVariants as binary
use Rattle.ir_model.specs.declared.op.CastOp.{CastOp}
use Rattle.ir_model.specs.declared.op.CastOp.TheVariants as cast
use Rattle.ir_rules.specs.Types.{converts}
use Rattle.ir_meaning.specs.declared.value.Value.{Value}
use Rattle.ir_meaning.specs.declared.value.Value.TheVariants as value
use Rattle.ir_meaning.specs.Values.{is_of_type}
use Rattle.ir_meaning.specs.Rows.{on_numbers, compared, holds, binary_row, by_divisor, by_signed_divisor, is_minus_one}
use Rattle.ir_meaning.specs.Rows.{may_be_least, converted, min_max_row, same_pointer, same_answer, answered}
use Rattle.ir_meaning.specs.Rows.{compared_pointers}

-- ---- numbers of a width

-- The value is of w bits.
abbrev IsOf : ℕ → Value → Type 0
IsOf w x = is_of_type (Int w) x ≡ true

-- Numbers of w bits are those below 2^w.
pub number_typed : (w n : ℕ) → n < 2 ^ w → is_of_type (Int w) (value.Number n) ≡ true
number_typed w n less = lt-ltb n (2 ^ w) less

typed_number : (w n : ℕ) → IsOf w (value.Number n) → n < 2 ^ w
typed_number w n typed = ltb-true n (2 ^ w) typed

at_most : (w a n : ℕ) → a < 2 ^ w → n ≤ a → IsOf w (value.Number n)
at_most w a n less most = number_typed w n (omega arith)

-- Residues are below the power of 2.
pub mod_typed : (w n : ℕ) → is_of_type (Int w) (value.Number (n % 2 ^ w)) ≡ true
mod_typed w n = number_typed w (n % 2 ^ w) (mod_below n (2 ^ w) (pow_pos w))

pub residue_typed : (w : ℕ) (z : ℤ) → is_of_type (Int w) (value.Number (residue w z)) ≡ true
residue_typed w (pos n) = mod_typed w n
residue_typed w (negsuc n) =
    number_typed w (2 ^ w - (n % 2 ^ w + 1)) (omega (arith, pow_pos w, mod_below n (2 ^ w) (pow_pos w)))

-- what is poison in one case, and a number in the other
unless_poison : (w : ℕ) (bad : Bool) (n : ℕ) → IsOf w (value.Number n) → IsOf w (cond bad value.Poison (value.Number n))
unless_poison w true n typed = refl
unless_poison w false n typed = typed

unless_mod : (w : ℕ) (bad : Bool) (n : ℕ) → IsOf w (cond bad value.Poison (value.Number (n % 2 ^ w)))
unless_mod w bad n = unless_poison w bad (n % 2 ^ w) (mod_typed w n)

unless_residue : (w : ℕ) (bad : Bool) (z : ℤ) → IsOf w (cond bad value.Poison (value.Number (residue w z)))
unless_residue w bad z = unless_poison w bad (residue w z) (residue_typed w z)

unless_less : (w : ℕ) (bad : Bool) (a n : ℕ) → a < 2 ^ w → n ≤ a → IsOf w (cond bad value.Poison (value.Number n))
unless_less w bad a n less most = unless_poison w bad n (at_most w a n less most)

one_of_two : (w : ℕ) (first : Bool) (a b : ℕ) → a < 2 ^ w → b < 2 ^ w → IsOf w (value.Number (cond first a b))
one_of_two w true a b left right = number_typed w a left
one_of_two w false a b left right = number_typed w b right

-- A row on two values is of a type where it is so on two numbers.
abbrev OnNumbers : ℕ → ℕ → (ℕ → ℕ → Value) → Type 0
OnNumbers v w row = (a b : ℕ) → a < 2 ^ v → b < 2 ^ v → IsOf w (row a b)

on_numbers_typed : (v w : ℕ) (row : ℕ → ℕ → Value) (x y : Value) → IsOf v x → IsOf v y → OnNumbers v w row
    → IsOf w (on_numbers row x y)
on_numbers_typed v w row (value.Number a) (value.Number b) left right each =
    each a b (typed_number v a left) (typed_number v b right)
on_numbers_typed v w row (value.Number a) (value.Pointer block offset) left right each = refl
on_numbers_typed v w row (value.Number a) value.Null left right each = refl
on_numbers_typed v w row (value.Number a) value.Poison left right each = refl
on_numbers_typed v w row (value.Pointer block offset) y left right each = refl
on_numbers_typed v w row value.Null y left right each = refl
on_numbers_typed v w row value.Poison y left right each = refl

-- ---- operations of two operands

-- what a division by a number gives, where it is defined
by_number : (w : ℕ) (row : ℕ → ℕ → Value) (x z : Value) (b : ℕ) (none : Bool) → IsOf w x → IsOf w (value.Number b)
    → OnNumbers w w row → cond none None (Some (on_numbers row x (value.Number b))) ≡ Some z → IsOf w z
by_number w row x z b true left right each given = absurd cc
by_number w row x z b false left right each given =
    let typed = on_numbers_typed w w row x (value.Number b) left right each in
    rw (← same_Some (on_numbers row x (value.Number b)) z given) typed

by_divisor_typed : (w : ℕ) (row : ℕ → ℕ → Value) (x y z : Value) → IsOf w x → IsOf w y → OnNumbers w w row
    → by_divisor row x y ≡ Some z → IsOf w z
by_divisor_typed w row x (value.Number b) z left right each given = by_number w row x z b (b == 0) left right each given
by_divisor_typed w row x (value.Pointer block offset) z left right each given = absurd cc
by_divisor_typed w row x value.Null z left right each given = absurd cc
by_divisor_typed w row x value.Poison z left right each given = absurd cc

unless_undefined : (w : ℕ) (none : Bool) (given : Option Value) (z : Value) → (given ≡ Some z → IsOf w z)
    → cond none None given ≡ Some z → IsOf w z
unless_undefined w true given z each is = absurd cc
unless_undefined w false given z each is = each is

by_signed_divisor_typed : (w : ℕ) (row : ℕ → ℕ → Value) (x y z : Value) → IsOf w x → IsOf w y → OnNumbers w w row
    → by_signed_divisor w row x y ≡ Some z → IsOf w z
by_signed_divisor_typed w row x y z left right each given =
    let typed = by_divisor_typed w row x y z left right each in
    unless_undefined w (is_minus_one w y && may_be_least w x) (by_divisor row x y) z typed given

-- a row that is always defined
always : (w : ℕ) (row : ℕ → ℕ → Value) (x y z : Value) → IsOf w x → IsOf w y → OnNumbers w w row
    → Some (on_numbers row x y) ≡ Some z → IsOf w z
always w row x y z left right each given =
    rw (← same_Some (on_numbers row x y) z given) (on_numbers_typed w w row x y left right each)

pub binary_typed : (op : BinOp) (nuw nsw exact disjoint : Bool) (w : ℕ) (x y z : Value) → is_of_type (Int w) x ≡ true
    → is_of_type (Int w) y ≡ true → binary_row op nuw nsw exact disjoint w x y ≡ Some z → is_of_type (Int w) z ≡ true
binary_typed binary.Add nuw nsw exact disjoint w x y z left right given =
    always w _ x y z left right (λ a b p q. unless_mod w _ (a + b)) given
binary_typed binary.Sub nuw nsw exact disjoint w x y z left right given =
    always w _ x y z left right (λ a b p q. unless_mod w _ (a + (2 ^ w - b))) given
binary_typed binary.Mul nuw nsw exact disjoint w x y z left right given =
    always w _ x y z left right (λ a b p q. unless_mod w _ (a * b)) given
binary_typed binary.Shl nuw nsw exact disjoint w x y z left right given =
    always w _ x y z left right (λ a b p q. unless_mod w _ (a * 2 ^ b)) given
binary_typed binary.Udiv nuw nsw exact disjoint w x y z left right given =
    by_divisor_typed w _ x y z left right (λ a b p q. unless_less w _ a (a / b) p (div-le_self a b)) given
binary_typed binary.Sdiv nuw nsw exact disjoint w x y z left right given =
    by_signed_divisor_typed w _ x y z left right (λ a b p q.
    unless_residue w _ (int_div (reading w a) (reading w b))) given
binary_typed binary.Lshr nuw nsw exact disjoint w x y z left right given =
    always w _ x y z left right (λ a b p q. unless_less w _ a (a / 2 ^ b) p (div-le_self a (2 ^ b))) given
binary_typed binary.Ashr nuw nsw exact disjoint w x y z left right given =
    always w _ x y z left right (λ a b p q.
    unless_residue w _ (int_div_euclid (reading w a) (pos (2 ^ b)))) given
binary_typed binary.Urem nuw nsw exact disjoint w x y z left right given =
    by_divisor_typed w _ x y z left right (λ a b p q. at_most w a (a % b) p (mod-le a b)) given
binary_typed binary.Srem nuw nsw exact disjoint w x y z left right given =
    by_signed_divisor_typed w _ x y z left right (λ a b p q.
    residue_typed w (int_rem (reading w a) (reading w b))) given
binary_typed binary.And nuw nsw exact disjoint w x y z left right given =
    always w _ x y z left right (λ a b p q. at_most w a (bit_and a b) p (and_le_l a b)) given
binary_typed binary.Xor nuw nsw exact disjoint w x y z left right given =
    always w _ x y z left right (λ a b p q. number_typed w (bit_xor a b) (xor_lt w a b p q)) given
binary_typed binary.Or nuw nsw exact disjoint w x y z left right given =
    always w _ x y z left right (λ a b p q.
    unless_poison w _ (bit_or a b) (number_typed w (bit_or a b) (or_lt w a b p q))) given

-- ---- comparisons, minima and maxima

pub compared_typed : (pred : Pred) (w : ℕ) (x y : Value) → is_of_type (Int w) x ≡ true → is_of_type (Int w) y ≡ true
    → is_of_type (Int 1) (on_numbers (compared pred w) x y) ≡ true
compared_typed pred w x y left right =
    on_numbers_typed w 1 (compared pred w) x y left right (λ a b p q.
    one_of_two 1 (holds pred w a b) 1 0 (omega arith) (omega arith))

chosen_typed : (kind : MinMax) (w a b : ℕ) → a < 2 ^ w → b < 2 ^ w → IsOf w (min_max_row kind w a b)
chosen_typed Umin w a b left right = one_of_two w (nat_le a b) a b left right
chosen_typed Umax w a b left right = one_of_two w (nat_le a b) b a right left
chosen_typed Smin w a b left right = one_of_two w (int_le (reading w a) (reading w b)) a b left right
chosen_typed Smax w a b left right = one_of_two w (int_le (reading w a) (reading w b)) b a right left

pub min_max_typed : (kind : MinMax) (w : ℕ) (x y : Value) → is_of_type (Int w) x ≡ true → is_of_type (Int w) y ≡ true
    → is_of_type (Int w) (on_numbers (min_max_row kind w) x y) ≡ true
min_max_typed kind w x y left right =
    on_numbers_typed w w (min_max_row kind w) x y left right (λ a b p q. chosen_typed kind w a b p q)

answered_typed : (equal : Bool) (n : ℕ) (same : Option Bool) → IsOf 1 (answered equal n same)
answered_typed equal n None = mod_typed 1 n
answered_typed equal n (Some same) = one_of_two 1 (same_answer same equal) 1 0 (omega arith) (omega arith)

-- What a comparison of pointers gives has one bit, whatever it is given.
pub pointers_typed : (equal : Bool) (n : ℕ) (x y : Value) → is_of_type (Int 1) (compared_pointers equal n x y) ≡ true
pointers_typed equal n value.Poison y = refl
pointers_typed equal n (value.Number a) value.Poison = refl
pointers_typed equal n (value.Pointer block offset) value.Poison = refl
pointers_typed equal n value.Null value.Poison = refl
pointers_typed equal n x y = answered_typed equal n (same_pointer x y)

-- ---- conversions

pub converted_typed : (op : CastOp) (nneg : Bool) (v w : ℕ) (x : Value) → converts op (Int v) (Int w) ≡ true
    → is_of_type (Int v) x ≡ true → is_of_type (Int w) (converted op nneg v w x) ≡ true
converted_typed cast.Zext nneg v w (value.Number a) wider typed =
    let less : v < w = ltb-true v w wider in
    let more : 2 ^ v ≤ 2 ^ w = pow_mono {i = v} {j = w} (omega arith) in
    unless_poison w (nneg && nat_le (2 ^ (v - 1)) a) a (number_typed w a (omega (arith, typed_number v a typed, more)))
converted_typed cast.Sext nneg v w (value.Number a) wider typed = residue_typed w (reading v a)
converted_typed cast.Trunc nneg v w (value.Number a) wider typed = mod_typed w a
converted_typed cast.Zext nneg v w (value.Pointer block offset) wider typed = refl
converted_typed cast.Zext nneg v w value.Null wider typed = refl
converted_typed cast.Zext nneg v w value.Poison wider typed = refl
converted_typed cast.Sext nneg v w (value.Pointer block offset) wider typed = refl
converted_typed cast.Sext nneg v w value.Null wider typed = refl
converted_typed cast.Sext nneg v w value.Poison wider typed = refl
converted_typed cast.Trunc nneg v w (value.Pointer block offset) wider typed = refl
converted_typed cast.Trunc nneg v w value.Null wider typed = refl
converted_typed cast.Trunc nneg v w value.Poison wider typed = refl
