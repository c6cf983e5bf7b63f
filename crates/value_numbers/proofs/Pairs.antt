-- What an operation gives, of what is told of its operands.
use Rattle.std.proofs.Common.{◌≡◌, ℕ, ◌<◌, Bool, true, List, [], ◌∷◌, Option, Some, None}
use Rattle.std.proofs.Common.{ap, ◌∙◌, subst}
use Rattle.scev_tree.specs.Tree.{Tree}
use Rattle.scev_tree.specs.Value.{tree_value}
use Rattle.scev_forms.specs.Trees.{IsTreeOf}
use Rattle.scev_forms.specs.Outcome.{Done}
use Rattle.ir_model.specs.declared.types.IrType.TheVariants.{Int}
use Rattle.ir_model.specs.declared.op.Operand.{Operand}
use Rattle.ir_model.specs.declared.op.TypedOperand.{TypedOperand}
use Rattle.ir_model.specs.declared.op.BinOp.{BinOp}
use Rattle.ir_model.specs.declared.op.BinOp.TheVariants as binary
use Rattle.ir_model.specs.declared.op.Op.{Op}
use Rattle.ir_model.specs.declared.op.Op.TheVariants.{Binary, Cast, Call}
use Rattle.ir_model.specs.declared.min_max.MinMax.{MinMax}
use Rattle.ir_model.specs.declared.min_max.MinMax.TheVariants as minmax
use Rattle.ir_model.specs.Callees.{min_max_named}
use Rattle.ir_meaning.specs.declared.value.Value.{Value}
use Rattle.ir_meaning.specs.State.{Registers}
use Rattle.ir_meaning.specs.Operands.{operand_value}
use Rattle.ir_meaning.specs.Rows.{binary_row, on_numbers, min_max_row, added}
use Rattle.ir_meaning.specs.Rows.{subtracted, multiplied, shifted_left, shifted_right, disjoined, exclusive}
use Rattle.ir_meaning.specs.Step.{computed, called, given, Gives}
use Rattle.value_view.specs.declared.source.Source.{Source}
use Rattle.value_view.specs.declared.given.Pair.{Pair}
use Rattle.value_view.specs.declared.given.Pair.TheVariants as pair
use Rattle.value_view.specs.declared.given.Given.TheVariants as given
use Rattle.value_view.specs.Givens.{source_of, pair_of, minimum_of, given_pair, given_call}
use Rattle.value_view.specs.Givens.{given_by}
use Rattle.value_exprs.specs.Steps.{formed_pair}
use Rattle.value_truth.specs.Truth.{Denotes}
use Rattle.value_numbers.specs.Held.{held_by}
use Rattle.value_numbers.specs.Typed.{IsOfWidth}
use Rattle.value_numbers.proofs.Told.{two_given, given_some, operand_held, on_operands, Follows}
use Rattle.value_numbers.proofs.Sums.{sum_row, or_row, product_row, difference_row, differing_row}
use Rattle.value_numbers.proofs.Quotients.{up_row, down_row, quotient_row}
use Rattle.value_numbers.proofs.Minima.{minimum_row}
use Rattle.value_numbers.proofs.Givens.{pair_parts, cast_no_pair}

module _ (held : ℕ → Option ℕ) (turns : ℕ → ℕ) (parents : List (Option ℕ)) (w : ℕ) (some : 0 < w) (x y tree : Tree)
    (l : IsTreeOf w x) (r : IsTreeOf w y) where
  -- a row on two operands of which numbers are told
  row_told : (row : ℕ → ℕ → Value) (a b z : Value)
      → Follows row (tree_value held turns x) (tree_value held turns y) (tree_value held turns tree)
      → Some (on_numbers row a b) ≡ Some z
      → Denotes (Some a) (tree_value held turns x)
      → Denotes (Some b) (tree_value held turns y)
      → Denotes (Some z) (tree_value held turns tree)
  row_told row a b z follows same left right =
      subst (λ o. Denotes o (tree_value held turns tree)) same (on_operands row a b _ _ _ follows left right)

  -- an operation of two operands
  pub binary_told : (op : BinOp) (nuw nsw exact disjoint : Bool) (p : Pair) (a b z : Value)
      → pair_of op disjoint ≡ Some p
      → formed_pair parents w p x y ≡ Some (Done tree)
      → binary_row op nuw nsw exact disjoint w a b ≡ Some z
      → Denotes (Some a) (tree_value held turns x)
      → Denotes (Some b) (tree_value held turns y)
      → Denotes (Some z) (tree_value held turns tree)
  binary_told binary.Add nuw nsw exact disjoint pair.Sum a b z is formed gives left right =
      row_told (added w nuw nsw) a b z (sum_row held turns parents w some nuw nsw x y tree l r (cc)) gives left right
  binary_told binary.Sub nuw nsw exact disjoint pair.Difference a b z is formed gives left right =
      row_told (subtracted w nuw nsw) a b z (difference_row held turns parents w some nuw nsw x y tree l r (cc)) gives
      left right
  binary_told binary.Mul nuw nsw exact disjoint pair.Product a b z is formed gives left right =
      row_told (multiplied w nuw nsw) a b z (product_row held turns parents w some nuw nsw x y tree l r (cc)) gives
      left right
  binary_told binary.Shl nuw nsw exact disjoint pair.ShiftedUp a b z is formed gives left right =
      row_told (shifted_left w nuw nsw) a b z (up_row held turns parents w some nuw nsw x y tree l r formed) gives
      left right
  binary_told binary.Lshr nuw nsw exact disjoint pair.ShiftedDown a b z is formed gives left right =
      row_told (shifted_right w exact) a b z (down_row held turns parents w some exact x y tree l r formed) gives
      left right
  binary_told binary.Udiv nuw nsw exact disjoint pair.Quotient a b z is formed gives left right =
      quotient_row held turns parents w some exact x y tree a b z l r (cc) gives left right
  binary_told binary.Xor nuw nsw exact disjoint pair.Differing a b z is formed gives left right =
      row_told exclusive a b z (differing_row held turns parents w some x y tree l r formed) gives left right
  binary_told binary.Or nuw nsw exact true pair.Sum a b z is formed gives left right =
      row_told (disjoined true) a b z (or_row held turns parents w some x y tree l r (cc)) gives left right
  binary_told _ nuw nsw exact disjoint p a b z is formed gives left right = absurd cc

  -- a minimum or a maximum
  minimum_told : (mm : MinMax) (a b z : Value)
      → formed_pair parents w (minimum_of mm) x y ≡ Some (Done tree)
      → Some (on_numbers (min_max_row mm w) a b) ≡ Some z
      → Denotes (Some a) (tree_value held turns x)
      → Denotes (Some b) (tree_value held turns y)
      → Denotes (Some z) (tree_value held turns tree)
  minimum_told minmax.Umin a b z formed gives left right =
      row_told _ a b z (minimum_row held turns minmax.Umin w x y tree some l r (cc)) gives left right
  minimum_told minmax.Umax a b z formed gives left right =
      row_told _ a b z (minimum_row held turns minmax.Umax w x y tree some l r (cc)) gives left right
  minimum_told minmax.Smin a b z formed gives left right =
      row_told _ a b z (minimum_row held turns minmax.Smin w x y tree some l r (cc)) gives left right
  minimum_told minmax.Smax a b z formed gives left right =
      row_told _ a b z (minimum_row held turns minmax.Smax w x y tree some l r (cc)) gives left right

  -- ---- from what the registers hold

  module _ (registers : Registers) (choice : ℕ) (z : Value) (p : Pair) (left right : Source)
      (formed : formed_pair parents w p x y ≡ Some (Done tree))
      (left_told : Denotes (held_by registers left) (tree_value held turns x))
      (right_told : Denotes (held_by registers right) (tree_value held turns y)) where
    -- what is told of an operand is told of its value
    told_left : (o : Operand) (a : Value)
        → source_of w o ≡ Some left
        → operand_value registers choice (Int w) o ≡ Some a
        → Denotes (Some a) (tree_value held turns x)
    told_left o a from value =
        subst (λ h. Denotes h (tree_value held turns x)) (operand_held registers choice w o left a from value) left_told

    told_right : (o : Operand) (b : Value)
        → source_of w o ≡ Some right
        → operand_value registers choice (Int w) o ≡ Some b
        → Denotes (Some b) (tree_value held turns y)
    told_right o b from value =
        subst (λ h. Denotes h (tree_value held turns y)) (operand_held registers choice w o right b from value)
        right_told

    -- an operation on two operands at w bits
    binary_computed : (op : BinOp) (nuw nsw exact disjoint : Bool) (first second : Operand)
        → given_pair (pair_of op disjoint) (source_of w first) (source_of w second) ≡ given.Pair p left right
        → computed registers choice (Binary op nuw nsw exact disjoint (Int w) first second) ≡ Gives z
        → Denotes (Some z) (tree_value held turns tree)
    binary_computed op nuw nsw exact disjoint first second by gives =
        let parts = pair_parts (pair_of op disjoint) (source_of w first) (source_of w second) p left right by in
        let both = two_given (operand_value registers choice (Int w) first)
        (operand_value registers choice (Int w) second)
        (λ a b. given (binary_row op nuw nsw exact disjoint w a b)) z gives in
        binary_told op nuw nsw exact disjoint p both.0 both.1 z parts.0 formed
        (given_some (binary_row op nuw nsw exact disjoint w both.0 both.1) z both.4)
        (told_left first both.0 parts.1 both.2) (told_right second both.1 parts.2 both.3)

    -- a call of a minimum or a maximum
    minimum_computed : (o : Option MinMax) (first second : TypedOperand)
        → given_call o w (first ∷ second ∷ []) ≡ given.Pair p left right
        → called registers choice w o first.value second.value ≡ Gives z
        → Denotes (Some z) (tree_value held turns tree)
    minimum_computed None first second by gives = absurd cc
    minimum_computed (Some mm) first second by gives =
        let parts = pair_parts (Some (minimum_of mm)) (source_of w first.value) (source_of w second.value) p left right
        by in
        let both = two_given (operand_value registers choice (Int w) first.value)
        (operand_value registers choice (Int w) second.value) (λ a b. Gives (on_numbers (min_max_row mm w) a b)) z
        gives in
        let same : minimum_of mm ≡ p = cc (parts.0) in
        let last = both.4 in
        minimum_told mm both.0 both.1 z
        (ap (λ q. formed_pair parents w q x y) same ∙ formed) (cc last)
        (told_left first.value both.0 parts.1 both.2) (told_right second.value both.1 parts.2 both.3)

    -- a call at w bits
    call_computed : (callee : List ℕ) (args : List TypedOperand)
        → given_call (min_max_named callee) w args ≡ given.Pair p left right
        → computed registers choice (Call (Int w) callee args) ≡ Gives z
        → Denotes (Some z) (tree_value held turns tree)
    call_computed callee (first ∷ second ∷ []) by gives = minimum_computed (min_max_named callee) first second by gives
    call_computed callee [] by gives = absurd cc
    call_computed callee (first ∷ []) by gives = absurd cc
    call_computed callee (first ∷ second ∷ third ∷ args) by gives = absurd cc

    -- an operation that gives w bits
    pub pair_computed : (op : Op)
        → IsOfWidth op w
        → given_by w op ≡ given.Pair p left right
        → computed registers choice op ≡ Gives z
        → Denotes (Some z) (tree_value held turns tree)
    pair_computed (Binary op nuw nsw exact disjoint kind first second) is by gives =
        binary_computed op nuw nsw exact disjoint first second by
        (subst (λ k. computed registers choice (Binary op nuw nsw exact disjoint k first second) ≡ Gives z) is gives)
    pair_computed (Call ret callee args) is by gives =
        call_computed callee args by (subst (λ k. computed registers choice (Call k callee args) ≡ Gives z) is gives)
    pair_computed (Cast op nneg from value to) is by gives = absurd (cast_no_pair op from value p left right by)
    pair_computed _ is by gives = absurd is
