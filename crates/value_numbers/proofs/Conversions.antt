-- What a conversion gives, of what is told of its operand.
use Rattle.std.proofs.Common.{◌≡◌, ℕ, ◌<◌, Bool, false, List, Option, Some, subst}
use Rattle.scev_tree.specs.Tree.{Tree}
use Rattle.scev_tree.specs.Value.{tree_value}
use Rattle.scev_forms.specs.Trees.{IsTreeOf}
use Rattle.scev_forms.specs.Outcome.{Done}
use Rattle.ir_model.specs.declared.types.IrType.{IrType}
use Rattle.ir_model.specs.declared.types.IrType.TheVariants.{Int}
use Rattle.ir_model.specs.declared.op.Operand.{Operand}
use Rattle.ir_model.specs.declared.op.CastOp.{CastOp}
use Rattle.ir_model.specs.declared.op.Op.{Op}
use Rattle.ir_model.specs.declared.op.Op.TheVariants.{Binary, Cast, Call}
use Rattle.ir_model.specs.Callees.{min_max_named}
use Rattle.ir_meaning.specs.declared.value.Value.{Value}
use Rattle.ir_meaning.specs.State.{Registers}
use Rattle.ir_meaning.specs.Operands.{operand_value}
use Rattle.ir_meaning.specs.Rows.{converted}
use Rattle.ir_meaning.specs.Step.{computed, Gives}
use Rattle.value_view.specs.declared.source.Source.{Source}
use Rattle.value_view.specs.declared.given.Given.TheVariants as given
use Rattle.value_view.specs.Givens.{source_of, pair_of, given_cast, given_by}
use Rattle.value_exprs.specs.Steps.{formed_cast}
use Rattle.value_exprs.specs.WellMade.{AreCastWidths}
use Rattle.value_truth.specs.Truth.{Denotes}
use Rattle.value_numbers.specs.Held.{held_by}
use Rattle.value_numbers.specs.Typed.{IsOfWidth}
use Rattle.value_numbers.proofs.Told.{one_given, operand_held}
use Rattle.value_numbers.proofs.Givens.{cast_parts, pair_no_cast, call_no_cast}
use Rattle.value_numbers.proofs.Casts.{cast_row}

module _ (held : ℕ → Option ℕ) (turns : ℕ → ℕ) (parents : List (Option ℕ)) (v w : ℕ) (some : 0 < v) (more : 0 < w)
    (how : CastOp) (x tree : Tree) (widths : AreCastWidths how v w) (is : IsTreeOf v x)
    (formed : formed_cast parents w how false x ≡ Done tree) (registers : Registers) (choice : ℕ) (z : Value)
    (of : Source) (told : Denotes (held_by registers of) (tree_value held turns x)) where
  -- a conversion of an operand of v bits to w
  operand_converted : (nneg : Bool) (o : Operand)
      → source_of v o ≡ Some of
      → computed registers choice (Cast how nneg (Int v) o (Int w)) ≡ Gives z
      → Denotes (Some z) (tree_value held turns tree)
  operand_converted nneg o from gives =
      let one = one_given (operand_value registers choice (Int v) o) (λ a. Gives (converted how nneg v w a)) z gives in
      let last = one.2 in
      let same : Some (converted how nneg v w one.0) ≡ Some z = cc last in
      let its = subst (λ h. Denotes h (tree_value held turns x))
      (operand_held registers choice v o of one.0 from one.1) told in
      subst (λ h. Denotes h (tree_value held turns tree)) same
      (cast_row held turns parents v w some more how nneg x tree one.0 widths is formed its)

  -- a conversion that gives w bits
  cast_computed : (op : CastOp) (nneg : Bool) (from to : IrType) (o : Operand)
      → to ≡ Int w
      → given_cast op from o ≡ given.Cast how v of
      → computed registers choice (Cast op nneg from o to) ≡ Gives z
      → Denotes (Some z) (tree_value held turns tree)
  cast_computed op nneg from to o typed by gives =
      let parts = cast_parts op from o how v of by in
      operand_converted nneg o parts.2
      (subst (λ k. computed registers choice (Cast k nneg (Int v) o (Int w)) ≡ Gives z) parts.1
      (subst (λ k. computed registers choice (Cast op nneg k o (Int w)) ≡ Gives z) parts.0
      (subst (λ k. computed registers choice (Cast op nneg from o k) ≡ Gives z) typed gives)))

  -- an operation that is a conversion, and gives w bits
  pub conversion_computed : (op : Op)
      → IsOfWidth op w
      → given_by w op ≡ given.Cast how v of
      → computed registers choice op ≡ Gives z
      → Denotes (Some z) (tree_value held turns tree)
  conversion_computed (Cast op nneg from o to) typed by gives = cast_computed op nneg from to o typed by gives
  conversion_computed (Binary op nuw nsw exact disjoint kind first second) typed by gives =
      absurd (pair_no_cast (pair_of op disjoint) (source_of w first) (source_of w second) how v of by)
  conversion_computed (Call ret callee args) typed by gives =
      absurd (call_no_cast (min_max_named callee) w args how v of by)
  conversion_computed _ typed by gives = absurd typed
