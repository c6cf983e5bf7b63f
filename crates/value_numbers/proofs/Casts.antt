-- Conversions: the values of what is formed are what the rows give.
use Rattle.std.proofs.Common.{◌≡◌, ℕ, ◌-◌, ◌%◌, ◌^◌, ◌<◌, ◌&&◌, nat_le, Bool, false, List, Option, Some, refl}
use Rattle.std.proofs.Common.{ap, ◌∙◌, arith, inl, inr}
use Rattle.scev_base.specs.Residue.{residue, reading}
use Rattle.scev_tree.specs.declared.kind.Kind.TheVariants as kind
use Rattle.scev_tree.specs.Tree.{Tree}
use Rattle.scev_tree.specs.Value.{tree_value}
use Rattle.scev_forms.specs.Trees.{IsTreeOf}
use Rattle.scev_forms.specs.Outcome.{Done}
use Rattle.scev_forms.proofs.WithinRange.{within_value}
use Rattle.scev_forms.proofs.TruncatedValues.{truncation_value}
use Rattle.ir_model.specs.declared.op.CastOp.{CastOp}
use Rattle.ir_model.specs.declared.op.CastOp.TheVariants as cast
use Rattle.ir_meaning.specs.declared.value.Value.{Value}
use Rattle.ir_meaning.specs.declared.value.Value.TheVariants as value
use Rattle.ir_meaning.specs.Rows.{converted}
use Rattle.value_exprs.specs.Steps.{formed_cast}
use Rattle.value_exprs.specs.WellMade.{AreCastWidths}
use Rattle.value_truth.specs.Truth.{Denotes}
use Rattle.value_numbers.proofs.Told.{number_told, unless_poison}

module _ (held : ℕ → Option ℕ) (turns : ℕ → ℕ) (parents : List (Option ℕ)) (v w : ℕ) (some : 0 < v) (more : 0 < w)
  where
    -- a conversion of a number
    number_row : (how : CastOp) (nneg : Bool) (x tree : Tree) (n : ℕ)
        → AreCastWidths how v w
        → IsTreeOf v x
        → formed_cast parents w how false x ≡ Done tree
        → tree_value held turns x ≡ Some n
        → Denotes (Some (converted how nneg v w (value.Number n))) (tree_value held turns tree)
    number_row cast.Zext nneg x tree n widths is h value =
        unless_poison (nneg && nat_le (2 ^ (v - 1)) n) n (tree_value held turns tree)
        (λ _. within_value kind.Zext w x tree tt (omega (arith, is.0, some)) (omega (arith, is.0, widths)) is.1 held
        turns false n h (λ never. absurd cc) value)
    number_row cast.Sext nneg x tree n widths is h value =
        inr (
          residue w (reading v n),
          refl,
          within_value kind.Sext w x tree tt (omega (arith, is.0, some)) (omega (arith, is.0, widths)) is.1 held
              turns false n h (λ never. absurd cc) value
              ∙ ap (λ u. Some (residue w (reading u n))) is.0,
        )
    number_row cast.Trunc nneg x tree n widths is h value =
        inr (
          n % 2 ^ w,
          refl,
          truncation_value parents w x tree held turns n more (omega (arith, is.0, widths)) is.1 h value,
        )

    -- a conversion of what is told
    pub cast_row : (how : CastOp) (nneg : Bool) (x tree : Tree) (a : Value)
        → AreCastWidths how v w
        → IsTreeOf v x
        → formed_cast parents w how false x ≡ Done tree
        → Denotes (Some a) (tree_value held turns x)
        → Denotes (Some (converted how nneg v w a)) (tree_value held turns tree)
    cast_row how nneg x tree (value.Number n) widths is h told =
        number_row how nneg x tree n widths is h (number_told n _ told)
    cast_row cast.Zext nneg x tree _ widths is h told = inl refl
    cast_row cast.Sext nneg x tree _ widths is h told = inl refl
    cast_row cast.Trunc nneg x tree _ widths is h told = inl refl
