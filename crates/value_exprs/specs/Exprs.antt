-- The expression of a value while phis of headers are in progress.
use Rattle.std.specs.Prelude.{◌≡◌, ℕ, ◌<◌, ◌≤◌, false, List, ◌∷◌, length, Contains, Option, Some}
use Rattle.scev_base.specs.declared.ids.ValueId.{ValueId}
use Rattle.scev_base.specs.declared.ids.LoopId.{LoopId}
use Rattle.ir_model.specs.declared.op.CastOp.{CastOp}
use Rattle.scev_tree.specs.Tree.{Tree, constant}
use Rattle.scev_forms.specs.Sums.{recurrence_of}
use Rattle.value_view.specs.declared.source.Source.{Source}
use Rattle.value_view.specs.declared.source.Source.TheVariants.{Number, Register}
use Rattle.value_view.specs.declared.given.Pair.{Pair}
use Rattle.value_view.specs.declared.given.Given.TheVariants as given
use Rattle.value_exprs.specs.View.{View, row_of, number_of_loop, home, leaf, outside, Leaves}
use Rattle.value_exprs.specs.Dependence.{IsCut, IsGroup}
use Rattle.value_exprs.specs.Steps.{formed_pair, formed_cast, or_leaf, formed_or_leaf}
use Rattle.value_exprs.specs.Advance.{IsAdvance}

-- a phi with these ones in progress keeps its own name: it is in progress itself, its group has more than 12 phis, or it
-- would be the fifth
pub data KeepsName (view : View) (v : ℕ) (cut : List ℕ) : Type 0 where
  in_progress : Contains cut v → KeepsName view v cut
  large_group : (group : List ℕ) → IsGroup view v group → 12 < length group → KeepsName view v cut
  fifth : 4 ≤ length cut → KeepsName view v cut

-- ---- the relation

-- The expression of a value, and that of an operand of w bits at the place of its use, given by the innermost loop that
-- holds the place.
mutual
  pub data IsExpr (view : View) : List ℕ → ℕ → Tree → Type 0 where
    opaque : {progress : List ℕ} {v : ℕ} → (row_of view v).given ≡ given.Opaque
        → IsExpr view progress v (leaf view v)
    pair : {progress : List ℕ} {v : ℕ} (cut : List ℕ) (p : Pair) (left right : Source) (x y : Tree)
        → (row_of view v).given ≡ given.Pair p left right
        → IsCut view v progress cut
        → IsOperand view cut (row_of view v).bits (number_of_loop (home view v)) left x
        → IsOperand view cut (row_of view v).bits (number_of_loop (home view v)) right y
        → IsExpr view progress v
        (formed_or_leaf (leaf view v) (formed_pair view.parents (row_of view v).bits p x y))
    cast : {progress : List ℕ} {v : ℕ} (cut : List ℕ) (op : CastOp) (w : ℕ) (of : Source) (x : Tree)
        → (row_of view v).given ≡ given.Cast op w of
        → IsCut view v progress cut
        → IsOperand view cut w (number_of_loop (home view v)) of x
        → IsExpr view progress v (or_leaf (leaf view v) (formed_cast view.parents (row_of view v).bits op false x))
    named : {progress : List ℕ} {v : ℕ} (cut : List ℕ) (start back : Source)
        → (row_of view v).given ≡ given.Header start back
        → IsCut view v progress cut
        → KeepsName view v cut
        → IsExpr view progress v (leaf view v)
    advances : {progress : List ℕ} {v : ℕ} (cut : List ℕ) (start back : Source) (l : LoopId) (x y : Tree)
        (steps : List Tree)
        → (row_of view v).given ≡ given.Header start back
        → home view v ≡ Some l
        → IsCut view v progress cut
        → (KeepsName view v cut → ⊥)
        → IsOperand view (v ∷ cut) (row_of view v).bits (Some l.0) back y
        → IsAdvance view.parents l v (row_of view v).bits y steps
        → IsOperand view cut (row_of view v).bits (outside view l) start x
        → IsExpr view progress v (or_leaf (leaf view v) (recurrence_of (row_of view v).bits l.0 (x ∷ steps)))
    stays : {progress : List ℕ} {v : ℕ} (cut : List ℕ) (start back : Source) (l : LoopId) (y : Tree)
        → (row_of view v).given ≡ given.Header start back
        → home view v ≡ Some l
        → IsCut view v progress cut
        → (KeepsName view v cut → ⊥)
        → IsOperand view (v ∷ cut) (row_of view v).bits (Some l.0) back y
        → ((steps : List Tree) → IsAdvance view.parents l v (row_of view v).bits y steps → ⊥)
        → IsExpr view progress v (leaf view v)

  pub data IsOperand (view : View) : List ℕ → ℕ → Option ℕ → Source → Tree → Type 0 where
    number : {progress : List ℕ} {w : ℕ} {place : Option ℕ} {n : ℕ}
        → IsOperand view progress w place (Number n) (constant w n)
    left_loop : {progress : List ℕ} {w : ℕ} {place : Option ℕ} {v : ValueId} (l : ℕ) → Leaves view v.0 place l
        → IsOperand view progress w place (Register v) (leaf view v.0)
    inside : {progress : List ℕ} {w : ℕ} {place : Option ℕ} {v : ValueId} {tree : Tree}
        → ((l : ℕ) → Leaves view v.0 place l → ⊥)
        → IsExpr view progress v.0 tree
        → IsOperand view progress w place (Register v) tree
