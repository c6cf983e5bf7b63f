-- What is formed of trees at places, and its value.
use Rattle.std.proofs.Common.{◌≡◌, ℕ, ◌<◌, ◌≤◌, List, [], ◌∷◌, length, map, Ok, Err, Result, IfOk, Option, Some}
use Rattle.std.proofs.Common.{refl, sym, ap, ◌∙◌, subst, arith}
use Rattle.scev_base.specs.declared.ids.ExprId.{ExprId}
use Rattle.scev_base.specs.Iterated.{iterated}
use Rattle.scev_tree.specs.Tree.{Tree, width_of}
use Rattle.scev_tree.specs.Canonical.{IsCanonical}
use Rattle.scev_tree.specs.Value.{sum, product, tree_value}
use Rattle.scev_arena.specs.declared.node.Node.{Node}
use Rattle.scev_arena.specs.Meaning.{tree_of}
use Rattle.scev_arena.specs.Standing.{IsArena}
use Rattle.scev_arena.proofs.CanonicalPlaces.{arena_sound}
use Rattle.scev_forms.specs.Outcome.{Outcome, Done}
use Rattle.scev_forms.specs.Sums.{tree_sum, tree_product, recurrence_of}
use Rattle.scev_forms.specs.Trees.{IsTreeOf, AreTreesOf}
use Rattle.scev_forms.proofs.SumsFormed.{sum_value, product_value, recurrence_value}
use Rattle.scev_sums.specs.declared.error.FoldError.{FoldError}
use Rattle.scev_sums.specs.Answers.{IsTreeOfAt, AreTreesOfAt, IsAt, Tells, trees_at}
use Rattle.scev_sums.specs.Values.{Value, HasValue, value_at, iterated_parts}

-- the tree at a place is canonical
pub canonical_at : (nodes : List Node) (w : ℕ) (id : ExprId) → IsArena nodes → IsTreeOfAt nodes w id
    → IsTreeOf w (tree_of nodes id)
canonical_at nodes w id arena h = (h.1, (arena_sound nodes arena).trees id h.0)

pub canonicals_at : (nodes : List Node) (w : ℕ) (ids : List ExprId) → IsArena nodes → AreTreesOfAt nodes w ids
    → AreTreesOf w (trees_at nodes ids)
canonicals_at nodes w [] arena h = tt
canonicals_at nodes w (id ∷ ids) arena h = (canonical_at nodes w id arena h.0, canonicals_at nodes w ids arena h.1)

-- What is formed has a value, if each tree that may be formed has it.
pub value_told : (nodes : List Node) (w : ℕ) (value : Value) (outcome : Outcome Tree) (result : Result ExprId FoldError)
    → ((tree : Tree) (held : ℕ → Option ℕ) (turns : ℕ → ℕ) (n : ℕ)
    → outcome ≡ Done tree → value held turns ≡ Some n → tree_value held turns tree ≡ Some n)
    → Tells (IsAt nodes w) outcome result
    → IfOk result (HasValue nodes value)
value_told nodes w value outcome (Ok id) law told =
    λ held turns n is.
    subst (λ tree. tree_value held turns tree ≡ Some n) (sym told.2.1) (law told.0 held turns n told.1 is)
value_told nodes w value outcome (Err why) law told = tt

module _ (nodes : List Node) (arena : IsArena nodes) (w : ℕ) (some : 0 < w) where
  module _ (parents : List (Option ℕ)) (left right : ExprId) (h : IsTreeOfAt nodes w left)
      (k : IsTreeOfAt nodes w right) where
    sum_law : (tree : Tree) (held : ℕ → Option ℕ) (turns : ℕ → ℕ) (n : ℕ)
        → tree_sum parents w (tree_of nodes left) (tree_of nodes right) ≡ Done tree
        → sum w (value_at nodes left held turns) (value_at nodes right held turns) ≡ Some n
        → tree_value held turns tree ≡ Some n
    sum_law tree held turns n e is =
        sum_value parents w (tree_of nodes left) (tree_of nodes right) tree held turns n some
        (canonical_at nodes w left arena h) (canonical_at nodes w right arena k) e is

    product_law : (tree : Tree) (held : ℕ → Option ℕ) (turns : ℕ → ℕ) (n : ℕ)
        → tree_product parents w (tree_of nodes left) (tree_of nodes right) ≡ Done tree
        → product w (value_at nodes left held turns) (value_at nodes right held turns) ≡ Some n
        → tree_value held turns tree ≡ Some n
    product_law tree held turns n e is =
        product_value parents w (tree_of nodes left) (tree_of nodes right) tree held turns n some
        (canonical_at nodes w left arena h) (canonical_at nodes w right arena k) e is

    pub sum_told : (new : List Node) (result : Result ExprId FoldError)
        → Tells (IsAt new w) (tree_sum parents w (tree_of nodes left) (tree_of nodes right)) result
        → IfOk result (HasValue new (λ held turns. sum w (value_at nodes left held turns)
        (value_at nodes right held turns)))
    sum_told new result told =
        value_told new w (λ held turns. sum w (value_at nodes left held turns) (value_at nodes right held turns))
        (tree_sum parents w (tree_of nodes left) (tree_of nodes right)) result sum_law told

    pub product_told : (new : List Node) (result : Result ExprId FoldError)
        → Tells (IsAt new w) (tree_product parents w (tree_of nodes left) (tree_of nodes right)) result
        → IfOk result (HasValue new (λ held turns. product w (value_at nodes left held turns)
        (value_at nodes right held turns)))
    product_told new result told =
        value_told new w (λ held turns. product w (value_at nodes left held turns) (value_at nodes right held turns))
        (tree_product parents w (tree_of nodes left) (tree_of nodes right)) result product_law told

  rec_law : (l : ℕ) (ids : List ExprId) → AreTreesOfAt nodes w ids → 1 ≤ length ids
      → (tree : Tree) (held : ℕ → Option ℕ) (turns : ℕ → ℕ) (n : ℕ)
      → recurrence_of w l (trees_at nodes ids) ≡ Done tree
      → iterated_parts nodes w l ids held turns ≡ Some n
      → tree_value held turns tree ≡ Some n
  rec_law l [] h k tree held turns n e is = absurd (omega (arith, k))
  rec_law l (id ∷ ids) h k tree held turns n e is =
      recurrence_value w l (tree_of nodes id) tree (trees_at nodes ids) held turns n some
      (canonical_at nodes w id arena h.0) (canonicals_at nodes w ids arena h.1) e is

  pub rec_told : (l : ℕ) (ids : List ExprId) → AreTreesOfAt nodes w ids → 1 ≤ length ids
      → (new : List Node) (result : Result ExprId FoldError)
      → Tells (IsAt new w) (recurrence_of w l (trees_at nodes ids)) result
      → IfOk result (HasValue new (iterated_parts nodes w l ids))
  rec_told l ids h k new result told =
      value_told new w (iterated_parts nodes w l ids) (recurrence_of w l (trees_at nodes ids)) result (rec_law l ids h k)
      told
