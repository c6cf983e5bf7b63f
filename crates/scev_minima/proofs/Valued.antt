-- What is formed of trees at places has the value that it stands for.
use Rattle.std.proofs.Common.{◌≡◌, ℕ, ◌<◌, List, [], ◌∷◌, Result, IfOk, Option, Some}
use Rattle.scev_base.specs.declared.ids.ExprId.{ExprId}
use Rattle.scev_tree.specs.Tree.{Tree}
use Rattle.scev_tree.specs.Value.{quotient, least_in_sequence, tree_value}
use Rattle.scev_arena.specs.declared.node.Node.{Node}
use Rattle.scev_arena.specs.Meaning.{tree_of}
use Rattle.scev_arena.specs.Standing.{IsArena}
use Rattle.scev_forms.specs.Outcome.{Done}
use Rattle.scev_forms.specs.Quotients.{tree_quotient}
use Rattle.scev_forms.specs.Minima.{tree_sequence}
use Rattle.scev_forms.proofs.Quotients.{quotient_value}
use Rattle.scev_forms.proofs.Sequences.{sequence_value}
use Rattle.scev_sums.specs.declared.error.FoldError.{FoldError}
use Rattle.scev_sums.specs.Answers.{IsTreeOfAt, IsAt, Tells}
use Rattle.scev_sums.specs.Values.{HasValue, value_at}
use Rattle.scev_sums.proofs.Making.{canonical_at, value_told}

module _ (nodes : List Node) (arena : IsArena nodes) (w : ℕ) (left right : ExprId) (h : IsTreeOfAt nodes w left)
    (k : IsTreeOfAt nodes w right) where
  -- the quotient's law, at places
  quotient_law : (tree : Tree) (held : ℕ → Option ℕ) (turns : ℕ → ℕ) (n : ℕ)
      → tree_quotient w (tree_of nodes left) (tree_of nodes right) ≡ Done tree
      → quotient (value_at nodes left held turns) (value_at nodes right held turns) ≡ Some n
      → tree_value held turns tree ≡ Some n
  quotient_law tree held turns n e is =
      quotient_value held turns w (tree_of nodes left) (tree_of nodes right) tree n (canonical_at nodes w left arena h)
      (canonical_at nodes w right arena k) e is

  -- a quotient has that of the values
  pub quotient_told : (new : List Node) (result : Result ExprId FoldError)
      → Tells (IsAt new w) (tree_quotient w (tree_of nodes left) (tree_of nodes right)) result
      → IfOk result (HasValue new (λ held turns.
      quotient (value_at nodes left held turns) (value_at nodes right held turns)))
  quotient_told new result told =
      value_told new w (λ held turns. quotient (value_at nodes left held turns) (value_at nodes right held turns))
      (tree_quotient w (tree_of nodes left) (tree_of nodes right)) result quotient_law told

  -- the sequential minimum's
  sequence_law : 0 < w → (tree : Tree) (held : ℕ → Option ℕ) (turns : ℕ → ℕ) (n : ℕ)
      → tree_sequence w (tree_of nodes left) (tree_of nodes right) ≡ Done tree
      → least_in_sequence (value_at nodes left held turns ∷ value_at nodes right held turns ∷ []) ≡ Some n
      → tree_value held turns tree ≡ Some n
  sequence_law some tree held turns n e is =
      sequence_value held turns w (tree_of nodes left) (tree_of nodes right) tree n some
      (canonical_at nodes w left arena h) (canonical_at nodes w right arena k) e is

  -- a sequential minimum has that of the values
  pub sequence_told : 0 < w → (new : List Node) (result : Result ExprId FoldError)
      → Tells (IsAt new w) (tree_sequence w (tree_of nodes left) (tree_of nodes right)) result
      → IfOk result (HasValue new (λ held turns.
      least_in_sequence (value_at nodes left held turns ∷ value_at nodes right held turns ∷ [])))
  sequence_told some new result told =
      value_told new w
      (λ held turns. least_in_sequence (value_at nodes left held turns ∷ value_at nodes right held turns ∷ []))
      (tree_sequence w (tree_of nodes left) (tree_of nodes right)) result (sequence_law some) told
