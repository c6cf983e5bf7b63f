-- A minimum or maximum as it is formed of trees at places: its parts, and its value.
use Rattle.std.proofs.Common.{◌≡◌, ℕ, ◌<◌, List, [], ◌++◌, Option, Result, IfOk, sym, ap, ◌∙◌, subst}
use Rattle.std.proofs.lemmas.List.{map-append}
use Rattle.scev_base.specs.declared.ids.ExprId.{ExprId}
use Rattle.scev_tree.specs.declared.kind.Kind.{Kind}
use Rattle.scev_tree.specs.Value.{lifted}
use Rattle.scev_arena.specs.declared.node.Node.{Node}
use Rattle.scev_arena.specs.Meaning.{tree_of}
use Rattle.scev_arena.specs.Standing.{IsArena}
use Rattle.scev_forms.specs.Minima.{IsMinimum, chosen, flattened, numbers_joined, no_numbers, min_parts_of, min_parts}
use Rattle.scev_forms.specs.Minima.{tree_minimum}
use Rattle.scev_forms.proofs.Flat.{NotEmpty, minimum_takes_many, both_not_empty, flattened_not_empty}
use Rattle.scev_forms.proofs.Minima.{min_parts_not_empty, minimum_value}
use Rattle.scev_sums.specs.declared.error.FoldError.{FoldError}
use Rattle.scev_sums.specs.Answers.{IsTreeOfAt, IsAt, Tells, trees_at}
use Rattle.scev_sums.specs.Values.{HasValue, value_at}
use Rattle.scev_sums.proofs.Making.{canonical_at, value_told}

module _ (old : List Node) (k : Kind) (w : ℕ) (left right : ExprId) where
  -- the parts of both, one after the other
  pub all_trees : (xs ys all : List ExprId)
      → trees_at old xs ≡ flattened k (tree_of old left)
      → trees_at old ys ≡ flattened k (tree_of old right)
      → all ≡ xs ++ ys
      → trees_at old all ≡ flattened k (tree_of old left) ++ flattened k (tree_of old right)
  all_trees xs ys all firsts seconds e =
      ap (trees_at old) e
      ∙ map-append (tree_of old) xs ys
      ∙ ap (λ l. l ++ trees_at old ys) firsts
      ∙ ap (λ l. flattened k (tree_of old left) ++ l) seconds

  -- the parts, of the number among all and the others
  pub parts_same : (mid : List Node) (all others parts : List ExprId) (number : Option ℕ)
      → trees_at old all ≡ flattened k (tree_of old left) ++ flattened k (tree_of old right)
      → number ≡ numbers_joined k w (trees_at old all)
      → trees_at old others ≡ no_numbers (trees_at old all)
      → trees_at mid parts ≡ min_parts_of k w number (trees_at old others)
      → trees_at mid parts ≡ min_parts k w (tree_of old left) (tree_of old right)
  parts_same mid all others parts number whole joined rest is =
      is
      ∙ ap (λ o. min_parts_of k w o (trees_at old others)) joined
      ∙ ap (min_parts_of k w (numbers_joined k w (trees_at old all))) rest
      ∙ ap (λ l. min_parts_of k w (numbers_joined k w l) (no_numbers l)) whole

  module _ (arena : IsArena old) (is : IsMinimum k) (h : IsTreeOfAt old w left) where
    -- there is one
    pub some_parts : (mid : List Node) (parts : List ExprId)
        → trees_at mid parts ≡ min_parts k w (tree_of old left) (tree_of old right)
        → parts ≡ []
        → ⊥
    some_parts mid parts e none =
        let l = tree_of old left in
        let r = tree_of old right in
        let filled = min_parts_not_empty k w (flattened k l ++ flattened k r)
        (both_not_empty (flattened k l) (flattened k r)
        (flattened_not_empty k w l (minimum_takes_many k is) (canonical_at old w left arena h))) in
        subst NotEmpty (sym e ∙ ap (trees_at mid) none) filled

    -- the value
    pub minimum_told : (new : List Node) (result : Result ExprId FoldError) → 0 < w → IsTreeOfAt old w right
        → Tells (IsAt new w) (tree_minimum k w (tree_of old left) (tree_of old right)) result
        → IfOk result (HasValue new (λ held turns. lifted (chosen k w) (value_at old left held turns)
        (value_at old right held turns)))
    minimum_told new result some h' told =
        value_told new w (λ held turns. lifted (chosen k w) (value_at old left held turns)
        (value_at old right held turns)) (tree_minimum k w (tree_of old left) (tree_of old right)) result
        (λ tree held turns n e value.
        minimum_value held turns k w (tree_of old left) (tree_of old right) tree n is some
        (canonical_at old w left arena h) (canonical_at old w right arena h') e value) told
