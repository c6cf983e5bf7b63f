-- The parts of a minimum or maximum where a number is among them.
use Rattle.std.proofs.Common.{◌≡◌, ℕ, false, ◌==◌, List, [], ◌∷◌, length, Some, refl}
use Rattle.std.proofs.lemmas.Bool.{false_from_ne_true}
use Rattle.std.proofs.lemmas.Bool.Decides.{Decides-eqb}
use Rattle.scev_base.specs.declared.ids.ExprId.{ExprId}
use Rattle.scev_tree.specs.declared.kind.Kind.{Kind}
use Rattle.scev_tree.specs.Tree.{Tree, constant}
use Rattle.scev_arena.specs.declared.node.Node.{Node}
use Rattle.scev_forms.specs.Minima.{neutral, absorbing, with_tree, min_parts_of}
use Rattle.scev_sums.specs.Answers.{trees_at}

-- numbers that differ are told apart
apart : (m n : ℕ) → (m ≡ n → ⊥) → (m == n) ≡ false
apart m n other = false_from_ne_true (m == n) (λ h. other ((Decides-eqb m n).0 h))

-- a number that is neither neutral nor absorbing stands among the others
pub with_constant : (k : Kind) (w n : ℕ) (trees : List Tree) → (trees ≡ [] → ⊥)
    → (n ≡ absorbing k w → ⊥)
    → (n ≡ neutral k w → ⊥)
    → min_parts_of k w (Some n) trees ≡ with_tree (constant w n) trees
with_constant k w n [] some not_all not_none = absurd (some refl)
with_constant k w n (tree ∷ trees) some not_all not_none =
    rw (apart n (absorbing k w) not_all) (rw (apart n (neutral k w) not_none) refl)

-- places of which there are some hold some trees
pub some_trees : (nodes : List Node) (ids : List ExprId) → (length ids ≡ 0 → ⊥) → trees_at nodes ids ≡ [] → ⊥
some_trees nodes [] some e = some refl
some_trees nodes (id ∷ ids) some e = absurd cc
