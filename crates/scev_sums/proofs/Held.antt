-- What is known of trees at places.
use Rattle.std.proofs.Common.{◌≡◌, ℕ, zero, suc, ◌<◌, List, [], ◌∷◌, ◌++◌, length, get_or, Some, slice_get}
use Rattle.std.proofs.Common.{refl, sym, ap, ◌∙◌, arith}
use Rattle.scev_base.specs.declared.ids.ExprId.{ExprId}
use Rattle.scev_base.specs.declared.width.Width.{Width}
use Rattle.scev_tree.specs.Tree.{polynomial, parts_of, width_of}
use Rattle.scev_tree.specs.Order.{count_parts}
use Rattle.scev_tree.specs.Canonical.{HaveWidth}
use Rattle.poly_terms.specs.declared.term.Term.{Term}
use Rattle.scev_arena.specs.declared.node.Node.{Node}
use Rattle.scev_arena.specs.declared.node.Node.TheVariants as node
use Rattle.scev_arena.specs.Meaning.{meanings, terms_at, tree_in, tree_of}
use Rattle.scev_arena.specs.Standing.{AreTrees, IsArena}
use Rattle.scev_arena.proofs.WellMade.{well_made}
use Rattle.scev_sums.specs.Answers.{IsTreeOfAt, AreTreesOfAt, trees_at}

-- a tree of w bits is the polynomial of the terms that are read of its node
pub tree_read : (nodes : List Node) (w : ℕ) (id : ExprId) (found : Node) (width : Width) (terms read : List Term)
    → IsArena nodes
    → IsTreeOfAt nodes w id
    → slice_get nodes id.0 ≡ Some found
    → found ≡ node.Tree width terms
    → read ≡ terms
    → tree_of nodes id ≡ polynomial w (terms_at (meanings nodes) read)
tree_read nodes w id found width terms read arena wide there is same =
    let meant = meanings nodes in
    let held = (well_made nodes arena).holds id.0 (node.Tree width terms) (there ∙ ap Some is) in
    let tree : tree_of nodes id ≡ polynomial width.bits (terms_at meant terms) = ap tree_in held in
    tree
    ∙ ap (λ v. polynomial v (terms_at meant terms)) (sym (ap width_of tree) ∙ wide.1)
    ∙ ap (λ l. polynomial w (terms_at meant l)) (sym same)

module _ (nodes : List Node) (w : ℕ) where
  pub are_trees : (ids : List ExprId) → AreTreesOfAt nodes w ids → AreTrees nodes ids
  are_trees [] h = tt
  are_trees (id ∷ ids) h = (h.0.0, are_trees ids h.1)

  pub have_width : (ids : List ExprId) → AreTreesOfAt nodes w ids → HaveWidth w (parts_of (trees_at nodes ids))
  have_width [] h = tt
  have_width (id ∷ ids) h = (h.0.1, have_width ids h.1)

  pub tree_among : (ids : List ExprId) (k : ℕ) (other : ExprId) → AreTreesOfAt nodes w ids
      → k < length ids
      → IsTreeOfAt nodes w (get_or ids k other)
  tree_among [] k other h less = absurd (omega arith)
  tree_among (id ∷ ids) zero other h less = h.0
  tree_among (id ∷ ids) (suc k) other h less = tree_among ids k other h.1 (omega arith)

  pub trees_and_last : (ids : List ExprId) (last : ExprId) → AreTreesOfAt nodes w ids
      → IsTreeOfAt nodes w last
      → AreTreesOfAt nodes w (ids ++ last ∷ [])
  trees_and_last [] last h k = (k, tt)
  trees_and_last (id ∷ ids) last h k = (h.0, trees_and_last ids last h.1 k)

  pub trees_before : (ids : List ExprId) (last : ExprId) → AreTreesOfAt nodes w (ids ++ last ∷ [])
      → AreTreesOfAt nodes w ids
  trees_before [] last h = tt
  trees_before (id ∷ ids) last h = (h.0, trees_before ids last h.1)

  pub last_tree : (ids : List ExprId) (last : ExprId) → AreTreesOfAt nodes w (ids ++ last ∷ [])
      → IsTreeOfAt nodes w last
  last_tree [] last h = h.0
  last_tree (id ∷ ids) last h = last_tree ids last h.1

-- as many parts as places
pub as_many_parts : (nodes : List Node) (ids : List ExprId)
    → count_parts (parts_of (trees_at nodes ids)) ≡ length ids
as_many_parts nodes [] = refl
as_many_parts nodes (id ∷ ids) = ap suc (as_many_parts nodes ids)
