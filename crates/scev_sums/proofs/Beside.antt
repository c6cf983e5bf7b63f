-- What a recurrence becomes beside other terms.
use Rattle.std.proofs.Common.{◌≡◌, ℕ, suc, ◌<◌, ◌≤◌, inl, inr, false, ◌==◌, List, [], ◌∷◌, length}
use Rattle.std.proofs.Common.{get_or, refl, sym, ap, ◌∙◌, subst, arith}
use Rattle.std.proofs.lemmas.Bool.{false≢true}
use Rattle.std.proofs.lemmas.List.{append-nil}
use Rattle.scev_base.specs.declared.ids.ExprId.{ExprId}
use Rattle.scev_tree.specs.declared.kind.Kind.TheVariants as kind
use Rattle.scev_tree.specs.Tree.{Terms, polynomial, no_terms, atom, parts_of, of_atom}
use Rattle.scev_tree.specs.Canonical.{HaveWidth}
use Rattle.scev_tree.specs.Order.{count_parts}
use Rattle.poly_terms.specs.declared.term.Term.{Term}
use Rattle.scev_arena.specs.declared.node.Node.{Node}
use Rattle.scev_arena.specs.Meaning.{meanings, terms_at, tree_of}
use Rattle.scev_arena.specs.Standing.{AreTrees, IsGrown}
use Rattle.scev_forms.specs.Polynomials.{terms_of, terms_sum}
use Rattle.scev_forms.specs.Sums.{Whole, Again, beside}
use Rattle.scev_sums.specs.Answers.{GoesOn, AreTreesOfAt, trees_at}

-- an arena that took a node in goes on
pub grown_goes_on : (old new : List Node) (n : Node) (id : ExprId) → IsGrown old n new id → GoesOn old new
grown_goes_on old new n id (inl h) = ([], h.1 ∙ sym (append-nil old))
grown_goes_on old new n id (inr h) = (n ∷ [], h.0.1)

module _ (nodes : List Node) (w : ℕ) where
  pub are_trees : (ids : List ExprId) → AreTreesOfAt nodes w ids → AreTrees nodes ids
  are_trees [] h = tt
  are_trees (id ∷ ids) h = (h.0.0, are_trees ids h.1)

  pub have_width : (ids : List ExprId) → AreTreesOfAt nodes w ids → HaveWidth w (parts_of (trees_at nodes ids))
  have_width [] h = tt
  have_width (id ∷ ids) h = (h.0.1, have_width ids h.1)

  pub as_many_parts : (ids : List ExprId) → count_parts (parts_of (trees_at nodes ids)) ≡ length ids
  as_many_parts [] = refl
  as_many_parts (id ∷ ids) = ap suc (as_many_parts ids)

module _ (w l : ℕ) (others : Terms) where
  -- no part: the others stand alone
  pub beside_none : (nodes : List Node) (ids : List ExprId) → length ids < 1
      → Whole (polynomial w (terms_sum w no_terms others)) ≡ beside w l (trees_at nodes ids) others
  unfolding terms_sum
  beside_none nodes [] h = refl
  beside_none nodes (id ∷ ids) h = absurd (omega arith)

  -- one part joins the others
  pub beside_one : (nodes : List Node) (ids : List ExprId) (terms : List Term) (mine : Terms)
      → 1 ≤ length ids
      → length ids < 2
      → length terms == 0 ≡ false
      → terms_at (meanings nodes) terms ≡ others
      → tree_of nodes (get_or ids 0 (record { 0 = 0 })) ≡ polynomial w mine
      → beside w l (trees_at nodes ids) others ≡ Again (terms_sum w mine others)
  beside_one nodes [] terms mine some few more is e = absurd (omega arith)
  beside_one nodes (id ∷ other ∷ ids) terms mine some few more is e = absurd (omega arith)
  beside_one nodes (id ∷ []) [] mine some few more is e = absurd (false≢true (sym more))
  beside_one nodes (id ∷ []) (t ∷ ts) mine some few more is e =
      subst (λ rest. beside w l (trees_at nodes (id ∷ [])) rest ≡ Again (terms_sum w mine rest)) is
      (ap (λ tree. Again (terms_sum w (terms_of tree) (terms_at (meanings nodes) (t ∷ ts)))) e)

  -- several parts are a recurrence, which stands beside the others
  pub beside_many : (nodes : List Node) (ids : List ExprId) (rec : Terms) → 2 ≤ length ids
      → polynomial w rec ≡ of_atom w (atom (kind.Rec (record { 0 = l })) w (parts_of (trees_at nodes ids)))
      → Whole (polynomial w (terms_sum w rec others)) ≡ beside w l (trees_at nodes ids) others
  unfolding terms_sum
  beside_many nodes [] rec some e = absurd (omega arith)
  beside_many nodes (id ∷ []) rec some e = absurd (omega arith)
  beside_many nodes (first ∷ second ∷ ids) rec some e =
      ap (λ tree. Whole (polynomial w (terms_sum w (terms_of tree) others))) e
