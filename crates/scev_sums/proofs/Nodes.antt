-- What a node says of its place: the terms of a tree, and the parts of a recurrence.
use Rattle.std.proofs.Common.{◌≡◌, ℕ, List, Some, slice_get, sym, ap, ◌∙◌, subst}
use Rattle.scev_base.specs.declared.ids.ExprId.{ExprId}
use Rattle.scev_base.specs.declared.width.Width.{Width}
use Rattle.scev_tree.specs.Tree.{width_of, polynomial}
use Rattle.poly_terms.specs.declared.term.Term.{Term}
use Rattle.scev_arena.specs.declared.node.Node.{Node}
use Rattle.scev_arena.specs.declared.node.Node.TheVariants as node
use Rattle.scev_arena.specs.Meaning.{meanings, terms_at, tree_of}
use Rattle.scev_arena.specs.Standing.{IsArena}
use Rattle.scev_arena.proofs.WellMade.{well_made}
use Rattle.scev_polys.specs.Polynomials.{IsPolynomial}
use Rattle.scev_walk.proofs.Places.{tree_is}

module _ (nodes : List Node) (id : ExprId) (n : Node) (arena : IsArena nodes) (there : slice_get nodes id.0 ≡ Some n)
  where
    -- ---- a tree of w bits

    module _ (w : ℕ) (wide : width_of (tree_of nodes id) ≡ w) (width : Width) (terms : List Term)
        (is : n ≡ node.Tree width terms)
      where
        same_width : width.bits ≡ w
        same_width = sym (ap width_of (tree_is nodes id n arena there width terms is)) ∙ wide

        -- it is the polynomial of its terms
        pub terms_are : tree_of nodes id ≡ polynomial w (terms_at (meanings nodes) terms)
        terms_are =
            tree_is nodes id n arena there width terms is
            ∙ ap (λ v. polynomial v (terms_at (meanings nodes) terms)) same_width

        pub terms_polynomial : IsPolynomial nodes w terms
        terms_polynomial =
            let may = (well_made nodes arena).stands id.0 (node.Tree width terms) (there ∙ ap Some is) in
            subst (λ v. IsPolynomial nodes v terms) same_width (record { over = may.1; canonical = may.0 })
