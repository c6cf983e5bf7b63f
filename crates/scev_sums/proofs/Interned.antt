-- What an arena holds at the place of a node that is interned.
use Rattle.std.proofs.Common.{◌≡◌, inl, inr, List, [], ◌∷◌, map, Some, slice_get, refl, sym, ap, ◌∙◌, subst}
use Rattle.scev_base.specs.declared.ids.ExprId.{ExprId}
use Rattle.scev_base.specs.declared.width.Width.{Width}
use Rattle.scev_tree.specs.declared.kind.Kind.{Kind}
use Rattle.scev_tree.specs.Tree.{polynomial, atom, parts_of, width_of}
use Rattle.poly_terms.specs.declared.term.Term.{Term}
use Rattle.scev_arena.specs.declared.node.Node.{Node}
use Rattle.scev_arena.specs.declared.node.Node.TheVariants as node
use Rattle.scev_arena.specs.Meaning.{node_meant, meanings, terms_at, tree_in, atom_in, tree_of, atom_of}
use Rattle.scev_arena.specs.Standing.{HoldsTree, HoldsAtom, IsAtomAt, IsArena, IsGrown}
use Rattle.scev_arena.proofs.PlacesStay.{last_holds}
use Rattle.scev_arena.proofs.WellMade.{well_made}
use Rattle.scev_sums.specs.Answers.{GoesOn, IsAt}
use Rattle.scev_sums.proofs.Growth.{goes_on_itself}

-- the arena goes on
pub interned_goes_on : (old new : List Node) (n : Node) (id : ExprId) → IsGrown old n new id → GoesOn old new
interned_goes_on old new n id (inl there) = subst (GoesOn old) (sym there.1) (goes_on_itself old)
interned_goes_on old new n id (inr added) = (n ∷ [], added.0.1)

-- the place holds what the node meant before
pub interned_holds : (old new : List Node) (n : Node) (id : ExprId)
    → IsArena new
    → IsGrown old n new id
    → slice_get (meanings new) id.0 ≡ Some (node_meant (meanings old) n)
interned_holds old new n id arena (inl there) =
    ap (λ l. slice_get (meanings l) id.0) there.1
    ∙ (well_made old (subst IsArena there.1 arena)).holds id.0 n there.0
interned_holds old new n id arena (inr added) =
    ap (λ l. slice_get (meanings l) id.0) added.0.1 ∙ last_holds old n id.0 added.1

-- the place of a polynomial holds its tree
pub interned_tree : (old new : List Node) (w : Width) (terms : List Term) (id : ExprId)
    → IsArena new
    → slice_get new id.0 ≡ Some (node.Tree w terms)
    → IsGrown old (node.Tree w terms) new id
    → IsAt new w.bits id (polynomial w.bits (terms_at (meanings old) terms))
interned_tree old new w terms id arena there grown =
    let held = ap tree_in (interned_holds old new (node.Tree w terms) id arena grown) in
    ((subst HoldsTree (sym there) tt, ap width_of held), held)

-- the place of an atom holds it
pub interned_atom : (old new : List Node) (kind : Kind) (w : Width) (parts : List ExprId) (id : ExprId)
    → IsArena new
    → slice_get new id.0 ≡ Some (node.Atom kind w parts)
    → IsGrown old (node.Atom kind w parts) new id
    → IsAtomAt new w.bits id × (atom_of new id ≡ atom kind w.bits (parts_of (map (tree_of old) parts)))
interned_atom old new kind w parts id arena there grown =
    let held = ap atom_in (interned_holds old new (node.Atom kind w parts) id arena grown) in
    (subst (HoldsAtom w.bits) (sym there) refl, held)
