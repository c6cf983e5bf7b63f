-- What a node of an arena says of its place.
use Rattle.std.proofs.Common.{◌≡◌, List, map, Some, slice_get, ap, ◌∙◌}
use Rattle.scev_base.specs.declared.ids.ExprId.{ExprId}
use Rattle.scev_base.specs.declared.width.Width.{Width}
use Rattle.scev_tree.specs.declared.kind.Kind.{Kind}
use Rattle.scev_tree.specs.declared.kind.Kind.TheVariants as kind
use Rattle.scev_tree.specs.Tree.{polynomial, atom, no_parts, parts_of}
use Rattle.scev_tree.specs.Canonical.{HasParts, AreCanonicalTerms}
use Rattle.poly_terms.specs.declared.term.Term.{Term}
use Rattle.scev_arena.specs.declared.node.Node.{Node}
use Rattle.scev_arena.specs.declared.node.Node.TheVariants as node
use Rattle.scev_arena.specs.Meaning.{meanings, tree_in, atom_in, tree_of, atom_of, terms_at}
use Rattle.scev_arena.specs.Standing.{AreTrees, AreOverAtoms, IsArena}
use Rattle.scev_arena.proofs.WellMade.{well_made}
use Rattle.scev_walk.specs.Reading.{AreBelow, AreOverBelow}
use Rattle.scev_walk.proofs.Below.{trees_below, terms_below}

module _ (nodes : List Node) (id : ExprId) (n : Node) (arena : IsArena nodes) (there : slice_get nodes id.0 ≡ Some n)
  where
    module _ (width : Width) (terms : List Term) (is : n ≡ node.Tree width terms) where
      node_there : slice_get nodes id.0 ≡ Some (node.Tree width terms)
      node_there = there ∙ ap Some is

      -- a tree is the polynomial of its terms
      pub tree_is : tree_of nodes id ≡ polynomial width.bits (terms_at (meanings nodes) terms)
      tree_is = ap tree_in ((well_made nodes arena).holds id.0 (node.Tree width terms) node_there)

      pub tree_over : AreOverAtoms nodes width.bits terms
      tree_over = ((well_made nodes arena).stands id.0 (node.Tree width terms) node_there).1

      pub tree_below : AreOverBelow id.0 terms
      tree_below = terms_below nodes id.0 width.bits terms (arena.stand id.0 (node.Tree width terms) node_there).1

      pub tree_canonical : AreCanonicalTerms width.bits (terms_at (meanings nodes) terms)
      tree_canonical = ((well_made nodes arena).stands id.0 (node.Tree width terms) node_there).0

      -- the atom that such a place counts as
      pub no_atom_there : atom_of nodes id ≡ atom kind.Trunc 0 no_parts
      no_atom_there = ap atom_in ((well_made nodes arena).holds id.0 (node.Tree width terms) node_there)

    module _ (k : Kind) (width : Width) (parts : List ExprId) (is : n ≡ node.Atom k width parts) where
      part_there : slice_get nodes id.0 ≡ Some (node.Atom k width parts)
      part_there = there ∙ ap Some is

      pub atom_is : atom_of nodes id ≡ atom k width.bits (parts_of (map (tree_of nodes) parts))
      atom_is = ap atom_in ((well_made nodes arena).holds id.0 (node.Atom k width parts) part_there)

      pub atom_trees : AreTrees nodes parts
      atom_trees = ((well_made nodes arena).stands id.0 (node.Atom k width parts) part_there).0

      -- they are such as the kind asks for
      pub atom_parts : HasParts k width.bits (parts_of (map (tree_of nodes) parts))
      atom_parts = ((well_made nodes arena).stands id.0 (node.Atom k width parts) part_there).1

      pub parts_below : AreBelow id.0 parts
      parts_below = trees_below nodes id.0 parts (arena.stand id.0 (node.Atom k width parts) part_there).0
