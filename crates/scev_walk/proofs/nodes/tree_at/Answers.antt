use Rattle.std.proofs.Common.{sym, ap, subst, ◌∙◌}
use Rattle.scev_tree.specs.Tree.{polynomial}
use Rattle.scev_tree.specs.Canonical.{AreCanonicalTerms}
use Rattle.scev_arena.specs.Meaning.{meanings, terms_at}
use Rattle.scev_arena.specs.Standing.{AreOverAtoms}
use Rattle.scev_walk.specs.Reading.{AreOverBelow}
use Rattle.scev_walk.proofs.Places.{tree_is, tree_over, tree_canonical, tree_below}
use Rattle.scev_walk.proofs.nodes.tree_at.Goals as goal

pub returns-in-Tree-clause-tree : goal.returns-in-Tree-clause-tree
returns-in-Tree-clause-tree c =
    tree_is c.args.arena.now c.args.id c.node.result.now c.node.ensures.arena c.node.ensures.node c.in-Tree.width
    c.in-Tree.terms c.in-Tree.is
    ∙ ap (λ ts. polynomial c.in-Tree.width.bits (terms_at (meanings c.args.arena.now) ts)) (sym c.as_slice.ensures)

pub returns-in-Tree-clause-over : goal.returns-in-Tree-clause-over
returns-in-Tree-clause-over c =
    subst (AreOverAtoms c.args.arena.now c.in-Tree.width.bits) (sym c.as_slice.ensures)
    (tree_over c.args.arena.now c.args.id c.node.result.now c.node.ensures.arena c.node.ensures.node c.in-Tree.width
    c.in-Tree.terms c.in-Tree.is)

pub returns-in-Tree-clause-below : goal.returns-in-Tree-clause-below
returns-in-Tree-clause-below c =
    subst (AreOverBelow c.args.id.0) (sym c.as_slice.ensures)
    (tree_below c.args.arena.now c.args.id c.node.result.now c.node.ensures.arena c.node.ensures.node c.in-Tree.width
    c.in-Tree.terms c.in-Tree.is)

pub returns-in-Tree-clause-canonical : goal.returns-in-Tree-clause-canonical
returns-in-Tree-clause-canonical c =
    subst (λ ts. AreCanonicalTerms c.in-Tree.width.bits (terms_at (meanings c.args.arena.now) ts))
    (sym c.as_slice.ensures)
    (tree_canonical c.args.arena.now c.args.id c.node.result.now c.node.ensures.arena c.node.ensures.node
    c.in-Tree.width c.in-Tree.terms c.in-Tree.is)
