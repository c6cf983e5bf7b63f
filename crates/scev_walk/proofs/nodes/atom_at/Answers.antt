use Rattle.std.proofs.Common.{map, sym, ap, subst, ◌∙◌}
use Rattle.scev_tree.specs.Tree.{atom, parts_of}
use Rattle.scev_tree.specs.Canonical.{HasParts}
use Rattle.scev_arena.specs.Meaning.{tree_of}
use Rattle.scev_arena.specs.Standing.{AreTrees}
use Rattle.scev_walk.specs.Reading.{AreBelow}
use Rattle.scev_walk.proofs.Places.{atom_is, atom_trees, atom_parts, parts_below}
use Rattle.scev_walk.proofs.nodes.atom_at.Goals as goal

pub returns-in-Atom-clause-is : goal.returns-in-Atom-clause-is
returns-in-Atom-clause-is c =
    atom_is c.args.arena.now c.args.id c.node.result.now c.node.ensures.arena c.node.ensures.node c.in-Atom.kind
    c.in-Atom.width c.in-Atom.parts c.in-Atom.is
    ∙ ap (λ ids. atom c.in-Atom.kind c.in-Atom.width.bits (parts_of (map (tree_of c.args.arena.now) ids)))
    (sym c.as_slice.ensures)

pub returns-in-Atom-clause-trees : goal.returns-in-Atom-clause-trees
returns-in-Atom-clause-trees c =
    subst (AreTrees c.args.arena.now) (sym c.as_slice.ensures)
    (atom_trees c.args.arena.now c.args.id c.node.result.now c.node.ensures.arena c.node.ensures.node c.in-Atom.kind
    c.in-Atom.width c.in-Atom.parts c.in-Atom.is)

pub returns-in-Atom-clause-below : goal.returns-in-Atom-clause-below
returns-in-Atom-clause-below c =
    subst (AreBelow c.args.id.0) (sym c.as_slice.ensures)
    (parts_below c.args.arena.now c.args.id c.node.result.now c.node.ensures.arena c.node.ensures.node c.in-Atom.kind
    c.in-Atom.width c.in-Atom.parts c.in-Atom.is)

pub returns-in-Atom-clause-parts : goal.returns-in-Atom-clause-parts
returns-in-Atom-clause-parts c =
    subst (λ ids. HasParts c.in-Atom.kind c.in-Atom.width.bits (parts_of (map (tree_of c.args.arena.now) ids)))
    (sym c.as_slice.ensures)
    (atom_parts c.args.arena.now c.args.id c.node.result.now c.node.ensures.arena c.node.ensures.node c.in-Atom.kind
    c.in-Atom.width c.in-Atom.parts c.in-Atom.is)
