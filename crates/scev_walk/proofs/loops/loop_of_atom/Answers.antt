use Rattle.std.proofs.Common.{sym, ap, ◌∙◌}
use Rattle.scev_walk.specs.Reading.{loop_of_atom}
use Rattle.scev_walk.proofs.Places.{atom_is, no_atom_there}
use Rattle.scev_walk.proofs.loops.loop_of_atom.Goals as goal

pub returns-in-Atom : goal.returns-in-Atom
returns-in-Atom c =
    c.loop_of_kind.ensures
    ∙ sym (ap loop_of_atom (atom_is c.args.arena.now c.args.id c.node.result.now c.node.ensures.arena
    c.node.ensures.node c.in-Atom.kind c.in-Atom.width c.in-Atom.parts c.in-Atom.is))

pub returns-in-Tree : goal.returns-in-Tree
returns-in-Tree c =
    sym (ap loop_of_atom (no_atom_there c.args.arena.now c.args.id c.node.result.now c.node.ensures.arena
    c.node.ensures.node c.in-Tree.width c.in-Tree.terms c.in-Tree.is))
