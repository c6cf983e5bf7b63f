use Rattle.std.proofs.Common.{◌≡◌, true, sym, ap, ◌∙◌, subst}
use Rattle.scev_arena.specs.Nodes.{same_kind}
use Rattle.scev_sums.specs.Answers.{AreTreesOfAt, trees_at}
use Rattle.scev_minima.proofs.Flattening.{one_kind, same_by_rank, flat_same, flat_trees}
use Rattle.scev_minima.proofs.flat.flattened.Goals as goal

pub returns-then-eq-clause-parts : goal.returns-then-eq-clause-parts
returns-then-eq-clause-parts c =
    let nodes = c.args.arena.now in
    let inner = c.atom_at-inner.result.0 in
    let same : true ≡ same_kind inner c.args.kind = c.if-eq.ensures in
    ap (trees_at nodes) c.in_ok-from_slice.ensures.items
    ∙ flat_same nodes c.args.kind c.args.id c.in-Some.atom inner c.atom_at-inner.result.1.bits
    c.atom_at-inner.result.2.now c.in-Some.ensures.atom c.atom_at-inner.ensures.is
    (sym (same ∙ same_by_rank inner c.args.kind c.requires.kind))

pub returns-then-eq-clause-trees : goal.returns-then-eq-clause-trees
returns-then-eq-clause-trees c =
    let nodes = c.args.arena.now in
    let inner = c.atom_at-inner.result.0 in
    let same : true ≡ same_kind inner c.args.kind = c.if-eq.ensures in
    let read = c.atom_at-inner.ensures in
    subst (AreTreesOfAt nodes c.args.w.bits) (sym c.in_ok-from_slice.ensures.items)
    (flat_trees nodes c.args.kind c.args.id c.in-Some.atom inner c.atom_at-inner.result.1.bits
    c.atom_at-inner.result.2.now c.in-Some.ensures.atom read.is c.args.w.bits c.requires.kind
    (one_kind inner c.args.kind c.requires.kind (sym same)) c.requires.tree c.in-Some.ensures.place read.width
    read.trees read.parts)
