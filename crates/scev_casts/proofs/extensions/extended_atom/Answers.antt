use Rattle.scev_arena.specs.Meaning.{tree_of}
use Rattle.scev_sums.specs.Answers.{IsAt}
use Rattle.scev_sums.proofs.Telling.{told_same}
use Rattle.scev_casts.proofs.Extending.{joined_made}
use Rattle.scev_casts.proofs.extensions.extended_atom.Goals as goal

pub returns-in-Some-joined_kind-clause-tree : goal.returns-in-Some-joined_kind-clause-tree
returns-in-Some-joined_kind-clause-tree c =
    let old = c.args.arena.now in
    let w = c.args.w.bits in
    told_same (IsAt c.made.new.arena w) _ _ c.made.result
    (joined_made c.args.how old c.atom_at-inner.result.2.now w c.atom_at-inner.result.1.bits (tree_of old c.args.id)
    c.in-Some.ensures.atom c.atom_at-inner.ensures.is c.in-Some-joined_kind.ensures c.in_ok-parts.ensures)
    c.made.ensures.tree
