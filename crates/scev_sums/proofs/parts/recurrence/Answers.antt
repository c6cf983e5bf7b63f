use Rattle.std.proofs.Common.{◌≤◌, sym, ap, ◌∙◌, subst, length}
use Rattle.scev_arena.specs.Standing.{AreTrees}
use Rattle.scev_sums.specs.Answers.{AreTreesOfAt}
use Rattle.scev_sums.proofs.Held.{are_trees, have_width, as_many_parts}
use Rattle.scev_sums.proofs.parts.recurrence.Goals as goal

pub tree_of_atom-requires-clause-parts : goal.tree_of_atom-requires-clause-parts
tree_of_atom-requires-clause-parts c =
    let nodes = c.args.arena.now in
    subst (AreTrees nodes) (sym c.in_ok-parts-in_default.ensures)
    (are_trees nodes c.args.w.bits c.args.parts.now c.requires)

pub tree_of_atom-requires-clause-kind : goal.tree_of_atom-requires-clause-kind
tree_of_atom-requires-clause-kind c =
    let nodes = c.args.arena.now in
    let w = c.args.w.bits in
    let ids = c.in_ok-parts-in_default.parts in
    let same = sym c.in_ok-parts-in_default.ensures in (
      subst (λ n. 2 ≤ n) (ap length same ∙ sym (as_many_parts nodes ids)) c.in_default.len_at_least,
      have_width nodes w ids (subst (AreTreesOfAt nodes w) same c.requires),
    )
