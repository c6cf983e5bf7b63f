use Rattle.std.proofs.Common.{IfOk, ap, ◌∙◌, subst}
use Rattle.scev_tree.specs.Tree.{Tree, of_atom}
use Rattle.scev_sums.specs.Answers.{IsAt}
use Rattle.scev_sums.proofs.Interned.{interned_atom}
use Rattle.scev_sums.proofs.tested.tree_of_atom.Goals as goal

pub returns-clause-tree : goal.returns-clause-tree
returns-clause-tree c =
    let new = c.tree_of_terms.new.arena in
    let w = c.args.w.bits in
    let held = interned_atom c.args.arena.now c.intern.new.self c.args.kind c.args.w c.args.parts c.in_ok-atom.atom
    c.intern.ensures.arena c.in_ok-atom.ensures.place c.in_ok-atom.ensures.grows in
    subst (λ (tree : Tree). IfOk c.tree_of_terms.result (λ id. IsAt new w id tree))
    (c.in_ok-terms.ensures.atom ∙ ap (of_atom w) held.1)
    c.tree_of_terms.ensures.tree
