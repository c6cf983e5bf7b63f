use Rattle.std.proofs.Common.{ap, sym, subst, ◌∙◌}
use Rattle.std.proofs.lemmas.List.{take_all}
use Rattle.scev_tree.specs.Tree.{polynomial}
use Rattle.scev_arena.specs.Meaning.{meanings, terms_at}
use Rattle.scev_arena.specs.Standing.{AreOverAtoms}
use Rattle.scev_walk.specs.Reading.{AreOverBelow}
use Rattle.scev_sums.proofs.copied.copied_terms.Goals as goal

pub returns-clause-tree : goal.returns-clause-tree
returns-clause-tree c =
    let same = c.from_vec.ensures ∙ c.loop-term.invariant
    ∙ take_all c.loop-term.term-index c.tree_at.result.1.now c.loop-term-test.false in
    c.tree_at.ensures.tree
    ∙ ap (λ ts. polynomial c.tree_at.result.0.bits (terms_at (meanings c.args.arena.now) ts)) (sym same)

pub returns-clause-over : goal.returns-clause-over
returns-clause-over c =
    let same = c.from_vec.ensures ∙ c.loop-term.invariant
    ∙ take_all c.loop-term.term-index c.tree_at.result.1.now c.loop-term-test.false in
    subst (AreOverAtoms c.args.arena.now c.tree_at.result.0.bits) (sym same) c.tree_at.ensures.over

pub returns-clause-below : goal.returns-clause-below
returns-clause-below c =
    let same = c.from_vec.ensures ∙ c.loop-term.invariant
    ∙ take_all c.loop-term.term-index c.tree_at.result.1.now c.loop-term-test.false in
    subst (AreOverBelow c.args.id.0) (sym same) c.tree_at.ensures.below
