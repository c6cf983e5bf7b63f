use Rattle.std.proofs.Common.{◌≡◌, ℕ, ◌<◌, length, refl, sym, ◌∙◌, subst, arith}
use Rattle.scev_tree.specs.Tree.{width_of}
use Rattle.scev_arena.specs.Meaning.{tree_of}
use Rattle.scev_forms.specs.Sums.{formed, sum_by}
use Rattle.scev_sums.specs.Answers.{IsAt, Tells}
use Rattle.scev_sums.proofs.Making.{sum_told}
use Rattle.scev_sums.proofs.make.make_sum.Goals as goal

pub sum_by-requires-clause-left : goal.sum_by-requires-clause-left
sum_by-requires-clause-left c = (c.requires.left, sym c.width.ensures.width)

pub sum_by-requires-clause-right : goal.sum_by-requires-clause-right
sum_by-requires-clause-right c = (c.requires.right, c.requires.width ∙ sym c.width.ensures.width)

pub returns-clause-tree : goal.returns-clause-tree
returns-clause-tree c =
    let new = c.sum_by.new.arena in
    let nest = c.args.nest.now in
    let left = tree_of c.args.arena.now c.args.left in
    let right = tree_of c.args.arena.now c.args.right in
    let at = λ (w loops : ℕ). Tells (IsAt new w) (sum_by (formed nest w loops) w left right) c.sum_by.result in
    subst (λ w. at w (length nest)) c.width.ensures.width
    (subst (at c.width.result.bits) c.loop_count.ensures.count c.sum_by.ensures.tree)

pub returns-clause-value : goal.returns-clause-value
returns-clause-value c =
    let nodes = c.args.arena.now in
    sum_told nodes c.width.ensures.arena (width_of (tree_of nodes c.args.left))
    (subst (λ w. 0 < w) c.width.ensures.width (omega (arith, c.width.result.at_least_one))) c.args.nest.now
    c.args.left c.args.right (c.requires.left, refl) (c.requires.right, c.requires.width) c.sum_by.new.arena
    c.sum_by.result (returns-clause-tree c)
