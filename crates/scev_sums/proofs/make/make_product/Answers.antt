use Rattle.std.proofs.Common.{◌≡◌, ℕ, ◌<◌, length, refl, sym, ◌∙◌, subst, arith}
use Rattle.scev_tree.specs.Tree.{width_of}
use Rattle.scev_arena.specs.Meaning.{tree_of}
use Rattle.scev_forms.specs.Sums.{formed, product_by}
use Rattle.scev_sums.specs.Answers.{IsAt, Tells}
use Rattle.scev_sums.proofs.Making.{product_told}
use Rattle.scev_sums.proofs.make.make_product.Goals as goal

pub product_by-requires-clause-left : goal.product_by-requires-clause-left
product_by-requires-clause-left c = (c.requires.left, sym c.width.ensures.width)

pub product_by-requires-clause-right : goal.product_by-requires-clause-right
product_by-requires-clause-right c = (c.requires.right, c.requires.width ∙ sym c.width.ensures.width)

pub returns-clause-tree : goal.returns-clause-tree
returns-clause-tree c =
    let new = c.product_by.new.arena in
    let nest = c.args.nest.now in
    let left = tree_of c.args.arena.now c.args.left in
    let right = tree_of c.args.arena.now c.args.right in
    let at = λ (w loops : ℕ). Tells (IsAt new w) (product_by (formed nest w loops) w left right) c.product_by.result in
    subst (λ w. at w (length nest)) c.width.ensures.width
    (subst (at c.width.result.bits) c.loop_count.ensures.count c.product_by.ensures.tree)

pub returns-clause-value : goal.returns-clause-value
returns-clause-value c =
    let nodes = c.args.arena.now in
    product_told nodes c.width.ensures.arena (width_of (tree_of nodes c.args.left))
    (subst (λ w. 0 < w) c.width.ensures.width (omega (arith, c.width.result.at_least_one))) c.args.nest.now
    c.args.left c.args.right (c.requires.left, refl) (c.requires.right, c.requires.width) c.product_by.new.arena
    c.product_by.result (returns-clause-tree c)
