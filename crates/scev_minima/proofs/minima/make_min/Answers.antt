use Rattle.std.proofs.Common.{◌≡◌, ℕ, ◌<◌, ◌++◌, refl, sym, ap, ◌∙◌, subst, arith}
use Rattle.scev_tree.specs.Tree as tree
use Rattle.scev_arena.specs.Meaning.{tree_of}
use Rattle.scev_forms.specs.Minima as forms
use Rattle.scev_forms.specs.Minima.{tree_minimum}
use Rattle.scev_sums.specs.Answers.{IsAt, AreTreesOfAt, trees_at, Tells}
use Rattle.scev_sums.proofs.Placing.{both_hold}
use Rattle.scev_minima.specs.Kinds.{kind_of}
use Rattle.scev_minima.proofs.Minimum.{all_trees, parts_same, some_parts, minimum_told}
use Rattle.scev_minima.proofs.Numbers.{kind_is}
use Rattle.scev_minima.proofs.minima.make_min.Goals as goal
use Rattle.scev_minima.proofs.minima.make_min.Goals.{After-drop-branch-2, After-kind-3}

-- the parts of both stand at places
all_there : (c : After-drop-branch-2)
    → AreTreesOfAt c.args.arena.now c.width-w.result.bits c.extend_from_slice.new.self.items
all_there c =
    let nodes = c.args.arena.now in
    let w = c.width-w.result.bits in
    let xs = c.in_ok-parts.parts.items in
    let items = c.in_ok-extend_from_slice.ensures.items ∙ ap (λ l. xs ++ l) c.deref.ensures.value in
    subst (AreTreesOfAt nodes w) (sym items)
    (both_hold nodes w xs c.in_ok-flattened.field-0.items c.in_ok-parts.ensures.trees c.in_ok-flattened.ensures.trees)

pub numbers_joined-number-requires : goal.numbers_joined-number-requires
numbers_joined-number-requires c =
    subst (AreTreesOfAt c.args.arena.now c.width-w.result.bits) (sym c.deref-2.ensures.value)
    (all_there (goal.at.numbers_joined-number-requires c).After-drop-branch-2)

pub no_numbers-requires : goal.no_numbers-requires
no_numbers-requires c =
    subst (AreTreesOfAt c.args.arena.now c.width-w.result.bits) (sym c.deref-3.ensures.value)
    (all_there (goal.at.no_numbers-requires c).After-drop-branch-2)

-- the parts are those of the minimum
parts_are : (c : After-kind-3) → trees_at c.min_parts.new.arena c.in_ok-parts-2.parts.items
    ≡ forms.min_parts (kind_of c.args.kind) c.width-w.result.bits (tree_of c.args.arena.now c.args.left)
    (tree_of c.args.arena.now c.args.right)
parts_are c =
    let nodes = c.args.arena.now in
    let k = kind_of c.args.kind in
    let w = c.width-w.result.bits in
    let left = tree_of nodes c.args.left in
    let right = tree_of nodes c.args.right in
    let xs = c.in_ok-parts.parts.items in
    let ys = c.in_ok-flattened.field-0.items in
    let all = c.extend_from_slice.new.self.items in
    let whole = all_trees nodes k w c.args.left c.args.right xs ys all
    (c.in_ok-parts.ensures.parts ∙ ap (λ j. forms.flattened j left) c.kind.ensures)
    (c.in_ok-flattened.ensures.parts ∙ ap (λ j. forms.flattened j right) c.kind-2.ensures)
    (c.in_ok-extend_from_slice.ensures.items ∙ ap (λ l. xs ++ l) c.deref.ensures.value) in
    parts_same nodes k w c.args.left c.args.right c.min_parts.new.arena all c.in_ok-others.others.items
    c.in_ok-parts-2.parts.items c.numbers_joined-number.result whole
    (c.numbers_joined-number.ensures.joined
    ∙ ap (λ l. forms.numbers_joined k w (trees_at nodes l)) c.deref-2.ensures.value)
    (c.in_ok-others.ensures.1 ∙ ap (λ l. forms.no_numbers (trees_at nodes l)) c.deref-3.ensures.value)
    c.in_ok-parts-2.ensures.parts.1

pub of_parts-requires-clause-some : goal.of_parts-requires-clause-some
of_parts-requires-clause-some c =
    some_parts c.args.arena.now (kind_of c.args.kind) c.width-w.result.bits c.args.left c.args.right
    c.width-w.ensures.arena (kind_is c.args.kind) (c.requires.left, sym c.width-w.ensures.width)
    c.min_parts.new.arena c.in_ok-parts-2.parts.items
    (parts_are (goal.at.of_parts-requires-clause-some c).After-kind-3)

pub returns-clause-tree : goal.returns-clause-tree
unfolding tree_minimum
returns-clause-tree c =
    let new = c.of_parts.new.arena in
    let mid = c.min_parts.new.arena in
    let k = kind_of c.args.kind in
    let w = c.width-w.result.bits in
    let left = tree_of c.args.arena.now c.args.left in
    let right = tree_of c.args.arena.now c.args.right in
    let at = λ (v : ℕ). Tells (IsAt new v) (forms.tree_minimum k v left right) c.of_parts.result in
    subst at c.width-w.ensures.width
    (subst (λ outcome. Tells (IsAt new w) outcome c.of_parts.result)
    (
    ap (λ j. forms.of_parts j w (trees_at mid c.in_ok-parts-2.parts.items)) c.kind-3.ensures
    ∙ ap (forms.of_parts k w) (parts_are (goal.at.returns-clause-tree c).After-kind-3)
    )
    c.of_parts.ensures.tree)

pub returns-clause-value : goal.returns-clause-value
returns-clause-value c =
    let nodes = c.args.arena.now in
    minimum_told nodes (kind_of c.args.kind) (tree.width_of (tree_of nodes c.args.left)) c.args.left c.args.right
    c.width-w.ensures.arena (kind_is c.args.kind) (c.requires.left, refl) c.of_parts.new.arena c.of_parts.result
    (subst (λ w. 0 < w) c.width-w.ensures.width (omega (arith, c.width-w.result.at_least_one)))
    (c.requires.right, c.requires.width) (returns-clause-tree c)
