use Rattle.std.proofs.Common.{◌+◌, ◌-◌, ◌++◌, ◌∷◌, [], get_or, take, drop, length, sym, ap, ◌∙◌, subst}
use Rattle.std.proofs.Math.ListN.{drop_of_length-le}
use Rattle.scev_arena.specs.Meaning.{tree_of}
use Rattle.scev_forms.specs.Minima as forms
use Rattle.scev_sums.specs.Answers.{AreAt, trees_at}
use Rattle.scev_sums.proofs.Placing.{tree_within, drop_next}
use Rattle.scev_minima.proofs.InOrder.{IsPutting, trees_left, all_left, put_first, put_on, put_same, put_here}
use Rattle.scev_minima.proofs.InOrder.{put_last}
use Rattle.scev_minima.proofs.minima.with_tree.Goals as goal

pub loop-i-init : goal.loop-i-init
loop-i-init c =
    put_first c.args.arena.now c.args.w.bits c.args.id c.args.ids.now c.in_ok-before.before.items
    c.in_ok-before.ensures.items

pub compare-requires-clause-right : goal.compare-requires-clause-right
compare-requires-clause-right c =
    (tree_within c.args.arena.now c.args.w.bits c.args.ids.now c.loop-i.i (record { 0 = 0 }) c.requires.trees
    c.loop-i-test.true).0

pub returns-in-Equal : goal.returns-in-Equal
returns-in-Equal c =
    let nodes = c.args.arena.now in
    let w = c.args.w.bits in
    let ids = c.args.ids.now in
    let i = c.loop-i.i in
    let before = c.loop-i.before.items in
    let left = drop i ids in
    let items = c.in_ok-extend_from_slice-in-Equal.ensures.items ∙ ap (λ l. before ++ l) (all_left ids i) in
    subst (λ l. AreAt nodes w l (forms.with_tree (tree_of nodes c.args.id) (trees_at nodes ids))) (sym items)
    (put_same nodes w c.args.id ids before left c.loop-i.invariant c.requires.tree
    (get_or ids i (record { 0 = 0 })) (drop (i + 1) ids) (drop_next ids i (record { 0 = 0 }) c.loop-i-test.true)
    (trees_left nodes w i ids c.requires.trees) c.in-Equal.ensures)

pub returns-in-Less : goal.returns-in-Less
returns-in-Less c =
    let nodes = c.args.arena.now in
    let w = c.args.w.bits in
    let ids = c.args.ids.now in
    let i = c.loop-i.i in
    let before = c.loop-i.before.items in
    let left = drop i ids in
    let items = c.in_ok-extend_from_slice-in-Less.ensures.items
    ∙ ap (λ l. l ++ take (length ids - i) left) c.in_ok-push-in-Less.ensures.items
    ∙ ap (λ l. (before ++ c.args.id ∷ []) ++ l) (all_left ids i) in
    subst (λ l. AreAt nodes w l (forms.with_tree (tree_of nodes c.args.id) (trees_at nodes ids))) (sym items)
    (put_here nodes w c.args.id ids before left c.loop-i.invariant c.requires.tree
    (get_or ids i (record { 0 = 0 })) (drop (i + 1) ids) (drop_next ids i (record { 0 = 0 }) c.loop-i-test.true)
    (trees_left nodes w i ids c.requires.trees) c.in-Less.ensures)

pub loop-i-preserved : goal.loop-i-preserved
loop-i-preserved c =
    let nodes = c.args.arena.now in
    let w = c.args.w.bits in
    let ids = c.args.ids.now in
    let i = c.loop-i.i in
    let other = get_or ids i (record { 0 = 0 }) in
    subst (λ l. IsPutting nodes w c.args.id ids l (drop (i + 1) ids)) (sym c.in_ok-push-in-Greater.ensures.items)
    (put_on nodes w c.args.id ids c.loop-i.before.items (drop i ids) c.loop-i.invariant c.requires.tree other
    (drop (i + 1) ids) (drop_next ids i (record { 0 = 0 }) c.loop-i-test.true)
    (trees_left nodes w i ids c.requires.trees) c.in-Greater.ensures)

pub returns : goal.returns
returns c =
    let nodes = c.args.arena.now in
    let w = c.args.w.bits in
    let ids = c.args.ids.now in
    let before = c.loop-i.before.items in
    subst (λ l. AreAt nodes w l (forms.with_tree (tree_of nodes c.args.id) (trees_at nodes ids)))
    (sym c.in_ok-push.ensures.items)
    (put_last nodes w c.args.id ids before (drop c.loop-i.i ids) c.loop-i.invariant c.requires.tree
    (drop_of_length-le ids c.loop-i-test.false))
