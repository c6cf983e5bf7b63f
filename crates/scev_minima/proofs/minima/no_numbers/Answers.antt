use Rattle.std.proofs.Common.{◌≡◌, ◌-◌, get_or, drop, length, sym, ap, ◌∙◌, subst, arith}
use Rattle.std.proofs.Math.Seq.{drop-length}
use Rattle.scev_arena.specs.Meaning.{tree_of}
use Rattle.scev_forms.specs.Minima as forms
use Rattle.scev_sums.specs.Answers.{AreTreesOfAt, AreAt, trees_at}
use Rattle.scev_sums.proofs.Placing.{tree_within}
use Rattle.scev_minima.proofs.InOrder.{drop_before}
use Rattle.scev_minima.proofs.Numbers.{one_more, none_more}
use Rattle.scev_minima.proofs.minima.no_numbers.Goals as goal
use Rattle.scev_minima.proofs.minima.no_numbers.Goals.{After-is_none}

pub loop-i-init : goal.loop-i-init
loop-i-init c =
    let nodes = c.args.arena.now in
    let w = c.args.w.bits in
    subst (λ l. AreAt nodes w l (forms.no_numbers (trees_at nodes (drop (length c.args.ids.now) c.args.ids.now))))
    (sym c.new-found.ensures.items)
    (tt, sym (ap (λ l. forms.no_numbers (trees_at nodes l)) (drop-length c.args.ids.now)))

pub number_of-requires : goal.number_of-requires
number_of-requires c =
    (tree_within c.args.arena.now c.args.w.bits c.args.ids.now (c.loop-i.i - 1) (record { 0 = 0 }) c.requires
    (omega arith)).0

pub with_tree-requires-clause-tree : goal.with_tree-requires-clause-tree
with_tree-requires-clause-tree c =
    tree_within c.args.arena.now c.args.w.bits c.args.ids.now (c.loop-i.i - 1) (record { 0 = 0 }) c.requires
    (omega arith)

pub with_tree-requires-clause-trees : goal.with_tree-requires-clause-trees
with_tree-requires-clause-trees c =
    subst (AreTreesOfAt c.args.arena.now c.args.w.bits) (sym c.deref.ensures.value) c.loop-i.invariant.0

-- the tree that is read, and those behind it
read : (c : After-is_none) → forms.no_numbers (trees_at c.args.arena.now (drop (c.loop-i.i - 1) c.args.ids.now))
    ≡ forms.unless_number c.number_of.result
    (tree_of c.args.arena.now (get_or c.args.ids.now (c.loop-i.i - 1) (record { 0 = 0 })))
    (forms.no_numbers (trees_at c.args.arena.now (drop c.loop-i.i c.args.ids.now)))
read c =
    let nodes = c.args.arena.now in
    let ids = c.args.ids.now in
    let i = c.loop-i.i in
    let tree = tree_of nodes (get_or ids (i - 1) (record { 0 = 0 })) in
    ap (λ l. forms.no_numbers (trees_at nodes l))
    (drop_before ids i (record { 0 = 0 }) c.loop-i-test.true c.loop-i.auto.i)
    ∙ sym (ap (λ o. forms.unless_number o tree (forms.no_numbers (trees_at nodes (drop i ids)))) c.number_of.ensures)

pub loop-i-preserved-then-is_none : goal.loop-i-preserved-then-is_none
loop-i-preserved-then-is_none c =
    let nodes = c.args.arena.now in
    let ids = c.args.ids.now in
    let i = c.loop-i.i in
    let tree = tree_of nodes (get_or ids (i - 1) (record { 0 = 0 })) in
    let others = forms.no_numbers (trees_at nodes (drop i ids)) in (
      c.in_ok-found.ensures.0,
      c.in_ok-found.ensures.1
          ∙ ap (forms.with_tree tree) (ap (trees_at nodes) c.deref.ensures.value ∙ c.loop-i.invariant.1)
          ∙ sym (one_more c.number_of.result tree others c.if-is_none.ensures)
          ∙ sym (read (goal.at.loop-i-preserved-then-is_none c).After-is_none),
    )

pub loop-i-preserved : goal.loop-i-preserved
loop-i-preserved c =
    let nodes = c.args.arena.now in
    let ids = c.args.ids.now in
    let i = c.loop-i.i in
    let tree = tree_of nodes (get_or ids (i - 1) (record { 0 = 0 })) in
    let others = forms.no_numbers (trees_at nodes (drop i ids)) in (
      c.loop-i.invariant.0,
      c.loop-i.invariant.1
          ∙ sym (none_more c.number_of.result tree others c.if-is_none.ensures)
          ∙ sym (read (goal.at.loop-i-preserved c).After-is_none),
    )

pub returns : goal.returns
returns c =
    let nodes = c.args.arena.now in
    let none : c.loop-i.i ≡ 0 = omega (arith, c.loop-i-test.false) in (
      c.loop-i.invariant.0,
      c.loop-i.invariant.1 ∙ ap (λ i. forms.no_numbers (trees_at nodes (drop i c.args.ids.now))) none,
    )
