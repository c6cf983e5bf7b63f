use Rattle.std.proofs.Common.{◌≡◌, ℕ, List, get_or, drop, Ok, Err, refl, sym, ◌∙◌}
use Rattle.std.proofs.lemmas.List.{drop_all}
use Rattle.std.proofs.lemmas.Result.{err_from_is_err_and}
use Rattle.scev_base.specs.declared.ids.ExprId.{ExprId}
use Rattle.scev_tree.specs.Tree.{Tree}
use Rattle.scev_arena.specs.Meaning.{tree_of}
use Rattle.scev_forms.specs.Outcome.{Done}
use Rattle.scev_forms.specs.Sums.{tree_product}
use Rattle.scev_sums.specs.Answers.{IsAt, IsTreeOfAt}
use Rattle.scev_sums.proofs.Growth.{goes_on_again, wide_goes_on}
use Rattle.scev_sums.proofs.Held.{tree_among}
use Rattle.scev_sums.proofs.Placing.{drop_next}
use Rattle.scev_sums.proofs.Refusals.{refused}
use Rattle.scev_casts.proofs.Cutting.{sum_told, product_told}
use Rattle.scev_fold.proofs.Counting.{all_counted, enough_counted, times_leads, more_leads, part_counted}
use Rattle.scev_fold.proofs.counted.counted_parts.Goals.{In_ok-times, In_ok-product}
use Rattle.scev_fold.proofs.counted.counted_parts.Goals as goal

-- the place that is looked at
abbrev id_at : List ExprId → ℕ → ExprId
id_at ids i = get_or ids i (record { 0 = 0 })

-- it holds a tree
there : (c : In_ok-times) → IsTreeOfAt c.args.arena.now c.args.w.bits (id_at c.args.others.now c.loop-i.i)
there c =
    tree_among c.args.arena.now c.args.w.bits c.args.others.now c.loop-i.i (record { 0 = 0 }) c.requires.others
    c.loop-i-test.true

-- and still does behind the number
held : (c : In_ok-times) → IsTreeOfAt c.constant.new.arena c.args.w.bits (id_at c.args.others.now c.loop-i.i)
held c =
    wide_goes_on c.args.arena.now c.constant.new.arena
    (goes_on_again c.args.arena.now c.loop-i.arena c.constant.new.arena c.loop-i.invariant.0.grows
    c.constant.ensures.grows)
    c.args.w.bits (id_at c.args.others.now c.loop-i.i) (there c)

-- the sum so far, behind the product
summed : (c : In_ok-product) → IsTreeOfAt c.make_product.new.arena c.args.w.bits c.loop-i.sum
summed c =
    wide_goes_on c.loop-i.arena c.make_product.new.arena
    (goes_on_again c.loop-i.arena c.constant.new.arena c.make_product.new.arena c.constant.ensures.grows
    c.make_product.ensures.grows)
    c.args.w.bits c.loop-i.sum c.loop-i.invariant.0.tree

-- the product that was formed
formed : (c : In_ok-product) → IsTreeOfAt c.constant.new.arena c.args.w.bits (id_at c.args.others.now c.loop-i.i)
    → (tree : Tree)
    × (tree_product c.args.nest.now c.args.w.bits (tree_of c.constant.new.arena (id_at c.args.others.now c.loop-i.i))
    (tree_of c.constant.new.arena c.in_ok-times.times) ≡ Done tree)
    × IsAt c.make_product.new.arena c.args.w.bits c.in_ok-product.product tree
formed c part =
    product_told c.args.nest.now c.make_product.new.arena
    (tree_of c.constant.new.arena (id_at c.args.others.now c.loop-i.i))
    (tree_of c.constant.new.arena c.in_ok-times.times) (Ok c.in_ok-product.product) part.1
    c.in_ok-product.ensures.tree

pub returns-then-n-k-clause-tree : goal.returns-then-n-k-clause-tree
returns-then-n-k-clause-tree c =
    let i = c.loop-i.i in (
      tree_of c.loop-i.arena c.loop-i.sum,
      enough_counted c.args.nest.now c.args.w.bits c.args.n i (drop i c.args.others.now) c.loop-i.invariant.0
          c.if-n-k.true,
      (c.loop-i.invariant.0.tree, refl),
    )

pub make_product-requires-clause-left : goal.make_product-requires-clause-left
make_product-requires-clause-left c = (held (goal.at.make_product-requires-clause-left c).In_ok-times).0

pub make_product-requires-clause-width : goal.make_product-requires-clause-width
make_product-requires-clause-width c =
    c.in_ok-times.ensures.tree.0.1 ∙ sym (held (goal.at.make_product-requires-clause-width c).In_ok-times).1

pub returns-in_err-product-clause-tree : goal.returns-in_err-product-clause-tree
returns-in_err-product-clause-tree c =
    let at = (goal.at.returns-in_err-product-clause-tree c).In_ok-times in
    let ids = c.args.others.now in
    let i = c.loop-i.i in
    let w = c.args.w.bits in
    let middle = c.constant.new.arena in
    let new = c.make_product.new.arena in
    let times = c.in_ok-times.times in
    refused (IsAt new w) (IsAt new w)
    (times_leads c.args.nest.now w c.args.n i (drop i ids) c.loop-i.invariant.0
    (drop_next ids i (record { 0 = 0 }) c.loop-i-test.true) (there at) c.if-n-k.false c.constant.ensures.grows times
    c.residue.ensures c.in_ok-times.ensures.tree)
    (product_told c.args.nest.now new (tree_of middle (id_at ids i)) (tree_of middle times)
    (Err c.in_err-product.field-0.0) (held at).1 c.in_err-product.ensures.tree)
    (err_from_is_err_and c.from_residual-in_err-product.result c.from_residual-in_err-product.ensures.1)

pub make_sum-requires-clause-left : goal.make_sum-requires-clause-left
make_sum-requires-clause-left c = (summed (goal.at.make_sum-requires-clause-left c).In_ok-product).0

pub make_sum-requires-clause-width : goal.make_sum-requires-clause-width
make_sum-requires-clause-width c =
    let at = goal.at.make_sum-requires-clause-width c in
    c.in_ok-product.ensures.tree.2.0.1 ∙ (held at.In_ok-times).1 ∙ sym (summed at.In_ok-product).1

pub returns-in_err-sum-clause-tree : goal.returns-in_err-sum-clause-tree
returns-in_err-sum-clause-tree c =
    let at = goal.at.returns-in_err-sum-clause-tree c in
    let ids = c.args.others.now in
    let i = c.loop-i.i in
    let w = c.args.w.bits in
    let middle = c.make_product.new.arena in
    let new = c.make_sum.new.arena in
    let product = c.in_ok-product.product in
    refused (IsAt new w) (IsAt new w)
    (more_leads c.args.nest.now w c.args.n i (drop i ids) c.loop-i.invariant.0
    (drop_next ids i (record { 0 = 0 }) c.loop-i-test.true) (there at.In_ok-times) c.if-n-k.false
    c.constant.ensures.grows c.in_ok-times.times c.residue.ensures c.in_ok-times.ensures.tree
    c.make_product.ensures.grows product (formed at.In_ok-product (held at.In_ok-times)))
    (sum_told c.args.nest.now new (tree_of middle c.loop-i.sum) (tree_of middle product) (Err c.in_err-sum.field-0.0)
    (summed at.In_ok-product).1 refl c.in_err-sum.ensures.tree)
    (err_from_is_err_and c.from_residual-in_err-sum.result c.from_residual-in_err-sum.ensures.1)

pub loop-i-preserved : goal.loop-i-preserved
loop-i-preserved c =
    let at = goal.at.loop-i-preserved c in
    let ids = c.args.others.now in
    let i = c.loop-i.i in
    let w = c.args.w.bits in
    let middle = c.make_product.new.arena in
    let new = c.make_sum.new.arena in
    let product = c.in_ok-product.product in (
      part_counted c.args.nest.now w c.args.n i (drop i ids) c.loop-i.invariant.0
          (drop_next ids i (record { 0 = 0 }) c.loop-i-test.true) (there at.In_ok-times) c.if-n-k.false
          c.constant.ensures.grows c.in_ok-times.times c.residue.ensures c.in_ok-times.ensures.tree
          c.make_product.ensures.grows product (formed at.In_ok-product (held at.In_ok-times)) c.make_sum.ensures.grows
          (sum_told c.args.nest.now new (tree_of middle c.loop-i.sum) (tree_of middle product) (Ok c.in_ok-sum.sum)
          (summed at.In_ok-product).1 refl c.in_ok-sum.ensures.tree),
      c.next-binomial.ensures,
    )

pub returns-clause-tree : goal.returns-clause-tree
returns-clause-tree c =
    let i = c.loop-i.i in (
      tree_of c.loop-i.arena c.loop-i.sum,
      all_counted c.args.nest.now c.args.w.bits c.args.n i (drop i c.args.others.now) c.loop-i.invariant.0
          (drop_all i c.args.others.now c.loop-i-test.false),
      (c.loop-i.invariant.0.tree, refl),
    )
