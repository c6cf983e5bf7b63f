use Rattle.std.proofs.Common.{Ok, Err, sym, ◌∙◌}
use Rattle.std.proofs.lemmas.Result.{err_from_is_err_and}
use Rattle.scev_arena.specs.Meaning.{tree_of}
use Rattle.scev_forms.specs.Sums.{tree_sum}
use Rattle.scev_sums.specs.Answers.{IsAt}
use Rattle.scev_sums.proofs.Growth.{goes_on_again, wide_goes_on}
use Rattle.scev_sums.proofs.Refusals.{refused}
use Rattle.scev_casts.proofs.Cutting.{sum_told, product_told}
use Rattle.scev_fold.proofs.Counting.{product_leads, sum_same}
use Rattle.scev_fold.proofs.counted.counted_affine.Goals as goal

pub make_product-requires-clause-width : goal.make_product-requires-clause-width
make_product-requires-clause-width c =
    c.in_ok-turns.ensures.tree.2.0.1
    ∙ sym (wide_goes_on c.args.arena.now c.fitted.new.arena c.fitted.ensures.grows c.args.w.bits c.args.step
    c.requires.step).1

pub returns-in_err-product-clause-tree : goal.returns-in_err-product-clause-tree
returns-in_err-product-clause-tree c =
    let old = c.args.arena.now in
    let middle = c.fitted.new.arena in
    let new = c.make_product.new.arena in
    let w = c.args.w.bits in
    let grows = c.fitted.ensures.grows in
    refused (IsAt new w) (IsAt new w)
    (product_leads c.args.nest.now w old middle grows c.args.step c.in_ok-turns.turns
    (tree_sum c.args.nest.now w (tree_of old c.args.first)) c.requires.step c.in_ok-turns.ensures.tree)
    (product_told c.args.nest.now new (tree_of middle c.args.step) (tree_of middle c.in_ok-turns.turns)
    (Err c.in_err-product.field-0.0) (wide_goes_on old middle grows w c.args.step c.requires.step).1
    c.in_err-product.ensures.tree)
    (err_from_is_err_and c.from_residual-in_err-product.result c.from_residual-in_err-product.ensures.1)

pub make_sum-requires-clause-left : goal.make_sum-requires-clause-left
make_sum-requires-clause-left c =
    let old = c.args.arena.now in
    let middle = c.fitted.new.arena in
    let new = c.make_product.new.arena in
    (wide_goes_on old new (goes_on_again old middle new c.fitted.ensures.grows c.make_product.ensures.grows)
    c.args.w.bits c.args.first c.requires.first).0

pub make_sum-requires-clause-width : goal.make_sum-requires-clause-width
make_sum-requires-clause-width c =
    let old = c.args.arena.now in
    let middle = c.fitted.new.arena in
    let new = c.make_product.new.arena in
    let grows = c.fitted.ensures.grows in
    let w = c.args.w.bits in
    c.in_ok-product.ensures.tree.2.0.1
    ∙ (wide_goes_on old middle grows w c.args.step c.requires.step).1
    ∙ sym (wide_goes_on old new (goes_on_again old middle new grows c.make_product.ensures.grows) w c.args.first
    c.requires.first).1

pub returns-clause-tree : goal.returns-clause-tree
returns-clause-tree c =
    let old = c.args.arena.now in
    let middle = c.fitted.new.arena in
    let new = c.make_product.new.arena in
    let w = c.args.w.bits in
    let grows = c.fitted.ensures.grows in
    let all = goes_on_again old middle new grows c.make_product.ensures.grows in
    let turns = c.in_ok-turns.turns in
    let product = c.in_ok-product.product in
    sum_told c.args.nest.now c.make_sum.new.arena (tree_of new c.args.first) (tree_of new product) c.make_sum.result
    (wide_goes_on old new all w c.args.first c.requires.first).1
    (sum_same c.args.nest.now w old new all c.args.first product c.requires.first
    (product_leads c.args.nest.now w old middle grows c.args.step turns
    (tree_sum c.args.nest.now w (tree_of old c.args.first)) c.requires.step c.in_ok-turns.ensures.tree)
    (product_told c.args.nest.now new (tree_of middle c.args.step) (tree_of middle turns) (Ok product)
    (wide_goes_on old middle grows w c.args.step c.requires.step).1 c.in_ok-product.ensures.tree))
    c.make_sum.ensures.tree
