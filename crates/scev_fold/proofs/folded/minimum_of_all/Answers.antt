use Rattle.std.proofs.Common.{ℕ, List, get_or, drop, Ok, Err, refl, sym, ◌∙◌}
use Rattle.std.proofs.lemmas.List.{drop_all}
use Rattle.std.proofs.lemmas.Result.{err_from_is_err_and}
use Rattle.scev_base.specs.declared.ids.ExprId.{ExprId}
use Rattle.scev_arena.specs.Meaning.{tree_of}
use Rattle.scev_forms.specs.Minima.{tree_minimum}
use Rattle.scev_minima.specs.Kinds.{kind_of}
use Rattle.scev_sums.specs.Answers.{IsAt}
use Rattle.scev_sums.proofs.Growth.{wide_goes_on}
use Rattle.scev_sums.proofs.Held.{tree_among}
use Rattle.scev_sums.proofs.Placing.{drop_next}
use Rattle.scev_sums.proofs.Refusals.{refused}
use Rattle.scev_fold.proofs.Folding.{minimum_folds, told_wide, none_left, next_leads, next_taken}
use Rattle.scev_fold.proofs.folded.minimum_of_all.Goals as goal

-- the place that is looked at
abbrev id_at : List ExprId → ℕ → ExprId
id_at ids i = get_or ids i (record { 0 = 0 })

pub make_min-requires-clause-left : goal.make_min-requires-clause-left
make_min-requires-clause-left c = c.loop-other.invariant.tree.0

pub make_min-requires-clause-right : goal.make_min-requires-clause-right
make_min-requires-clause-right c =
    let ids = c.args.others.now in
    let i = c.loop-other.other-index in
    (wide_goes_on c.args.arena.now c.loop-other.arena c.loop-other.invariant.grows c.args.w.bits (id_at ids i)
    (tree_among c.args.arena.now c.args.w.bits ids i (record { 0 = 0 }) c.requires.others c.loop-other-test.true)).0

pub make_min-requires-clause-width : goal.make_min-requires-clause-width
make_min-requires-clause-width c =
    let ids = c.args.others.now in
    let i = c.loop-other.other-index in
    (wide_goes_on c.args.arena.now c.loop-other.arena c.loop-other.invariant.grows c.args.w.bits (id_at ids i)
    (tree_among c.args.arena.now c.args.w.bits ids i (record { 0 = 0 }) c.requires.others c.loop-other-test.true)).1
    ∙ sym c.loop-other.invariant.tree.1

pub returns-in_err-least-clause-tree : goal.returns-in_err-least-clause-tree
returns-in_err-least-clause-tree c =
    let ids = c.args.others.now in
    let i = c.loop-other.other-index in
    let w = c.args.w.bits in
    let k = kind_of c.args.kind in
    let first = c.args.arena.now in
    let old = c.loop-other.arena in
    let new = c.make_min.new.arena in
    let left = drop_next ids i (record { 0 = 0 }) c.loop-other-test.true in
    let there = tree_among first w ids i (record { 0 = 0 }) c.requires.others c.loop-other-test.true in
    refused (IsAt new w) (IsAt new w)
    (next_leads (minimum_folds k w) w (drop i ids) c.loop-other.invariant left there)
    (told_wide new (λ u. tree_minimum k u (tree_of old c.loop-other.least) (tree_of old (id_at ids i)))
    (Err c.in_err-least.field-0.0) c.loop-other.invariant.tree.1 c.in_err-least.ensures.tree)
    (err_from_is_err_and c.from_residual.result c.from_residual.ensures.1)

pub loop-other-preserved : goal.loop-other-preserved
loop-other-preserved c =
    let ids = c.args.others.now in
    let i = c.loop-other.other-index in
    let w = c.args.w.bits in
    let k = kind_of c.args.kind in
    let first = c.args.arena.now in
    let old = c.loop-other.arena in
    let new = c.make_min.new.arena in
    let left = drop_next ids i (record { 0 = 0 }) c.loop-other-test.true in
    let there = tree_among first w ids i (record { 0 = 0 }) c.requires.others c.loop-other-test.true in
    next_taken (minimum_folds k w) w (drop i ids) c.loop-other.invariant left there c.make_min.ensures.grows
    (told_wide new (λ u. tree_minimum k u (tree_of old c.loop-other.least) (tree_of old (id_at ids i)))
    (Ok c.in_ok-least.least) c.loop-other.invariant.tree.1 c.in_ok-least.ensures.tree)

pub returns-clause-tree : goal.returns-clause-tree
returns-clause-tree c =
    let ids = c.args.others.now in
    let i = c.loop-other.other-index in (
      tree_of c.loop-other.arena c.loop-other.least,
      none_left (minimum_folds (kind_of c.args.kind) c.args.w.bits) c.args.w.bits (drop i ids) c.loop-other.invariant
          (drop_all i ids c.loop-other-test.false),
      (c.loop-other.invariant.tree, refl),
    )
