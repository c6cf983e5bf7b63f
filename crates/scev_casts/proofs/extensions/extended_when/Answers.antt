use Rattle.std.proofs.Common.{◌≡◌, ℕ, ◌≤◌, [], ◌∷◌, sym, ap, ◌∙◌, subst}
use Rattle.std.proofs.lemmas.Result.{err_from_is_err_and}
use Rattle.scev_tree.specs.Tree.{width_of}
use Rattle.scev_arena.specs.Meaning.{tree_of}
use Rattle.scev_forms.specs.Sums.{recurrence_of}
use Rattle.scev_forms.specs.Casts.{extended, extended_when}
use Rattle.scev_sums.specs.Answers.{IsAt}
use Rattle.scev_sums.proofs.Growth.{tree_goes_on, same_tree_goes_on, wide_goes_on}
use Rattle.scev_sums.proofs.Refusals.{refused, led_on}
use Rattle.scev_sums.proofs.Telling.{told_same}
use Rattle.scev_casts.specs.Extensions.{kind_of}
use Rattle.scev_casts.proofs.Extending.{not_same, not_other, start_leads, more_leads, no_parts_when, same_when}
use Rattle.scev_casts.proofs.Extending.{unknown_when}
use Rattle.scev_casts.proofs.extensions.extended_when.Goals as goal
use Rattle.scev_casts.proofs.extensions.extended_when.Goals.{then-no_wrap+then-ne+in_default, else-no_wrap}
use Rattle.scev_casts.proofs.extensions.extended_when.Goals.{else-no_wrap-via-then-no_wrap+else-ne}
use Rattle.scev_casts.proofs.extensions.extended_when.Goals.{else-no_wrap-via-else-no_wrap}

pub returns-in_err-start-clause-tree : goal.returns-in_err-start-clause-tree
returns-in_err-start-clause-tree c =
    let old = c.args.arena.now in
    let w = c.args.w.bits in
    let other = not_same w c.width.ensures.width c.ne.ensures c.if-ne.true in
    refused (IsAt c.extended.new.arena w) (IsAt c.extended.new.arena w)
    (start_leads (kind_of c.args.how) w (tree_of old c.args.id) c.if-no_wrap.true other c.in-Some.l
    (tree_of old c.in-Some.first) (tree_of old c.in-Some.step) c.in-Some.ensures.parts)
    c.in_err-start.ensures.tree
    (err_from_is_err_and c.from_residual.result c.from_residual.ensures.1)

pub extended-requires-in-Some-clause-tree : goal.extended-requires-in-Some-clause-tree
extended-requires-in-Some-clause-tree c =
    tree_goes_on c.args.arena.now c.extended.new.arena c.extended.ensures.grows c.in-Some.step
    c.in-Some.ensures.trees.1.0

pub extended-requires-in-Some-clause-width : goal.extended-requires-in-Some-clause-width
extended-requires-in-Some-clause-width c =
    let step = c.in-Some.ensures.trees.1 in
    let wide = wide_goes_on c.args.arena.now c.extended.new.arena c.extended.ensures.grows
    (width_of (tree_of c.args.arena.now c.args.id)) c.in-Some.step step in
    subst (λ (v : ℕ). v ≤ c.args.w.bits) (sym wide.1) c.requires.width

pub returns-in_err-more-clause-tree : goal.returns-in_err-more-clause-tree
returns-in_err-more-clause-tree c =
    let old = c.args.arena.now in
    let new = c.extended-in-Some.new.arena in
    let w = c.args.w.bits in
    let other = not_same w c.width.ensures.width c.ne.ensures c.if-ne.true in
    let told = c.in_ok-start.ensures.tree in
    refused (IsAt new w) (IsAt new w)
    (more_leads (kind_of c.args.how) w (tree_of old c.args.id) c.if-no_wrap.true other c.in-Some.l
    (tree_of old c.in-Some.first) (tree_of old c.in-Some.step) c.in-Some.ensures.parts told.0 told.1
    (same_tree_goes_on old c.extended.new.arena c.extended.ensures.grows c.in-Some.step c.in-Some.ensures.trees.1.0))
    c.in_err-more.ensures.tree
    (err_from_is_err_and c.from_residual-in_err-more.result c.from_residual-in_err-more.ensures.1)

pub make_rec-requires-clause-parts : goal.make_rec-requires-clause-parts
make_rec-requires-clause-parts c =
    let start = wide_goes_on c.extended.new.arena c.extended-in-Some.new.arena c.extended-in-Some.ensures.grows
    c.args.w.bits c.in_ok-start.start c.in_ok-start.ensures.tree.2.0 in
    (start, (c.in_ok-more.ensures.tree.2.0, tt))

pub returns-in-Some-clause-tree : goal.returns-in-Some-clause-tree
returns-in-Some-clause-tree c =
    let old = c.args.arena.now in
    let here = c.extended.new.arena in
    let new = c.extended-in-Some.new.arena in
    let w = c.args.w.bits in
    let other = not_same w c.width.ensures.width c.ne.ensures c.if-ne.true in
    let told = c.in_ok-start.ensures.tree in
    let more = c.in_ok-more.ensures.tree in
    let start = same_tree_goes_on here new c.extended-in-Some.ensures.grows c.in_ok-start.start told.2.0.0 ∙ told.2.1 in
    told_same (IsAt c.make_rec.new.arena w) _ _ c.make_rec.result
    (
    ap (λ one. recurrence_of w c.in-Some.l.0 (one ∷ tree_of new c.in_ok-more.more ∷ [])) start
    ∙ ap (λ one. recurrence_of w c.in-Some.l.0 (told.0 ∷ one ∷ [])) more.2.1
    ∙ led_on more.0 (more_leads (kind_of c.args.how) w (tree_of old c.args.id) c.if-no_wrap.true other c.in-Some.l
    (tree_of old c.in-Some.first) (tree_of old c.in-Some.step) c.in-Some.ensures.parts told.0 told.1
    (same_tree_goes_on old here c.extended.ensures.grows c.in-Some.step c.in-Some.ensures.trees.1.0)) more.1
    )
    c.make_rec.ensures.tree

pub returns-clause-tree : goal.returns-clause-tree
returns-clause-tree c =
    let k = kind_of c.args.how in
    let w = c.args.w.bits in
    let tree = tree_of c.args.arena.now c.args.id in
    let whole = λ (e : extended k w tree ≡ extended_when k w c.args.no_wrap tree).
    told_same (IsAt c.extended-2.new.arena w) (extended k w tree) (extended_when k w c.args.no_wrap tree)
    c.extended-2.result e c.extended-2.ensures.tree in
    elim c.if-no_wrap.branch [
      | then-no_wrap+then-ne+in_default b ↦
          let other = not_same w b.width.ensures.width b.ne.ensures b.if-ne.true in
          whole (no_parts_when k w tree b.if-no_wrap.true other b.in_default.ensures.parts)
      | else-no_wrap b ↦
          elim b.else-no_wrap.branch [
            | else-no_wrap-via-then-no_wrap+else-ne d ↦
                whole (same_when k w tree c.args.no_wrap (not_other w d.width.ensures.width d.ne.ensures d.if-ne.false))
            | else-no_wrap-via-else-no_wrap d ↦
                whole (unknown_when k w tree ∙ ap (λ known. extended_when k w known tree) (sym d.if-no_wrap.false))
          ]
    ]
