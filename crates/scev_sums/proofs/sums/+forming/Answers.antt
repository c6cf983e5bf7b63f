use Rattle.std.proofs.Common.{◌≡◌, ℕ, ◌+◌, ◌≤◌, [], ◌∷◌, ◌++◌, length, map, drop}
use Rattle.std.proofs.Common.{List, Vec, Global, refl, sym, ap, ◌∙◌, subst, arith}
use Rattle.std.proofs.lemmas.List.{drop_all}
use Rattle.std.proofs.lemmas.Result.{err_from_is_err_and}
use Rattle.rec_algebra.specs.declared.plan.PlanStep.TheVariants as step
use Rattle.rec_algebra.specs.Plans.{IsStepBelow}
use Rattle.scev_base.specs.declared.ids.ExprId.{ExprId}
use Rattle.scev_tree.specs.Tree.{Tree, polynomial}
use Rattle.scev_arena.specs.declared.node.Node.{Node}
use Rattle.scev_arena.specs.Meaning.{meanings, terms_at, factors_at, tree_of}
use Rattle.scev_arena.specs.Standing.{AreAtoms}
use Rattle.scev_arena.proofs.PlacesStay.{length_behind}
use Rattle.scev_forms.specs.Outcome.{Done}
use Rattle.scev_forms.specs.Gather.{trimmed, recs_of, rest_of, staying}
use Rattle.scev_forms.specs.Sums.{tested_parts, at_place, parts_times, parts_with, Whole, beside}
use Rattle.scev_polys.specs.Polynomials.{IsPolynomial}
use Rattle.scev_sums.specs.Answers.{IsAt, AreAt, AreAll, AreTreesOfAt, trees_at}
use Rattle.scev_sums.specs.Levels.{former, IsGathering, IsRecurrence}
use Rattle.scev_sums.proofs.Gathered.{no_level, one_level}
use Rattle.scev_sums.proofs.Groups.{rest_polynomial, rest_leads, adding_begins, all_added, next_monomial}
use Rattle.scev_sums.proofs.Groups.{monomial_leads, parts_held, sum_leads, added}
use Rattle.scev_sums.proofs.Growth.{goes_on_itself, goes_on_again, wide_goes_on, same_terms_go_on, polynomial_goes_on}
use Rattle.scev_sums.proofs.Placing.{drop_next, tree_within, both_hold, all_placed, places_held, step_below, step_leads}
use Rattle.scev_sums.proofs.Placing.{placed, plan_leads}
use Rattle.scev_sums.proofs.Recurrences.{recurrences_go_on, same_recurrences_go_on, sum_carried, operands_counted}
use Rattle.scev_sums.proofs.Recurrences.{behind_items, all_multiplied, next_some, product_held, product_leads}
use Rattle.scev_sums.proofs.Recurrences.{multiplied, with_first}
use Rattle.scev_sums.proofs.Refusals.{led_on, refused, refused_whole}
use Rattle.scev_sums.proofs.Telling.{told_same}
use Rattle.scev_sums.proofs.Turns.{turn_leads, terms_stay, unchanged, tree_given, whole_given, last_turn, no_turn_left}
use Rattle.scev_sums.proofs.Turns.{turned, group_settled, group_leads}
use Rattle.scev_sums.proofs.sums.+forming.Goals as goal

-- the places that a call gives hold these trees
abbrev HoldAt : List Node → ℕ → Vec ExprId Global → List Tree → Type 0
HoldAt nodes w ids trees = AreAt nodes w ids.items trees

pub carried-returns-in_err-places-clause-parts : goal.carried-returns-in_err-places-clause-parts
carried-returns-in_err-places-clause-parts t c =
    let new = c.places_of.new.arena in
    let w = c.args.at.width.bits in
    refused (HoldAt new w) (HoldAt new w)
    (plan_leads (former c.args.nest.now c.args.at) w c.args.l.0 c.args.plan.now
    (trees_at c.args.arena.now c.args.operands.items) c.steps.ensures.steps)
    c.in_err-places.ensures.places
    (err_from_is_err_and c.from_residual.result c.from_residual.ensures.1)

pub carried-trimmed-parts-requires : goal.carried-trimmed-parts-requires
carried-trimmed-parts-requires t c =
    let new = c.places_of.new.arena in
    let w = c.args.at.width.bits in
    c.in_ok-parts.ensures.trees new w
    (subst (AreTreesOfAt new w) (sym c.deref.ensures.value) c.in_ok-places.ensures.places.2.0)

pub carried-returns-clause-parts : goal.carried-returns-clause-parts
carried-returns-clause-parts t c =
    let w = c.args.at.width.bits in
    let plan = c.args.plan.now in
    let new = c.places_of.new.arena in
    let told = c.in_ok-places.ensures.places in
    let results : map (tree_of new) c.trimmed-parts.result.items ≡ trimmed (map (at_place w told.0) plan.results) =
    c.trimmed-parts.ensures.parts.1
    ∙ ap trimmed (
    c.in_ok-parts.ensures.results new w
    ∙ ap (λ ids. map (at_place w (trees_at new ids)) c.result.result.now) c.deref.ensures.value
    ∙ ap (λ trees. map (at_place w trees) c.result.result.now) told.2.1
    ∙ ap (map (at_place w told.0)) c.result.ensures.results
    ) in
    told_same (HoldAt c.tested_parts.new.arena w) _ _ c.tested_parts.result
    (
    ap (tested_parts w c.args.l.0) results
    ∙ led_on told.0 (plan_leads (former c.args.nest.now c.args.at) w c.args.l.0 plan
    (trees_at c.args.arena.now c.args.operands.items) c.steps.ensures.steps) told.1
    )
    c.tested_parts.ensures.parts

pub formed-returns-then-at-eq0-clause-tree : goal.formed-returns-then-at-eq0-clause-tree
formed-returns-then-at-eq0-clause-tree t c =
    told_same (IsAt c.tested_terms.new.arena c.args.at.width.bits) _ _ c.tested_terms.result
    (no_level c.args.nest.now c.args.at.width.bits c.args.at.loops (terms_at (meanings c.args.arena.now) c.args.terms)
    c.if-at-eq0.true)
    c.tested_terms.ensures.tree

pub formed-returns-clause-tree : goal.formed-returns-clause-tree
formed-returns-clause-tree t c =
    told_same (IsAt c.gathered.new.arena c.args.at.width.bits) _ _ c.gathered.result
    (one_level c.args.nest.now c.args.at.width.bits c.args.at.loops (terms_at (meanings c.args.arena.now) c.args.terms)
    c.if-at-eq0.false)
    c.gathered.ensures.tree

pub gather_once-returns-then-is_settled-clause-gathering :
    goal.gather_once-returns-then-is_settled-clause-gathering
gather_once-returns-then-is_settled-clause-gathering t c =
    let parents = c.args.nest.now in
    let w = c.args.at.width.bits in
    let old = c.args.arena.now in
    let terms = terms_at (meanings old) c.args.terms.now in (
      Whole (polynomial w terms),
      group_settled (former parents c.args.at) parents w c.in-Some.l.0 old terms c.in-Some.ensures c.deref.ensures.value
          c.in_ok-group.ensures.group c.is_settled.ensures c.if-is_settled.true,
      refl,
    )

pub gather_once-returns-in_err-parts-clause-gathering :
    goal.gather_once-returns-in_err-parts-clause-gathering
gather_once-returns-in_err-parts-clause-gathering t c =
    let parents = c.args.nest.now in
    let w = c.args.at.width.bits in
    let old = c.args.arena.now in
    let terms = terms_at (meanings old) c.args.terms.now in
    let new = c.group_parts.new.arena in
    refused (HoldAt new w) (IsGathering new w terms)
    (group_leads (former parents c.args.at) parents w c.in-Some.l.0 old terms c.in-Some.ensures c.deref.ensures.value
    c.in_ok-group.ensures.group c.is_settled.ensures c.if-is_settled.false c.deref-2.ensures.value)
    c.in_err-parts.ensures.parts
    (err_from_is_err_and c.from_residual-in_err-parts.result c.from_residual-in_err-parts.ensures.1)

pub gather_once-beside-requires-clause-others : goal.gather_once-beside-requires-clause-others
gather_once-beside-requires-clause-others t c =
    let old = c.args.arena.now in
    let new = c.group_parts.new.arena in
    let w = c.args.at.width.bits in
    subst (IsPolynomial new w) (sym c.deref-4.ensures.value)
    (polynomial_goes_on old new c.group_parts.ensures.grows w c.in_ok-group.others.items
    c.in_ok-group.ensures.others_polynomial)

pub gather_once-returns-clause-gathering : goal.gather_once-returns-clause-gathering
gather_once-returns-clause-gathering t c =
    let parents = c.args.nest.now in
    let w = c.args.at.width.bits in
    let old = c.args.arena.now in
    let terms = terms_at (meanings old) c.args.terms.now in
    let new = c.group_parts.new.arena in
    let l = c.in-Some.l.0 in
    let told = c.in_ok-parts.ensures.parts in
    let leads = group_leads (former parents c.args.at) parents w c.in-Some.l.0 old terms c.in-Some.ensures
    c.deref.ensures.value c.in_ok-group.ensures.group c.is_settled.ensures c.if-is_settled.false
    c.deref-2.ensures.value in
    let parts : told.0 ≡ trees_at new c.deref-3.result.now =
    sym told.2.1 ∙ sym (ap (trees_at new) c.deref-3.ensures.value) in
    let others : staying parents l terms ≡ terms_at (meanings new) c.deref-4.result.now =
    sym c.in_ok-group.ensures.others
    ∙ sym (same_terms_go_on old new c.group_parts.ensures.grows w c.in_ok-group.others.items
    c.in_ok-group.ensures.others_polynomial.over)
    ∙ sym (ap (terms_at (meanings new)) c.deref-4.ensures.value) in (
      beside w l (trees_at new c.deref-3.result.now) (terms_at (meanings new) c.deref-4.result.now),
      sym (led_on told.0 leads told.1)
          ∙ ap (λ trees. Done (beside w l trees (staying parents l terms))) parts
          ∙ ap (λ ts. Done (beside w l (trees_at new c.deref-3.result.now) ts)) others,
      c.in_ok-beside.ensures.gathering terms,
    )

pub group_parts-loop-term-init : goal.group_parts-loop-term-init
group_parts-loop-term-init t c =
    adding_begins c.in-Some.both.0.now c.monomial_parts.ensures.grows c.requires c.in-Some.ensures.cases.0
    c.in_ok-parts.ensures.parts

pub group_parts-monomial_parts-requires-in-loop-term :
    goal.group_parts-monomial_parts-requires-in-loop-term
group_parts-monomial_parts-requires-in-loop-term t c =
    let left = drop_next c.in-Some.both.1.now c.loop-term.term-index c.term-item.result c.loop-term-test.true
    ∙ ap (λ t. t ∷ drop (c.loop-term.term-index + 1) c.in-Some.both.1.now) (sym c.term-item.is) in
    (omega (arith, c.decreases), next_monomial c.loop-term.invariant left)

pub group_parts-returns-in_err-more-clause-grows :
    goal.group_parts-returns-in_err-more-clause-grows
group_parts-returns-in_err-more-clause-grows t c =
    goes_on_again c.args.arena.now c.loop-term.arena c.monomial_parts-in-loop-term.new.arena
    c.loop-term.invariant.grows c.monomial_parts-in-loop-term.ensures.grows

pub group_parts-returns-in_err-more-clause-parts :
    goal.group_parts-returns-in_err-more-clause-parts
group_parts-returns-in_err-more-clause-parts t c =
    let left = drop_next c.in-Some.both.1.now c.loop-term.term-index c.term-item.result c.loop-term-test.true
    ∙ ap (λ t. t ∷ drop (c.loop-term.term-index + 1) c.in-Some.both.1.now) (sym c.term-item.is) in
    let new = c.monomial_parts-in-loop-term.new.arena in
    let w = c.args.at.width.bits in
    refused (HoldAt new w) (HoldAt new w) (monomial_leads c.loop-term.invariant left) c.in_err-more.ensures.parts
    (err_from_is_err_and c.from_residual-in_err-more.result c.from_residual-in_err-more.ensures.1)

pub group_parts-parts_sum-requires : goal.group_parts-parts_sum-requires
group_parts-parts_sum-requires t c =
    let left = drop_next c.in-Some.both.1.now c.loop-term.term-index c.term-item.result c.loop-term-test.true
    ∙ ap (λ t. t ∷ drop (c.loop-term.term-index + 1) c.in-Some.both.1.now) (sym c.term-item.is) in
    let new = c.monomial_parts-in-loop-term.new.arena in (
      omega (arith, c.decreases),
      (
        parts_held c.loop-term.invariant left c.monomial_parts-in-loop-term.ensures.grows c.deref.ensures.value,
        subst (AreTreesOfAt new c.args.at.width.bits) (sym c.deref-in-loop-term.ensures.value)
            c.in_ok-more.ensures.parts.2.0,
      ),
    )

pub group_parts-returns-in_err-parts-2-clause-grows :
    goal.group_parts-returns-in_err-parts-2-clause-grows
group_parts-returns-in_err-parts-2-clause-grows t c =
    goes_on_again c.args.arena.now c.loop-term.arena c.parts_sum.new.arena c.loop-term.invariant.grows
    (goes_on_again c.loop-term.arena c.monomial_parts-in-loop-term.new.arena c.parts_sum.new.arena
    c.monomial_parts-in-loop-term.ensures.grows c.parts_sum.ensures.grows)

pub group_parts-returns-in_err-parts-2-clause-parts :
    goal.group_parts-returns-in_err-parts-2-clause-parts
group_parts-returns-in_err-parts-2-clause-parts t c =
    let left = drop_next c.in-Some.both.1.now c.loop-term.term-index c.term-item.result c.loop-term-test.true
    ∙ ap (λ t. t ∷ drop (c.loop-term.term-index + 1) c.in-Some.both.1.now) (sym c.term-item.is) in
    let new = c.parts_sum.new.arena in
    let w = c.args.at.width.bits in
    refused (HoldAt new w) (HoldAt new w)
    (sum_leads c.loop-term.invariant left c.monomial_parts-in-loop-term.ensures.grows c.deref.ensures.value
    c.deref-in-loop-term.ensures.value c.in_ok-more.ensures.parts)
    c.in_err-parts-2.ensures.parts
    (err_from_is_err_and c.from_residual-in_err-parts-2.result c.from_residual-in_err-parts-2.ensures.1)

pub group_parts-loop-term-preserved : goal.group_parts-loop-term-preserved
group_parts-loop-term-preserved t c =
    let left = drop_next c.in-Some.both.1.now c.loop-term.term-index c.term-item.result c.loop-term-test.true
    ∙ ap (λ t. t ∷ drop (c.loop-term.term-index + 1) c.in-Some.both.1.now) (sym c.term-item.is) in
    added c.loop-term.invariant left c.monomial_parts-in-loop-term.ensures.grows c.deref.ensures.value
    c.deref-in-loop-term.ensures.value c.in_ok-more.ensures.parts
    c.parts_sum.ensures.grows c.in_ok-parts-2.ensures.parts

pub group_parts-returns-clause-grows : goal.group_parts-returns-clause-grows
group_parts-returns-clause-grows t c = c.loop-term.invariant.grows

pub group_parts-returns-clause-parts : goal.group_parts-returns-clause-parts
group_parts-returns-clause-parts t c =
    let none = drop_all c.loop-term.term-index c.in-Some.both.1.now c.loop-term-test.false in (
      trees_at c.loop-term.arena c.loop-term.parts.items,
      all_added c.loop-term.invariant none,
      (c.loop-term.invariant.trees, refl),
    )

pub monomial_parts-formed-requires : goal.monomial_parts-formed-requires
monomial_parts-formed-requires t c =
    let old = c.args.arena.now in
    let w = c.args.at.width.bits in
    let t = c.args.term.now in
    let terms = c.in_ok-terms.ensures
    ∙ ap (λ ids. record { ids = ids; coefficient = t.coefficient } ∷ []) c.deref.ensures.value in
    let atoms = c.in_ok-rest.ensures.atoms w (subst (AreAtoms old w) (sym c.as_slice-2.ensures) c.requires.0) in
    let rest = c.in_ok-rest.ensures.rest
    ∙ ap (λ ids. rest_of c.args.l.0 (factors_at (meanings old) ids)) c.as_slice-2.ensures in (
      omega (arith, c.decreases),
      subst (IsPolynomial old w) (sym terms)
          (rest_polynomial old w c.args.l.0 t c.in_ok-rest.rest.items c.requires atoms rest),
    )

pub monomial_parts-returns-in_err-tree-clause-parts :
    goal.monomial_parts-returns-in_err-tree-clause-parts
monomial_parts-returns-in_err-tree-clause-parts t c =
    let old = c.args.arena.now in
    let w = c.args.at.width.bits in
    let t = c.args.term.now in
    let terms = c.in_ok-terms.ensures
    ∙ ap (λ ids. record { ids = ids; coefficient = t.coefficient } ∷ []) c.deref.ensures.value in
    let new = c.formed.new.arena in
    refused (IsAt new w) (HoldAt new w)
    (rest_leads (former c.args.nest.now c.args.at) w c.args.l.0 old t terms c.in_ok-rest.ensures.rest
    c.as_slice-2.ensures)
    c.in_err-tree.ensures.tree
    (err_from_is_err_and c.from_residual-in_err-tree.result c.from_residual-in_err-tree.ensures.1)

pub monomial_parts-parts_with-requires : goal.monomial_parts-parts_with-requires
monomial_parts-parts_with-requires t c =
    let old = c.args.arena.now in
    let new = c.formed.new.arena in
    let w = c.args.at.width.bits in (
      omega (arith, c.decreases),
      (
        c.in_ok-tree.ensures.tree.2.0,
        subst (AreAll (IsRecurrence new w)) (sym c.deref-2.ensures.value)
            (recurrences_go_on old new c.formed.ensures.grows w c.in_ok-recs.recs.items c.in_ok-recs.ensures.trees),
      ),
    )

pub monomial_parts-returns-clause-parts : goal.monomial_parts-returns-clause-parts
monomial_parts-returns-clause-parts t c =
    let old = c.args.arena.now in
    let w = c.args.at.width.bits in
    let t = c.args.term.now in
    let terms = c.in_ok-terms.ensures
    ∙ ap (λ ids. record { ids = ids; coefficient = t.coefficient } ∷ []) c.deref.ensures.value in
    let form = former c.args.nest.now c.args.at in
    let l = c.args.l.0 in
    let new = c.formed.new.arena in
    let told = c.in_ok-tree.ensures.tree in
    let tree = tree_of new c.in_ok-tree.tree in
    told_same (HoldAt c.parts_with.new.arena w) _ _ c.parts_with.result
    (
    ap (λ recs. parts_with form w l tree (map (trees_at new) recs)) c.deref-2.ensures.value
    ∙ ap (parts_with form w l tree) (
    same_recurrences_go_on old new c.formed.ensures.grows w c.in_ok-recs.recs.items c.in_ok-recs.ensures.trees
    ∙ c.in_ok-recs.ensures.recs
    ∙ ap (λ ids. recs_of l (factors_at (meanings old) ids)) c.as_slice.ensures
    )
    ∙ ap (λ tree. parts_with form w l tree (recs_of l (factors_at (meanings old) t.ids))) told.2.1
    ∙ led_on told.0 (rest_leads (former c.args.nest.now c.args.at) w c.args.l.0 old t terms c.in_ok-rest.ensures.rest
    c.as_slice-2.ensures) told.1
    )
    c.parts_with.ensures.parts

pub parts_sum-carried-requires : goal.parts_sum-carried-requires
parts_sum-carried-requires t c =
    let nodes = c.args.arena.now in
    let w = c.args.at.width.bits in
    let items = behind_items c.in_ok-extend_from_slice.ensures.items c.in_ok-operands.ensures.items refl in
    let held = both_hold nodes w c.args.left.now c.args.right.now c.requires.left c.requires.right in (
      omega (arith, c.decreases),
      (
        (
          c.in_ok-plan.ensures.places,
          operands_counted c.args.left.now c.args.right.now
              c.in_ok-plan.ensures.operands items,
        ),
        subst (AreTreesOfAt nodes w) (sym items) held,
      ),
    )

pub parts_sum-returns-clause-parts : goal.parts_sum-returns-clause-parts
parts_sum-returns-clause-parts t c =
    told_same (HoldAt c.carried.new.arena c.args.at.width.bits) _ _ c.carried.result
    (sum_carried (former c.args.nest.now c.args.at) c.args.at.width.bits c.args.l.0 c.args.arena.now
    c.args.left.now c.args.right.now
    (behind_items c.in_ok-extend_from_slice.ensures.items c.in_ok-operands.ensures.items refl)
    c.in_ok-plan.ensures.plan)
    c.carried.ensures.parts

pub parts_times-loop-rec-init : goal.parts_times-loop-rec-init
parts_times-loop-rec-init t c =
    let nodes = c.args.arena.now in
    let w = c.args.at.width.bits in
    let items : c.in_ok-parts.parts.items ≡ c.args.first.now = c.in_ok-parts.ensures.items in record {
      grows = goes_on_itself nodes;
      trees = subst (AreTreesOfAt nodes w) (sym items) c.requires.first;
      some = subst (λ ids. 1 ≤ length ids) (sym items) c.requires.some;
      left = c.requires.recs;
      same = ap (λ ids. parts_times (former c.args.nest.now c.args.at) w c.args.l.0 (trees_at nodes ids)
          (map (trees_at nodes) c.args.recs.now)) items;
    }

pub parts_times-plan_of_product-requires-clause-left : goal.parts_times-plan_of_product-requires-clause-left
parts_times-plan_of_product-requires-clause-left t c =
    subst (λ ids. 1 ≤ length ids) (sym c.deref.ensures.value) c.loop-rec.invariant.some

pub parts_times-returns-in_err-plan-clause-grows :
    goal.parts_times-returns-in_err-plan-clause-grows
parts_times-returns-in_err-plan-clause-grows t c = c.loop-rec.invariant.grows

pub parts_times-returns-in_err-extend_from_slice-clause-grows :
    goal.parts_times-returns-in_err-extend_from_slice-clause-grows
parts_times-returns-in_err-extend_from_slice-clause-grows t c = c.loop-rec.invariant.grows

pub parts_times-carried-requires : goal.parts_times-carried-requires
parts_times-carried-requires t c =
    let left = drop_next c.args.recs.now c.loop-rec.rec-index c.rec-item.result c.loop-rec-test.true
    ∙ ap (λ rec. rec ∷ drop (c.loop-rec.rec-index + 1) c.args.recs.now) (sym c.rec-item.is) in
    let items : c.extend_from_slice.new.self.items ≡ c.loop-rec.parts.items ++ c.rec-item.result =
    behind_items c.in_ok-extend_from_slice.ensures.items refl c.as_slice-rec.ensures in
    let mine = behind_items c.in_ok-extend_from_slice.ensures.items (sym c.deref.ensures.value) refl in (
      omega (arith, c.decreases),
      (
        (
          c.in_ok-plan.ensures.places,
          operands_counted c.deref.result.now
              c.as_slice-rec.result.now c.in_ok-plan.ensures.operands mine,
        ),
        product_held c.loop-rec.invariant left items,
      ),
    )

pub parts_times-returns-in_err-parts-2-clause-grows :
    goal.parts_times-returns-in_err-parts-2-clause-grows
parts_times-returns-in_err-parts-2-clause-grows t c =
    goes_on_again c.args.arena.now c.loop-rec.arena c.carried.new.arena c.loop-rec.invariant.grows
    c.carried.ensures.grows

pub parts_times-returns-in_err-parts-2-clause-parts :
    goal.parts_times-returns-in_err-parts-2-clause-parts
parts_times-returns-in_err-parts-2-clause-parts t c =
    let left = drop_next c.args.recs.now c.loop-rec.rec-index c.rec-item.result c.loop-rec-test.true
    ∙ ap (λ rec. rec ∷ drop (c.loop-rec.rec-index + 1) c.args.recs.now) (sym c.rec-item.is) in
    let items : c.extend_from_slice.new.self.items ≡ c.loop-rec.parts.items ++ c.rec-item.result =
    behind_items c.in_ok-extend_from_slice.ensures.items refl c.as_slice-rec.ensures in
    let new = c.carried.new.arena in
    let w = c.args.at.width.bits in
    refused (HoldAt new w) (HoldAt new w)
    (product_leads c.loop-rec.invariant left items c.deref.ensures.value c.as_slice-rec.ensures
    c.in_ok-plan.ensures.plan)
    c.in_err-parts-2.ensures.parts
    (err_from_is_err_and c.from_residual-in_err-parts-2.result c.from_residual-in_err-parts-2.ensures.1)

pub parts_times-loop-rec-preserved : goal.parts_times-loop-rec-preserved
parts_times-loop-rec-preserved t c =
    let left = drop_next c.args.recs.now c.loop-rec.rec-index c.rec-item.result c.loop-rec-test.true
    ∙ ap (λ rec. rec ∷ drop (c.loop-rec.rec-index + 1) c.args.recs.now) (sym c.rec-item.is) in
    let items : c.extend_from_slice.new.self.items ≡ c.loop-rec.parts.items ++ c.rec-item.result =
    behind_items c.in_ok-extend_from_slice.ensures.items refl c.as_slice-rec.ensures in
    let some = c.in_ok-parts-2.ensures.some (omega (
      arith,
      c.in_ok-plan.ensures.count,
      c.loop-rec.invariant.some,
      ap length c.deref.ensures.value,
      next_some c.loop-rec.invariant left c.as_slice-rec.ensures,
    )) in
    multiplied c.loop-rec.invariant left items c.deref.ensures.value c.as_slice-rec.ensures c.in_ok-plan.ensures.plan
    c.carried.ensures.grows c.in_ok-parts-2.ensures.parts some

pub parts_times-returns-clause-grows : goal.parts_times-returns-clause-grows
parts_times-returns-clause-grows t c = c.loop-rec.invariant.grows

pub parts_times-returns-clause-parts : goal.parts_times-returns-clause-parts
parts_times-returns-clause-parts t c =
    let none = drop_all c.loop-rec.rec-index c.args.recs.now c.loop-rec-test.false in (
      trees_at c.loop-rec.arena c.loop-rec.parts.items,
      all_multiplied c.loop-rec.invariant none,
      (c.loop-rec.invariant.trees, refl),
    )

pub parts_with-parts_multiple-requires : goal.parts_with-parts_multiple-requires
parts_with-parts_multiple-requires t c =
    let old = c.args.arena.now in
    let new = c.parts_times.new.arena in (
      omega (arith, c.decreases),
      (
        wide_goes_on old new c.parts_times.ensures.grows c.args.at.width.bits c.args.tree c.requires.tree,
        c.in_ok-parts-in-Some.ensures.parts.2.0,
      ),
    )

pub parts_with-returns-in_ok-parts-in-Some-clause-parts :
    goal.parts_with-returns-in_ok-parts-in-Some-clause-parts
parts_with-returns-in_ok-parts-in-Some-clause-parts t c =
    told_same (HoldAt c.parts_multiple.new.arena c.args.at.width.bits) _ _ c.parts_multiple.result
    (with_first (former c.args.nest.now c.args.at) c.args.at.width.bits c.args.l.0 c.args.arena.now
    c.parts_times.ensures.grows c.args.tree c.in_ok-parts-in-Some.parts.items c.requires.tree
    c.in-Some.ensures.cases.0 c.as_slice.ensures c.in_ok-parts-in-Some.ensures.parts)
    c.parts_multiple.ensures.parts

pub places_of-loop-step-init : goal.places_of-loop-step-init
places_of-loop-step-init t c = record {
  placing = record {
    grows = goes_on_itself c.args.arena.now;
    trees = c.requires.operands;
    earlier = c.requires.steps;
    same = refl;
  };
  count = omega arith;
}

pub places_of-stepped-requires : goal.places_of-stepped-requires
places_of-stepped-requires t c =
    let left = (drop_next c.args.steps.now c.loop-step.step-index (step.Add 0 0) c.loop-step-test.true) in (
      omega (arith, c.decreases),
      (
        step_below c.loop-step.invariant.placing left c.deref.ensures.value,
        places_held c.loop-step.invariant.placing c.deref.ensures.value,
      ),
    )

pub places_of-returns-in_err-id-clause-grows : goal.places_of-returns-in_err-id-clause-grows
places_of-returns-in_err-id-clause-grows t c =
    goes_on_again c.args.arena.now c.loop-step.arena c.stepped.new.arena c.loop-step.invariant.placing.grows
    c.stepped.ensures.grows

pub places_of-returns-in_err-id-clause-places : goal.places_of-returns-in_err-id-clause-places
places_of-returns-in_err-id-clause-places t c =
    let new = c.stepped.new.arena in
    let w = c.args.at.width.bits in
    refused (IsAt new w) (HoldAt new w)
    (step_leads c.loop-step.invariant.placing
    (drop_next c.args.steps.now c.loop-step.step-index (step.Add 0 0) c.loop-step-test.true) c.deref.ensures.value)
    c.in_err-id.ensures.tree
    (err_from_is_err_and c.from_residual.result c.from_residual.ensures.1)

pub places_of-returns-in_err-push-clause-grows : goal.places_of-returns-in_err-push-clause-grows
places_of-returns-in_err-push-clause-grows t c =
    goes_on_again c.args.arena.now c.loop-step.arena c.stepped.new.arena c.loop-step.invariant.placing.grows
    c.stepped.ensures.grows

pub places_of-loop-step-preserved : goal.places_of-loop-step-preserved
places_of-loop-step-preserved t c =
    let places = c.loop-step.places.items in
    let id = c.in_ok-id.id in
    let items : c.push.new.places.items ≡ places ++ id ∷ [] = c.in_ok-push.ensures in record {
      placing = placed c.loop-step.invariant.placing
          (drop_next c.args.steps.now c.loop-step.step-index (step.Add 0 0) c.loop-step-test.true)
          c.deref.ensures.value c.stepped.ensures.grows id c.in_ok-id.ensures.tree items;
      count = ap length items ∙ length_behind places id ∙ omega (arith, c.loop-step.invariant.count);
    }

pub places_of-returns-clause-grows : goal.places_of-returns-clause-grows
places_of-returns-clause-grows t c = c.loop-step.invariant.placing.grows

pub places_of-returns-clause-places : goal.places_of-returns-clause-places
places_of-returns-clause-places t c =
    let none = drop_all c.loop-step.step-index c.args.steps.now c.loop-step-test.false in (
      trees_at c.loop-step.arena c.loop-step.places.items,
      all_placed c.loop-step.invariant.placing none,
      (c.loop-step.invariant.placing.trees, refl),
    )

pub places_of-returns-clause-count : goal.places_of-returns-clause-count
places_of-returns-clause-count t c = omega (arith, c.loop-step.invariant.count)

pub stepped-sum_by-requires : goal.stepped-sum_by-requires
stepped-sum_by-requires t c =
    let nodes = c.args.arena.now in
    let w = c.args.at.width.bits in
    let places = c.args.places.now in
    let below = subst (IsStepBelow (length places)) c.in-Add.is c.requires.step in (
      omega (arith, c.decreases),
      (
        tree_within nodes w places c.in-Add.i (record { 0 = 0 }) c.requires.places below.0,
        tree_within nodes w places c.in-Add.j (record { 0 = 0 }) c.requires.places below.1,
      ),
    )

pub stepped-product_by-requires : goal.stepped-product_by-requires
stepped-product_by-requires t c =
    let nodes = c.args.arena.now in
    let w = c.args.at.width.bits in
    let places = c.args.places.now in
    let below = subst (IsStepBelow (length places)) c.in-Mul.is c.requires.step in (
      omega (arith, c.decreases),
      (
        tree_within nodes w places c.in-Mul.i (record { 0 = 0 }) c.requires.places below.0,
        tree_within nodes w places c.in-Mul.j (record { 0 = 0 }) c.requires.places below.1,
      ),
    )

pub gathered-returns-in_err-gather_once-clause-tree : goal.gathered-returns-in_err-gather_once-clause-tree
gathered-returns-in_err-gather_once-clause-tree t c =
    let w = c.args.at.width.bits in
    let new = c.gather_once.new.arena in
    refused (IsGathering new w (terms_at (meanings c.loop-terms.arena) c.as_slice.result.now)) (IsAt new w)
    (turn_leads c.loop-terms.invariant c.as_slice.ensures) c.in_err-gather_once.ensures.gathering
    (err_from_is_err_and c.from_residual.result c.from_residual.ensures.1)

pub gathered-tested_terms-requires : goal.gathered-tested_terms-requires
gathered-tested_terms-requires t c = terms_stay c.loop-terms.invariant c.gather_once.ensures.grows

pub gathered-returns-in-Unchanged-clause-tree : goal.gathered-returns-in-Unchanged-clause-tree
gathered-returns-in-Unchanged-clause-tree t c =
    told_same (IsAt c.tested_terms.new.arena c.args.at.width.bits) _ _ c.tested_terms.result
    (unchanged c.loop-terms.invariant c.gather_once.ensures.grows c.as_slice.ensures
    c.in_ok-gather_once.ensures.gathering c.in-Unchanged.is)
    c.tested_terms.ensures.tree

pub gathered-returns-in_err-tested-in-Whole-clause-tree : goal.gathered-returns-in_err-tested-in-Whole-clause-tree
gathered-returns-in_err-tested-in-Whole-clause-tree t c =
    let new = c.gather_once.new.arena in
    refused_whole (λ (_ : Unit {0}) tree. tree ≡ tree_of new c.in-Whole.id) (IsAt new c.args.at.width.bits)
    (whole_given c.loop-terms.invariant c.gather_once.ensures.grows c.as_slice.ensures
    c.in_ok-gather_once.ensures.gathering c.in-Whole.is)
    c.in_err-tested-in-Whole.ensures
    (err_from_is_err_and c.from_residual-in_err-tested-in-Whole.result c.from_residual-in_err-tested-in-Whole.ensures.1)

pub gathered-returns-in-Whole-clause-tree : goal.gathered-returns-in-Whole-clause-tree
gathered-returns-in-Whole-clause-tree t c =
    let told = c.in_ok-gather_once.ensures.gathering in
    let same = whole_given c.loop-terms.invariant c.gather_once.ensures.grows c.as_slice.ensures told c.in-Whole.is in
    let given = tree_given c.loop-terms.invariant c.gather_once.ensures.grows c.as_slice.ensures told c.in-Whole.is in
    let seen = c.in_ok-tested-in-Whole.ensures in
    (seen.0, sym same ∙ seen.1, (given.2.0, sym seen.2))

pub gathered-are_same-requires-clause-right : goal.gathered-are_same-requires-clause-right
gathered-are_same-requires-clause-right t c =
    subst (IsPolynomial c.gather_once.new.arena c.args.at.width.bits) (sym c.as_slice-in-Again-2.ensures)
    (terms_stay c.loop-terms.invariant c.gather_once.ensures.grows)

pub gathered-tested_terms-requires-then-are_same : goal.gathered-tested_terms-requires-then-are_same
gathered-tested_terms-requires-then-are_same t c = terms_stay c.loop-terms.invariant c.gather_once.ensures.grows

pub gathered-returns-then-are_same-clause-tree : goal.gathered-returns-then-are_same-clause-tree
gathered-returns-then-are_same-clause-tree t c =
    told_same (IsAt c.tested_terms-then-are_same.new.arena c.args.at.width.bits) _ _ c.tested_terms-then-are_same.result
    (last_turn c.loop-terms.invariant c.gather_once.ensures.grows c.as_slice.ensures
    c.in_ok-gather_once.ensures.gathering c.in-Again.is c.are_same.ensures c.as_slice-in-Again.ensures
    c.as_slice-in-Again-2.ensures
    c.if-are_same.true)
    c.tested_terms-then-are_same.ensures.tree

pub gathered-returns-then-left-eq0-clause-tree : goal.gathered-returns-then-left-eq0-clause-tree
gathered-returns-then-left-eq0-clause-tree t c =
    told_same (IsAt c.tested_terms-then-left-eq0.new.arena c.args.at.width.bits) _ _ c.tested_terms-then-left-eq0.result
    (no_turn_left c.loop-terms.invariant c.gather_once.ensures.grows c.as_slice.ensures
    c.in_ok-gather_once.ensures.gathering c.in-Again.is c.are_same.ensures c.as_slice-in-Again.ensures
    c.as_slice-in-Again-2.ensures
    c.if-are_same.false c.if-left-eq0.true)
    c.tested_terms-then-left-eq0.ensures.tree

pub gathered-loop-terms-preserved : goal.gathered-loop-terms-preserved
gathered-loop-terms-preserved t c =
    turned c.loop-terms.invariant c.gather_once.ensures.grows c.as_slice.ensures
    c.in_ok-gather_once.ensures.gathering c.in-Again.is c.are_same.ensures c.as_slice-in-Again.ensures
    c.as_slice-in-Again-2.ensures
    c.if-are_same.false c.if-left-eq0.false
