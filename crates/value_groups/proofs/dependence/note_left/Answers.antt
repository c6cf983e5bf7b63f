use Rattle.std.proofs.Common.{◌≡◌, ◌<◌, ◌++◌, ℕ, List, [], length, get_or, Option, Some, None, sym, ap, ◌∙◌}
use Rattle.std.proofs.Common.{subst, arith}
use Rattle.std.proofs.lemmas.Bool.{both_ways}
use Rattle.std.proofs.lemmas.List.{append_assoc, append-nil, get_or_read}
use Rattle.scev_base.specs.declared.ids.LoopId.{LoopId}
use Rattle.scev_base.specs.declared.ids.ValueId.{ValueId}
use Rattle.value_exprs.specs.View.{View, Holds, conditions_of, number_of_loop}
use Rattle.value_exprs.specs.WellMade.{IsListed}
use Rattle.value_groups.proofs.Leaving.{IsLeftUpTo, IsLeftUpTo_none, IsLeftUpTo_more, numbers, all_left, none_beyond}
use Rattle.value_groups.proofs.Leaving.{around_listed, height_at_falls}
use Rattle.value_groups.proofs.dependence.note_left.Goals as goal
use Rattle.value_groups.proofs.dependence.note_left.Goals.{After-around-at}

pub loop-at-init : goal.loop-at-init
loop-at-init c =
    let view : View = c.args.view.now in
    let v : ℕ = c.args.reading.register.0 in
    let place : Option ℕ = number_of_loop c.args.reading.place in
    let none : IsLeftUpTo view v place c.home-at.result [] = rw c.home-at.ensures.home (IsLeftUpTo_none view v place) in
    record {
      listed = c.home-at.ensures.listed;
      more = ([], sym (append-nil c.args.row.now.items), none);
    }

-- the loop of this turn is of the nest
within : (c : After-around-at) → c.in-Some.l.0 < length c.args.view.now.parents
within c = subst (IsListed c.args.view.now) c.in-Some.is c.loop-at.invariant.listed

pub loop-at-preserved : goal.loop-at-preserved
loop-at-preserved c =
    let view : View = c.args.view.now in
    let v : ℕ = c.args.reading.register.0 in
    let place : Option ℕ = number_of_loop c.args.reading.place in
    let l : LoopId = c.in-Some.l in
    let next : Option LoopId = c.around-at.result in
    let more : List ℕ = c.loop-at.invariant.more.0 in
    let before : List ℕ = c.args.row.now.items in
    let named : List ValueId = c.as_slice-in-Some.result.now in
    let to : IsLeftUpTo view v place (Some l) more =
    subst (λ (o : Option LoopId). IsLeftUpTo view v place o more) c.in-Some.is c.loop-at.invariant.more.2 in
    let apart : Holds view l.0 place → ⊥ = λ h. both_ways c.holds.result c.if-holds.false (c.holds.ensures.1 h) in
    let rows : c.as_slice.result.now ≡ view.conditions =
    c.as_slice.ensures ∙ ap (λ (one : View). one.conditions) c.view.view_is in
    let inside : l.0 < length c.as_slice.result.now =
    omega (arith, ap (λ (xs : List (List ValueId)). length xs) rows, c.requires.view.sizes.2, within c) in
    let row : named ≡ conditions_of view l.0 = c.as_slice-in-Some.ensures
    ∙ (get_or_read c.as_slice.result.now l.0 c.index-as_slice-l.result inside c.index-as_slice-l.is []
    ∙ ap (λ (xs : List (List ValueId)). get_or xs l.0 []) rows) in
    record {
      listed = around_listed view l next c.requires.view.nest (within c) c.around-at.ensures;
      more = (
        more ++ numbers (conditions_of view l.0),
        c.in_ok-note_all.ensures
            ∙ (ap (λ (xs : List ℕ). xs ++ numbers named) c.loop-at.invariant.more.1
            ∙ (append_assoc before more (numbers named)
            ∙ ap (λ (xs : List ValueId). before ++ (more ++ numbers xs)) row)),
        IsLeftUpTo_more view v place l next more (within c) c.around-at.ensures apart to,
      );
    }

pub loop-at-smaller : goal.loop-at-smaller
loop-at-smaller c =
    let view : View = c.args.view.now in
    rw c.in-Some.is
    (height_at_falls view c.in-Some.l c.around-at.result c.requires.view.nest (within c) c.around-at.ensures)

pub returns-then-holds : goal.returns-then-holds
returns-then-holds c =
    let view : View = c.args.view.now in
    let v : ℕ = c.args.reading.register.0 in
    let place : Option ℕ = number_of_loop c.args.reading.place in
    let l : LoopId = c.in-Some.l in
    let more : List ℕ = c.loop-at.invariant.more.0 in
    let to : IsLeftUpTo view v place (Some l) more =
    subst (λ (o : Option LoopId). IsLeftUpTo view v place o more) c.in-Some.is c.loop-at.invariant.more.2 in
    let held : Holds view l.0 place = c.holds.ensures.0 c.if-holds.true in
    (more, c.loop-at.invariant.more.1, all_left view v place (Some l) more to (none_beyond view v place l.0 held))

pub returns : goal.returns
returns c =
    let view : View = c.args.view.now in
    let v : ℕ = c.args.reading.register.0 in
    let place : Option ℕ = number_of_loop c.args.reading.place in
    let more : List ℕ = c.loop-at.invariant.more.0 in
    let to : IsLeftUpTo view v place None more =
    subst (λ (o : Option LoopId). IsLeftUpTo view v place o more) c.in_default.is c.loop-at.invariant.more.2 in
    (more, c.loop-at.invariant.more.1, all_left view v place None more to (λ l leaves h. h))
