use Rattle.std.proofs.Common.{◌≡◌, ◌++◌, ◌⊎◌, length, inl, inr, ap, ◌∙◌, subst}
use Rattle.poly_terms.specs.Monomials.{IsMonomial, union}
use Rattle.poly_terms.proofs.MonomialLemmas.{union_left_turn, union_right_turn, union_end}
use Rattle.poly_terms.proofs.monomial.union_of.Goals as goal
use Rattle.poly_terms.proofs.monomial.union_of.Goals.{in_default, in_default-2}

pub loop-x-preserved-in_ok-push : goal.loop-x-preserved-in_ok-push
loop-x-preserved-in_ok-push c =
    let s = c.in-Some-Some in
    let lefts = c.loop-x.lefts.now in
    let rights = c.loop-x.rights.now in
    let turn = union_left_turn c.loop-x.ids.items lefts rights s.xs.now s.ys.now s.x.now s.y.now s.ensures.cases.0 s.ensures'.cases.0 c.loop-x.invariant.left c.loop-x.invariant.right c.if-x-y.true in
    record {
      left = (subst IsMonomial s.ensures.cases.0 c.loop-x.invariant.left).1;
      right = c.loop-x.invariant.right;
      all = ap (λ l. l ++ union s.xs.now rights) c.in_ok-push.ensures.ok ∙ turn ∙ c.loop-x.invariant.all;
    }

pub loop-x-preserved : goal.loop-x-preserved
loop-x-preserved c =
    let s = c.in-Some-Some in
    let lefts = c.loop-x.lefts.now in
    let rights = c.loop-x.rights.now in
    let turn = union_right_turn c.loop-x.ids.items lefts rights s.xs.now s.ys.now s.x.now s.y.now s.ensures.cases.0 s.ensures'.cases.0 c.loop-x.invariant.left c.if-x-y.false in
    record {
      left = c.loop-x.invariant.left;
      right = (subst IsMonomial s.ensures'.cases.0 c.loop-x.invariant.right).1;
      all = ap (λ l. l ++ union lefts s.ys.now) c.in_ok-push-2.ensures.ok ∙ turn ∙ c.loop-x.invariant.all;
    }

pub returns : goal.returns
returns c =
    let none = elim c.match-split_first.branch as (λ _. (length c.loop-x.lefts.now ≡ 0) ⊎ (length c.loop-x.rights.now ≡ 0)) [ in_default w ↦ inr w.in_default.ensures'.cases | in_default-2 w ↦ inl w.in_default.ensures.cases ] in
    c.new.ensures
    ∙ c.in_ok-extend_from_slice-2.ensures.ok
    ∙ ap (λ l. l ++ c.loop-x.rights.now) c.in_ok-extend_from_slice.ensures.ok
    ∙ union_end c.loop-x.ids.items c.loop-x.lefts.now c.loop-x.rights.now c.loop-x.invariant.left none
    ∙ c.loop-x.invariant.all
