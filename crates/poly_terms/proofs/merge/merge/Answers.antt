use Rattle.std.proofs.Common.{◌≡◌, ◌⊎◌, ◌+◌, ℕ, List, ◌++◌, [], ◌∷◌, length, inl, inr, sym, ap, ◌∙◌, subst}
use Rattle.scev_base.specs.declared.ids.ExprId.{ExprId}
use Rattle.poly_terms.specs.Monomials.{Precedes}
use Rattle.poly_terms.specs.Terms.{IsCanonical}
use Rattle.poly_terms.specs.Weights.{weight, AreCongruent}
use Rattle.poly_terms.proofs.MergeLemmas.{IsMerging, merging_starts, left_taken, right_taken, both_taken, merging_ends}
use Rattle.poly_terms.proofs.merge.merge.Goals as goal
use Rattle.poly_terms.proofs.merge.merge.Goals.{in_default, in_default-2, In_ok-extend-2}

pub loop-s-init : goal.loop-s-init
loop-s-init c =
    subst (λ l. IsMerging c.args.w.bits l c.args.left.now c.args.right.now c.args.left.now c.args.right.now) (sym c.in_ok-merged.ensures.items) (merging_starts c.args.w.bits c.args.left.now c.args.right.now c.requires.left c.requires.right)

pub loop-s-preserved-in_ok-push-in-Less : goal.loop-s-preserved-in_ok-push-in-Less
loop-s-preserved-in_ok-push-in-Less c =
    let two = c.in-Some-Some in
    let before = subst (λ ids. Precedes ids two.t.now.ids) c.as_slice.ensures (subst (Precedes c.as_slice.result.now) c.as_slice-in-Some-Some.ensures c.in-Less.ensures) in
    let items = c.in_ok-push-in-Less.ensures.items ∙ ap (λ s. c.loop-s.merged.items ++ s ∷ []) c.in_ok-copy-in-Less.ensures in
    subst (λ l. IsMerging c.args.w.bits l two.ss.now c.loop-s.rights.now c.args.left.now c.args.right.now) (sym items) (left_taken c.args.w.bits c.loop-s.merged.items c.args.left.now c.args.right.now c.loop-s.lefts.now c.loop-s.rights.now two.ss.now two.ts.now two.s.now two.t.now two.ensures.cases.0 two.ensures'.cases.0 c.loop-s.invariant before)

pub loop-s-preserved-in_ok-push-in-Greater : goal.loop-s-preserved-in_ok-push-in-Greater
loop-s-preserved-in_ok-push-in-Greater c =
    let two = c.in-Some-Some in
    let before = subst (λ ids. Precedes ids two.s.now.ids) c.as_slice-in-Some-Some.ensures (subst (Precedes c.as_slice-in-Some-Some.result.now) c.as_slice.ensures c.in-Greater.ensures) in
    let items = c.in_ok-push-in-Greater.ensures.items ∙ ap (λ s. c.loop-s.merged.items ++ s ∷ []) c.in_ok-copy-in-Greater.ensures in
    subst (λ l. IsMerging c.args.w.bits l c.loop-s.lefts.now two.ts.now c.args.left.now c.args.right.now) (sym items) (right_taken c.args.w.bits c.loop-s.merged.items c.args.left.now c.args.right.now c.loop-s.lefts.now c.loop-s.rights.now two.ss.now two.ts.now two.s.now two.t.now two.ensures.cases.0 two.ensures'.cases.0 c.loop-s.invariant before)

pub loop-s-preserved : goal.loop-s-preserved
loop-s-preserved c =
    let two = c.in-Some-Some in
    let same = sym c.as_slice.ensures ∙ c.in-Equal.ensures ∙ c.as_slice-in-Some-Some.ensures in
    both_taken c.args.w.bits c.loop-s.merged.items c.args.left.now c.args.right.now c.loop-s.lefts.now c.loop-s.rights.now two.ss.now two.ts.now c.push_sum.new.terms.items two.s.now two.t.now two.ensures.cases.0 two.ensures'.cases.0 c.loop-s.invariant same c.in_ok-push_sum-in-Equal.ensures

-- What the result is, and what holds of it.
whole : (c : In_ok-extend-2) → c.extend-2.new.terms.items ≡ (c.loop-s.merged.items ++ c.loop-s.lefts.now) ++ c.loop-s.rights.now
whole c = c.in_ok-extend-2.ensures ∙ ap (λ l. l ++ c.loop-s.rights.now) c.in_ok-extend.ensures

ended : (c : In_ok-extend-2) → IsCanonical c.args.w.bits c.extend-2.new.terms.items × ((number : List ExprId → ℕ) → AreCongruent c.args.w.bits (weight number c.extend-2.new.terms.items) (weight number c.args.left.now + weight number c.args.right.now))
ended c =
    let none = elim c.match-split_first.branch as (λ _. (length c.loop-s.lefts.now ≡ 0) ⊎ (length c.loop-s.rights.now ≡ 0)) [ in_default w ↦ inr w.in_default.ensures'.cases | in_default-2 w ↦ inl w.in_default.ensures.cases ] in
    let bits = c.args.w.bits in
    subst (λ l. IsCanonical bits l × ((number : List ExprId → ℕ) → AreCongruent bits (weight number l) (weight number c.args.left.now + weight number c.args.right.now))) (sym (whole c)) (merging_ends bits c.loop-s.merged.items c.loop-s.lefts.now c.loop-s.rights.now c.args.left.now c.args.right.now c.loop-s.invariant none)

pub returns-clause-canonical : goal.returns-clause-canonical
returns-clause-canonical c = (ended c).0

pub returns-clause-weight : goal.returns-clause-weight
returns-clause-weight c = (ended c).1
