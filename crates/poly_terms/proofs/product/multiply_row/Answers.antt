use Rattle.std.proofs.Common.{◌≡◌, ◌+◌, ℕ, List, [], drop, sym, subst}
use Rattle.scev_base.specs.declared.ids.ExprId.{ExprId}
use Rattle.std.proofs.lemmas.List.{drop_all}
use Rattle.poly_terms.specs.Terms.{IsCanonical}
use Rattle.poly_terms.specs.Weights.{weight, row_weight, AreCongruent}
use Rattle.poly_terms.proofs.ProductLemmas.{IsRowing, row_starts, row_goes_on, row_ends, drop_at}
use Rattle.poly_terms.proofs.product.multiply_row.Goals as goal
use Rattle.poly_terms.proofs.product.multiply_row.Goals.{After-loop-t}

pub loop-t-init : goal.loop-t-init
loop-t-init c =
    subst (λ l. IsRowing c.args.w.bits c.args.s.now c.args.right.now l c.args.right.now) (sym c.in_ok-terms.ensures.items) (row_starts c.args.w.bits c.args.s.now c.args.right.now c.requires.right)

pub loop-t-preserved : goal.loop-t-preserved
loop-t-preserved c =
    let rest = drop_at c.args.right.now c.loop-t.t-index c.t-item.result c.loop-t-test.true c.t-item.is in
    let before = subst (IsRowing c.args.w.bits c.args.s.now c.args.right.now c.loop-t.terms.items) rest c.loop-t.invariant in
    row_goes_on c.args.w.bits c.args.s.now c.t-item.result c.args.right.now c.loop-t.terms.items c.push_product.new.terms.items (drop (c.loop-t.t-index + 1) c.args.right.now) c.requires.monomial before c.in_ok-push_product.ensures

ended : (c : After-loop-t) → IsCanonical c.args.w.bits c.loop-t.terms.items × ((number : List ExprId → ℕ) → AreCongruent c.args.w.bits (weight number c.loop-t.terms.items) (row_weight number c.args.s.now c.args.right.now))
ended c =
    let none : drop c.loop-t.t-index c.args.right.now ≡ [] = drop_all c.loop-t.t-index c.args.right.now c.loop-t-test.false in
    row_ends c.args.w.bits c.args.s.now c.args.right.now c.loop-t.terms.items (subst (IsRowing c.args.w.bits c.args.s.now c.args.right.now c.loop-t.terms.items) none c.loop-t.invariant)

pub returns-clause-canonical : goal.returns-clause-canonical
returns-clause-canonical c = (ended (goal.at.returns-clause-canonical c).After-loop-t).0

pub returns-clause-weight : goal.returns-clause-weight
returns-clause-weight c = (ended (goal.at.returns-clause-weight c).After-loop-t).1
