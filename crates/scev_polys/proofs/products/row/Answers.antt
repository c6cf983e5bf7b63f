use Rattle.std.proofs.Common.{◌≡◌, ◌+◌, ◌*◌, ◌%◌, ◌^◌, drop, sym, ap, ◌∙◌, subst}
use Rattle.std.proofs.lemmas.List.{drop_all}
use Rattle.scev_tree.specs.Canonical.{joined_factors, AreCanonicalTerms}
use Rattle.poly_terms.proofs.ProductLemmas.{drop_at}
use Rattle.poly_terms.proofs.WeightLemmas.{low_of_64}
use Rattle.scev_arena.specs.Meaning.{meanings, factors_at, terms_at}
use Rattle.scev_arena.specs.Standing.{AreAtoms, AreOverAtoms}
use Rattle.scev_forms.specs.Polynomials.{terms_multiple}
use Rattle.scev_polys.specs.Polynomials.{IsPolynomial}
use Rattle.scev_forms.proofs.Polynomials.{terms_multiple_canonical}
use Rattle.scev_polys.proofs.Turns.{row_goes_on, row_ends}
use Rattle.scev_polys.proofs.products.row.Goals as goal
use Rattle.scev_polys.proofs.products.row.Goals.{After-from_vec}

pub loop-t-preserved : goal.loop-t-preserved
loop-t-preserved c =
    let nodes = c.args.arena.now in
    let w = c.args.w.bits in
    let s = c.args.s.now in
    let t = c.t-item.result in
    let left = factors_at (meanings nodes) s.ids in
    let ids = c.as_slice-in-loop-t-2.result.now in
    let whole = terms_multiple w left s.coefficient (terms_at (meanings nodes) c.args.right.now) in
    let e = drop_at c.args.right.now c.loop-t.t-index t c.loop-t-test.true c.t-item.is in
    let rest = subst (IsPolynomial nodes w) e c.loop-t.invariant.left in
    let product = s.coefficient * t.coefficient in
    let atoms = c.in_ok-ids.ensures.atoms w
    (subst (AreAtoms nodes w) (sym c.as_slice.ensures) c.requires.left.over.0)
    (subst (AreAtoms nodes w) (sym c.as_slice-in-loop-t.ensures) rest.over.0) in
    row_goes_on nodes w whole s c.loop-t.terms.items (drop c.loop-t.t-index c.args.right.now)
    (drop (c.loop-t.t-index + 1) c.args.right.now) t ids (product % 2 ^ 64) c.push_term.new.terms.items e
    c.loop-t.invariant (subst (AreAtoms nodes w) (sym c.as_slice-in-loop-t-2.ensures) atoms)
    (
    ap (factors_at (meanings nodes)) c.as_slice-in-loop-t-2.ensures
    ∙ c.in_ok-ids.ensures.product
    ∙ ap (λ l. joined_factors (factors_at (meanings nodes) l)
    (factors_at (meanings nodes) c.as_slice-in-loop-t.result.now)) c.as_slice.ensures
    ∙ ap (λ l. joined_factors left (factors_at (meanings nodes) l)) c.as_slice-in-loop-t.ensures
    )
    (low_of_64 product w c.args.w.at_most_64)
    c.in_ok-push_term.ensures

-- What the result is.
whole_row : (c : After-from_vec) → terms_at (meanings c.args.arena.now) c.from_vec.result
    ≡ terms_multiple c.args.w.bits (factors_at (meanings c.args.arena.now) c.args.s.now.ids) c.args.s.now.coefficient
    (terms_at (meanings c.args.arena.now) c.args.right.now)
whole_row c =
    let meant = meanings c.args.arena.now in
    let whole = terms_multiple c.args.w.bits (factors_at meant c.args.s.now.ids) c.args.s.now.coefficient
    (terms_at meant c.args.right.now) in
    ap (terms_at meant) c.from_vec.ensures
    ∙ row_ends c.args.arena.now c.args.w.bits whole c.args.s.now c.loop-t.terms.items
    (drop c.loop-t.t-index c.args.right.now) (drop_all c.loop-t.t-index c.args.right.now c.loop-t-test.false)
    c.loop-t.invariant

pub returns-clause-multiple : goal.returns-clause-multiple
returns-clause-multiple c = whole_row c

pub returns-clause-polynomial : goal.returns-clause-polynomial
returns-clause-polynomial c =
    let meant = meanings c.args.arena.now in record {
      over = subst (AreOverAtoms c.args.arena.now c.args.w.bits) (sym c.from_vec.ensures) c.loop-t.invariant.over;
      canonical = subst (AreCanonicalTerms c.args.w.bits) (sym (whole_row c)) (
          terms_multiple_canonical c.args.w.bits (factors_at meant c.args.s.now.ids) c.args.s.now.coefficient
          (terms_at meant c.args.right.now) c.requires.left.canonical.1 c.requires.right.canonical
          );
    }
