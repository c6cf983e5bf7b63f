use Rattle.std.proofs.Common.{◌≡◌, sym, ap, ◌∙◌, subst, arith}
use Rattle.poly_terms.proofs.ResultLemmas.{still_ok}
use Rattle.scev_arena.specs.Meaning.{meanings, factors_at, terms_at}
use Rattle.scev_forms.specs.Polynomials.{terms_sum, terms_multiple, terms_product}
use Rattle.scev_polys.specs.Polynomials.{IsPolynomial}
use Rattle.scev_polys.proofs.AtPlaces.{front_polynomial, back_polynomial}
use Rattle.scev_polys.proofs.Halves.{product_none, product_one, product_two}
use Rattle.scev_polys.proofs.products.+product.Goals as goal

pub product-requires : goal.product-requires
product-requires t c =
    let nodes = c.args.arena.now in
    let whole = subst (IsPolynomial nodes c.args.w.bits) c.split_at.ensures.by_index.0 c.requires.left in (
      omega (arith, c.split_at.ensures.front_len, c.in_default.len_at_least, c.decreases),
      (front_polynomial nodes c.args.w.bits c.split_at.result.0.now c.split_at.result.1.now whole, c.requires.right),
    )

pub product-requires-in_default : goal.product-requires-in_default
product-requires-in_default t c =
    let nodes = c.args.arena.now in
    let whole = subst (IsPolynomial nodes c.args.w.bits) c.split_at.ensures.by_index.0 c.requires.left in (
      omega (arith, c.split_at.ensures.back_len, c.in_default.len_at_least, c.decreases),
      (back_polynomial nodes c.args.w.bits c.split_at.result.0.now c.split_at.result.1.now whole, c.requires.right),
    )

pub returns-in-empty-clause-product : goal.returns-in-empty-clause-product
returns-in-empty-clause-product t c =
    product_none c.args.arena.now c.args.w.bits c.args.right.now c.new.result c.args.left.now c.new.ensures
    c.in-empty.len_below

pub returns-in-len1-clause-product : goal.returns-in-len1-clause-product
returns-in-len1-clause-product t c =
    let meant = meanings c.args.arena.now in
    let w = c.args.w.bits in
    let s = c.s-item.result in
    let right = c.args.right.now in
    still_ok c.row.result
    (λ terms. terms_at meant terms ≡ terms_multiple w (factors_at meant s.ids) s.coefficient (terms_at meant right))
    (λ terms. terms_at meant terms ≡ terms_product w (terms_at meant c.args.left.now) (terms_at meant right))
    (λ terms h. h ∙ product_one c.args.arena.now w right s c.args.left.now c.s-item.is c.in-len1.len_at_least
    c.in-len1.len_below c.requires.left c.requires.right)
    c.row.ensures.multiple

pub returns-in_ok-backs-in_default-clause-product : goal.returns-in_ok-backs-in_default-clause-product
returns-in_ok-backs-in_default-clause-product t c =
    let nodes = c.args.arena.now in
    let meant = meanings nodes in
    let w = c.args.w.bits in
    let front = c.split_at.result.0.now in
    let back = c.split_at.result.1.now in
    let right = c.args.right.now in
    let fronts = c.in_ok-fronts-in_default in
    let backs = c.in_ok-backs-in_default in
    let whole = subst (IsPolynomial nodes w) c.split_at.ensures.by_index.0 c.requires.left in
    still_ok c.sum.result
    (λ terms. terms_at meant terms
    ≡ terms_sum w (terms_at meant c.as_slice.result.now) (terms_at meant c.as_slice-in_default.result.now))
    (λ terms. terms_at meant terms ≡ terms_product w (terms_at meant c.args.left.now) (terms_at meant right))
    (λ terms h.
    h
    ∙ ap (λ l. terms_sum w (terms_at meant l) (terms_at meant c.as_slice-in_default.result.now)) c.as_slice.ensures
    ∙ ap (λ l. terms_sum w (terms_at meant fronts.fronts) (terms_at meant l)) c.as_slice-in_default.ensures
    ∙ ap (λ ts. terms_sum w ts (terms_at meant backs.backs)) fronts.ensures.product
    ∙ ap (terms_sum w (terms_product w (terms_at meant front) (terms_at meant right))) backs.ensures.product
    ∙ product_two nodes w right front back whole c.requires.right
    ∙ ap (λ l. terms_product w (terms_at meant l) (terms_at meant right)) (sym c.split_at.ensures.by_index.0))
    c.sum.ensures.sum
