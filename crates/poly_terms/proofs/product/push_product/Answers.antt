use Rattle.std.proofs.Common.{◌≡◌, ◌*◌, ◌%◌, ◌^◌, ◌++◌, [], ◌∷◌, inl, inr, refl, sym, ap, ◌∙◌, arith}
use Rattle.poly_terms.specs.Monomials.{union}
use Rattle.poly_terms.proofs.WeightLemmas.{low_of_64, term_is}
use Rattle.poly_terms.proofs.product.push_product.Goals as goal
use Rattle.poly_terms.proofs.product.push_product.Goals.{After-trunc-coefficient}

-- What is computed is the residue of the product.
residue : (c : After-trunc-coefficient) → c.trunc-coefficient.result ≡ (c.args.s.now.coefficient * c.args.t.now.coefficient) % 2 ^ c.args.w.bits
residue c =
    c.trunc-coefficient.ensures.value ∙ low_of_64 (c.args.s.now.coefficient * c.args.t.now.coefficient) c.args.w.bits c.args.w.at_most_64

pub returns-in_ok-push : goal.returns-in_ok-push
returns-in_ok-push c =
    let e = residue (goal.at.returns-in_ok-push c).After-trunc-coefficient in
    let ids = c.in_ok-ids.ensures ∙ ap (λ l. union l c.as_slice-then-coefficient-ne0.result.now) c.as_slice.ensures ∙ ap (union c.args.s.now.ids) c.as_slice-then-coefficient-ne0.ensures in
    let term = term_is (record { ids = c.in_ok-ids.ids; coefficient = c.trunc-coefficient.result }) (union c.args.s.now.ids c.args.t.now.ids) ((c.args.s.now.coefficient * c.args.t.now.coefficient) % 2 ^ c.args.w.bits) ids e in
    inr (omega (arith, e, c.if-coefficient-ne0.true), c.in_ok-push.ensures.items ∙ ap (λ t. c.args.terms.now.items ++ t ∷ []) term)

pub returns-else-coefficient-ne0 : goal.returns-else-coefficient-ne0
returns-else-coefficient-ne0 c =
    let e = residue (goal.at.returns-else-coefficient-ne0 c).After-trunc-coefficient in
    inl (sym e ∙ c.if-coefficient-ne0.false, refl)
