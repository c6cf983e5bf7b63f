use Rattle.std.proofs.Common.{◌≡◌, ◌+◌, ◌%◌, ◌^◌, ◌++◌, [], ◌∷◌, inl, inr, refl, sym, ap, ◌∙◌, arith}
use Rattle.poly_terms.proofs.WeightLemmas.{low_of_64, term_is}
use Rattle.poly_terms.proofs.merge.push_sum.Goals as goal
use Rattle.poly_terms.proofs.merge.push_sum.Goals.{After-trunc-sum}

-- What is computed is the residue of the sum.
residue : (c : After-trunc-sum) → c.trunc-sum.result ≡ (c.args.s.now.coefficient + c.args.t.now.coefficient) % 2 ^ c.args.w.bits
residue c =
    c.trunc-sum.ensures.value ∙ low_of_64 (c.args.s.now.coefficient + c.args.t.now.coefficient) c.args.w.bits c.args.w.at_most_64

pub returns-in_ok-push : goal.returns-in_ok-push
returns-in_ok-push c =
    let e = residue (goal.at.returns-in_ok-push c).After-trunc-sum in
    let term = term_is c.in_ok-copied.field-0 c.args.s.now.ids ((c.args.s.now.coefficient + c.args.t.now.coefficient) % 2 ^ c.args.w.bits) (c.in_ok-copied.ensures.ids ∙ c.as_slice.ensures) (c.in_ok-copied.ensures.coefficient ∙ e) in
    inr (omega (arith, e, c.if-sum-ne0.true), c.in_ok-push.ensures.items ∙ ap (λ t. c.args.terms.now.items ++ t ∷ []) term)

pub returns-else-sum-ne0 : goal.returns-else-sum-ne0
returns-else-sum-ne0 c =
    let e = residue (goal.at.returns-else-sum-ne0 c).After-trunc-sum in
    inl (sym e ∙ c.if-sum-ne0.false, refl)
