-- Products of the parts of a list, over places of an arena.
use Rattle.std.proofs.Common.{◌≡◌, ℕ, ◌<◌, ◌≤◌, List, [], ◌∷◌, ◌++◌, length, get_or, sym, ap, ◌∙◌, arith}
use Rattle.poly_terms.specs.declared.term.Term.{Term}
use Rattle.scev_arena.specs.declared.node.Node.{Node}
use Rattle.scev_arena.specs.Meaning.{meanings, factors_at, terms_at}
use Rattle.scev_forms.specs.Polynomials.{terms_sum, terms_multiple, terms_product}
use Rattle.scev_polys.specs.Polynomials.{IsPolynomial}
use Rattle.scev_polys.proofs.AtPlaces.{terms_both, front_polynomial, back_polynomial}
use Rattle.scev_polys.proofs.Rows.{product_of_none, product_of_one, product_of_both}

module _ (nodes : List Node) (w : ℕ) (right : List Term) where
  -- no term
  pub product_none : (terms left : List Term)
      → terms ≡ []
      → length left < 1
      → terms_at (meanings nodes) terms
      ≡ terms_product w (terms_at (meanings nodes) left) (terms_at (meanings nodes) right)
  product_none terms [] e few =
      ap (terms_at (meanings nodes)) e ∙ sym (product_of_none w (terms_at (meanings nodes) right))
  product_none terms (s ∷ ss) e few = absurd (omega arith)

  -- one term
  pub product_one : (s : Term) (left : List Term)
      → s ≡ get_or left 0 s
      → 1 ≤ length left
      → length left < 2
      → IsPolynomial nodes w left
      → IsPolynomial nodes w right
      → terms_multiple w (factors_at (meanings nodes) s.ids) s.coefficient (terms_at (meanings nodes) right)
      ≡ terms_product w (terms_at (meanings nodes) left) (terms_at (meanings nodes) right)
  product_one s [] e some few h h' = absurd (omega arith)
  product_one s (t ∷ []) e some few h h' =
      let others = terms_at (meanings nodes) right in
      ap (λ u. terms_multiple w (factors_at (meanings nodes) u.ids) u.coefficient others) e
      ∙ sym (product_of_one w (factors_at (meanings nodes) t.ids) t.coefficient others h.canonical h'.canonical)
  product_one s (t ∷ (u ∷ us)) e some few h h' = absurd (omega arith)

  -- both parts
  pub product_two : (front back : List Term)
      → IsPolynomial nodes w (front ++ back)
      → IsPolynomial nodes w right
      → terms_sum w (terms_product w (terms_at (meanings nodes) front) (terms_at (meanings nodes) right))
      (terms_product w (terms_at (meanings nodes) back) (terms_at (meanings nodes) right))
      ≡ terms_product w (terms_at (meanings nodes) (front ++ back)) (terms_at (meanings nodes) right)
  product_two front back h h' =
      let others = terms_at (meanings nodes) right in
      sym (
      ap (λ us. terms_product w us others) (terms_both (meanings nodes) front back)
      ∙ product_of_both w (terms_at (meanings nodes) front) (terms_at (meanings nodes) back) others
      (front_polynomial nodes w front back h).canonical (back_polynomial nodes w front back h).canonical h'.canonical
      )
