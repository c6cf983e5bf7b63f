-- A product is one of both in the other order.
use Rattle.std.proofs.Common.{◌≡◌, ℕ, ◌+◌, ◌*◌, ◌^◌, ◌%◌, List, [], ◌∷◌, refl, sym, ap, ◌∙◌, arith}
use Rattle.scev_base.specs.declared.ids.ExprId.{ExprId}
use Rattle.poly_terms.specs.declared.term.Term.{Term}
use Rattle.poly_terms.specs.Monomials.{IsMonomial, union}
use Rattle.poly_terms.specs.Terms.{AreReduced, HasProduct}
use Rattle.poly_terms.specs.Weights.{row_weight, product_weight}
use Rattle.poly_terms.proofs.MonomialLemmas.{union_commutes}
use Rattle.poly_terms.proofs.CoefficientLemmas.{at_monomial, product_coefficient_weighs}

no_columns : (number : List ExprId → ℕ) (ts : List Term) → product_weight number ts [] ≡ 0
unfolding row_weight product_weight
no_columns number [] = refl
no_columns number (t ∷ ts) = omega (arith, no_columns number ts)

-- The first column of the products is the row of the other order.
first_column : (bits : ℕ) (number : List ExprId → ℕ) (s : Term) (ss ts : List Term) → IsMonomial s.ids → AreReduced bits ts → product_weight number ts (s ∷ ss) ≡ row_weight number s ts + product_weight number ts ss
unfolding row_weight product_weight
first_column bits number s ss [] hs ht = refl
first_column bits number s ss (t ∷ ts) hs ht =
    ap (λ ids. (number ids * (t.coefficient * s.coefficient) + row_weight number t ss) + product_weight number ts (s ∷ ss)) (union_commutes t.ids s.ids ht.0 hs)
    ∙ ap (λ k. (number (union s.ids t.ids) * (t.coefficient * s.coefficient) + row_weight number t ss) + k) (first_column bits number s ss ts hs ht.3)
    ∙ regrouped (number (union s.ids t.ids)) s.coefficient t.coefficient (row_weight number t ss) (row_weight number s ts) (product_weight number ts ss)
  where
    regrouped : (n c d a b p : ℕ) → (n * (d * c) + a) + (b + p) ≡ (n * (c * d) + b) + (a + p)
    regrouped n c d a b p = omega arith

weights_commute : (bits : ℕ) (number : List ExprId → ℕ) (ss ts : List Term) → AreReduced bits ss → AreReduced bits ts → product_weight number ss ts ≡ product_weight number ts ss
unfolding product_weight
weights_commute bits number [] ts hs ht = sym (no_columns number ts)
weights_commute bits number (s ∷ ss) ts hs ht =
    ap (λ k. row_weight number s ts + k) (weights_commute bits number ss ts hs.3 ht) ∙ sym (first_column bits number s ss ts hs.0 ht)

pub product_swapped : (bits : ℕ) (left right pairs : List Term) → AreReduced bits left → AreReduced bits right → HasProduct bits left right pairs → HasProduct bits right left pairs
product_swapped bits left right pairs hl hr h monomial =
    h monomial
    ∙ ap (λ k. k % 2 ^ bits) (product_coefficient_weighs monomial left right ∙ weights_commute bits (at_monomial monomial) left right hl hr ∙ sym (product_coefficient_weighs monomial right left))
