-- Products of a term with a canonical list, and of two lists.
use Rattle.std.proofs.Common.{◌≡◌, ℕ, suc, ◌+◌, ◌*◌, ◌^◌, ◌%◌, ◌<◌, ◌≤◌, inl, inr, List, [], ◌∷◌, ◌++◌, length, drop, get_or, refl, sym, ap, ◌∙◌, subst, arith, drop-cons, add-one}
use Rattle.std.proofs.lemmas.List.{append-nil}
use Rattle.std.proofs.lemmas.Nat.{mod_below, pow_pos, mul-mod_second}
use Rattle.scev_base.specs.declared.ids.ExprId.{ExprId}
use Rattle.poly_terms.specs.declared.term.Term.{Term}
use Rattle.poly_terms.specs.Monomials.{IsMonomial, union}
use Rattle.poly_terms.specs.Terms.{AllBehind, IsInOrder, AreReduced, IsCanonical}
use Rattle.poly_terms.specs.Weights.{weight, row_weight, product_weight, AreCongruent, IsMultiplied}
use Rattle.poly_terms.proofs.MonomialLemmas.{union_ascends, union_keeps_order}
use Rattle.poly_terms.proofs.OrderLemmas.{order_back, order_without, order_with, reduced_both}
use Rattle.poly_terms.proofs.WeightLemmas.{weight_more, sum_residue}

-- the monomials of the products of a term with each of the list
abbrev pub row_of : Term → List Term → List Term
row_of s [] = []
row_of s (t ∷ ts) = record { ids = union s.ids t.ids; coefficient = 1 } ∷ row_of s ts

behind_row : (s t : Term) (ts : List Term) → AllBehind t.ids ts → AllBehind (union s.ids t.ids) (row_of s ts)
behind_row s t [] h = tt
behind_row s t (u ∷ us) h = (union_keeps_order s.ids t.ids u.ids h.0, behind_row s t us h.1)

row_in_order : (s : Term) (ts : List Term) → IsInOrder ts → IsInOrder (row_of s ts)
row_in_order s [] h = tt
row_in_order s (t ∷ ts) h = (behind_row s t ts h.0, row_in_order s ts h.1)

-- What the row has so far, and what is left of the list.
pub record IsRowing (bits : ℕ) (s : Term) (right terms rest : List Term) : Type 0 where
  pub reduced : AreReduced bits terms
  pub rest_reduced : AreReduced bits rest
  pub order : IsInOrder (terms ++ row_of s rest)
  pub all : (number : List ExprId → ℕ) → AreCongruent bits (weight number terms + row_weight number s rest) (row_weight number s right)

pub row_starts : (bits : ℕ) (s : Term) (right : List Term) → IsCanonical bits right → IsRowing bits s right [] right
unfolding weight
row_starts bits s right h = record {
  reduced = tt;
  rest_reduced = h.reduced;
  order = row_in_order s right h.in_order;
  all = λ number. ap (λ k. k % 2 ^ bits) (omega arith);
}

-- the sum of a coefficient's residue has the sum's residue
one_more : (modulus m n c r : ℕ) → (m + n * (c % modulus) + r) % modulus ≡ (m + (n * c + r)) % modulus
one_more modulus m n c r =
    let first : m + n * (c % modulus) + r ≡ (m + r) + n * (c % modulus) = omega arith in
    let last : (m + r) + n * c ≡ m + (n * c + r) = omega arith in
    ap (λ k. k % modulus) first
    ∙ sum_residue modulus (m + r) (m + r) (n * (c % modulus)) (n * c) refl (mul-mod_second n c modulus)
    ∙ ap (λ k. k % modulus) last

pub row_goes_on : (bits : ℕ) (s t : Term) (right terms next ts : List Term) → IsMonomial s.ids → IsRowing bits s right terms (t ∷ ts) → IsMultiplied bits terms s t next → IsRowing bits s right next ts
unfolding weight row_weight
row_goes_on bits s t right terms next ts mono r h =
    elim h as (λ _. IsRowing bits s right next ts) [
      | inl none ↦ subst (λ l. IsRowing bits s right l ts) (sym none.1) (record {
        reduced = r.reduced;
        rest_reduced = r.rest_reduced.3;
        order = order_without terms (row_of s ts) (record { ids = union s.ids t.ids; coefficient = 1 }) r.order;
        all = λ number.
            let n = number (union s.ids t.ids) in
            let m = weight number terms in
            let left = row_weight number s ts in
            let nothing : m + left ≡ m + n * 0 + left = omega arith in
            ap (λ k. k % 2 ^ bits) nothing
            ∙ ap (λ k. (m + n * k + left) % 2 ^ bits) (sym none.0)
            ∙ one_more (2 ^ bits) m n (s.coefficient * t.coefficient) left
            ∙ r.all number;
      })
      | inr some ↦ subst (λ l. IsRowing bits s right l ts) (sym some.1) (
          let product = (s.coefficient * t.coefficient) % 2 ^ bits in
          let u : Term = record { ids = union s.ids t.ids; coefficient = product } in
          let v : Term = record { ids = union s.ids t.ids; coefficient = 1 } in
          let small : product < 2 ^ bits = mod_below (s.coefficient * t.coefficient) (2 ^ bits) (pow_pos bits) in
          let behind : AllBehind v.ids (row_of s ts) = (order_back terms (v ∷ row_of s ts) r.order).0 in
          record {
            reduced = reduced_both bits terms (u ∷ []) r.reduced (union_ascends s.ids t.ids r.rest_reduced.0, some.0, small, tt);
            rest_reduced = r.rest_reduced.3;
            order = order_with terms (row_of s ts) (row_of s ts) v u refl r.order (order_without terms (row_of s ts) v r.order) behind;
            all = λ number.
                ap (λ k. (k + row_weight number s ts) % 2 ^ bits) (weight_more number terms u)
                ∙ one_more (2 ^ bits) (weight number terms) (number (union s.ids t.ids)) (s.coefficient * t.coefficient) (row_weight number s ts)
                ∙ r.all number;
          })
    ]

pub row_ends : (bits : ℕ) (s : Term) (right terms : List Term) → IsRowing bits s right terms [] → IsCanonical bits terms × ((number : List ExprId → ℕ) → AreCongruent bits (weight number terms) (row_weight number s right))
unfolding row_weight
row_ends bits s right terms r = (
  record { in_order = subst IsInOrder (append-nil terms) r.order; reduced = r.reduced },
  λ number. ap (λ k. k % 2 ^ bits) (omega arith) ∙ r.all number,
)

-- the list from a place on begins with the term there
pub drop_at : (ts : List Term) (i : ℕ) (t : Term) → i < length ts → t ≡ get_or ts i t → drop i ts ≡ t ∷ drop (i + 1) ts
drop_at ts i t h e = drop-cons ts i t h ∙ ap (λ u. u ∷ drop (suc i) ts) (sym e) ∙ ap (λ k. t ∷ drop k ts) (sym (add-one i))

pub first_reduced : (bits : ℕ) (t : Term) (ts rest : List Term) → ts ≡ t ∷ rest → AreReduced bits ts → IsMonomial t.ids
first_reduced bits t ts rest e h = (subst (AreReduced bits) e h).0

-- Products of both parts of a list.
pub reduced_front : (bits : ℕ) (ss ts : List Term) → AreReduced bits (ss ++ ts) → AreReduced bits ss
reduced_front bits [] ts h = tt
reduced_front bits (s ∷ ss) ts h = (h.0, h.1, h.2, reduced_front bits ss ts h.3)

pub reduced_back : (bits : ℕ) (ss ts : List Term) → AreReduced bits (ss ++ ts) → AreReduced bits ts
reduced_back bits [] ts h = h
reduced_back bits (s ∷ ss) ts h = reduced_back bits ss ts h.3

pub product_both : (number : List ExprId → ℕ) (ss ts right : List Term) → product_weight number (ss ++ ts) right ≡ product_weight number ss right + product_weight number ts right
unfolding product_weight
product_both number [] ts right = omega arith
product_both number (s ∷ ss) ts right = omega (arith, product_both number ss ts right)

-- A product with no term, and with one.
pub product_none : (bits : ℕ) (number : List ExprId → ℕ) (terms left right : List Term) → terms ≡ [] → length left < 1 → AreCongruent bits (weight number terms) (product_weight number left right)
unfolding weight product_weight
product_none bits number terms [] right e h = ap (λ l. weight number l % 2 ^ bits) e
product_none bits number terms (s ∷ ss) right e h = absurd (omega (arith, h))

pub product_one : (number : List ExprId → ℕ) (s : Term) (left right : List Term) → s ≡ get_or left 0 s → 1 ≤ length left → length left < 2 → row_weight number s right ≡ product_weight number left right
unfolding product_weight
product_one number s [] right e h h' = absurd (omega (arith, h))
product_one number s (t ∷ []) right e h h' = ap (λ u. row_weight number u right) e ∙ omega arith
product_one number s (t ∷ (u ∷ us)) right e h h' = absurd (omega (arith, h'))

-- The sum of the products of both parts.
pub product_two : (bits : ℕ) (number : List ExprId → ℕ) (front back left right fronts backs terms : List Term) → left ≡ front ++ back → AreCongruent bits (weight number fronts) (product_weight number front right) → AreCongruent bits (weight number backs) (product_weight number back right) → AreCongruent bits (weight number terms) (weight number fronts + weight number backs) → AreCongruent bits (weight number terms) (product_weight number left right)
product_two bits number front back left right fronts backs terms e hf hb h =
    h
    ∙ sum_residue (2 ^ bits) (weight number fronts) (product_weight number front right) (weight number backs) (product_weight number back right) hf hb
    ∙ ap (λ k. k % 2 ^ bits) (sym (product_both number front back right))
    ∙ ap (λ l. product_weight number l right % 2 ^ bits) (sym e)
