-- Turns of the merge of two canonical lists.
use Rattle.std.proofs.Common.{◌≡◌, ℕ, ◌+◌, ◌*◌, ◌^◌, ◌%◌, ◌<◌, ◌⊎◌, inl, inr, List, [], ◌∷◌, ◌++◌, length, refl, sym, ap, ◌∙◌, subst, arith, append_assoc}
use Rattle.std.proofs.lemmas.Nat.{mod_below, pow_pos}
use Rattle.std.proofs.lemmas.List.{append-nil}
use Rattle.scev_base.specs.declared.ids.ExprId.{ExprId}
use Rattle.poly_terms.specs.declared.term.Term.{Term}
use Rattle.poly_terms.specs.Monomials.{Precedes}
use Rattle.poly_terms.specs.Terms.{AllBehind, IsInOrder, AreReduced, IsCanonical}
use Rattle.poly_terms.specs.Weights.{weight, AreCongruent, IsJoined}
use Rattle.poly_terms.proofs.OrderLemmas.{before_all, order_back, order_without, order_with, reduced_both}
use Rattle.poly_terms.proofs.WeightLemmas.{weight_both, weight_more, joined}

-- What is merged so far, and what is left of both lists.
pub record IsMerging (bits : ℕ) (merged lefts rights left right : List Term) : Type 0 where
  pub reduced : AreReduced bits merged
  pub left_reduced : AreReduced bits lefts
  pub right_reduced : AreReduced bits rights
  pub left_order : IsInOrder (merged ++ lefts)
  pub right_order : IsInOrder (merged ++ rights)
  pub all : (number : List ExprId → ℕ) → AreCongruent bits (weight number merged + (weight number lefts + weight number rights)) (weight number left + weight number right)

pub merging_starts : (bits : ℕ) (left right : List Term) → IsCanonical bits left → IsCanonical bits right → IsMerging bits [] left right left right
unfolding weight
merging_starts bits left right hl hr = record {
  reduced = tt;
  left_reduced = hl.reduced;
  right_reduced = hr.reduced;
  left_order = hl.in_order;
  right_order = hr.in_order;
  all = λ number. ap (λ k. k % 2 ^ bits) (omega arith);
}

module _ (bits : ℕ) (merged left right : List Term) where
  pub left_taken : (lefts rights ss ts : List Term) (s t : Term) → lefts ≡ s ∷ ss → rights ≡ t ∷ ts → IsMerging bits merged lefts rights left right → Precedes s.ids t.ids → IsMerging bits (merged ++ s ∷ []) ss rights left right
  unfolding weight
  left_taken lefts rights ss ts s t e e' m' h =
      let m = subst (λ l. IsMerging bits merged l rights left right) e m' in
      let ordered : IsInOrder (t ∷ ts) = order_back merged (t ∷ ts) (subst (λ l. IsInOrder (merged ++ l)) e' m.right_order) in
      record {
        reduced = reduced_both bits merged (s ∷ []) m.reduced (m.left_reduced.0, m.left_reduced.1, m.left_reduced.2, tt);
        left_reduced = m.left_reduced.3;
        right_reduced = m.right_reduced;
        left_order = subst IsInOrder (sym (append_assoc merged (s ∷ []) ss)) m.left_order;
        right_order = order_with merged ss rights s s refl m.left_order m.right_order (subst (AllBehind s.ids) (sym e') (before_all s.ids t ts h ordered));
        all = λ number. ap (λ k. k % 2 ^ bits) (omega (arith, weight_more number merged s)) ∙ m.all number;
      }

  pub right_taken : (lefts rights ss ts : List Term) (s t : Term) → lefts ≡ s ∷ ss → rights ≡ t ∷ ts → IsMerging bits merged lefts rights left right → Precedes t.ids s.ids → IsMerging bits (merged ++ t ∷ []) lefts ts left right
  unfolding weight
  right_taken lefts rights ss ts s t e e' m' h =
      let m = subst (λ l. IsMerging bits merged lefts l left right) e' m' in
      let ordered : IsInOrder (s ∷ ss) = order_back merged (s ∷ ss) (subst (λ l. IsInOrder (merged ++ l)) e m.left_order) in
      record {
        reduced = reduced_both bits merged (t ∷ []) m.reduced (m.right_reduced.0, m.right_reduced.1, m.right_reduced.2, tt);
        left_reduced = m.left_reduced;
        right_reduced = m.right_reduced.3;
        left_order = order_with merged ts lefts t t refl m.right_order m.left_order (subst (AllBehind t.ids) (sym e) (before_all t.ids s ss h ordered));
        right_order = subst IsInOrder (sym (append_assoc merged (t ∷ []) ts)) m.right_order;
        all = λ number. ap (λ k. k % 2 ^ bits) (omega (arith, weight_more number merged t)) ∙ m.all number;
      }

  -- Terms of one monomial are joined: where their coefficients cancel, none is left.
  pub both_taken : (lefts rights ss ts next : List Term) (s t : Term) → lefts ≡ s ∷ ss → rights ≡ t ∷ ts → IsMerging bits merged lefts rights left right → s.ids ≡ t.ids → IsJoined bits merged s t next → IsMerging bits next ss ts left right
  unfolding weight
  both_taken lefts rights ss ts next s t e e' m' same j =
      let m = subst (λ l. IsMerging bits merged (s ∷ ss) l left right) e' (subst (λ l. IsMerging bits merged l rights left right) e m') in
      elim j as (λ _. IsMerging bits next ss ts left right) [
        | inl none ↦ subst (λ l. IsMerging bits l ss ts left right) (sym none.1) (record {
          reduced = m.reduced;
          left_reduced = m.left_reduced.3;
          right_reduced = m.right_reduced.3;
          left_order = order_without merged ss s m.left_order;
          right_order = order_without merged ts t m.right_order;
          all = λ number.
              let number_of = number s.ids in
              let nothing : weight number merged + (weight number ss + weight number ts) ≡ weight number merged + number_of * 0 + (weight number ss + weight number ts) = omega arith in
              ap (λ k. k % 2 ^ bits) nothing
              ∙ ap (λ k. (weight number merged + number_of * k + (weight number ss + weight number ts)) % 2 ^ bits) (sym none.0)
              ∙ joined (2 ^ bits) (weight number merged) number_of s.coefficient t.coefficient (weight number ss) (weight number ts)
              ∙ ap (λ ids. (weight number merged + ((number_of * s.coefficient + weight number ss) + (number ids * t.coefficient + weight number ts))) % 2 ^ bits) same
              ∙ m.all number;
        })
        | inr some ↦ subst (λ l. IsMerging bits l ss ts left right) (sym some.1) (
            let sum = (s.coefficient + t.coefficient) % 2 ^ bits in
            let u : Term = record { ids = s.ids; coefficient = sum } in
            let small : sum < 2 ^ bits = mod_below (s.coefficient + t.coefficient) (2 ^ bits) (pow_pos bits) in
            let left_behind : AllBehind s.ids ss = (order_back merged (s ∷ ss) m.left_order).0 in
            let right_behind : AllBehind s.ids ts = subst (λ ids. AllBehind ids ts) (sym same) (order_back merged (t ∷ ts) m.right_order).0 in
            record {
              reduced = reduced_both bits merged (u ∷ []) m.reduced (m.left_reduced.0, some.0, small, tt);
              left_reduced = m.left_reduced.3;
              right_reduced = m.right_reduced.3;
              left_order = order_with merged ss ss s u refl m.left_order (order_without merged ss s m.left_order) left_behind;
              right_order = order_with merged ss ts s u refl m.left_order (order_without merged ts t m.right_order) right_behind;
              all = λ number.
                  let number_of = number s.ids in
                  ap (λ k. (k + (weight number ss + weight number ts)) % 2 ^ bits) (weight_more number merged u)
                  ∙ joined (2 ^ bits) (weight number merged) number_of s.coefficient t.coefficient (weight number ss) (weight number ts)
                  ∙ ap (λ ids. (weight number merged + ((number_of * s.coefficient + weight number ss) + (number ids * t.coefficient + weight number ts))) % 2 ^ bits) same
                  ∙ m.all number;
            })
      ]

-- At the end one of both lists is empty, and the other goes to the end.
pub merging_ends : (bits : ℕ) (merged lefts rights left right : List Term) → IsMerging bits merged lefts rights left right → (length lefts ≡ 0) ⊎ (length rights ≡ 0) → let whole = (merged ++ lefts) ++ rights in IsCanonical bits whole × ((number : List ExprId → ℕ) → AreCongruent bits (weight number whole) (weight number left + weight number right))
merging_ends bits merged lefts rights left right m none = (
  record {
    in_order = one_order merged lefts rights m.left_order m.right_order none;
    reduced = reduced_both bits (merged ++ lefts) rights (reduced_both bits merged lefts m.reduced m.left_reduced) m.right_reduced;
  },
  λ number. ap (λ k. k % 2 ^ bits) (sum_of_three number) ∙ m.all number,
)
  where
    sum_of_three : (number : List ExprId → ℕ) → weight number ((merged ++ lefts) ++ rights) ≡ weight number merged + (weight number lefts + weight number rights)
    sum_of_three number = omega (arith, weight_both number (merged ++ lefts) rights, weight_both number merged lefts)

    one_order : (merged lefts rights : List Term) → IsInOrder (merged ++ lefts) → IsInOrder (merged ++ rights) → (length lefts ≡ 0) ⊎ (length rights ≡ 0) → IsInOrder ((merged ++ lefts) ++ rights)
    one_order merged [] rights h h' none = subst (λ l. IsInOrder (l ++ rights)) (sym (append-nil merged)) h'
    one_order merged (s ∷ ss) [] h h' none = subst IsInOrder (sym (append-nil (merged ++ s ∷ ss))) h
    one_order merged (s ∷ ss) (t ∷ ts) h h' none = absurd (elim none [ inl e ↦ omega (arith, e) | inr e ↦ omega (arith, e) ])
