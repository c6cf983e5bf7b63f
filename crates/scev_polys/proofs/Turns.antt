-- Turns of the merges and of the rows, over places of an arena.
use Rattle.std.proofs.Common.{◌≡◌, ℕ, ◌+◌, ◌*◌, ◌%◌, ◌^◌, ◌⊎◌, true, inl, inr, List, [], ◌∷◌, ◌++◌, length, sym, ap}
use Rattle.std.proofs.Common.{◌∙◌, subst, arith}
use Rattle.scev_base.specs.declared.ids.ExprId.{ExprId}
use Rattle.scev_tree.specs.Tree.{Terms, term}
use Rattle.scev_tree.specs.Order.{lower, monomial_code}
use Rattle.scev_tree.specs.Canonical.{joined_factors, before_terms}
use Rattle.scev_tree.proofs.Inserted.{before_again}
use Rattle.poly_terms.specs.declared.term.Term.{Term}
use Rattle.scev_arena.specs.declared.node.Node.{Node}
use Rattle.scev_arena.specs.Meaning.{meanings, factors_at, terms_at}
use Rattle.scev_arena.specs.Standing.{AreAtoms, AreOverAtoms}
use Rattle.scev_forms.specs.Polynomials.{terms_sum, terms_multiple}
use Rattle.scev_polys.specs.Polynomials.{IsPolynomial, term_or_none}
use Rattle.scev_polys.proofs.Merges.{appended, left_first, right_first, both_first}
use Rattle.scev_polys.proofs.Merges.{sum_of_none, sum_with_none}
use Rattle.scev_polys.proofs.Rows.{multiple_first, multiple_of_none}
use Rattle.scev_polys.proofs.AtPlaces.{terms_both, appended_none, appended_again, term_behind}
use Rattle.scev_polys.proofs.AtPlaces.{term_or_none_behind, before_congruent, over_both, over_or_none}
use Rattle.scev_polys.proofs.AtPlaces.{rest_polynomial}

module _ (nodes : List Node) (w : ℕ) (whole : Terms) where
  -- what is merged so far, and then the sum of what is left of both sides, is the whole sum
  pub record IsMerging (merged lefts rights : List Term) : Type 0 where
    pub over : AreOverAtoms nodes w merged
    pub left : IsPolynomial nodes w lefts
    pub right : IsPolynomial nodes w rights
    pub all : appended (terms_at (meanings nodes) merged)
        (terms_sum w (terms_at (meanings nodes) lefts) (terms_at (meanings nodes) rights)) ≡ whole

  -- the row so far, and then that of what is left, is the whole row
  pub record IsRowing (s : Term) (terms rest : List Term) : Type 0 where
    pub over : AreOverAtoms nodes w terms
    pub left : IsPolynomial nodes w rest
    pub all : appended (terms_at (meanings nodes) terms)
        (terms_multiple w (factors_at (meanings nodes) s.ids) s.coefficient (terms_at (meanings nodes) rest)) ≡ whole

  -- ---- merges

  -- one monomial is lower than another one
  abbrev pub IsLower : List ExprId → List ExprId → Type 0
  IsLower xs ys =
      lower (monomial_code (factors_at (meanings nodes) xs)) (monomial_code (factors_at (meanings nodes) ys)) ≡ true

  -- the first term of the left side, where it stands before that of the right one
  pub left_taken : (merged lefts rights ss ts : List Term) (s t : Term)
      → lefts ≡ s ∷ ss
      → rights ≡ t ∷ ts
      → IsMerging merged lefts rights
      → IsLower s.ids t.ids
      → IsMerging (merged ++ s ∷ []) ss rights
  left_taken merged lefts rights ss ts s t e e' m less =
      let left = subst (IsPolynomial nodes w) e m.left in
      let right = subst (IsPolynomial nodes w) e' m.right in
      let f = factors_at (meanings nodes) s.ids in
      let g = factors_at (meanings nodes) t.ids in
      let others = terms_at (meanings nodes) ss in
      record {
        over = over_both nodes w merged (s ∷ []) m.over (left.over.0, tt);
        left = rest_polynomial nodes w s ss left;
        right = m.right;
        all =
            ap (λ us. appended (terms_at (meanings nodes) (merged ++ s ∷ []))
            (terms_sum w others (terms_at (meanings nodes) us))) e'
            ∙ term_behind (meanings nodes) merged s (terms_sum w others (terms_at (meanings nodes) (t ∷ ts)))
            ∙ ap (appended (terms_at (meanings nodes) merged)) (sym (
            left_first w f s.coefficient others (terms_at (meanings nodes) (t ∷ ts)) left.canonical
            (less, before_again f g (terms_at (meanings nodes) ts) less right.canonical.4)
            ))
            ∙ ap (λ us. appended (terms_at (meanings nodes) merged) (terms_sum w (terms_at (meanings nodes) (s ∷ ss))
            (terms_at (meanings nodes) us))) (sym e')
            ∙ ap (λ us. appended (terms_at (meanings nodes) merged) (terms_sum w (terms_at (meanings nodes) us)
            (terms_at (meanings nodes) rights))) (sym e)
            ∙ m.all;
      }

  -- the first term of the right side, where it stands before that of the left one
  pub right_taken : (merged lefts rights ss ts : List Term) (s t : Term)
      → lefts ≡ s ∷ ss
      → rights ≡ t ∷ ts
      → IsMerging merged lefts rights
      → IsLower t.ids s.ids
      → IsMerging (merged ++ t ∷ []) lefts ts
  right_taken merged lefts rights ss ts s t e e' m less =
      let left = subst (IsPolynomial nodes w) e m.left in
      let right = subst (IsPolynomial nodes w) e' m.right in
      let f = factors_at (meanings nodes) s.ids in
      let g = factors_at (meanings nodes) t.ids in
      let others = terms_at (meanings nodes) ts in
      record {
        over = over_both nodes w merged (t ∷ []) m.over (right.over.0, tt);
        left = m.left;
        right = rest_polynomial nodes w t ts right;
        all =
            ap (λ us. appended (terms_at (meanings nodes) (merged ++ t ∷ []))
            (terms_sum w (terms_at (meanings nodes) us) others)) e
            ∙ term_behind (meanings nodes) merged t (terms_sum w (terms_at (meanings nodes) (s ∷ ss)) others)
            ∙ ap (appended (terms_at (meanings nodes) merged)) (sym (
            right_first w (terms_at (meanings nodes) (s ∷ ss)) g t.coefficient others
            (less, before_again g f (terms_at (meanings nodes) ss) less left.canonical.4)
            ))
            ∙ ap (λ us. appended (terms_at (meanings nodes) merged) (terms_sum w (terms_at (meanings nodes) us)
            (terms_at (meanings nodes) (t ∷ ts)))) (sym e)
            ∙ ap (λ us. appended (terms_at (meanings nodes) merged) (terms_sum w (terms_at (meanings nodes) lefts)
            (terms_at (meanings nodes) us))) (sym e')
            ∙ m.all;
      }

  -- the first terms of both sides, where they have one monomial
  pub both_taken : (merged lefts rights ss ts : List Term) (s t : Term) (n : ℕ) (next : List Term)
      → lefts ≡ s ∷ ss
      → rights ≡ t ∷ ts
      → IsMerging merged lefts rights
      → s.ids ≡ t.ids
      → n % 2 ^ w ≡ (s.coefficient + t.coefficient) % 2 ^ w
      → next ≡ merged ++ term_or_none w s.ids n
      → IsMerging next ss ts
  both_taken merged lefts rights ss ts s t n next e e' m same number now =
      let left = subst (IsPolynomial nodes w) e m.left in
      let right = subst (IsPolynomial nodes w) e' m.right in
      let f = factors_at (meanings nodes) s.ids in
      let lefts' = terms_at (meanings nodes) ss in
      let rights' = terms_at (meanings nodes) ts in
      subst (λ us. IsMerging us ss ts) (sym now) (record {
        over = over_or_none nodes w merged s.ids n m.over left.over.0;
        left = rest_polynomial nodes w s ss left;
        right = rest_polynomial nodes w t ts right;
        all =
            term_or_none_behind (meanings nodes) w merged s.ids n (terms_sum w lefts' rights')
            ∙ ap (appended (terms_at (meanings nodes) merged)) (
            before_congruent w f n (s.coefficient + t.coefficient) (terms_sum w lefts' rights') number
            ∙ sym (both_first w f s.coefficient lefts' t.coefficient rights' left.canonical.4)
            )
            ∙ ap (λ ids. appended (terms_at (meanings nodes) merged) (terms_sum w (term f s.coefficient lefts')
            (term (factors_at (meanings nodes) ids) t.coefficient rights'))) same
            ∙ ap (λ us. appended (terms_at (meanings nodes) merged) (terms_sum w (terms_at (meanings nodes) us)
            (terms_at (meanings nodes) (t ∷ ts)))) (sym e)
            ∙ ap (λ us. appended (terms_at (meanings nodes) merged) (terms_sum w (terms_at (meanings nodes) lefts)
            (terms_at (meanings nodes) us))) (sym e')
            ∙ m.all;
      })

  -- At the end one side has no more terms, and those of the other one go to the end.
  pub merging_ends : (merged lefts rights : List Term)
      → IsMerging merged lefts rights
      → (length lefts ≡ 0) ⊎ (length rights ≡ 0)
      → AreOverAtoms nodes w ((merged ++ lefts) ++ rights)
      × (terms_at (meanings nodes) ((merged ++ lefts) ++ rights) ≡ whole)
  merging_ends merged lefts rights m none = (
    over_both nodes w (merged ++ lefts) rights (over_both nodes w merged lefts m.over m.left.over) m.right.over,
    terms_both (meanings nodes) (merged ++ lefts) rights
        ∙ ap (λ us. appended us (terms_at (meanings nodes) rights)) (terms_both (meanings nodes) merged lefts)
        ∙ appended_again (terms_at (meanings nodes) merged) (terms_at (meanings nodes) lefts)
        (terms_at (meanings nodes) rights)
        ∙ ap (appended (terms_at (meanings nodes) merged)) (last lefts rights m.left none)
        ∙ m.all,
  )
    where
      last : (lefts rights : List Term)
          → IsPolynomial nodes w lefts
          → (length lefts ≡ 0) ⊎ (length rights ≡ 0)
          → appended (terms_at (meanings nodes) lefts) (terms_at (meanings nodes) rights)
          ≡ terms_sum w (terms_at (meanings nodes) lefts) (terms_at (meanings nodes) rights)
      last [] rights left none = sym (sum_of_none w (terms_at (meanings nodes) rights))
      last (s ∷ ss) [] left none =
          let ts = terms_at (meanings nodes) (s ∷ ss) in
          appended_none ts ∙ sym (sum_with_none w ts left.canonical)
      last (s ∷ ss) (t ∷ ts) left none = absurd (elim none [ inl e ↦ omega arith | inr e ↦ omega arith ])

  -- ---- rows

  -- the product with the first monomial that is left
  pub row_goes_on : (s : Term) (terms rest ts : List Term) (t : Term) (ids : List ExprId) (n : ℕ) (next : List Term)
      → rest ≡ t ∷ ts
      → IsRowing s terms rest
      → AreAtoms nodes w ids
      → factors_at (meanings nodes) ids
      ≡ joined_factors (factors_at (meanings nodes) s.ids) (factors_at (meanings nodes) t.ids)
      → n % 2 ^ w ≡ (s.coefficient * t.coefficient) % 2 ^ w
      → next ≡ terms ++ term_or_none w ids n
      → IsRowing s next ts
  row_goes_on s terms rest ts t ids n next e r atoms monomial number now =
      let left = subst (IsPolynomial nodes w) e r.left in
      let f = factors_at (meanings nodes) s.ids in
      let g = factors_at (meanings nodes) t.ids in
      let others = terms_at (meanings nodes) ts in
      let row = terms_multiple w f s.coefficient others in
      let product = s.coefficient * t.coefficient in
      subst (λ us. IsRowing s us ts) (sym now) (record {
        over = over_or_none nodes w terms ids n r.over atoms;
        left = rest_polynomial nodes w t ts left;
        all =
            term_or_none_behind (meanings nodes) w terms ids n row
            ∙ ap (appended (terms_at (meanings nodes) terms)) (
            before_congruent w (factors_at (meanings nodes) ids) n product row number
            ∙ ap (λ h. before_terms w h product row) monomial
            ∙ sym (multiple_first w f s.coefficient g t.coefficient others left.canonical.4)
            )
            ∙ ap (λ us. appended (terms_at (meanings nodes) terms)
            (terms_multiple w f s.coefficient (terms_at (meanings nodes) us))) (sym e)
            ∙ r.all;
      })

  -- at the end nothing is left
  pub row_ends : (s : Term) (terms rest : List Term)
      → rest ≡ []
      → IsRowing s terms rest
      → terms_at (meanings nodes) terms ≡ whole
  row_ends s terms rest e r =
      let f = factors_at (meanings nodes) s.ids in
      sym (appended_none (terms_at (meanings nodes) terms))
      ∙ ap (appended (terms_at (meanings nodes) terms)) (sym (multiple_of_none w f s.coefficient))
      ∙ ap (λ us. appended (terms_at (meanings nodes) terms)
      (terms_multiple w f s.coefficient (terms_at (meanings nodes) us))) (sym e)
      ∙ r.all
