-- Lists of places and of terms, read one after another: what is found so far, and then what is left.
use Rattle.std.proofs.Common.{◌≡◌, ℕ, ◌+◌, ◌<◌, ◌≤◌, true, false, if◌then◌else◌, List, [], ◌∷◌, ◌++◌, length, get_or}
use Rattle.std.proofs.Common.{drop, Option, refl, sym, ap, ◌∙◌, arith}
use Rattle.std.proofs.lemmas.List.{at_drop_more, at_drop_all}
use Rattle.scev_base.specs.declared.ids.ExprId.{ExprId}
use Rattle.scev_tree.specs.Tree.{Terms, Factors, no_terms, term, factor}
use Rattle.poly_terms.specs.declared.term.Term.{Term}
use Rattle.scev_arena.specs.declared.node.Node.{Node}
use Rattle.scev_arena.specs.Meaning.{Meant, atom_at, factors_at, terms_at}
use Rattle.scev_arena.specs.Standing.{IsAtomAt, AreAtoms}
use Rattle.scev_forms.specs.Gather.{is_rec_of, joins, joining, staying, rest_of}
use Rattle.scev_forms.specs.Sums.{is_settled}
use Rattle.scev_polys.proofs.Merges.{appended}
use Rattle.scev_polys.proofs.AtPlaces.{factors_appended, appended_none, factors_none, factor_behind, term_behind}
use Rattle.scev_walk.proofs.Among.{atom_among}

-- the place that is read
abbrev pub id_at : List ExprId → ℕ → ExprId
id_at ids at = get_or ids at (record { 0 = 0 })

pub one_atom : (nodes : List Node) (w : ℕ) (ids : List ExprId) (at : ℕ) → AreAtoms nodes w ids → at < length ids
    → IsAtomAt nodes w (id_at ids at)
one_atom nodes w ids at h within = atom_among nodes w ids at (record { 0 = 0 }) (id_at ids at) h within refl

-- ---- the factors that are no recurrences of a loop

module _ (meant : List Meant) (l : ℕ) where
  -- the rest that is found so far, and then that of what is left
  abbrev pub rest_with : List ExprId → List ExprId → Factors
  rest_with found left = factors_appended (factors_at meant found) (rest_of l (factors_at meant left))

  pub rest_more : (found ids : List ExprId) (at : ℕ)
      → at < length ids
      → is_rec_of l (atom_at meant (id_at ids at)) ≡ false
      → rest_with (found ++ id_at ids at ∷ []) (drop (at + 1) ids) ≡ rest_with found (drop at ids)
  rest_more found ids at within is =
      let id = id_at ids at in
      let others = rest_of l (factors_at meant (drop (at + 1) ids)) in
      factor_behind meant found id others
      ∙ ap (λ b. factors_appended (factors_at meant found) (if b then others else factor (atom_at meant id) others))
      (sym is)
      ∙ sym (at_drop_more (rest_with found) ids at (record { 0 = 0 }) within)

  pub rest_without : (found ids : List ExprId) (at : ℕ)
      → at < length ids
      → is_rec_of l (atom_at meant (id_at ids at)) ≡ true
      → rest_with found (drop (at + 1) ids) ≡ rest_with found (drop at ids)
  rest_without found ids at within is =
      let id = id_at ids at in
      let others = rest_of l (factors_at meant (drop (at + 1) ids)) in
      ap (λ b. factors_appended (factors_at meant found) (if b then others else factor (atom_at meant id) others))
      (sym is)
      ∙ sym (at_drop_more (rest_with found) ids at (record { 0 = 0 }) within)

  pub rest_whole : (found ids : List ExprId) (at : ℕ)
      → length ids ≤ at
      → factors_at meant found ≡ rest_with found (drop at ids)
  rest_whole found ids at past =
      sym (at_drop_all (rest_with found) ids at past ∙ factors_none (factors_at meant found))

-- ---- the terms that join, and those that stay

module _ (meant : List Meant) (parents : List (Option ℕ)) (l : ℕ) where
  -- those that are found so far, and then those of what is left
  abbrev pub joining_with : List Term → List Term → Terms
  joining_with found left = appended (terms_at meant found) (joining parents l (terms_at meant left))

  abbrev pub staying_with : List Term → List Term → Terms
  staying_with found left = appended (terms_at meant found) (staying parents l (terms_at meant left))

  module _ (found left rest : List Term) (t : Term) (e : left ≡ t ∷ rest) where
    abbrev here : Terms → Terms
    here others = term (factors_at meant t.ids) t.coefficient others

    -- a term that joins
    module _ (is : joins parents l (factors_at meant t.ids) ≡ true) where
      pub joining_more : joining_with (found ++ t ∷ []) rest ≡ joining_with found left
      joining_more =
          let others = joining parents l (terms_at meant rest) in
          term_behind meant found t others
          ∙ ap (λ b. appended (terms_at meant found) (if b then here others else others)) (sym is)
          ∙ sym (ap (joining_with found) e)

      pub staying_without : staying_with found rest ≡ staying_with found left
      staying_without =
          let others = staying parents l (terms_at meant rest) in
          ap (λ b. appended (terms_at meant found) (if b then others else here others)) (sym is)
          ∙ sym (ap (staying_with found) e)

    -- one that stays
    module _ (is : joins parents l (factors_at meant t.ids) ≡ false) where
      pub joining_without : joining_with found rest ≡ joining_with found left
      joining_without =
          let others = joining parents l (terms_at meant rest) in
          ap (λ b. appended (terms_at meant found) (if b then here others else others)) (sym is)
          ∙ sym (ap (joining_with found) e)

      pub staying_more : staying_with (found ++ t ∷ []) rest ≡ staying_with found left
      staying_more =
          let others = staying parents l (terms_at meant rest) in
          term_behind meant found t others
          ∙ ap (λ b. appended (terms_at meant found) (if b then others else here others)) (sym is)
          ∙ sym (ap (staying_with found) e)

  pub joining_whole : (found left : List Term) → left ≡ [] → terms_at meant found ≡ joining_with found left
  joining_whole found left e = sym (ap (joining_with found) e ∙ appended_none (terms_at meant found))

  pub staying_whole : (found left : List Term) → left ≡ [] → terms_at meant found ≡ staying_with found left
  staying_whole found left e = sym (ap (staying_with found) e ∙ appended_none (terms_at meant found))

-- ---- groups of which something is to be formed

module _ (meant : List Meant) (l : ℕ) where
  -- several terms
  pub terms_left : (ts : List Term) → 2 ≤ length ts → false ≡ is_settled l (terms_at meant ts)
  terms_left [] many = absurd (omega arith)
  terms_left (t ∷ []) many = absurd (omega arith)
  terms_left (t ∷ u ∷ ts) many = by_factors t.ids
    where
      by_factors : (ids : List ExprId)
          → false ≡ is_settled l (term (factors_at meant ids) t.coefficient (terms_at meant (u ∷ ts)))
      by_factors [] = refl
      by_factors (id ∷ []) = refl
      by_factors (id ∷ other ∷ ids) = refl

  -- one of several factors
  pub factors_left : (ts : List Term) (t : Term)
      → ts ≡ t ∷ []
      → 2 ≤ length t.ids
      → false ≡ is_settled l (terms_at meant ts)
  factors_left ts t e many =
      by_factors t.ids many ∙ ap (λ us. is_settled l (terms_at meant us)) (sym e)
    where
      by_factors : (ids : List ExprId) → 2 ≤ length ids
          → false ≡ is_settled l (term (factors_at meant ids) t.coefficient no_terms)
      by_factors [] many = absurd (omega arith)
      by_factors (id ∷ []) many = absurd (omega arith)
      by_factors (id ∷ other ∷ ids) many = refl
