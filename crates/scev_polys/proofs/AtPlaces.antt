-- Terms over places of an arena as plain terms.
use Rattle.std.proofs.Common.{◌≡◌, ℕ, ◌%◌, ◌^◌, true, false, ◌==◌, if◌then◌else◌, List, [], ◌∷◌, ◌++◌, refl, ap, ◌∙◌}
use Rattle.scev_base.specs.declared.ids.ExprId.{ExprId}
use Rattle.scev_tree.specs.Tree.{Terms, Factors, no_terms, term, no_factors, factor}
use Rattle.scev_tree.specs.Canonical.{before_terms, IsBefore, AreCanonicalTerms}
use Rattle.poly_terms.specs.declared.term.Term.{Term}
use Rattle.scev_arena.specs.declared.node.Node.{Node}
use Rattle.scev_arena.specs.Meaning.{Meant, meanings, atom_at, factors_at, terms_at}
use Rattle.scev_arena.specs.Standing.{AreAtoms, AreOverAtoms}
use Rattle.scev_polys.specs.Polynomials.{IsPolynomial, term_or_none}
use Rattle.scev_polys.proofs.Merges.{appended}

-- the first factors, and then the others
abbrev pub factors_appended : Factors → Factors → Factors
factors_appended no_factors others = others
factors_appended (factor a f) others = factor a (factors_appended f others)

-- ---- appended lists

pub appended_none : (ts : Terms) → appended ts no_terms ≡ ts
appended_none no_terms = refl
appended_none (term f n ts) = ap (term f n) (appended_none ts)

pub appended_again : (ss ts us : Terms) → appended (appended ss ts) us ≡ appended ss (appended ts us)
appended_again no_terms ts us = refl
appended_again (term f n ss) ts us = ap (term f n) (appended_again ss ts us)

pub factors_none : (f : Factors) → factors_appended f no_factors ≡ f
factors_none no_factors = refl
factors_none (factor a f) = ap (factor a) (factors_none f)

pub factors_again : (f g h : Factors)
    → factors_appended (factors_appended f g) h ≡ factors_appended f (factors_appended g h)
factors_again no_factors g h = refl
factors_again (factor a f) g h = ap (factor a) (factors_again f g h)

module _ (meant : List Meant) where
  pub terms_both : (ss ts : List Term) → terms_at meant (ss ++ ts) ≡ appended (terms_at meant ss) (terms_at meant ts)
  terms_both [] ts = refl
  terms_both (s ∷ ss) ts = ap (term (factors_at meant s.ids) s.coefficient) (terms_both ss ts)

  pub factors_both : (xs ys : List ExprId)
      → factors_at meant (xs ++ ys) ≡ factors_appended (factors_at meant xs) (factors_at meant ys)
  factors_both [] ys = refl
  factors_both (x ∷ xs) ys = ap (factor (atom_at meant x)) (factors_both xs ys)

  -- ---- one more at the end, and then the others

  pub term_behind : (ss : List Term) (t : Term) (others : Terms)
      → appended (terms_at meant (ss ++ t ∷ [])) others
      ≡ appended (terms_at meant ss) (term (factors_at meant t.ids) t.coefficient others)
  term_behind ss t others =
      ap (λ us. appended us others) (terms_both ss (t ∷ []))
      ∙ appended_again (terms_at meant ss) (terms_at meant (t ∷ [])) others

  pub factor_behind : (xs : List ExprId) (y : ExprId) (others : Factors)
      → factors_appended (factors_at meant (xs ++ y ∷ [])) others
      ≡ factors_appended (factors_at meant xs) (factor (atom_at meant y) others)
  factor_behind xs y others =
      ap (λ f. factors_appended f others) (factors_both xs (y ∷ []))
      ∙ factors_again (factors_at meant xs) (factors_at meant (y ∷ [])) others

  pub term_or_none_behind : (w : ℕ) (ss : List Term) (ids : List ExprId) (n : ℕ) (others : Terms)
      → appended (terms_at meant (ss ++ term_or_none w ids n)) others
      ≡ appended (terms_at meant ss) (before_terms w (factors_at meant ids) n others)
  term_or_none_behind w ss ids n others =
      ap (λ us. appended us others) (terms_both ss (term_or_none w ids n))
      ∙ appended_again (terms_at meant ss) (terms_at meant (term_or_none w ids n)) others
      ∙ ap (appended (terms_at meant ss)) here
    where
      here : appended (terms_at meant (term_or_none w ids n)) others ≡ before_terms w (factors_at meant ids) n others
      here =
          let residue = n % 2 ^ w in
          elim (residue == 0) as (λ b.
          appended (terms_at meant (if b then [] else record { ids = ids; coefficient = residue } ∷ [])) others
          ≡ (if b then others else term (factors_at meant ids) residue others)) [
            | true ↦ refl
            | false ↦ refl
          ]

-- a coefficient counts modulo 2^w
pub before_congruent : (w : ℕ) (f : Factors) (n m : ℕ) (ts : Terms)
    → n % 2 ^ w ≡ m % 2 ^ w
    → before_terms w f n ts ≡ before_terms w f m ts
before_congruent w f n m ts e = ap (λ r. if r == 0 then ts else term f r ts) e

-- ---- lists over atoms

module _ (nodes : List Node) (w : ℕ) where
  pub atoms_both : (xs ys : List ExprId) → AreAtoms nodes w xs → AreAtoms nodes w ys → AreAtoms nodes w (xs ++ ys)
  atoms_both [] ys h h' = h'
  atoms_both (x ∷ xs) ys h h' = (h.0, atoms_both xs ys h.1 h')

  pub over_both : (ss ts : List Term) → AreOverAtoms nodes w ss → AreOverAtoms nodes w ts
      → AreOverAtoms nodes w (ss ++ ts)
  over_both [] ts h h' = h'
  over_both (s ∷ ss) ts h h' = (h.0, over_both ss ts h.1 h')

  over_front : (ss ts : List Term) → AreOverAtoms nodes w (ss ++ ts) → AreOverAtoms nodes w ss
  over_front [] ts h = tt
  over_front (s ∷ ss) ts h = (h.0, over_front ss ts h.1)

  over_back : (ss ts : List Term) → AreOverAtoms nodes w (ss ++ ts) → AreOverAtoms nodes w ts
  over_back [] ts h = h
  over_back (s ∷ ss) ts h = over_back ss ts h.1

  -- one more, or none
  pub over_or_none : (ss : List Term) (ids : List ExprId) (n : ℕ)
      → AreOverAtoms nodes w ss
      → AreAtoms nodes w ids
      → AreOverAtoms nodes w (ss ++ term_or_none w ids n)
  over_or_none ss ids n h h' =
      over_both ss (term_or_none w ids n) h (
      elim (n % 2 ^ w == 0) as (λ b.
      AreOverAtoms nodes w (if b then [] else record { ids = ids; coefficient = n % 2 ^ w } ∷ [])) [
        | true ↦ tt
        | false ↦ (h', tt)
      ]
      )

  -- ---- parts of polynomials

  -- all but the first term
  pub rest_polynomial : (t : Term) (ts : List Term) → IsPolynomial nodes w (t ∷ ts) → IsPolynomial nodes w ts
  rest_polynomial t ts p = record { over = p.over.1; canonical = p.canonical.5 }

  -- the beginning of a list, and what is behind it
  pub front_polynomial : (ss ts : List Term) → IsPolynomial nodes w (ss ++ ts) → IsPolynomial nodes w ss
  front_polynomial ss ts p = record { over = over_front ss ts p.over; canonical = front_canonical ss p.canonical }
    where
      front_before : (f : Factors) (us : List Term) → IsBefore f (terms_at (meanings nodes) (us ++ ts))
          → IsBefore f (terms_at (meanings nodes) us)
      front_before f [] h = tt
      front_before f (u ∷ us) h = (h.0, front_before f us h.1)

      front_canonical : (us : List Term) → AreCanonicalTerms w (terms_at (meanings nodes) (us ++ ts))
          → AreCanonicalTerms w (terms_at (meanings nodes) us)
      front_canonical [] h = tt
      front_canonical (u ∷ us) h =
          (h.0, h.1, h.2, h.3, front_before (factors_at (meanings nodes) u.ids) us h.4, front_canonical us h.5)

  pub back_polynomial : (ss ts : List Term) → IsPolynomial nodes w (ss ++ ts) → IsPolynomial nodes w ts
  back_polynomial [] ts p = p
  back_polynomial (s ∷ ss) ts p = back_polynomial ss ts (rest_polynomial s (ss ++ ts) p)
