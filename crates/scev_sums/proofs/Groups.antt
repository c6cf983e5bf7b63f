-- How monomials of a group become one recurrence, over the places of an arena.
use Rattle.std.proofs.Common.{◌≡◌, ℕ, List, [], ◌∷◌, sym, ap, ◌∙◌, subst}
use Rattle.scev_base.specs.declared.ids.ExprId.{ExprId}
use Rattle.scev_tree.specs.Tree.{Tree, Terms, no_terms, term}
use Rattle.scev_tree.specs.Canonical.{Ascend, AreCanonicalFactors}
use Rattle.poly_terms.specs.declared.term.Term.{Term}
use Rattle.scev_arena.specs.declared.node.Node.{Node}
use Rattle.scev_arena.specs.Meaning.{meanings, terms_at, factors_at}
use Rattle.scev_arena.specs.Standing.{AreAtoms}
use Rattle.scev_forms.specs.Outcome.{Outcome, Done, next}
use Rattle.scev_forms.specs.Gather.{recs_of, rest_of}
use Rattle.scev_forms.specs.Sums.{parts_with, parts_sum, parts_plus, monomial_parts, group_parts}
use Rattle.scev_forms.proofs.Monomials.{rest_ascends, rest_canonical}
use Rattle.scev_polys.specs.Polynomials.{IsPolynomial}
use Rattle.scev_polys.proofs.AtPlaces as at_places
use Rattle.scev_sums.specs.Answers.{GoesOn, AreAt, AreTreesOfAt, trees_at}
use Rattle.scev_sums.specs.Levels.{IsMonomialOf}
use Rattle.scev_sums.proofs.Growth.{goes_on_again, trees_go_on, same_trees_go_on, same_factors_go_on}
use Rattle.scev_sums.proofs.Growth.{polynomial_goes_on}
use Rattle.scev_sums.proofs.Refusals.{LeadsOn, led_on}

module _ (nodes : List Node) (w : ℕ) where
  -- the first term of a polynomial is a monomial
  pub first_monomial : (t : Term) (ts : List Term) → IsPolynomial nodes w (t ∷ ts) → IsMonomialOf nodes w t
  first_monomial t ts h = (
    h.over.0,
    (h.canonical.0, h.canonical.1, h.canonical.2, h.canonical.3, tt, tt),
  )

  -- a monomial without its recurrences is a polynomial
  pub rest_polynomial : (l : ℕ) (t : Term) (rest : List ExprId) → IsMonomialOf nodes w t
      → AreAtoms nodes w rest
      → factors_at (meanings nodes) rest ≡ rest_of l (factors_at (meanings nodes) t.ids)
      → IsPolynomial nodes w (record { ids = rest; coefficient = t.coefficient } ∷ [])
  rest_polynomial l t rest h atoms e =
      let factors = factors_at (meanings nodes) t.ids in record {
        over = (atoms, tt);
        canonical = (
          subst Ascend (sym e) (rest_ascends l factors h.1.0),
          subst (AreCanonicalFactors w) (sym e) (rest_canonical w l factors h.1.1),
          h.1.2,
          h.1.3,
          tt,
          tt,
        );
      }

-- a monomial without its recurrences is formed first
pub rest_leads : (form : Terms → Outcome Tree) (w l : ℕ) (nodes : List Node) (t : Term) {ids slice : List ExprId}
    {terms : List Term}
    → terms ≡ record { ids = ids; coefficient = t.coefficient } ∷ []
    → factors_at (meanings nodes) ids ≡ rest_of l (factors_at (meanings nodes) slice)
    → slice ≡ t.ids
    → LeadsOn (form (terms_at (meanings nodes) terms))
    (λ tree. parts_with form w l tree (recs_of l (factors_at (meanings nodes) t.ids)))
    (monomial_parts form w l (factors_at (meanings nodes) t.ids) t.coefficient)
unfolding monomial_parts
rest_leads form w l nodes t e rest is =
    let factors = factors_at (meanings nodes) t.ids in record {
      leads = ap (λ ts. next (form ts) (λ tree. parts_with form w l tree (recs_of l factors)))
          (ap (terms_at (meanings nodes)) e ∙ ap (λ f. term f t.coefficient no_terms)
          (rest ∙ ap (λ ids. rest_of l (factors_at (meanings nodes) ids)) is));
    }

-- ---- groups

-- What the terms that are left give of the parts so far is the whole.
pub record IsAdding (form : Terms → Outcome Tree) (w l : ℕ) (whole : Outcome (List Tree)) (first old : List Node)
    (parts : List ExprId) (terms : List Term) : Type 0 where
  pub grows : GoesOn first old
  pub trees : AreTreesOfAt old w parts
  pub left : IsPolynomial first w terms
  pub same : parts_plus form w l (trees_at old parts) (terms_at (meanings first) terms) ≡ whole

-- the parts of the first monomial begin
pub adding_begins : {form : Terms → Outcome Tree} {w l : ℕ} {first old : List Node} {parts : List ExprId}
    {group others : List Term} (t : Term)
    → GoesOn first old
    → IsPolynomial first w group
    → group ≡ t ∷ others
    → (trees : List Tree)
    × (monomial_parts form w l (factors_at (meanings first) t.ids) t.coefficient ≡ Done trees)
    × AreAt old w parts trees
    → IsAdding form w l (group_parts form w l (terms_at (meanings first) group)) first old parts others
adding_begins {form} {w} {l} {first} {old} {parts} {group} {others} t grows h e told =
    let left = terms_at (meanings first) others in record {
      grows = grows;
      trees = told.2.0;
      left = at_places.rest_polynomial first w t others (subst (IsPolynomial first w) e h);
      same = ap (λ trees. parts_plus form w l trees left) told.2.1
          ∙ sym (ap (λ o. next o (λ trees. parts_plus form w l trees left)) told.1)
          ∙ ap (λ ts. group_parts form w l (terms_at (meanings first) ts)) (sym e);
    }

module _ {form : Terms → Outcome Tree} {w l : ℕ} {whole : Outcome (List Tree)} {first old : List Node}
    {parts : List ExprId} {terms : List Term} (adding : IsAdding form w l whole first old parts terms) where
  -- no term is left
  pub all_added : terms ≡ [] → whole ≡ Done (trees_at old parts)
  unfolding parts_plus
  all_added e =
      sym adding.same ∙ ap (λ ts. parts_plus form w l (trees_at old parts) (terms_at (meanings first) ts)) e

  module _ {t : Term} {others : List Term} (left : terms ≡ t ∷ others) where
    all_left : IsPolynomial first w (t ∷ others)
    all_left = subst (IsPolynomial first w) left adding.left

    pub next_monomial : IsMonomialOf old w t
    next_monomial = first_monomial old w t others (polynomial_goes_on first old adding.grows w (t ∷ others) all_left)

    -- the parts of the next monomial lead on to the whole
    pub monomial_leads : LeadsOn (monomial_parts form w l (factors_at (meanings old) t.ids) t.coefficient)
        (λ more. next (parts_sum form w l (trees_at old parts) more)
        (λ sum. parts_plus form w l sum (terms_at (meanings first) others))) whole
    unfolding parts_plus
    monomial_leads = record {
      leads = ap (λ f. next (monomial_parts form w l f t.coefficient)
          (λ more. next (parts_sum form w l (trees_at old parts) more)
          (λ sum. parts_plus form w l sum (terms_at (meanings first) others))))
          (same_factors_go_on first old adding.grows w t.ids all_left.over.0)
          ∙ ap (λ ts. parts_plus form w l (trees_at old parts) (terms_at (meanings first) ts)) (sym left)
          ∙ adding.same;
    }

    module _ {middle : List Node} (grows : GoesOn old middle) {mine : List ExprId} (mine_is : mine ≡ parts) where
      pub parts_held : AreTreesOfAt middle w mine
      parts_held =
          subst (AreTreesOfAt middle w) (sym mine_is) (trees_go_on old middle grows w parts adding.trees)

      module _ {more slice : List ExprId} (slice_is : slice ≡ more) (told : (trees : List Tree)
          × (monomial_parts form w l (factors_at (meanings old) t.ids) t.coefficient ≡ Done trees)
          × AreAt middle w more trees) where
        -- and so does the sum with them
        pub sum_leads : LeadsOn (parts_sum form w l (trees_at middle mine) (trees_at middle slice))
            (λ sum. parts_plus form w l sum (terms_at (meanings first) others)) whole
        sum_leads =
            let then = λ (sum : List Tree). parts_plus form w l sum (terms_at (meanings first) others) in record {
              leads = ap (λ ids. next (parts_sum form w l (trees_at middle ids) (trees_at middle slice)) then) mine_is
                  ∙ ap (λ trees. next (parts_sum form w l trees (trees_at middle slice)) then)
                  (same_trees_go_on old middle grows w parts adding.trees)
                  ∙ ap (λ trees. next (parts_sum form w l (trees_at old parts) trees) then)
                  (ap (trees_at middle) slice_is ∙ told.2.1)
                  ∙ led_on told.0 monomial_leads told.1;
            }

        pub added : {new : List Node} → GoesOn middle new
            → {all : List ExprId}
            → (sum : List Tree)
            × (parts_sum form w l (trees_at middle mine) (trees_at middle slice) ≡ Done sum) × AreAt new w all sum
            → IsAdding form w l whole first new all others
        added {new} again sum = record {
          grows = goes_on_again first old new adding.grows (goes_on_again old middle new grows again);
          trees = sum.2.0;
          left = at_places.rest_polynomial first w t others all_left;
          same = ap (λ trees. parts_plus form w l trees (terms_at (meanings first) others)) sum.2.1
              ∙ led_on sum.0 sum_leads sum.1;
        }
