-- The parts of the recurrence that a group of monomials becomes stand for the value of the group.
use Rattle.std.proofs.Common.{◌≡◌, ℕ, ◌<◌, false, List, [], ◌∷◌, Option, Some, sym, ap, ◌∙◌, subst}
use Rattle.scev_tree.specs.Tree.{Tree, Terms, Factors, no_terms, term}
use Rattle.scev_tree.specs.Canonical.{AreCanonicalTerms, AreCanonicalFactors}
use Rattle.scev_tree.specs.Value.{sum, product, tree_value, terms_value, factors_value}
use Rattle.scev_tree.proofs.Arithmetic.{product_closed, sum_assoc, product_assoc, product_comm}
use Rattle.scev_forms.specs.Outcome.{Outcome}
use Rattle.scev_forms.specs.Gather.{recs_of, rest_of}
use Rattle.scev_forms.specs.Sums.{parts_product, parts_sum, parts_times, parts_with, monomial_parts}
use Rattle.scev_forms.specs.Sums.{parts_plus, group_parts, is_settled}
use Rattle.scev_forms.proofs.Outcomes.{Gives, gives_next}
use Rattle.scev_forms.proofs.Kept.{keeps_same, keeps_again, keeps_plus_zero, keeps_times_one, plus_zero}
use Rattle.scev_forms.proofs.Standing.{Stands, PartsStand, IsFormer, parts_value, parts_stand, parts_below}
use Rattle.scev_forms.proofs.Standing.{lone_part_value}
use Rattle.scev_forms.proofs.Atoms.{value_below}
use Rattle.scev_forms.proofs.PartSums.{parts_sum_stand, parts_product_stand, parts_multiple_stand}
use Rattle.scev_forms.proofs.Monomials.{AreRecs, recs_value, rest_ascends, rest_canonical, recs_canonical}
use Rattle.scev_forms.proofs.Monomials.{factors_apart_value}

module _ (held : ℕ → Option ℕ) (turns : ℕ → ℕ) (w : ℕ) (form : Terms → Outcome Tree)
    (former : IsFormer held turns w form) (some : 0 < w) where
  -- the product of parts and further recurrences
  parts_times_stand : (l : ℕ) (x : Option ℕ) (parts : List Tree) (recs : List (List Tree))
      → PartsStand held turns w l x parts
      → AreRecs w recs
      → Gives (PartsStand held turns w l (product w x (recs_value held turns w l recs)))
      (parts_times form w l parts recs)
  unfolding parts_times
  parts_times_stand l x parts [] h hs =
      (h.0, keeps_times_one w x (parts_value held turns w l parts) (parts_below held turns w l parts h.0) h.1)
  parts_times_stand l x parts (rec ∷ recs) h hs =
      let value = parts_value held turns w l rec in
      let others = recs_value held turns w l recs in
      gives_next (PartsStand held turns w l (product w x value))
      (PartsStand held turns w l (product w x (product w value others))) (parts_product form w l parts rec) _
      (parts_product_stand held turns w form former some l x value parts rec h (parts_stand held turns w l rec hs.0))
      (λ made those. subst (λ y. Gives (PartsStand held turns w l y) (parts_times form w l made recs))
      (product_assoc w x value others)
      (parts_times_stand l (product w x value) made recs those hs.1))

  -- the product of a tree and recurrences
  parts_with_stand : (l : ℕ) (x : Option ℕ) (tree : Tree) (recs : List (List Tree))
      → Stands held turns w x tree
      → AreRecs w recs
      → Gives (PartsStand held turns w l (product w x (recs_value held turns w l recs))) (parts_with form w l tree recs)
  parts_with_stand l x tree [] h hs =
      let lone = lone_part_value held turns w l tree in (
        (h.0, tt),
        keeps_again (product w x (Some 1)) (tree_value held turns tree) (parts_value held turns w l (tree ∷ []))
            (keeps_times_one w x (tree_value held turns tree) (value_below held turns w tree h.0) h.1)
            (keeps_same _ _ (sym lone)),
      )
  parts_with_stand l x tree (rec ∷ recs) h hs =
      let value = product w (parts_value held turns w l rec) (recs_value held turns w l recs) in
      gives_next (PartsStand held turns w l value) (PartsStand held turns w l (product w x value))
      (parts_times form w l rec recs) _
      (parts_times_stand l (parts_value held turns w l rec) rec recs (parts_stand held turns w l rec hs.0) hs.1)
      (λ made those. parts_multiple_stand held turns w form former some l x value tree made h those)

  -- a monomial with its coefficient is that of the rest times the recurrences
  monomial_apart : (l : ℕ) (f : Factors) (n : ℕ)
      → AreCanonicalFactors w f
      → product w (factors_value held turns w f) (Some n)
      ≡ product w (terms_value held turns w (term (rest_of l f) n no_terms)) (recs_value held turns w l (recs_of l f))
  monomial_apart l f n h =
      let rest = factors_value held turns w (rest_of l f) in
      let recs = recs_value held turns w l (recs_of l f) in
      ap (λ x. product w x (Some n)) (factors_apart_value held turns w l f some h)
      ∙ product_assoc w rest recs (Some n) ∙ ap (product w rest) (product_comm w recs (Some n))
      ∙ sym (product_assoc w rest (Some n) recs)
      ∙ ap (λ x. product w x recs) (sym (plus_zero w (product w rest (Some n)) (product_closed w rest (Some n))))

  -- the parts of a monomial stand for its value
  monomial_stands : (l : ℕ) (f : Factors) (n : ℕ) (ts : Terms)
      → AreCanonicalTerms w (term f n ts)
      → Gives (PartsStand held turns w l (product w (factors_value held turns w f) (Some n)))
      (monomial_parts form w l f n)
  unfolding monomial_parts
  monomial_stands l f n ts h =
      let rest = term (rest_of l f) n no_terms in
      let value = terms_value held turns w rest in
      let made = product w value (recs_value held turns w l (recs_of l f)) in
      let whole = product w (factors_value held turns w f) (Some n) in
      let canonical : AreCanonicalTerms w rest =
      (rest_ascends l f h.0, rest_canonical w l f h.1, h.2, h.3, tt, tt) in
      gives_next (Stands held turns w value) (PartsStand held turns w l whole) (form rest) _ (former rest canonical)
      (λ tree stands. subst (λ y. Gives (PartsStand held turns w l y) (parts_with form w l tree (recs_of l f)))
      (sym (monomial_apart l f n h.1))
      (parts_with_stand l value tree (recs_of l f) stands (recs_canonical w l f h.1)))

  -- parts, and those of further monomials
  parts_plus_stand : (l : ℕ) (x : Option ℕ) (parts : List Tree) (ts : Terms)
      → PartsStand held turns w l x parts
      → AreCanonicalTerms w ts
      → Gives (PartsStand held turns w l (sum w x (terms_value held turns w ts))) (parts_plus form w l parts ts)
  unfolding parts_plus
  parts_plus_stand l x parts no_terms h hs =
      (h.0, keeps_plus_zero w x (parts_value held turns w l parts) (parts_below held turns w l parts h.0) h.1)
  parts_plus_stand l x parts (term f n ts) h hs =
      let monomial = product w (factors_value held turns w f) (Some n) in
      let rest = terms_value held turns w ts in
      let whole = PartsStand held turns w l (sum w x (sum w monomial rest)) in
      gives_next (PartsStand held turns w l monomial) whole (monomial_parts form w l f n) _
      (monomial_stands l f n ts hs)
      (λ more those. gives_next (PartsStand held turns w l (sum w x monomial)) whole (parts_sum form w l parts more) _
      (parts_sum_stand held turns w form former some l x monomial parts more h those)
      (λ made both. subst (λ y. Gives (PartsStand held turns w l y) (parts_plus form w l made ts))
      (sum_assoc w x monomial rest)
      (parts_plus_stand l (sum w x monomial) made ts both hs.5)))

  -- The parts of a group that isn't settled stand for its value.
  pub group_stands : (l : ℕ) (ts : Terms)
      → is_settled l ts ≡ false
      → AreCanonicalTerms w ts
      → Gives (PartsStand held turns w l (terms_value held turns w ts)) (group_parts form w l ts)
  group_stands l no_terms left h = absurd cc
  group_stands l (term f n ts) left h =
      let monomial = product w (factors_value held turns w f) (Some n) in
      let whole = terms_value held turns w (term f n ts) in
      gives_next (PartsStand held turns w l monomial) (PartsStand held turns w l whole) (monomial_parts form w l f n) _
      (monomial_stands l f n ts h)
      (λ parts those. parts_plus_stand l monomial parts ts those h.5)
