-- What an arena holds stays as it goes on.
use Rattle.std.proofs.Common.{◌≡◌, ℕ, List, [], ◌∷◌, ◌++◌, refl, sym, ap, ◌∙◌, subst, append_assoc}
use Rattle.std.proofs.lemmas.List.{append-nil}
use Rattle.scev_base.specs.declared.ids.ExprId.{ExprId}
use Rattle.scev_tree.specs.Tree.{width_of}
use Rattle.scev_tree.specs.Canonical.{AreCanonicalTerms}
use Rattle.poly_terms.specs.declared.term.Term.{Term}
use Rattle.scev_arena.specs.declared.node.Node.{Node}
use Rattle.scev_arena.specs.Meaning.{meanings, terms_at, factors_at, tree_of}
use Rattle.scev_arena.specs.Standing.{IsTreeAt, AreAtoms, AreOverAtoms}
use Rattle.scev_arena.proofs.PlacesStay.{tree_stays}
use Rattle.scev_arena.proofs.WellMade.{tree_within, tree_later, atoms_later, over_atoms_later, factors_stay, terms_stay}
use Rattle.scev_polys.specs.Polynomials.{IsPolynomial}
use Rattle.scev_sums.specs.Answers.{GoesOn, IsTreeOfAt, AreTreesOfAt, trees_at}

pub goes_on_itself : (nodes : List Node) → GoesOn nodes nodes
goes_on_itself nodes = ([], sym (append-nil nodes))

pub goes_on_again : (first second third : List Node) → GoesOn first second → GoesOn second third → GoesOn first third
goes_on_again first second third h k =
    (h.0 ++ k.0, k.1 ∙ ap (λ l. l ++ k.0) h.1 ∙ append_assoc first h.0 k.0)

module _ (old new : List Node) (h : GoesOn old new) where
  -- ---- trees

  pub tree_goes_on : (id : ExprId) → IsTreeAt old id → IsTreeAt new id
  tree_goes_on id k = subst (λ l. IsTreeAt l id) (sym h.1) (tree_later old h.0 id k)

  pub same_tree_goes_on : (id : ExprId) → IsTreeAt old id → tree_of new id ≡ tree_of old id
  same_tree_goes_on id k = ap (λ l. tree_of l id) h.1 ∙ tree_stays old h.0 id (tree_within old id k)

  pub wide_goes_on : (w : ℕ) (id : ExprId) → IsTreeOfAt old w id → IsTreeOfAt new w id
  wide_goes_on w id k = (tree_goes_on id k.0, ap width_of (same_tree_goes_on id k.0) ∙ k.1)

  pub trees_go_on : (w : ℕ) (ids : List ExprId) → AreTreesOfAt old w ids → AreTreesOfAt new w ids
  trees_go_on w [] k = tt
  trees_go_on w (id ∷ ids) k = (wide_goes_on w id k.0, trees_go_on w ids k.1)

  pub same_trees_go_on : (w : ℕ) (ids : List ExprId) → AreTreesOfAt old w ids → trees_at new ids ≡ trees_at old ids
  same_trees_go_on w [] k = refl
  same_trees_go_on w (id ∷ ids) k =
      ap (λ tree. tree ∷ trees_at new ids) (same_tree_goes_on id k.0.0)
      ∙ ap (λ trees. tree_of old id ∷ trees) (same_trees_go_on w ids k.1)

  -- ---- polynomials

  pub atoms_go_on : (w : ℕ) (ids : List ExprId) → AreAtoms old w ids → AreAtoms new w ids
  atoms_go_on w ids k = subst (λ l. AreAtoms l w ids) (sym h.1) (atoms_later old h.0 w ids k)

  pub same_factors_go_on : (w : ℕ) (ids : List ExprId) → AreAtoms old w ids
      → factors_at (meanings new) ids ≡ factors_at (meanings old) ids
  same_factors_go_on w ids k = ap (λ l. factors_at (meanings l) ids) h.1 ∙ factors_stay old h.0 w ids k

  pub same_terms_go_on : (w : ℕ) (terms : List Term) → AreOverAtoms old w terms
      → terms_at (meanings new) terms ≡ terms_at (meanings old) terms
  same_terms_go_on w terms k = ap (λ l. terms_at (meanings l) terms) h.1 ∙ terms_stay old h.0 w terms k

  pub polynomial_goes_on : (w : ℕ) (terms : List Term) → IsPolynomial old w terms → IsPolynomial new w terms
  polynomial_goes_on w terms k = record {
    over = subst (λ l. AreOverAtoms l w terms) (sym h.1) (over_atoms_later old h.0 w terms k.over);
    canonical = subst (AreCanonicalTerms w) (sym (same_terms_go_on w terms k.over)) k.canonical;
  }
