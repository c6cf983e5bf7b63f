-- Values of products of monomials, and of terms with one more.
use Rattle.std.proofs.Common.{◌≡◌, ℕ, ◌+◌, ◌%◌, ◌^◌, ◌<◌, ◌==◌, Option, Some, refl, sym, ap, ◌∙◌}
use Rattle.std.proofs.lemmas.Bool.{cond_both, eqb-true}
use Rattle.std.proofs.lemmas.Nat.{pow_pos, pow_below}
use Rattle.scev_tree.specs.Tree.{Tree, Terms, Factors, Atom, polynomial, no_terms, term, no_factors, factor, width_of}
use Rattle.scev_tree.specs.Order.{lower, atom_code, monomial_code, same_monomial}
use Rattle.scev_tree.specs.Canonical.{with_factor, joined_factors, before_terms, with_term}
use Rattle.scev_tree.specs.Value.{sum, product, tree_value, terms_value, factors_value, atom_value}
use Rattle.scev_tree.proofs.Codes.{one_monomial}
use Rattle.scev_tree.proofs.Lower.{told_same}
use Rattle.scev_tree.proofs.Arithmetic.{IsBelow, sum_closed, product_closed, sum_assoc, sum_left_comm}
use Rattle.scev_tree.proofs.Arithmetic.{product_assoc, product_left_comm, one_times, factor_mod, factors_added}
use Rattle.scev_tree.proofs.Arithmetic.{nothing_added, summand_instead}

module _ (held : ℕ → Option ℕ) (turns : ℕ → ℕ) where
  -- the value of terms is below the modulus
  pub terms_below : (w : ℕ) (ts : Terms) → IsBelow w (terms_value held turns w ts)
  terms_below w no_terms = pow_pos w
  terms_below w (term f c ts) = sum_closed w _ _

  -- the value of a tree is below the modulus of its width
  pub tree_below : (tree : Tree) → IsBelow (width_of tree) (tree_value held turns tree)
  tree_below (polynomial w ts) = terms_below w ts

  -- the value of a monomial is below the modulus, but for 1 at width 0
  pub factors_below : (w : ℕ) (f : Factors) → 0 < w → IsBelow w (factors_value held turns w f)
  factors_below w no_factors some = pow_below 0 w some
  factors_below w (factor a f) some = product_closed w _ _

  -- the value of a monomial with one more factor
  pub with_factor_value : (w : ℕ) (a : Atom) (f : Factors)
      → factors_value held turns w (with_factor a f)
      ≡ product w (atom_value held turns a) (factors_value held turns w f)
  with_factor_value w a no_factors = refl
  with_factor_value w a (factor b f) =
      let value = λ (x : Atom). atom_value held turns x in
      cond_both (lower (atom_code b) (atom_code a)) (factor b (with_factor a f)) (factor a (factor b f))
      (λ g. factors_value held turns w g
      ≡ product w (atom_value held turns a) (factors_value held turns w (factor b f)))
      (λ _. ap (product w (value b)) (with_factor_value w a f)
      ∙ product_left_comm w (value b) (value a) (factors_value held turns w f))
      (λ _. refl)

  -- the value of a product of monomials
  pub joined_factors_value : (w : ℕ) (f g : Factors)
      → 0 < w
      → factors_value held turns w (joined_factors f g)
      ≡ product w (factors_value held turns w f) (factors_value held turns w g)
  joined_factors_value w no_factors g some =
      sym (one_times w (factors_value held turns w g) (factors_below w g some))
  joined_factors_value w (factor a f) g some =
      with_factor_value w a (joined_factors f g)
      ∙ ap (product w (atom_value held turns a)) (joined_factors_value w f g some)
      ∙ sym (product_assoc w (atom_value held turns a) (factors_value held turns w f) (factors_value held turns w g))

  -- the value of terms behind a monomial, where that has one
  before_terms_value : (w : ℕ) (f : Factors) (c : ℕ) (ts : Terms) (k : ℕ)
      → sum w (product w (factors_value held turns w f) (Some c)) (terms_value held turns w ts) ≡ Some k
      → terms_value held turns w (before_terms w f c ts) ≡ Some k
  before_terms_value w f c ts k h =
      let value = factors_value held turns w f in
      let others = terms_value held turns w ts in
      cond_both (c % 2 ^ w == 0) ts (term f (c % 2 ^ w) ts) (λ g. terms_value held turns w g ≡ Some k)
      (λ none. nothing_added w c k value others (eqb-true (c % 2 ^ w) 0 none) (terms_below w ts) h)
      (λ _. ap (λ x. sum w x others) (factor_mod w value c) ∙ h)

  -- the coefficients of one monomial, added
  added_coefficients : (w : ℕ) (f others : Factors) (c n : ℕ) (ts : Terms)
      → f ≡ others
      → sum w (product w (factors_value held turns w f) (Some (c + n))) (terms_value held turns w ts)
      ≡ sum w (product w (factors_value held turns w f) (Some c)) (terms_value held turns w (term others n ts))
  added_coefficients w f others c n ts same =
      let value = factors_value held turns w f in
      let rest = terms_value held turns w ts in
      ap (λ x. sum w x rest) (factors_added w value c n)
      ∙ sum_assoc w (product w value (Some c)) (product w value (Some n)) rest
      ∙ ap (λ g. sum w (product w value (Some c)) (sum w (product w (factors_value held turns w g) (Some n)) rest)) same

  -- the value of terms with one more, where the sum has one
  pub with_term_value : (w : ℕ) (f : Factors) (c : ℕ) (ts : Terms) (k : ℕ)
      → sum w (product w (factors_value held turns w f) (Some c)) (terms_value held turns w ts) ≡ Some k
      → terms_value held turns w (with_term w f c ts) ≡ Some k
  with_term_value w f c no_terms k h = before_terms_value w f c no_terms k h
  with_term_value w f c (term others n ts) k h =
      let added = product w (factors_value held turns w f) (Some c) in
      let first = product w (factors_value held turns w others) (Some n) in
      let rest = terms_value held turns w ts in
      cond_both (same_monomial f others) _ _ (λ g. terms_value held turns w g ≡ Some k)
      (λ same.
      let one = one_monomial f others (told_same (monomial_code f) (monomial_code others) same) in
      before_terms_value w f (c + n) ts k (added_coefficients w f others c n ts one ∙ h))
      (λ _. cond_both (lower (monomial_code others) (monomial_code f)) _ _
      (λ g. terms_value held turns w g ≡ Some k)
      (λ _. summand_instead w k first (sum w added rest) (terms_value held turns w (with_term w f c ts))
      (sum_left_comm w first added rest ∙ h)
      (λ j. with_term_value w f c ts j))
      (λ _. before_terms_value w f c (term others n ts) k h))
