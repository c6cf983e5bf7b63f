-- Sums and products of terms are canonical, and have the sum and the product of the values.
use Rattle.std.proofs.Common.{◌≡◌, ℕ, ◌*◌, ◌%◌, ◌^◌, ◌<◌, Option, Some, None, refl, sym, ap, ◌∙◌, arith}
use Rattle.std.proofs.Math.Nat.{mod-eq_of_lt}
use Rattle.std.proofs.lemmas.Nat.{pow_pos}
use Rattle.scev_tree.specs.Tree.{Terms, Factors, no_terms, term}
use Rattle.scev_tree.specs.Canonical.{joined_factors, AreCanonicalFactors, AreCanonicalTerms}
use Rattle.scev_tree.specs.Value.{sum, product, terms_value, factors_value}
use Rattle.scev_tree.proofs.Arithmetic.{sum_assoc, product_assoc, product_comm}
use Rattle.scev_tree.proofs.Arithmetic.{product_left_comm, distributes, factor_mod}
use Rattle.scev_tree.proofs.Inserted.{joined_factors_ascend, joined_factors_canonical, with_term_canonical}
use Rattle.scev_tree.proofs.Values.{terms_below, joined_factors_value, with_term_value}
use Rattle.scev_forms.specs.Polynomials.{terms_sum, terms_multiple, terms_product}
use Rattle.scev_forms.proofs.Kept.{Keeps, keeps_same, keeps_sum, zero_plus}

-- ---- canonical terms

-- the sum of canonical terms
pub terms_sum_canonical : (w : ℕ) (ts others : Terms)
    → AreCanonicalTerms w ts
    → AreCanonicalTerms w others
    → AreCanonicalTerms w (terms_sum w ts others)
unfolding terms_sum
terms_sum_canonical w no_terms others h hs = hs
terms_sum_canonical w (term f n ts) others h hs =
    with_term_canonical w f n (terms_sum w ts others) h.0 h.1 (terms_sum_canonical w ts others h.5 hs)

-- the product of a monomial and canonical terms
pub terms_multiple_canonical : (w : ℕ) (f : Factors) (n : ℕ) (ts : Terms)
    → AreCanonicalFactors w f
    → AreCanonicalTerms w ts
    → AreCanonicalTerms w (terms_multiple w f n ts)
unfolding terms_multiple
terms_multiple_canonical w f n no_terms atoms h = tt
terms_multiple_canonical w f n (term others m ts) atoms h =
    with_term_canonical w (joined_factors f others) (n * m) (terms_multiple w f n ts)
    (joined_factors_ascend f others h.0)
    (joined_factors_canonical w f others atoms h.1)
    (terms_multiple_canonical w f n ts atoms h.5)

-- the product of canonical terms
pub terms_product_canonical : (w : ℕ) (ts others : Terms)
    → AreCanonicalTerms w ts
    → AreCanonicalTerms w others
    → AreCanonicalTerms w (terms_product w ts others)
unfolding terms_product
terms_product_canonical w no_terms others h hs = tt
terms_product_canonical w (term f n ts) others h hs =
    terms_sum_canonical w (terms_multiple w f n others) (terms_product w ts others)
    (terms_multiple_canonical w f n others h.1 hs)
    (terms_product_canonical w ts others h.5 hs)

-- ---- values

-- 0 times a number is 0
keeps_no_product : (w : ℕ) (x : Option ℕ) → Keeps (product w (Some 0) x) (Some 0)
keeps_no_product w None n e = absurd cc
keeps_no_product w (Some b) n e =
    let none : 0 * b ≡ 0 = omega arith in
    sym (ap (λ k. Some (k % 2 ^ w)) none ∙ ap Some (mod-eq_of_lt (pow_pos w))) ∙ e

-- a number times 0 is 0
keeps_product_no : (w : ℕ) (x : Option ℕ) → Keeps (product w x (Some 0)) (Some 0)
keeps_product_no w x n e = keeps_no_product w x n (product_comm w (Some 0) x ∙ e)

-- two monomials with their coefficients
monomials_times : (w : ℕ) (x y : Option ℕ) (n m : ℕ)
    → product w (product w x (Some n)) (product w y (Some m)) ≡ product w (product w x y) (Some (n * m))
monomials_times w x y n m =
    product_assoc w x (Some n) (product w y (Some m))
    ∙ ap (product w x) (product_left_comm w (Some n) y (Some m))
    ∙ sym (product_assoc w x y (Some (n * m % 2 ^ w)))
    ∙ factor_mod w (product w x y) (n * m)

-- a sum from the right
distributes_right : (w : ℕ) (x y z : Option ℕ)
    → product w (sum w x y) z ≡ sum w (product w x z) (product w y z)
distributes_right w x y z =
    product_comm w (sum w x y) z ∙ distributes w z x y ∙ ap (λ s. sum w s (product w z y)) (product_comm w z x)
    ∙ ap (sum w (product w x z)) (product_comm w z y)

module _ (held : ℕ → Option ℕ) (turns : ℕ → ℕ) (w : ℕ) where
  -- the value of the sum of terms
  pub terms_sum_value : (ts others : Terms)
      → Keeps (sum w (terms_value held turns w ts) (terms_value held turns w others))
      (terms_value held turns w (terms_sum w ts others))
  unfolding terms_sum
  terms_sum_value no_terms others n e =
      sym (zero_plus w (terms_value held turns w others) (terms_below held turns w others)) ∙ e
  terms_sum_value (term f c ts) others n e =
      let monomial = product w (factors_value held turns w f) (Some c) in
      let rest = terms_value held turns w ts in
      let more = terms_value held turns w others in
      let sum_of = terms_value held turns w (terms_sum w ts others) in
      with_term_value held turns w f c (terms_sum w ts others) n
      (keeps_sum w monomial monomial (sum w rest more) sum_of (keeps_same monomial monomial refl)
      (terms_sum_value ts others) n (sym (sum_assoc w monomial rest more) ∙ e))

  -- the value of the product of a monomial and terms
  pub terms_multiple_value : (f : Factors) (c : ℕ) (ts : Terms)
      → 0 < w
      → Keeps (product w (product w (factors_value held turns w f) (Some c)) (terms_value held turns w ts))
      (terms_value held turns w (terms_multiple w f c ts))
  unfolding terms_multiple
  terms_multiple_value f c no_terms some n e =
      keeps_product_no w (product w (factors_value held turns w f) (Some c)) n e
  terms_multiple_value f c (term others m ts) some n e =
      let first = factors_value held turns w f in
      let second = factors_value held turns w others in
      let monomial = product w first (Some c) in
      let rest = terms_value held turns w ts in
      let both = product w (factors_value held turns w (joined_factors f others)) (Some (c * m)) in
      let same : product w monomial (product w second (Some m)) ≡ both =
      monomials_times w first second c m
      ∙ ap (λ x. product w x (Some (c * m))) (sym (joined_factors_value held turns w f others some)) in
      with_term_value held turns w (joined_factors f others) (c * m) (terms_multiple w f c ts) n
      (keeps_sum w (product w monomial (product w second (Some m))) both (product w monomial rest)
      (terms_value held turns w (terms_multiple w f c ts)) (keeps_same _ both same)
      (terms_multiple_value f c ts some) n
      (sym (distributes w monomial (product w second (Some m)) rest) ∙ e))

  -- the value of the product of terms
  pub terms_product_value : (ts others : Terms)
      → 0 < w
      → Keeps (product w (terms_value held turns w ts) (terms_value held turns w others))
      (terms_value held turns w (terms_product w ts others))
  unfolding terms_product
  terms_product_value no_terms others some n e = keeps_no_product w (terms_value held turns w others) n e
  terms_product_value (term f c ts) others some n e =
      let monomial = product w (factors_value held turns w f) (Some c) in
      let rest = terms_value held turns w ts in
      let more = terms_value held turns w others in
      let multiple = terms_value held turns w (terms_multiple w f c others) in
      let product_of = terms_value held turns w (terms_product w ts others) in
      terms_sum_value (terms_multiple w f c others) (terms_product w ts others) n
      (keeps_sum w (product w monomial more) multiple (product w rest more) product_of
      (terms_multiple_value f c others some) (terms_product_value ts others some) n
      (sym (distributes_right w monomial rest more) ∙ e))
