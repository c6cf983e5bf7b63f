-- Products of polynomials by rows: one term with each of the other side.
use Rattle.std.proofs.Common.{◌≡◌, ℕ, ◌*◌, refl, sym, ap, ◌∙◌}
use Rattle.scev_tree.specs.Tree.{Terms, Factors, no_terms, term}
use Rattle.scev_tree.specs.Canonical.{joined_factors, before_terms, IsBefore, AreCanonicalTerms}
use Rattle.scev_tree.proofs.Inserted.{with_term_behind}
use Rattle.scev_forms.specs.Polynomials.{terms_sum, terms_multiple, terms_product}
use Rattle.scev_forms.proofs.Polynomials.{terms_multiple_canonical, terms_product_canonical}
use Rattle.scev_polys.proofs.Merges.{appended, first_term, sum_of_none, sum_with_none}
use Rattle.scev_polys.proofs.Coefficients.{sum_grouped}
use Rattle.scev_polys.proofs.ProductOrder.{joined_keeps}

-- ---- one row

-- the row of what stands behind a monomial stands behind the product with that
multiple_behind : (w : ℕ) (f : Factors) (n : ℕ) (g : Factors) (ts : Terms)
    → IsBefore g ts
    → IsBefore (joined_factors f g) (terms_multiple w f n ts)
unfolding terms_multiple
multiple_behind w f n g no_terms h = tt
multiple_behind w f n g (term other m ts) h =
    with_term_behind (joined_factors f g) w (joined_factors f other) (n * m) (terms_multiple w f n ts)
    (joined_keeps f g other h.0) (multiple_behind w f n g ts h.1)

-- so the row goes on behind the product with its first monomial
pub multiple_first : (w : ℕ) (f : Factors) (n : ℕ) (g : Factors) (m : ℕ) (ts : Terms)
    → IsBefore g ts
    → terms_multiple w f n (term g m ts) ≡ before_terms w (joined_factors f g) (n * m) (terms_multiple w f n ts)
unfolding terms_multiple
multiple_first w f n g m ts h =
    first_term w (joined_factors f g) (n * m) (terms_multiple w f n ts) (multiple_behind w f n g ts h)

pub multiple_of_none : (w : ℕ) (f : Factors) (n : ℕ) → terms_multiple w f n no_terms ≡ no_terms
unfolding terms_multiple
multiple_of_none w f n = refl

-- ---- all rows

-- no row, and one
pub product_of_none : (w : ℕ) (us : Terms) → terms_product w no_terms us ≡ no_terms
unfolding terms_product
product_of_none w us = refl

pub product_of_one : (w : ℕ) (f : Factors) (n : ℕ) (us : Terms)
    → AreCanonicalTerms w (term f n no_terms)
    → AreCanonicalTerms w us
    → terms_product w (term f n no_terms) us ≡ terms_multiple w f n us
unfolding terms_product
product_of_one w f n us h h' = sum_with_none w (terms_multiple w f n us) (terms_multiple_canonical w f n us h.1 h')

-- The rows of both parts of the left side.
pub product_of_both : (w : ℕ) (ss ts us : Terms)
    → AreCanonicalTerms w ss
    → AreCanonicalTerms w ts
    → AreCanonicalTerms w us
    → terms_product w (appended ss ts) us ≡ terms_sum w (terms_product w ss us) (terms_product w ts us)
unfolding terms_product
product_of_both w no_terms ts us hs ht hu = sym (sum_of_none w (terms_product w ts us))
product_of_both w (term f n ss) ts us hs ht hu =
    let row = terms_multiple w f n us in
    ap (terms_sum w row) (product_of_both w ss ts us hs.5 ht hu)
    ∙ sym (sum_grouped w row (terms_product w ss us) (terms_product w ts us) (terms_multiple_canonical w f n us hs.1 hu)
    (terms_product_canonical w ss us hs.5 hu) (terms_product_canonical w ts us ht hu))
