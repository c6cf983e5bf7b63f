-- The sum of canonical polynomials, term by term, as one merge of both lists gives it.
use Rattle.std.proofs.Common.{◌≡◌, ℕ, ◌+◌, ◌%◌, ◌^◌, ◌<◌, true, false, ◌==◌, refl, ap, ◌∙◌, arith, mod-eq_of_lt}
use Rattle.std.proofs.lemmas.Bool.{cond-true, cond-false, ne_eqb, false_from_ne_true}
use Rattle.scev_tree.specs.Tree.{Terms, Factors, no_terms, term}
use Rattle.scev_tree.specs.Order.{lower, monomial_code, same_monomial}
use Rattle.scev_tree.specs.Canonical.{before_terms, with_term, IsBefore, AreCanonicalTerms}
use Rattle.scev_forms.specs.Polynomials.{terms_sum}
use Rattle.scev_tree.proofs.Inserted.{with_term_behind}
use Rattle.scev_tree.proofs.Lower.{never_lower, never_both, told_same, same_itself}

-- the first terms, and then the others
abbrev pub appended : Terms → Terms → Terms
appended no_terms others = others
appended (term f n ts) others = term f n (appended ts others)

-- ---- where a monomial stands among terms

-- a lower monomial is another one
lower_apart : (f g : Factors) → lower (monomial_code f) (monomial_code g) ≡ true → same_monomial f g ≡ false
lower_apart f g h =
    let none = never_lower (monomial_code f) in
    false_from_ne_true (same_monomial f g) (λ same.
    let e : lower (monomial_code f) (monomial_code f) ≡ lower (monomial_code f) (monomial_code g) =
    ap (lower (monomial_code f)) (told_same (monomial_code f) (monomial_code g) same) in
    cc)

pub higher_apart : (f g : Factors) → lower (monomial_code g) (monomial_code f) ≡ true → same_monomial f g ≡ false
higher_apart f g h =
    let none = never_lower (monomial_code g) in
    false_from_ne_true (same_monomial f g) (λ same.
    let e : lower (monomial_code g) (monomial_code f) ≡ lower (monomial_code g) (monomial_code g) =
    ap (lower (monomial_code g)) (told_same (monomial_code f) (monomial_code g) same) in
    cc)

-- a coefficient that is a residue other than 0 stays
residue_stays : (w : ℕ) (f : Factors) (n : ℕ) (ts : Terms) → 0 < n → n < 2 ^ w → before_terms w f n ts ≡ term f n ts
residue_stays w f n ts some small =
    let residue : n % 2 ^ w ≡ n = mod-eq_of_lt small in
    cond-false (n % 2 ^ w == 0) ts (term f (n % 2 ^ w) ts) (ne_eqb (n % 2 ^ w) 0 (λ e. omega arith))
    ∙ ap (λ k. term f k ts) residue

-- a monomial before all terms
pub first_term : (w : ℕ) (f : Factors) (n : ℕ) (ts : Terms)
    → IsBefore f ts
    → with_term w f n ts ≡ before_terms w f n ts
first_term w f n no_terms h = refl
first_term w f n (term g m ts) h =
    cond-false (same_monomial f g) _ _ (lower_apart f g h.0)
    ∙ cond-false (lower (monomial_code g) (monomial_code f)) _ _ (never_both (monomial_code f) (monomial_code g) h.0)

-- a monomial behind the first one
later_term : (w : ℕ) (f : Factors) (n : ℕ) (g : Factors) (m : ℕ) (ts : Terms)
    → lower (monomial_code g) (monomial_code f) ≡ true
    → with_term w f n (term g m ts) ≡ term g m (with_term w f n ts)
later_term w f n g m ts h =
    cond-false (same_monomial f g) _ _ (higher_apart f g h)
    ∙ cond-true (lower (monomial_code g) (monomial_code f)) _ _ h

-- the first monomial once more
same_term : (w : ℕ) (f : Factors) (n m : ℕ) (ts : Terms)
    → with_term w f n (term f m ts) ≡ before_terms w f (n + m) ts
same_term w f n m ts = cond-true (same_monomial f f) _ _ (same_itself (monomial_code f))

-- ---- sums

-- what stands before both sides stands before the sum
sum_behind : (w : ℕ) (f : Factors) (ts us : Terms) → IsBefore f ts → IsBefore f us → IsBefore f (terms_sum w ts us)
unfolding terms_sum
sum_behind w f no_terms us h h' = h'
sum_behind w f (term g m ts) us h h' =
    with_term_behind f w g m (terms_sum w ts us) h.0 (sum_behind w f ts us h.1 h')

-- a term of the left side that stands before all others
pub left_first : (w : ℕ) (f : Factors) (n : ℕ) (ts us : Terms)
    → AreCanonicalTerms w (term f n ts)
    → IsBefore f us
    → terms_sum w (term f n ts) us ≡ term f n (terms_sum w ts us)
unfolding terms_sum
left_first w f n ts us h before =
    first_term w f n (terms_sum w ts us) (sum_behind w f ts us h.4 before)
    ∙ residue_stays w f n (terms_sum w ts us) h.2 h.3

-- a term of the right side that stands before all others
pub right_first : (w : ℕ) (ts : Terms) (g : Factors) (m : ℕ) (us : Terms)
    → IsBefore g ts
    → terms_sum w ts (term g m us) ≡ term g m (terms_sum w ts us)
unfolding terms_sum
right_first w no_terms g m us before = refl
right_first w (term f n ts) g m us before =
    ap (with_term w f n) (right_first w ts g m us before.1) ∙ later_term w f n g m (terms_sum w ts us) before.0

-- terms of both sides with one monomial, which stands before all others
pub both_first : (w : ℕ) (f : Factors) (n : ℕ) (ts : Terms) (m : ℕ) (us : Terms)
    → IsBefore f ts
    → terms_sum w (term f n ts) (term f m us) ≡ before_terms w f (n + m) (terms_sum w ts us)
unfolding terms_sum
both_first w f n ts m us before =
    ap (with_term w f n) (right_first w ts f m us before) ∙ same_term w f n m (terms_sum w ts us)

-- no terms on the left side, or on the right one
pub sum_of_none : (w : ℕ) (us : Terms) → terms_sum w no_terms us ≡ us
unfolding terms_sum
sum_of_none w us = refl

pub sum_with_none : (w : ℕ) (ts : Terms) → AreCanonicalTerms w ts → terms_sum w ts no_terms ≡ ts
unfolding terms_sum
sum_with_none w no_terms h = refl
sum_with_none w (term f n ts) h =
    ap (with_term w f n) (sum_with_none w ts h.5) ∙ first_term w f n ts h.4 ∙ residue_stays w f n ts h.2 h.3
