-- Canonical terms are known by their coefficients, so sums of them may be grouped in any way.
use Rattle.std.proofs.Common.{◌≡◌, ℕ, ◌+◌, ◌%◌, ◌^◌, true, false, ◌==◌, if◌then◌else◌, inl, inr, refl, sym, ap, ◌∙◌}
use Rattle.std.proofs.Common.{subst, arith, mod-eq_of_lt}
use Rattle.std.proofs.lemmas.Bool.{cond_both, cond-true, cond-false, eqb-true}
use Rattle.std.proofs.lemmas.Nat.{pow_pos}
use Rattle.std.proofs.Math.Nat.{mod-mod}
use Rattle.scev_tree.specs.Tree.{Terms, Factors, no_terms, term}
use Rattle.scev_tree.specs.Order.{lower, monomial_code, same_monomial}
use Rattle.scev_tree.specs.Canonical.{before_terms, with_term, IsBefore, AreCanonicalTerms}
use Rattle.scev_forms.specs.Polynomials.{terms_sum}
use Rattle.scev_forms.proofs.Polynomials.{terms_sum_canonical}
use Rattle.scev_tree.proofs.Codes.{one_monomial}
use Rattle.scev_tree.proofs.Inserted.{before_again}
use Rattle.scev_tree.proofs.Lower.{cases_lower, told_same, same_itself}
use Rattle.poly_terms.proofs.WeightLemmas.{sum_residue}
use Rattle.scev_polys.proofs.Merges.{higher_apart}

-- what a term of the first monomial gives to the second one
abbrev pub part : Factors → ℕ → Factors → ℕ
part f n g = if same_monomial f g then n else 0

-- the coefficient of a monomial: 0 where it is none of the terms'
abbrev pub coefficient_of : Terms → Factors → ℕ
coefficient_of no_terms g = 0
coefficient_of (term f n ts) g = part f n g + coefficient_of ts g

-- ---- one term

-- a monomial gives to itself
part_itself : (f : Factors) (n : ℕ) → part f n f ≡ n
part_itself f n = cond-true (same_monomial f f) n 0 (same_itself (monomial_code f))

-- none gives to another one
part_apart : (f : Factors) (n : ℕ) (g : Factors) → same_monomial f g ≡ false → part f n g ≡ 0
part_apart f n g h = cond-false (same_monomial f g) n 0 h

-- what is congruent gives what is congruent
part_congruent : (modulus : ℕ) (f : Factors) (n m : ℕ) (g : Factors)
    → n % modulus ≡ m % modulus
    → part f n g % modulus ≡ part f m g % modulus
part_congruent modulus f n m g e =
    elim (same_monomial f g) as (λ b. (if b then n else 0) % modulus ≡ (if b then m else 0) % modulus) [
      | true ↦ e
      | false ↦ refl
    ]

-- two terms of one monomial
part_added : (f : Factors) (n m : ℕ) (g : Factors) → part f (n + m) g ≡ part f n g + part f m g
part_added f n m g =
    elim (same_monomial f g) as (λ b. (if b then n + m else 0) ≡ (if b then n else 0) + (if b then m else 0)) [
      | true ↦ refl
      | false ↦ refl
    ]

-- ---- coefficients of a sum

-- one monomial before terms
before_coefficient : (w : ℕ) (f : Factors) (n : ℕ) (ts : Terms) (g : Factors)
    → coefficient_of (before_terms w f n ts) g % 2 ^ w ≡ (part f n g + coefficient_of ts g) % 2 ^ w
before_coefficient w f n ts g =
    let rest = coefficient_of ts g in
    cond_both (n % 2 ^ w == 0) ts (term f (n % 2 ^ w) ts)
    (λ us. coefficient_of us g % 2 ^ w ≡ (part f n g + rest) % 2 ^ w)
    (λ none.
    let gone : n % 2 ^ w ≡ 0 % 2 ^ w = eqb-true (n % 2 ^ w) 0 none ∙ sym (mod-eq_of_lt (pow_pos w)) in
    let nothing : part f 0 g ≡ 0 = no_part f g in
    let added : rest ≡ part f 0 g + rest = omega arith in
    ap (λ k. k % 2 ^ w) added
    ∙ sum_residue (2 ^ w) (part f 0 g) (part f n g) rest rest (part_congruent (2 ^ w) f 0 n g (sym gone)) refl)
    (λ _. sum_residue (2 ^ w) (part f (n % 2 ^ w) g) (part f n g) rest rest
    (part_congruent (2 ^ w) f (n % 2 ^ w) n g (mod-mod n (2 ^ w))) refl)
  where
    no_part : (f g : Factors) → part f 0 g ≡ 0
    no_part f g =
        elim (same_monomial f g) as (λ b. ◌≡◌ {A = ℕ} (if b then 0 else 0) 0) [ true ↦ refl | false ↦ refl ]

-- one monomial among terms
with_coefficient : (w : ℕ) (f : Factors) (n : ℕ) (ts : Terms) (g : Factors)
    → coefficient_of (with_term w f n ts) g % 2 ^ w ≡ (part f n g + coefficient_of ts g) % 2 ^ w
with_coefficient w f n no_terms g = before_coefficient w f n no_terms g
with_coefficient w f n (term h m ts) g =
    let rest = coefficient_of ts g in
    cond_both (same_monomial f h) _ _
    (λ us. coefficient_of us g % 2 ^ w ≡ (part f n g + (part h m g + rest)) % 2 ^ w)
    (λ same.
    let one : f ≡ h = one_monomial f h (told_same (monomial_code f) (monomial_code h) same) in
    let both : part f (n + m) g ≡ part f n g + part h m g =
    part_added f n m g ∙ ap (λ k. part f n g + part k m g) one in
    let grouped : part f (n + m) g + rest ≡ part f n g + (part h m g + rest) = omega arith in
    before_coefficient w f (n + m) ts g ∙ ap (λ k. k % 2 ^ w) grouped)
    (λ _. cond_both (lower (monomial_code h) (monomial_code f)) _ _
    (λ us. coefficient_of us g % 2 ^ w ≡ (part f n g + (part h m g + rest)) % 2 ^ w)
    (λ _.
    let moved : part h m g + (part f n g + rest) ≡ part f n g + (part h m g + rest) = omega arith in
    sum_residue (2 ^ w) (part h m g) (part h m g) _ _ refl (with_coefficient w f n ts g)
    ∙ ap (λ k. k % 2 ^ w) moved)
    (λ _. before_coefficient w f n (term h m ts) g))

-- the sum
sum_coefficient : (w : ℕ) (ts us : Terms) (g : Factors)
    → coefficient_of (terms_sum w ts us) g % 2 ^ w ≡ (coefficient_of ts g + coefficient_of us g) % 2 ^ w
unfolding terms_sum
sum_coefficient w no_terms us g = ap (λ k. k % 2 ^ w) (omega arith)
sum_coefficient w (term f n ts) us g =
    let grouped : part f n g + (coefficient_of ts g + coefficient_of us g)
    ≡ part f n g + coefficient_of ts g + coefficient_of us g = omega arith in
    with_coefficient w f n (terms_sum w ts us) g
    ∙ sum_residue (2 ^ w) (part f n g) (part f n g) _ _ refl (sum_coefficient w ts us g)
    ∙ ap (λ k. k % 2 ^ w) grouped

-- ---- coefficients of canonical terms

-- a monomial before all terms is none of theirs
none_before : (f : Factors) (ts : Terms) → IsBefore f ts → coefficient_of ts f ≡ 0
none_before f no_terms h = refl
none_before f (term g n ts) h =
    let apart = part_apart g n f (higher_apart g f h.0) in
    let rest = none_before f ts h.1 in
    omega arith

none_at : (w : ℕ) (f : Factors) (ts : Terms) → IsBefore f ts → coefficient_of ts f % 2 ^ w ≡ 0
none_at w f ts h = ap (λ k. k % 2 ^ w) (none_before f ts h) ∙ mod-eq_of_lt (pow_pos w)

-- the first monomial's
first_at : (w : ℕ) (f : Factors) (n : ℕ) (ts : Terms)
    → AreCanonicalTerms w (term f n ts)
    → coefficient_of (term f n ts) f % 2 ^ w ≡ n
first_at w f n ts h =
    let itself = part_itself f n in
    let rest = none_before f ts h.4 in
    let whole : part f n f + coefficient_of ts f ≡ n = omega arith in
    ap (λ k. k % 2 ^ w) whole ∙ mod-eq_of_lt h.3

-- lists that begin with one monomial, and have the same coefficients, have the same behind that
same_rest : (w : ℕ) (f : Factors) (n m : ℕ) (ts us : Terms)
    → IsBefore f ts
    → IsBefore f us
    → ((g : Factors) → coefficient_of (term f n ts) g % 2 ^ w ≡ coefficient_of (term f m us) g % 2 ^ w)
    → (g : Factors)
    → coefficient_of ts g % 2 ^ w ≡ coefficient_of us g % 2 ^ w
same_rest w f n m ts us h h' all g =
    elim (same_monomial f g) as (λ b. same_monomial f g ≡ b
    → coefficient_of ts g % 2 ^ w ≡ coefficient_of us g % 2 ^ w) [
      | true ↦ λ same.
          let one = one_monomial f g (told_same (monomial_code f) (monomial_code g) same) in
          none_at w g ts (subst (λ k. IsBefore k ts) one h) ∙ sym (none_at w g us (subst (λ k. IsBefore k us) one h'))
      | false ↦ λ apart.
          let left = part_apart f n g apart in
          let right = part_apart f m g apart in
          let ts_alone : coefficient_of ts g ≡ part f n g + coefficient_of ts g = omega arith in
          let us_alone : part f m g + coefficient_of us g ≡ coefficient_of us g = omega arith in
          ap (λ k. k % 2 ^ w) ts_alone ∙ all g ∙ ap (λ k. k % 2 ^ w) us_alone
    ] refl

-- a list whose first monomial stands before all others doesn't have their coefficients
first_differs : (w : ℕ) (f : Factors) (n : ℕ) (ts us : Terms)
    → AreCanonicalTerms w (term f n ts)
    → IsBefore f us
    → coefficient_of (term f n ts) f % 2 ^ w ≡ coefficient_of us f % 2 ^ w
    → ⊥
first_differs w f n ts us h before e =
    let some = h.2 in
    let none : n ≡ 0 = sym (first_at w f n ts h) ∙ e ∙ none_at w f us before in
    omega arith

-- Canonical terms with the same coefficients are one list.
one_list : (w : ℕ) (ts us : Terms)
    → AreCanonicalTerms w ts
    → AreCanonicalTerms w us
    → ((g : Factors) → coefficient_of ts g % 2 ^ w ≡ coefficient_of us g % 2 ^ w)
    → ts ≡ us
one_list w no_terms no_terms h h' all = refl
one_list w no_terms (term g m us) h h' all = absurd (first_differs w g m us no_terms h' tt (sym (all g)))
one_list w (term f n ts) no_terms h h' all = absurd (first_differs w f n ts no_terms h tt (all f))
one_list w (term f n ts) (term g m us) h h' all =
    elim (cases_lower (monomial_code f) (monomial_code g)) [
      | inl e ↦
          let one : f ≡ g = one_monomial f g e in
          let all_of_one = subst (λ k. (x : Factors)
          → coefficient_of (term f n ts) x % 2 ^ w ≡ coefficient_of (term k m us) x % 2 ^ w) (sym one) all in
          let before = subst (λ k. IsBefore k us) (sym one) h'.4 in
          let number : n ≡ m = sym (first_at w f n ts h) ∙ all f
          ∙ ap (λ k. coefficient_of (term g m us) k % 2 ^ w) one ∙ first_at w g m us h' in
          let rest : ts ≡ us = one_list w ts us h.5 h'.5 (same_rest w f n m ts us h.4 before all_of_one) in
          cc
      | inr o ↦ elim o [
        | inl less ↦ absurd (first_differs w f n ts (term g m us) h (less, before_again f g us less h'.4) (all f))
        | inr more ↦ absurd (first_differs w g m us (term f n ts) h' (more, before_again g f ts more h.4) (sym (all g)))
      ]
    ]

-- Three summands, in either grouping.
pub sum_grouped : (w : ℕ) (ts us vs : Terms)
    → AreCanonicalTerms w ts
    → AreCanonicalTerms w us
    → AreCanonicalTerms w vs
    → terms_sum w (terms_sum w ts us) vs ≡ terms_sum w ts (terms_sum w us vs)
sum_grouped w ts us vs ht hu hv =
    one_list w (terms_sum w (terms_sum w ts us) vs) (terms_sum w ts (terms_sum w us vs))
    (terms_sum_canonical w (terms_sum w ts us) vs (terms_sum_canonical w ts us ht hu) hv)
    (terms_sum_canonical w ts (terms_sum w us vs) ht (terms_sum_canonical w us vs hu hv))
    (λ g.
    let a = coefficient_of ts g in
    let b = coefficient_of us g in
    let c = coefficient_of vs g in
    let grouped : a + b + c ≡ a + (b + c) = omega arith in
    sum_coefficient w (terms_sum w ts us) vs g
    ∙ sum_residue (2 ^ w) _ (a + b) c c (sum_coefficient w ts us g) refl
    ∙ ap (λ k. k % 2 ^ w) grouped
    ∙ sym (sum_residue (2 ^ w) a a _ (b + c) refl (sum_coefficient w us vs g))
    ∙ sym (sum_coefficient w ts (terms_sum w us vs) g))
