-- A factor, or a monomial, more: the list stays in order, and canonical.
use Rattle.std.proofs.Common.{◌≡◌, ℕ, ◌+◌, ◌%◌, ◌^◌, ◌<◌, true, false, ◌==◌, inl, inr}
use Rattle.std.proofs.Common.{List, [], ◌∷◌, refl, sym, ap, ◌∙◌, subst, arith}
use Rattle.std.specs.List.Sorted.{IsPermutation}
use Rattle.std.proofs.lemmas.Bool.{cond_both, cond-true, cond-false, eqb-false}
use Rattle.std.proofs.lemmas.Nat.{pow_pos, mod_below}
use Rattle.std.proofs.lemmas.List.Sorted.{IsPermutation-refl, IsPermutation-middle, IsPermutation-cons, IsPermutation-trans}
use Rattle.scev_tree.specs.Tree.{Terms, Factors, Atom, no_terms, term, no_factors, factor}
use Rattle.scev_tree.specs.Order.{lower, atom_code, monomial_code, same_monomial}
use Rattle.scev_tree.specs.Canonical.{with_factor, joined_factors, before_terms, with_term}
use Rattle.scev_tree.specs.Canonical.{AreFrom, Ascend, IsBefore, AreCanonicalTerms, AreCanonicalFactors, IsCanonicalAtom}
use Rattle.scev_tree.proofs.Codes.{one_atom, one_monomial}
use Rattle.scev_tree.proofs.Lower.{lower_again, cases_lower, never_both, from_again, told_same, told_apart}

-- ---- factors

-- an atom stands before a factor that isn't lower
pub first_factor : (a b : Atom) (f : Factors)
    → lower (atom_code b) (atom_code a) ≡ false
    → with_factor a (factor b f) ≡ factor a (factor b f)
first_factor a b f h =
    cond-false (lower (atom_code b) (atom_code a)) (factor b (with_factor a f)) (factor a (factor b f)) h

-- an atom stands behind a lower factor
pub later_factor : (a b : Atom) (f : Factors)
    → lower (atom_code b) (atom_code a) ≡ true
    → with_factor a (factor b f) ≡ factor b (with_factor a f)
later_factor a b f h =
    cond-true (lower (atom_code b) (atom_code a)) (factor b (with_factor a f)) (factor a (factor b f)) h

-- factors that aren't lower than one atom aren't lower than one below it
pub from_lower : (low a : Atom) (f : Factors)
    → lower (atom_code a) (atom_code low) ≡ false
    → AreFrom a f
    → AreFrom low f
from_lower low a no_factors h all = tt
from_lower low a (factor b f) h all = (
  from_again (atom_code low) (atom_code a) (atom_code b) h all.0,
  from_lower low a f h all.1,
)

-- an atom that isn't lower than another joins factors that aren't
pub from_with_factor : (low a : Atom) (f : Factors)
    → lower (atom_code a) (atom_code low) ≡ false
    → AreFrom low f
    → AreFrom low (with_factor a f)
from_with_factor low a no_factors h all = (h, tt)
from_with_factor low a (factor b f) h all =
    cond_both (lower (atom_code b) (atom_code a)) (factor b (with_factor a f)) (factor a (factor b f)) (AreFrom low)
    (λ _. (all.0, from_with_factor low a f h all.1))
    (λ _. (h, all))

-- factors that ascend do with one more
pub with_factor_ascends : (a : Atom) (f : Factors) → Ascend f → Ascend (with_factor a f)
with_factor_ascends a no_factors h = (tt, tt)
with_factor_ascends a (factor b f) h =
    cond_both (lower (atom_code b) (atom_code a)) (factor b (with_factor a f)) (factor a (factor b f)) Ascend
    (λ below. (
      from_with_factor b a f (never_both (atom_code b) (atom_code a) below) h.0,
      with_factor_ascends a f h.1,
    ))
    (λ from. ((from, from_lower a b f from h.0), h))

-- a product of monomials ascends where the second one does
pub joined_factors_ascend : (f g : Factors) → Ascend g → Ascend (joined_factors f g)
joined_factors_ascend no_factors g h = h
joined_factors_ascend (factor a f) g h =
    with_factor_ascends a (joined_factors f g) (joined_factors_ascend f g h)

-- the atoms of a monomial, in order
abbrev pub atoms_of : Factors → List Atom
atoms_of no_factors = []
atoms_of (factor a f) = a ∷ atoms_of f

-- one more factor is one more atom, and no other change but of the order
pub with_factor_has : (a : Atom) (f : Factors) → IsPermutation (a ∷ atoms_of f) (atoms_of (with_factor a f))
with_factor_has a no_factors = IsPermutation-refl (a ∷ [])
with_factor_has a (factor b f) =
    cond_both (lower (atom_code b) (atom_code a)) (factor b (with_factor a f)) (factor a (factor b f))
    (λ g. IsPermutation (a ∷ b ∷ atoms_of f) (atoms_of g))
    (λ _. IsPermutation-trans _ _ _
    (IsPermutation-middle (a ∷ []) b (atoms_of f))
    (IsPermutation-cons b _ _ (with_factor_has a f)))
    (λ _. IsPermutation-refl (a ∷ b ∷ atoms_of f))

-- two factors, of which the first is lower, in either order
lower_commutes : (a b : Atom) (f : Factors)
    → lower (atom_code a) (atom_code b) ≡ true
    → with_factor a (with_factor b f) ≡ with_factor b (with_factor a f)
lower_commutes a b no_factors h =
    let not_back = never_both (atom_code a) (atom_code b) h in
    first_factor a b no_factors not_back ∙ sym (later_factor b a no_factors h)
lower_commutes a b (factor c f) h =
    let not_back = never_both (atom_code a) (atom_code b) h in
    elim (lower (atom_code c) (atom_code a)) as (λ x. lower (atom_code c) (atom_code a) ≡ x
    → with_factor a (with_factor b (factor c f)) ≡ with_factor b (with_factor a (factor c f))) [
      | true ↦ λ below.
          let below_both = lower_again (atom_code c) (atom_code a) (atom_code b) below h in
          ap (with_factor a) (later_factor b c f below_both) ∙ later_factor a c (with_factor b f) below
          ∙ ap (factor c) (lower_commutes a b f h)
          ∙ sym (ap (with_factor b) (later_factor a c f below) ∙ later_factor b c (with_factor a f) below_both)
      | false ↦ λ from.
          elim (lower (atom_code c) (atom_code b)) as (λ x. lower (atom_code c) (atom_code b) ≡ x
          → with_factor a (with_factor b (factor c f)) ≡ with_factor b (with_factor a (factor c f))) [
            | true ↦ λ below.
                ap (with_factor a) (later_factor b c f below) ∙ first_factor a c (with_factor b f) from
                ∙ sym (ap (with_factor b) (first_factor a c f from) ∙ later_factor b a (factor c f) h
                ∙ ap (factor a) (later_factor b c f below))
            | false ↦ λ above.
                ap (with_factor a) (first_factor b c f above) ∙ first_factor a b (factor c f) not_back
                ∙ sym (ap (with_factor b) (first_factor a c f from) ∙ later_factor b a (factor c f) h
                ∙ ap (factor a) (first_factor b c f above))
          ] refl
    ] refl

-- two factors give one monomial in either order
pub with_factor_commutes : (a b : Atom) (f : Factors)
    → with_factor a (with_factor b f) ≡ with_factor b (with_factor a f)
with_factor_commutes a b f =
    elim (cases_lower (atom_code a) (atom_code b)) [
      | inl e ↦
          let same = one_atom a b e in
          ap (λ x. with_factor x (with_factor b f)) same ∙ sym (ap (λ x. with_factor b (with_factor x f)) same)
      | inr o ↦ elim o [
        | inl h ↦ lower_commutes a b f h
        | inr h ↦ sym (lower_commutes b a f h)
      ]
    ]

-- canonical atoms stay so with one more
pub with_factor_canonical : (w : ℕ) (a : Atom) (f : Factors)
    → IsCanonicalAtom w a
    → AreCanonicalFactors w f
    → AreCanonicalFactors w (with_factor a f)
with_factor_canonical w a no_factors h hs = (h, tt)
with_factor_canonical w a (factor b f) h hs =
    cond_both (lower (atom_code b) (atom_code a)) (factor b (with_factor a f)) (factor a (factor b f))
    (AreCanonicalFactors w)
    (λ _. (hs.0, with_factor_canonical w a f h hs.1))
    (λ _. (h, hs))

-- the product of canonical atoms
pub joined_factors_canonical : (w : ℕ) (f g : Factors)
    → AreCanonicalFactors w f
    → AreCanonicalFactors w g
    → AreCanonicalFactors w (joined_factors f g)
joined_factors_canonical w no_factors g h hs = hs
joined_factors_canonical w (factor a f) g h hs =
    with_factor_canonical w a (joined_factors f g) h.0 (joined_factors_canonical w f g h.1 hs)

-- ---- terms

-- what stands before a monomial stands before the terms behind that
pub before_again : (f g : Factors) (ts : Terms)
    → lower (monomial_code f) (monomial_code g) ≡ true
    → IsBefore g ts
    → IsBefore f ts
before_again f g no_terms h all = tt
before_again f g (term others n ts) h all = (
  lower_again (monomial_code f) (monomial_code g) (monomial_code others) h all.0,
  before_again f g ts h all.1,
)

-- the coefficient of a term that isn't 0
some_coefficient : (w c : ℕ) → (c % 2 ^ w == 0) ≡ false → 0 < c % 2 ^ w
some_coefficient w c h =
    let ne = eqb-false (c % 2 ^ w) 0 h in
    omega arith

-- a monomial before terms that it may stand before
before_terms_canonical : (w : ℕ) (f : Factors) (c : ℕ) (ts : Terms)
    → Ascend f
    → AreCanonicalFactors w f
    → IsBefore f ts
    → AreCanonicalTerms w ts
    → AreCanonicalTerms w (before_terms w f c ts)
before_terms_canonical w f c ts ascends atoms before rest =
    cond_both (c % 2 ^ w == 0) ts (term f (c % 2 ^ w) ts) (AreCanonicalTerms w)
    (λ _. rest)
    (λ some. (ascends, atoms, some_coefficient w c some, mod_below c (2 ^ w) (pow_pos w), before, rest))

-- a monomial put before terms stands behind a lower one
pub before_terms_behind : (g : Factors) (w : ℕ) (f : Factors) (c : ℕ) (ts : Terms)
    → lower (monomial_code g) (monomial_code f) ≡ true
    → IsBefore g ts
    → IsBefore g (before_terms w f c ts)
before_terms_behind g w f c ts h before =
    cond_both (c % 2 ^ w == 0) ts (term f (c % 2 ^ w) ts) (IsBefore g) (λ _. before) (λ _. (h, before))

-- a monomial put among terms stands behind a lower one
pub with_term_behind : (g : Factors) (w : ℕ) (f : Factors) (c : ℕ) (ts : Terms)
    → lower (monomial_code g) (monomial_code f) ≡ true
    → IsBefore g ts
    → IsBefore g (with_term w f c ts)
with_term_behind g w f c no_terms h before = before_terms_behind g w f c no_terms h before
with_term_behind g w f c (term others n ts) h before =
    cond_both (same_monomial f others) _ _ (IsBefore g)
    (λ _. before_terms_behind g w f (c + n) ts h before.1)
    (λ _. cond_both (lower (monomial_code others) (monomial_code f)) _ _ (IsBefore g)
    (λ _. (before.0, with_term_behind g w f c ts h before.1))
    (λ _. before_terms_behind g w f c (term others n ts) h before))

-- a monomial that is neither another one nor behind it is before it
before_other : (f others : Factors)
    → same_monomial f others ≡ false
    → lower (monomial_code others) (monomial_code f) ≡ false
    → lower (monomial_code f) (monomial_code others) ≡ true
before_other f others apart from =
    elim (cases_lower (monomial_code f) (monomial_code others)) [
      | inl e ↦ absurd (told_apart (monomial_code f) (monomial_code others) apart e)
      | inr o ↦ elim o [ inl h ↦ h | inr h ↦ absurd cc ]
    ]

-- canonical terms stay so with one more
pub with_term_canonical : (w : ℕ) (f : Factors) (c : ℕ) (ts : Terms)
    → Ascend f
    → AreCanonicalFactors w f
    → AreCanonicalTerms w ts
    → AreCanonicalTerms w (with_term w f c ts)
with_term_canonical w f c no_terms ascends atoms h = before_terms_canonical w f c no_terms ascends atoms tt tt
with_term_canonical w f c (term others n ts) ascends atoms h =
    cond_both (same_monomial f others) _ _ (AreCanonicalTerms w)
    (λ same.
    let one = one_monomial f others (told_same (monomial_code f) (monomial_code others) same) in
    let before : IsBefore f ts = subst (λ g. IsBefore g ts) (sym one) h.4 in
    before_terms_canonical w f (c + n) ts ascends atoms before h.5)
    (λ apart. cond_both (lower (monomial_code others) (monomial_code f)) _ _ (AreCanonicalTerms w)
    (λ behind. (
      h.0,
      h.1,
      h.2,
      h.3,
      with_term_behind others w f c ts behind h.4,
      with_term_canonical w f c ts ascends atoms h.5,
    ))
    (λ from.
    let first = before_other f others apart from in
    before_terms_canonical w f c (term others n ts) ascends atoms (first, before_again f others ts first h.4) h))
