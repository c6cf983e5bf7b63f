-- Phis of a component among the first values.
use Rattle.std.proofs.Common.{◌≡◌, ◌≢◌, ℕ, zero, suc, ◌+◌, ◌<◌, ◌≤◌, Bool, true, false, cond, List, []}
use Rattle.std.proofs.Common.{◌∷◌, ◌++◌, length, get_or, AllPairs, Contains, refl, sym, ap, ◌∙◌, subst, inl, inr}
use Rattle.std.proofs.Common.{add-one, arith}
use Rattle.std.proofs.lemmas.Bool.{cases_eq}
use Rattle.std.proofs.lemmas.List.{append-nil, length-append, length_push, get_or_append_left, get_or_push}
use Rattle.std.proofs.lemmas.List.Elements.{Contains-append_left, Contains-append_right, Contains-append_cases}
use Rattle.std.proofs.lemmas.List.Elements.{Contains-get_or}
use Rattle.std.proofs.lemmas.List.Quantifiers.{all_pairs_push}
use Rattle.value_groups.specs.Counts.{is_phi_of, phis_of, AreCounted}

-- ---- one value, or none

one_only : (b : Bool) (v p : ℕ) → Contains (cond b (v ∷ []) []) p → (b ≡ true) × (v ≡ p)
one_only true v p (zero, within, is) = (refl, is)
one_only true v p (suc k, within, is) = absurd (omega (arith, within))
one_only false v p there = absurd (omega (arith, there.1))

one_has : (b : Bool) (v p : ℕ) → b ≡ true → v ≡ p → Contains (cond b (v ∷ []) []) p
one_has true v p is e = (0, omega arith, e)
one_has false v p is e = absurd (cc)

length_one : (b : Bool) (v : ℕ) → length (cond b (v ∷ []) []) ≡ cond b 1 0
length_one true v = refl
length_one false v = refl

at_most_one : (b : Bool) → cond b 1 0 ≤ 1
at_most_one true = omega arith
at_most_one false = omega arith

apart_with : (b : Bool) (xs : List ℕ) (v : ℕ) → AllPairs (λ x y. x ≢ y) xs
    → ((k d : ℕ) → k < length xs → get_or xs k d ≢ v) → AllPairs (λ x y. x ≢ y) (xs ++ cond b (v ∷ []) [])
apart_with true xs v apart other = all_pairs_push (λ (x y : ℕ). x ≢ y) xs v apart other
apart_with false xs v apart other = subst (λ (ys : List ℕ). AllPairs (λ x y. x ≢ y) ys) (sym (append-nil xs)) apart

-- ---- the phis

module _ (turns : List Bool) (components : List ℕ) (c : ℕ) where
  abbrev is_phi : ℕ → Bool
  is_phi v = is_phi_of turns components c v

  abbrev phis : ℕ → List ℕ
  phis n = phis_of turns components c n

  pub phis_only : (n p : ℕ) → Contains (phis n) p → (p < n) × (is_phi p ≡ true)
  unfolding phis_of
  phis_only zero p there = absurd (omega (arith, there.1))
  phis_only (suc n) p there =
      elim (Contains-append_cases (phis n) (cond (is_phi n) (n ∷ []) []) p there) [
        | inl before ↦
            let h = phis_only n p before in
            (omega (arith, h.0), h.1)
        | inr here ↦
            let h = one_only (is_phi n) n p here in
            (omega (arith, h.1), subst (λ (v : ℕ). is_phi v ≡ true) h.1 h.0)
      ]

  pub phis_has : (n p : ℕ) → p < n → is_phi p ≡ true → Contains (phis n) p
  unfolding phis_of
  phis_has zero p low is = absurd (omega (arith, low))
  phis_has (suc n) p low is =
      elim (cases_eq n p) [
        | inl e ↦ Contains-append_right (phis n) (cond (is_phi n) (n ∷ []) []) p
            (one_has (is_phi n) n p (subst (λ (v : ℕ). is_phi v ≡ true) (sym e) is) e)
        | inr other ↦ Contains-append_left (phis n) (cond (is_phi n) (n ∷ []) []) p
            (phis_has n p (omega (arith, low, other)) is)
      ]

  pub phis_apart : (n : ℕ) → AllPairs (λ a b. a ≢ b) (phis n)
  unfolding phis_of
  phis_apart zero = λ i j d less within. absurd (omega (arith, within))
  phis_apart (suc n) =
      apart_with (is_phi n) (phis n) n (phis_apart n)
      (λ k d within e.
      let low = (phis_only n (get_or (phis n) k d) (Contains-get_or (phis n) k d within)).0 in
      absurd (omega (arith, low, e)))

  phis_next : (n : ℕ) → length (phis (suc n)) ≡ length (phis n) + cond (is_phi n) 1 0
  unfolding phis_of
  phis_next n =
      length-append (phis n) (cond (is_phi n) (n ∷ []) [])
      ∙ ap (λ (k : ℕ). length (phis n) + k) (length_one (is_phi n) n)

  pub phis_more : (n : ℕ) → length (phis (n + 1)) ≡ length (phis n) + cond (is_phi n) 1 0
  phis_more n = ap (λ (k : ℕ). length (phis k)) (add-one n) ∙ phis_next n

  pub length_none : length (phis 0) ≡ 0
  unfolding phis_of
  length_none = refl

  -- there are no more of them than values
  pub phis_most : (n : ℕ) → length (phis n) ≤ n
  phis_most zero = omega (arith, length_none)
  phis_most (suc n) = omega (arith, phis_next n, at_most_one (is_phi n), phis_most n)

  phis_up : (m n : ℕ) → m ≤ n → length (phis m) ≤ length (phis n)
  phis_up m zero most =
      let e : m ≡ 0 = omega (arith, most) in
      rw e (omega arith)
  phis_up m (suc n) most =
      elim (cases_eq m (suc n)) [
        | inl e ↦ rw e (omega arith)
        | inr other ↦ omega (arith, phis_next n, phis_up m n (omega (arith, most, other)))
      ]

  -- behind one of them there are more
  pub phis_behind : (p n : ℕ) → is_phi p ≡ true → p < n → length (phis p) < length (phis n)
  phis_behind p n is low =
      let one : cond (is_phi p) 1 0 ≡ 1 = ap {B = ℕ} (λ (b : Bool). cond b 1 0) is in
      omega (arith, phis_next p, one, phis_up (suc p) n (omega (arith, low)))

-- ---- places

-- for each of so many values how many phis before it are of its component
pub record AreCountedBelow (turns : List Bool) (components places : List ℕ) (n : ℕ) : Type 0 where
  pub size : length places ≡ n
  pub each : (v : ℕ) → v < n → get_or places v 0 ≡ length (phis_of turns components (get_or components v 0) v)

pub AreCountedBelow_none : (turns : List Bool) (components : List ℕ) → AreCountedBelow turns components [] 0
AreCountedBelow_none turns components = record { size = refl; each = λ v low. absurd (omega (arith, low)) }

pub AreCountedBelow_more : (turns : List Bool) (components places : List ℕ) (n place : ℕ)
    → place ≡ length (phis_of turns components (get_or components n 0) n)
    → AreCountedBelow turns components places n → AreCountedBelow turns components (places ++ place ∷ []) (n + 1)
AreCountedBelow_more turns components places n place is to = record {
  size = length_push places place ∙ ap (λ (k : ℕ). k + 1) to.size;
  each = λ v low.
      elim (cases_eq v n) [
        | inl e ↦ rw (e, get_or_push places place 0 n to.size) is
        | inr other ↦
            let lower : v < n = omega (arith, low, other) in
            get_or_append_left places (place ∷ []) 0 v (omega (arith, lower, to.size)) ∙ to.each v lower
      ];
}

pub AreCounted_all : (turns : List Bool) (components places : List ℕ) (n : ℕ) → n ≡ length components
    → AreCountedBelow turns components places n → AreCounted turns components places
AreCounted_all turns components places n end to = record {
  size = to.size ∙ end;
  each = λ v low. to.each v (omega (arith, low, end));
}
