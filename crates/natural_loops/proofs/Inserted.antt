-- A list of which each two elements stand in order, with one more element in its place.
use Rattle.std.proofs.Common.{◌≡◌, ◌⊎◌, ℕ, ◌+◌, ◌-◌, ◌<◌, ◌≤◌, List, ◌∷◌, length, get_or, take, drop}
use Rattle.std.proofs.Common.{AllPairs, Contains, sym, ap, ◌∙◌, subst, inl, inr, refl, arith}
use Rattle.std.specs.List.{insert}
use Rattle.std.proofs.lemmas.Bool.{cases_eq, cases_lt}
use Rattle.std.proofs.lemmas.List.{take-append-drop}
use Rattle.std.proofs.lemmas.List.Elements.{Contains-append_left, Contains-append_right, Contains-append_cases}
use Rattle.std.proofs.lemmas.List.Edits.{length-insert, get_or-insert_below, get_or-insert_at, get_or-insert_above}
use Rattle.ssa_check.proofs.Elements.{contains_later, contains_cases}

module _ {X : Type 0} (xs : List X) (n : ℕ) (x : X) where
  -- the elements are those and one more
  pub insert_contains : (y : X) → Contains (insert xs n x) y → Contains xs y ⊎ (x ≡ y)
  insert_contains y there =
      elim (Contains-append_cases (take n xs) (x ∷ drop n xs) y there) [
        | inl before ↦
            inl (subst (λ (ys : List X). Contains ys y) (take-append-drop n xs)
            (Contains-append_left (take n xs) (drop n xs) y before))
        | inr later ↦
            elim (contains_cases x (drop n xs) y later) [
              | inl is ↦ inr is
              | inr behind ↦
                  inl (subst (λ (ys : List X). Contains ys y) (take-append-drop n xs)
                  (Contains-append_right (take n xs) (drop n xs) y behind))
            ]
      ]

  pub contains_old : (y : X) → Contains xs y → Contains (insert xs n x) y
  contains_old y there =
      let split = subst (λ (ys : List X). Contains ys y) (sym (take-append-drop n xs)) there in
      elim (Contains-append_cases (take n xs) (drop n xs) y split) [
        | inl before ↦ Contains-append_left (take n xs) (x ∷ drop n xs) y before
        | inr behind ↦
            Contains-append_right (take n xs) (x ∷ drop n xs) y (contains_later x (drop n xs) y behind)
      ]

  pub contains_new : Contains (insert xs n x) x
  contains_new = Contains-append_right (take n xs) (x ∷ drop n xs) x (0, omega arith, refl)

  module _ (within : n ≤ length xs) (d : X) where
    -- what stands at a place: an old element before the new one, the new one, or an old element behind it
    Here : ℕ → Type 0
    Here k = ((k < n) × (get_or (insert xs n x) k d ≡ get_or xs k d))
        ⊎ (((k ≡ n) × (get_or (insert xs n x) k d ≡ x))
        ⊎ ((p : ℕ) × (k ≡ p + 1) × (n ≤ p) × (get_or (insert xs n x) k d ≡ get_or xs p d)))

    here_at : (k : ℕ) → Here k
    unfolding Here
    here_at k =
        elim (cases_lt k n) [
          | inl low ↦ inl (low, get_or-insert_below xs n x d k low within)
          | inr high ↦
              elim (cases_eq k n) [
                | inl is ↦
                    inr (inl (is, ap (λ (j : ℕ). get_or (insert xs n x) j d) is ∙ get_or-insert_at xs n x d within))
                | inr apart ↦
                    let p : ℕ = k - 1 in
                    let next : k ≡ p + 1 = omega (arith, high, apart) in
                    let behind : n ≤ p = omega (arith, high, apart) in
                    inr (inr (
                      p,
                      next,
                      behind,
                      ap (λ (j : ℕ). get_or (insert xs n x) j d) next
                          ∙ get_or-insert_above xs n x d p behind within,
                    ))
              ]
        ]

    module _ (R : X → X → Type 0) (sorted : AllPairs R xs)
        (before : (k : ℕ) → k < n → R (get_or xs k d) x)
        (behind : (k : ℕ) → n ≤ k → k < length xs → R x (get_or xs k d))
      where
        moved : (a b u v : X) → a ≡ u → b ≡ v → R u v → R a b
        moved a b u v e g r = subst (λ (p : X). R p b) (sym e) (subst (λ (q : X). R u q) (sym g) r)

        two : (i j : ℕ) → i < j → j < length xs + 1 → Here i → Here j
            → R (get_or (insert xs n x) i d) (get_or (insert xs n x) j d)
        unfolding Here
        two i j less top (inl a) (inl b) =
            moved _ _ _ _ a.1 b.1 (sorted i j d less (omega (arith, b.0, within)))
        two i j less top (inl a) (inr (inl b)) = moved _ _ _ _ a.1 b.1 (before i a.0)
        two i j less top (inl a) (inr (inr b)) =
            moved _ _ _ _ a.1 b.3 (sorted i b.0 d (omega (arith, a.0, b.2)) (omega (arith, b.1, top)))
        two i j less top (inr (inl a)) (inl b) = absurd (omega (arith, less, a.0, b.0))
        two i j less top (inr (inl a)) (inr (inl b)) = absurd (omega (arith, less, a.0, b.0))
        two i j less top (inr (inl a)) (inr (inr b)) =
            moved _ _ _ _ a.1 b.3 (behind b.0 b.2 (omega (arith, b.1, top)))
        two i j less top (inr (inr a)) (inl b) = absurd (omega (arith, less, a.1, a.2, b.0))
        two i j less top (inr (inr a)) (inr (inl b)) = absurd (omega (arith, less, a.1, a.2, b.0))
        two i j less top (inr (inr a)) (inr (inr b)) =
            moved _ _ _ _ a.3 b.3
            (sorted a.0 b.0 d (omega (arith, less, a.1, b.1)) (omega (arith, b.1, top)))

        pub pair_inserted : (i j : ℕ) → i < j → j < length (insert xs n x)
            → R (get_or (insert xs n x) i d) (get_or (insert xs n x) j d)
        pair_inserted i j less top =
            two i j less (omega (arith, top, length-insert xs n x within)) (here_at i) (here_at j)

-- in order, where the new one fits what stands before it, and what stands behind it
pub AllPairs-insert : {X : Type 0} (R : X → X → Type 0) (xs : List X) (n : ℕ) (x : X) → n ≤ length xs → AllPairs R xs
    → ((k : ℕ) (d : X) → k < n → R (get_or xs k d) x)
    → ((k : ℕ) (d : X) → n ≤ k → k < length xs → R x (get_or xs k d)) → AllPairs R (insert xs n x)
AllPairs-insert R xs n x within sorted before behind i j d less top =
    pair_inserted xs n x within d R sorted (λ k. before k d) (λ k. behind k d) i j less top
