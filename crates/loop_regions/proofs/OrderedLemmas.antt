-- Two lists in one strict order that contain the same are one list.
use Rattle.std.proofs.Common.{◌≡◌, ◌↔◌, zero, suc, ◌⊎◌, List, [], ◌∷◌, AllPairs, Contains, refl, sym, ◌∙◌, subst, inl, inr, arith}

module _ {X : Type 0} where
  pub first_or_later : (y : X) (ys : List X) (x : X) → Contains (y ∷ ys) x → (y ≡ x) ⊎ Contains ys x
  first_or_later y ys x (zero, within, is) = inl is
  first_or_later y ys x (suc k, within, is) = inr (k, omega arith, is)

  at_first : (y : X) (ys : List X) → Contains (y ∷ ys) y
  at_first y ys = (0, omega arith, refl)

  at_later : (y : X) (ys : List X) (x : X) → Contains ys x → Contains (y ∷ ys) x
  at_later y ys x there = (suc there.0, omega (arith, there.1), there.2)

  first_before : (R : X → X → Type 0) (y : X) (ys : List X) (x : X) → AllPairs R (y ∷ ys) → Contains ys x → R y x
  first_before R y ys x ordered there =
      subst (R y) there.2 (ordered 0 (suc there.0) x (omega arith) (omega (arith, there.1)))

  later_ordered : (R : X → X → Type 0) (y : X) (ys : List X) → AllPairs R (y ∷ ys) → AllPairs R ys
  later_ordered R y ys ordered = λ i j d low high. ordered (suc i) (suc j) d (omega arith) (omega (arith, high))

  -- what follows the first element of one list follows it in the other one
  follows_too : (R : X → X → Type 0) (x y : X) (xs ys : List X) → (R x x → ⊥) → x ≡ y → AllPairs R (x ∷ xs) → ((a : X) → Contains (x ∷ xs) a → Contains (y ∷ ys) a) → (a : X) → Contains xs a → Contains ys a
  follows_too R x y xs ys apart same ordered goes a there =
      elim (first_or_later y ys a (goes a (at_later x xs a there))) [
        | inl e ↦ absurd (apart (subst (R x) (sym (same ∙ e)) (first_before R x xs a ordered there)))
        | inr later ↦ later
      ]

  -- the order is strict between the elements that P holds of
  pub one_ordered : (R : X → X → Type 0) (P : X → Type 0) → ((a b : X) → P a → P b → R a b → R b a → ⊥) → (xs ys : List X) → ((a : X) → Contains xs a → P a) → ((a : X) → Contains xs a ↔ Contains ys a) → AllPairs R xs → AllPairs R ys → xs ≡ ys
  one_ordered R P apart [] [] each same x_ordered y_ordered = refl
  one_ordered R P apart [] (y ∷ ys) each same x_ordered y_ordered =
      let none = (same y).1 (at_first y ys) in
      absurd (omega (arith, none.1))
  one_ordered R P apart (x ∷ xs) [] each same x_ordered y_ordered =
      let none = (same x).0 (at_first x xs) in
      absurd (omega (arith, none.1))
  one_ordered R P apart (x ∷ xs) (y ∷ ys) each same x_ordered y_ordered =
      let P_x = each x (at_first x xs) in
      let P_y = each y ((same y).1 (at_first y ys)) in
      let first : x ≡ y =
      elim (first_or_later y ys x ((same x).0 (at_first x xs))) [
        | inl e ↦ sym e
        | inr x_later ↦
            elim (first_or_later x xs y ((same y).1 (at_first y ys))) [
              | inl e ↦ e
              | inr y_later ↦
                  absurd (apart x y P_x P_y (first_before R x xs y x_ordered y_later) (first_before R y ys x y_ordered x_later))
            ]
      ] in
      let rest : xs ≡ ys =
      one_ordered R P apart xs ys (λ a there. each a (at_later x xs a there)) (λ a. (
        follows_too R x y xs ys (λ r. apart x x P_x P_x r r) first x_ordered (λ a there. (same a).0 there) a,
        follows_too R y x ys xs (λ r. apart y y P_y P_y r r) (sym first) y_ordered (λ a there. (same a).1 there) a,
      )) (later_ordered R x xs x_ordered) (later_ordered R y ys y_ordered) in
      rw (first, rest) refl
