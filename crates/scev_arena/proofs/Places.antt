-- Places of lists that go on.
use Rattle.std.proofs.Common.{◌≡◌, ℕ, zero, suc, ◌<◌, ◌≤◌, ◌⊎◌, inl, inr, List, [], ◌∷◌, ◌++◌, length, take, Some, None, slice_get, refl, ap, arith}

-- a place stays where more stands behind the list
pub place_before : {A : Type 0} (xs ys : List A) (i : ℕ) → i < length xs → slice_get (xs ++ ys) i ≡ slice_get xs i
place_before [] ys i h = absurd (omega arith)
place_before (x ∷ xs) ys zero h = refl
place_before (x ∷ xs) ys (suc i) h = place_before xs ys i (omega arith)

-- the place of one more is the length
pub place_behind : {A : Type 0} (xs : List A) (y : A) (ys : List A) → slice_get (xs ++ y ∷ ys) (length xs) ≡ Some y
place_behind [] y ys = refl
place_behind (x ∷ xs) y ys = place_behind xs y ys

-- past the end is no place
pub place_past : {A : Type 0} (xs : List A) (i : ℕ) → length xs ≤ i → slice_get xs i ≡ None
place_past [] i h = refl
place_past (x ∷ xs) zero h = absurd (omega arith)
place_past (x ∷ xs) (suc i) h = place_past xs i (omega arith)

-- what stands at a place below the length
pub at_place : {A : Type 0} (xs : List A) (i : ℕ) → i < length xs → (x : A) × (slice_get xs i ≡ Some x)
at_place [] i h = absurd (omega arith)
at_place (x ∷ xs) zero h = (x, refl)
at_place (x ∷ xs) (suc i) h = at_place xs i (omega arith)

-- a place with something is below the length
pub place_within : {A : Type 0} (xs : List A) (i : ℕ) (x : A) → slice_get xs i ≡ Some x → i < length xs
place_within [] i x e = absurd (cc e)
place_within (y ∷ xs) zero x e = omega arith
place_within (y ∷ xs) (suc i) x e = let rest = place_within xs i x e in omega arith

-- the first of two lists
pub take_front : {A : Type 0} (xs ys : List A) → take (length xs) (xs ++ ys) ≡ xs
take_front [] ys = refl
take_front (x ∷ xs) ys = ap (λ l. x ∷ l) (take_front xs ys)

-- a beginning stays where more stands behind the list
pub take_before : {A : Type 0} (xs ys : List A) (i : ℕ) → i ≤ length xs → take i (xs ++ ys) ≡ take i xs
take_before xs ys zero h = refl
take_before [] ys (suc i) h = absurd (omega arith)
take_before (x ∷ xs) ys (suc i) h = ap (λ l. x ∷ l) (take_before xs ys i (omega arith))

-- a place of a list with one more is one of the list, or the last
pub place_of_more : {A : Type 0} (xs : List A) (y z : A) (i : ℕ) → slice_get (xs ++ y ∷ []) i ≡ Some z
    → ((i < length xs) × (slice_get xs i ≡ Some z)) ⊎ ((i ≡ length xs) × (y ≡ z))
place_of_more [] y z zero e = inr (refl, cc e)
place_of_more [] y z (suc i) e = absurd (cc e)
place_of_more (x ∷ xs) y z zero e = inl (omega arith, e)
place_of_more (x ∷ xs) y z (suc i) e =
    elim (place_of_more xs y z i e) [
      | inl old ↦ inl (let less = old.0 in omega arith, old.1)
      | inr last ↦ inr (ap suc last.0, last.1)
    ]
