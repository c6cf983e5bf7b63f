-- The first place of a list that is put together of others.
use Rattle.std.proofs.Common.{◌≡◌, ℕ, ◌+◌, ◌<◌, ◌≤◌, List, [], ◌∷◌, ◌++◌, Some, None, length, get_or, drop, slice_get}
use Rattle.std.proofs.Common.{refl, sym, ap, ◌∙◌}
use Rattle.std.specs.List.{flat_map}
use Rattle.std.specs.Option.{option_or}
use Rattle.std.proofs.lemmas.List.{drop_more, drop_all}

-- the first of two lists joined
pub first-append : {A : Type 0} (xs ys : List A)
    → slice_get (xs ++ ys) 0 ≡ option_or (slice_get xs 0) (slice_get ys 0)
first-append [] ys = refl
first-append (x ∷ xs) ys = refl

-- what is left of a list at an item of it
pub rest_at : {X : Type 0} (xs : List X) (i : ℕ) (x : X) → i < length xs → x ≡ get_or xs i x
    → drop i xs ≡ x ∷ drop (i + 1) xs
rest_at xs i x within is = drop_more xs i x within ∙ ap (λ first. first ∷ drop (i + 1) xs) (sym is)

module _ {X A : Type 0} (f : X → List A) (xs : List X) (i : ℕ) where
  -- the first place of what is left, where the next item has one, and where it has none
  pub first_found : (x : X) (at : A) → i < length xs → x ≡ get_or xs i x → slice_get (f x) 0 ≡ Some at
      → slice_get (flat_map f (drop i xs)) 0 ≡ Some at
  first_found x at within is found =
      ap (λ rest. slice_get (flat_map f rest) 0) (rest_at xs i x within is)
      ∙ first-append (f x) (flat_map f (drop (i + 1) xs))
      ∙ ap (λ first. option_or first (slice_get (flat_map f (drop (i + 1) xs)) 0)) found

  pub first_behind : (x : X) → i < length xs → x ≡ get_or xs i x → slice_get (f x) 0 ≡ None
      → slice_get (flat_map f (drop i xs)) 0 ≡ slice_get (flat_map f (drop (i + 1) xs)) 0
  first_behind x within is none =
      ap (λ rest. slice_get (flat_map f rest) 0) (rest_at xs i x within is)
      ∙ first-append (f x) (flat_map f (drop (i + 1) xs))
      ∙ ap (λ first. option_or first (slice_get (flat_map f (drop (i + 1) xs)) 0)) none

  pub first_past : length xs ≤ i → slice_get (flat_map f (drop i xs)) 0 ≡ None
  first_past past = ap (λ rest. slice_get (flat_map f rest) 0) (drop_all i xs past)
