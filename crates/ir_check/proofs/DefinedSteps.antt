-- Definitions, one after another.
use Rattle.std.proofs.Common.{◌≡◌, ℕ, ◌+◌, ◌<◌, ◌≤◌, List, [], ◌∷◌, ◌++◌, length, get_or, drop, Some, None, refl, sym}
use Rattle.std.proofs.Common.{ap, ◌∙◌, inl, inr}
use Rattle.std.specs.List.{flat_map}
use Rattle.std.specs.Option.{option_or}
use Rattle.std.proofs.lemmas.Bool.{cases_Bool}
use Rattle.std.proofs.lemmas.Grind.{fold-append}
use Rattle.std.proofs.lemmas.List.{drop_all}
use Rattle.ir_model.specs.declared.rule.Place.{Place}
use Rattle.ir_check.specs.declared.defined.Defined.{Defined}
use Rattle.ir_check.specs.Definitions.{has_place, with_place, first_again, with_places, HaveRoom}
use Rattle.ir_check.proofs.FirstPlaces.{rest_at}

-- ---- two lists of places

pub again-append : (d : Defined) (xs ys : List Place)
    → first_again d (xs ++ ys) ≡ option_or (first_again d xs) (first_again (with_places d xs) ys)
again-append d [] ys = refl
again-append d (x ∷ xs) ys =
    elim (cases_Bool (has_place d x)) [
      | inl is ↦ simp is
      | inr new ↦ simp new (again-append (with_place d x) xs ys)
    ]

pub room_first : (d : Defined) (xs ys : List Place) → HaveRoom d (xs ++ ys) → HaveRoom d xs
room_first d [] ys room = tt
room_first d (x ∷ xs) ys room = (room.0, room_first (with_place d x) xs ys room.1)

pub room_second : (d : Defined) (xs ys : List Place) → HaveRoom d (xs ++ ys) → HaveRoom (with_places d xs) ys
room_second d [] ys room = room
room_second d (x ∷ xs) ys room = room_second (with_place d x) xs ys room.1

-- a list of places that is made of two
module _ (d : Defined) (whole xs ys : List Place) (is : whole ≡ xs ++ ys) where
  pub room_of_first : HaveRoom d whole → HaveRoom d xs
  room_of_first room = room_first d xs ys (rw is at room)

  pub room_of_second : (new : Defined) → HaveRoom d whole → new ≡ with_places d xs → HaveRoom new ys
  room_of_second new room all = rw all (room_second d xs ys (rw is at room))

  both_parts : first_again d whole ≡ option_or (first_again d xs) (first_again (with_places d xs) ys)
  both_parts = ap (first_again d) is ∙ again-append d xs ys

  pub again_of_first : (at : Place) → first_again d xs ≡ Some at → first_again d whole ≡ Some at
  again_of_first at found = both_parts ∙ ap (λ o. option_or o (first_again (with_places d xs) ys)) found

  pub again_of_second : (new : Defined) → first_again d xs ≡ None → new ≡ with_places d xs
      → first_again d whole ≡ first_again new ys
  again_of_second new none all =
      both_parts
      ∙ ap (λ o. option_or o (first_again (with_places d xs) ys)) none
      ∙ ap (λ rows. first_again rows ys) (sym all)

  pub all_of_both : (new : Defined) → new ≡ with_places d xs → with_places d whole ≡ with_places new ys
  all_of_both new all =
      ap (with_places d) is ∙ fold-append with_place d xs ys ∙ ap (λ rows. with_places rows ys) (sym all)

-- ---- a walk of a list

-- What is left, with the rows as they are now, gives what all the places gave at the start.
pub record Continues (start : Defined) (places : List Place) (now : Defined) (rest : List Place) : Type 0 where
  pub room : HaveRoom now rest
  pub again : first_again now rest ≡ first_again start places
  pub all : with_places now rest ≡ with_places start places

pub Continues-none : (start : Defined) (places : List Place) → HaveRoom start places
    → Continues start places start places
Continues-none start places room = record { room = room; again = refl; all = refl }

module _ {X : Type 0} (f : X → List Place) (xs : List X) (i : ℕ) (x : X) (start now : Defined)
    (within : i < length xs) (is : x ≡ get_or xs i x)
    (so_far : Continues start (flat_map f xs) now (flat_map f (drop i xs))) where
  here : flat_map f (drop i xs) ≡ f x ++ flat_map f (drop (i + 1) xs)
  here = ap (flat_map f) (rest_at xs i x within is)

  pub next_room : HaveRoom now (f x)
  next_room = room_first now (f x) (flat_map f (drop (i + 1) xs)) (rw here at so_far.room)

  both : first_again start (flat_map f xs)
      ≡ option_or (first_again now (f x)) (first_again (with_places now (f x)) (flat_map f (drop (i + 1) xs)))
  both = sym so_far.again ∙ ap (first_again now) here ∙ again-append now (f x) (flat_map f (drop (i + 1) xs))

  pub next_again : (at : Place) → first_again now (f x) ≡ Some at → first_again start (flat_map f xs) ≡ Some at
  next_again at found =
      both ∙ ap (λ o. option_or o (first_again (with_places now (f x)) (flat_map f (drop (i + 1) xs)))) found

  pub Continues-more : (new : Defined) → first_again now (f x) ≡ None → new ≡ with_places now (f x)
      → Continues start (flat_map f xs) new (flat_map f (drop (i + 1) xs))
  Continues-more new none all = rw all (record {
    room = room_second now (f x) (flat_map f (drop (i + 1) xs)) (rw here at so_far.room);
    again =
        sym (both ∙ ap (λ o. option_or o (first_again (with_places now (f x)) (flat_map f (drop (i + 1) xs)))) none);
    all =
        sym (fold-append with_place now (f x) (flat_map f (drop (i + 1) xs)))
        ∙ ap (with_places now) (sym here)
        ∙ so_far.all;
  })

module _ {X : Type 0} (f : X → List Place) (xs : List X) (i : ℕ) (start now : Defined)
    (past : length xs ≤ i) (so_far : Continues start (flat_map f xs) now (flat_map f (drop i xs))) where
  nothing : flat_map f (drop i xs) ≡ []
  nothing = ap (flat_map f) (drop_all i xs past)

  pub end_again : None ≡ first_again start (flat_map f xs)
  end_again = sym (ap (first_again now) nothing) ∙ so_far.again

  pub Continues-all : now ≡ with_places start (flat_map f xs)
  Continues-all = sym (ap (with_places now) nothing) ∙ so_far.all
