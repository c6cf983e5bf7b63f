-- Ids by the first occurrences of their names: other names that tell the same ids apart have the same ids.
use Rattle.std.proofs.Common.{◌≡◌, ℕ, eqb, Bool, true, not, List, [], ◌∷◌, map, Option, Some, None, refl, sym, ap, subst, ◌∙◌, inl, inr, slice_get}
use Rattle.std.specs.Option.{option_map}
use Rattle.std.proofs.lemmas.Bool.{false≢true, eq-eqb}
use Rattle.std.proofs.lemmas.Bool.Decides.{nat_tests}
use Rattle.std.proofs.lemmas.Option.{slice_get-map, same_Some, none-some}
use Rattle.ir_grammar.specs.Numbering.{first_occurrences}
use Rattle.ir_grammar.proofs.OnePlace.{one_place}
use Rattle.ir_printer.proofs.Seen.{tested}
use native.Mathlib.Omega.{arith}
use Rattle.ir_read_back.proofs.EachThing.{at_place, filter_of_map, first_each, map_map, same_map}
use Rattle.ir_read_back.proofs.Real.{Each}

pub same_number : (i j : ℕ) → eqb i j ≡ true → i ≡ j
same_number i j e = grind (arith, nat_tests)

-- ---- names of ids

-- `same` tells whether two names are the same; Q holds of the ids.
module _ {A : Type 0} (same : A → A → Bool) (itself : (x : A) → same x x ≡ true)
    (equal : (x y : A) → same x y ≡ true → x ≡ y) (Q : ℕ → Type 0) where
  -- The names tell the ids apart.
  abbrev pub TellIds : (ℕ → A) → Type 0
  TellIds g = (i j : ℕ) → Q i → Q j → g i ≡ g j → i ≡ j

  test_of_ids : (g : ℕ → A) → TellIds g → (i j : ℕ) → Q i → Q j → same (g i) (g j) ≡ eqb i j
  test_of_ids g apart i j p q = elim (tested (same (g i) (g j))) [
    | inl e ↦ e ∙ sym (eq-eqb i j (apart i j p q (equal (g i) (g j) e)))
    | inr e ↦ elim (tested (eqb i j)) [
      | inl d ↦
          let still : same (g i) (g j) ≡ true =
          subst (λ (k : ℕ). same (g i) (g k) ≡ true) (same_number i j d) (itself (g i)) in
          absurd (false≢true (sym e ∙ still))
      | inr d ↦ e ∙ sym d
    ]
  ]

  first_of_map : (g : ℕ → A) → TellIds g → (ids : List ℕ) → Each Q ids
      → first_occurrences same (map g ids) ≡ map g (first_occurrences eqb ids)
  first_of_map g apart [] each = refl
  first_of_map g apart (i ∷ ids) each =
      rw (first_of_map g apart ids each.1)
      (ap (λ ys. g i ∷ ys) (filter_of_map Q g (λ y. not (same (g i) y)) (λ j. not (eqb i j))
      (λ j q. ap not (test_of_ids g apart i j each.0 q)) (first_occurrences eqb ids)
      (first_each Q eqb ids each.1)))

  -- Each id is the place of its name.
  abbrev pub ArePlaces : (ℕ → A) → List ℕ → Type 0
  ArePlaces h ids = (i : ℕ) → Q i → slice_get (first_occurrences same (map h ids)) i ≡ Some (h i)

  places_tell : (h : ℕ → A) (ids : List ℕ) → ArePlaces h ids → TellIds h
  places_tell h ids places i j p q e =
      one_place same itself (map h ids) i j (h j) (places i p ∙ ap (λ (x : A). Some x) e) (places j q)

  moved_place : (g h : ℕ → A) (F : List ℕ) → Each Q F → TellIds h → (i : ℕ) → Q i → (found : Option ℕ)
      → slice_get F i ≡ found → option_map h found ≡ Some (h i) → option_map g found ≡ Some (g i)
  moved_place g h F each apart i q None at e = absurd (none-some (h i) e)
  moved_place g h F each apart i q (Some k) at e =
      let same_id : k ≡ i = apart k i (at_place Q F i k each at) q (same_Some (h k) (h i) e) in
      ap (λ (n : ℕ). Some (g n)) same_id

  -- Where the ids are the places of some names, they are the places of others that tell them apart.
  pub moved_places : (g h : ℕ → A) (ids : List ℕ) → Each Q ids → TellIds g → ArePlaces h ids
      → ArePlaces g ids
  moved_places g h ids each apart places i q =
      let F : List ℕ = first_occurrences eqb ids in
      let h_apart : TellIds h = places_tell h ids places in
      let before : option_map h (slice_get F i) ≡ Some (h i) =
      sym (slice_get-map h F i) ∙ (sym (ap (λ (xs : List A). slice_get xs i) (first_of_map h h_apart ids each))
      ∙ places i q) in
      ap (λ (xs : List A). slice_get xs i) (first_of_map g apart ids each) ∙ (slice_get-map g F i
      ∙ moved_place g h F (first_each Q eqb ids each) h_apart i q (slice_get F i) refl before)

  -- What is the same of both names of an id is the same in both tables.
  pub moved_tables : {B : Type 0} (text : A → B) (g h : ℕ → A) (ids : List ℕ) → Each Q ids → TellIds g
      → ArePlaces h ids → ((i : ℕ) → Q i → text (g i) ≡ text (h i))
      → map text (first_occurrences same (map g ids)) ≡ map text (first_occurrences same (map h ids))
  moved_tables {B} text g h ids each apart places texts =
      let F : List ℕ = first_occurrences eqb ids in
      rw (
        first_of_map g apart ids each,
        first_of_map h (places_tell h ids places) ids each,
        map_map text g F,
        map_map text h F,
      )
      (same_map Q (λ i. text (g i)) (λ i. text (h i)) texts F (first_each Q eqb ids each))
