-- Names that are added to a list, each once.
use Rattle.std.proofs.Common.{◌≡◌, ℕ, zero, suc, Bool, true, false, cond, not, ◌&&◌, ◌||◌, List, [], ◌∷◌, ◌++◌, Some, slice_get, ◌<◌, length, arith, refl, sym, ap, ◌∙◌}
use Rattle.std.specs.List.{list_any, filter}
use Rattle.std.proofs.lemmas.List.{append-nil, append_assoc}
use Rattle.std.proofs.lemmas.List.Folds.{list_any-append}
use Rattle.std.proofs.lemmas.Option.{none-some, slice_get_within}
use Rattle.ir_grammar.specs.Numbering.{first_occurrences, IsFirstPlace}
use Rattle.ir_names.specs.Growing.{with_name, with_names, IsPrefix}

module _ {A : Type 0} where
  pub IsPrefix-refl : (names : List A) → IsPrefix names names
  IsPrefix-refl names = record { rest = []; whole = sym (append-nil names) }

  pub IsPrefix-trans : {a b c : List A} → IsPrefix a b → IsPrefix b c → IsPrefix a c
  IsPrefix-trans p q = record {
    rest = p.rest ++ q.rest;
    whole = q.whole ∙ ap (λ names. names ++ q.rest) p.whole ∙ append_assoc _ p.rest q.rest;
  }

  slice_get_before : (a rest : List A) (at : ℕ) (name : A) → slice_get a at ≡ Some name → slice_get (a ++ rest) at
      ≡ Some name
  slice_get_before [] rest at name e = absurd (none-some _ e)
  slice_get_before (x ∷ a) rest zero name e = e
  slice_get_before (x ∷ a) rest (suc at) name e = slice_get_before a rest at name e

  -- A name keeps its place.
  pub kept : {a b : List A} → IsPrefix a b → (at : ℕ) (name : A) → slice_get a at ≡ Some name → slice_get b at
      ≡ Some name
  kept {a} {b} front at name e = ap (λ names. slice_get names at) front.whole ∙ slice_get_before a front.rest at name e

  slice_get_back : (a rest : List A) (at : ℕ) (name : A) → at < length a → slice_get (a ++ rest) at ≡ Some name
      → slice_get a at ≡ Some name
  slice_get_back [] rest at name within e = absurd (omega arith)
  slice_get_back (x ∷ a) rest zero name within e = e
  slice_get_back (x ∷ a) rest (suc at) name within e = slice_get_back a rest at name (omega arith) e

  -- Two tests in turn are one.
  filter_twice : (p q : A → Bool) (xs : List A) → filter p (filter q xs) ≡ filter (λ x. q x && p x) xs
  filter_twice p q [] = refl
  filter_twice p q (x ∷ xs) = go (filter_twice p q xs) (q x)
    where
      go : filter p (filter q xs) ≡ filter (λ y. q y && p y) xs → (b : Bool)
          → filter p (cond b (x ∷ filter q xs) (filter q xs))
          ≡ cond (b && p x) (x ∷ filter (λ y. q y && p y) xs) (filter (λ y. q y && p y) xs)
      go before true = rw before refl
      go before false = before

  filter_same : (p q : A → Bool) → ((x : A) → p x ≡ q x) → (xs : List A) → filter p xs ≡ filter q xs
  filter_same p q same [] = refl
  filter_same p q same (x ∷ xs) = rw (same x, filter_same p q same xs) refl

  filter_all : (xs : List A) → filter (λ x. true) xs ≡ xs
  filter_all [] = refl
  filter_all (x ∷ xs) = ap (λ ys. x ∷ ys) (filter_all xs)

-- The first place of a name stays so.
pub kept_first : {a b : List (List ℕ)} → IsPrefix a b → (name : List ℕ) (id : ℕ) → IsFirstPlace a name id
    → IsFirstPlace b name id
kept_first {a} {b} front name id first = (
  kept front id name first.0,
  λ k below e.
      let within : id < length a = slice_get_within a id name first.0 in
      first.1 k below (slice_get_back a front.rest k name (omega arith)
      (ap (λ names. slice_get names k) (sym front.whole) ∙ e)),
)

module _ {A : Type 0} (same : A → A → Bool) where
  pub with_name-prefix : (names : List A) (name : A) → IsPrefix names (with_name same names name)
  with_name-prefix names name = go (list_any (same name) names)
    where
      go : (b : Bool) → IsPrefix names (cond b names (names ++ name ∷ []))
      go true = IsPrefix-refl names
      go false = record { rest = name ∷ []; whole = refl }

  pub with_names-prefix : (names more : List A) → IsPrefix names (with_names same names more)
  with_names-prefix names [] = IsPrefix-refl names
  with_names-prefix names (x ∷ more) = IsPrefix-trans (with_name-prefix names x)
      (with_names-prefix (with_name same names x) more)

  pub with_names-append : (names xs ys : List A) → with_names same names (xs ++ ys)
      ≡ with_names same (with_names same names xs) ys
  with_names-append names [] ys = refl
  with_names-append names (x ∷ xs) ys = with_names-append (with_name same names x) xs ys

-- The test holds of equals alone, and of each with itself.
module _ {A : Type 0} (same : A → A → Bool) (only : (x y : A) → same x y ≡ true → x ≡ y)
    (self : (x : A) → same x x ≡ true) where
  same_sym : (x y : A) → same x y ≡ same y x
  same_sym x y = go (same x y) (same y x) refl refl
    where
      go : (a b : Bool) → same x y ≡ a → same y x ≡ b → a ≡ b
      go true true e f = refl
      go false false e f = refl
      go true false e f = let one : x ≡ y = only x y e in sym (self y) ∙ (rw one at f)
      go false true e f = let one : y ≡ x = only y x f in (sym (rw one at e)) ∙ self x

  -- what is none of the names
  abbrev other_than : List A → A → Bool
  other_than names y = not (list_any (same y) names)

  -- A test that fails of one leaves no room for those equal to it.
  less : (p : A → Bool) (x : A) → p x ≡ false → (y : A) → (not (same x y) && p y) ≡ p y
  less p x fails y = go (same x y) refl
    where
      go : (b : Bool) → same x y ≡ b → (not b && p y) ≡ p y
      go true e = let one : x ≡ y = only x y e in sym (rw one at fails)
      go false e = refl

  both_tests : (a b : Bool) → (not b && not a) ≡ not (a || (b || false))
  both_tests true true = refl
  both_tests true false = refl
  both_tests false true = refl
  both_tests false false = refl

  swapped_tests : (a b : Bool) → (a && b) ≡ (b && a)
  swapped_tests true true = refl
  swapped_tests true false = refl
  swapped_tests false true = refl
  swapped_tests false false = refl

  one_more : (names : List A) (x y : A) → (not (same x y) && other_than names y) ≡ other_than (names ++ x ∷ []) y
  one_more names x y = rw (same_sym x y, list_any-append (same y) names (x ∷ []))
      (both_tests (list_any (same y) names) (same y x))

  -- Adding names gives those that are new, by first occurrence, behind the others.
  pub with_names_are : (names xs : List A) → with_names same names xs ≡ names
      ++ filter (λ y. not (list_any (same y) names)) (first_occurrences same xs)
  with_names_are names [] = sym (append-nil names)
  with_names_are names (x ∷ xs) = go (λ ns. with_names_are ns xs) (list_any (same x) names) refl
    where
      go : ((ns : List A) → with_names same ns xs ≡ ns ++ filter (other_than ns) (first_occurrences same xs))
          → (b : Bool) → list_any (same x) names ≡ b
          → with_names same (cond b names (names ++ x ∷ [])) xs ≡ names
          ++ cond (not b) (x ∷ filter (other_than names)
          (filter (λ y. not (same x y)) (first_occurrences same xs)))
          (filter (other_than names) (filter (λ y. not (same x y)) (first_occurrences same xs)))
      go rest true e =
          let fails : other_than names x ≡ false = ap not e in
          rest names ∙ ap (λ ys. names ++ ys)
          (sym (filter_twice (other_than names) (λ y. not (same x y)) (first_occurrences same xs)
          ∙ filter_same _ _ (less (other_than names) x fails) (first_occurrences same xs)))
      go rest false e =
          rest (names ++ x ∷ []) ∙ append_assoc names (x ∷ []) _
          ∙ ap (λ ys. names ++ (x ∷ ys))
          (sym (filter_twice (other_than names) (λ y. not (same x y)) (first_occurrences same xs)
          ∙ filter_same _ _ (one_more names x) (first_occurrences same xs)))

  pub with_names_from_none : (xs : List A) → with_names same [] xs ≡ first_occurrences same xs
  with_names_from_none xs = with_names_are [] xs ∙ filter_all (first_occurrences same xs)

  -- A test before or behind the first occurrences.
  pub first_occurrences-filter : (p : A → Bool) (xs : List A) → first_occurrences same (filter p xs)
      ≡ filter p (first_occurrences same xs)
  first_occurrences-filter p [] = refl
  first_occurrences-filter p (x ∷ xs) = go (first_occurrences-filter p xs) (p x) refl
    where
      go : first_occurrences same (filter p xs) ≡ filter p (first_occurrences same xs) → (b : Bool) → p x ≡ b
          → first_occurrences same (cond b (x ∷ filter p xs) (filter p xs))
          ≡ cond b (x ∷ filter p (filter (λ y. not (same x y)) (first_occurrences same xs)))
          (filter p (filter (λ y. not (same x y)) (first_occurrences same xs)))
      go rest true e = ap (λ ys. x ∷ ys) (ap (filter (λ y. not (same x y))) rest
          ∙ filter_twice (λ y. not (same x y)) p (first_occurrences same xs)
          ∙ filter_same _ _ (λ y. swapped_tests (p y) (not (same x y))) (first_occurrences same xs)
          ∙ sym (filter_twice p (λ y. not (same x y)) (first_occurrences same xs)))
      go rest false e = rest ∙ sym (filter_twice p (λ y. not (same x y)) (first_occurrences same xs)
          ∙ filter_same _ _ (less p x e) (first_occurrences same xs))
