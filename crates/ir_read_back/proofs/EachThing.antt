-- What holds of each thing of a list.
use Rattle.std.proofs.Common.{◌≡◌, ℕ, zero, suc, Bool, not, List, [], ◌∷◌, map, Some, refl, ap, subst, inl, inr, slice_get}
use Rattle.std.specs.List.{filter}
use Rattle.std.proofs.lemmas.Option.{same_Some, none-some}
use Rattle.ir_grammar.specs.Numbering.{first_occurrences}
use Rattle.ir_printer.proofs.Seen.{tested}
use Rattle.ir_read_back.proofs.Real.{Each}

pub filter_each : {A : Type 0} (Q : A → Type 0) (test : A → Bool) (xs : List A) → Each Q xs
    → Each Q (filter test xs)
filter_each Q test [] each = tt
filter_each Q test (x ∷ xs) each = elim (tested (test x)) [
  | inl e ↦ rw e (each.0, filter_each Q test xs each.1)
  | inr e ↦ rw e (filter_each Q test xs each.1)
]

pub first_each : {A : Type 0} (Q : A → Type 0) (same : A → A → Bool) (xs : List A) → Each Q xs
    → Each Q (first_occurrences same xs)
first_each Q same [] each = tt
first_each Q same (x ∷ xs) each =
    (each.0, filter_each Q (λ y. not (same x y)) (first_occurrences same xs) (first_each Q same xs each.1))

pub at_place : {A : Type 0} (Q : A → Type 0) (xs : List A) (i : ℕ) (x : A) → Each Q xs
    → slice_get xs i ≡ Some x → Q x
at_place Q [] i x each e = absurd (none-some x e)
at_place Q (y ∷ ys) zero x each e = subst Q (same_Some y x e) each.0
at_place Q (y ∷ ys) (suc i) x each e = at_place Q ys i x each.1 e

pub same_map : {A B : Type 0} (Q : A → Type 0) (g h : A → B) → ((x : A) → Q x → g x ≡ h x) → (xs : List A)
    → Each Q xs → map g xs ≡ map h xs
same_map Q g h same [] each = refl
same_map Q g h same (x ∷ xs) each = rw (same x each.0, same_map Q g h same xs each.1) refl

pub map_map : {A B C : Type 0} (f : B → C) (g : A → B) (xs : List A) → map f (map g xs) ≡ map (λ x. f (g x)) xs
map_map f g [] = refl
map_map f g (x ∷ xs) = ap (λ ys. f (g x) ∷ ys) (map_map f g xs)

pub filter_of_map : {A B : Type 0} (Q : A → Type 0) (g : A → B) (p : B → Bool) (q : A → Bool)
    → ((x : A) → Q x → p (g x) ≡ q x) → (xs : List A) → Each Q xs
    → filter p (map g xs) ≡ map g (filter q xs)
filter_of_map Q g p q same [] each = refl
filter_of_map Q g p q same (x ∷ xs) each = elim (tested (q x)) [
  | inl e ↦ rw (same x each.0, e) (ap (λ ys. g x ∷ ys) (filter_of_map Q g p q same xs each.1))
  | inr e ↦ rw (same x each.0, e) (filter_of_map Q g p q same xs each.1)
]

pub each_weaker : {A : Type 0} (P Q : A → Type 0) → ((x : A) → P x → Q x) → (xs : List A) → Each P xs
    → Each Q xs
each_weaker P Q weaker [] each = tt
each_weaker P Q weaker (x ∷ xs) each = (weaker x each.0, each_weaker P Q weaker xs each.1)

pub each_both : {A : Type 0} (P Q : A → Type 0) (xs : List A) → Each P xs → Each Q xs
    → Each (λ x. P x × Q x) xs
each_both P Q [] first second = tt
each_both P Q (x ∷ xs) first second = ((first.0, second.0), each_both P Q xs first.1 second.1)

pub all_of_map : {A B : Type 0} (P : B → Type 0) (g : A → B) (xs : List A) → Each P (map g xs)
    → Each (λ x. P (g x)) xs
all_of_map P g [] all = tt
all_of_map P g (x ∷ xs) all = (all.0, all_of_map P g xs all.1)
