-- Each of the first occurrences of some things has one place among them.
use Rattle.std.proofs.Common.{◌≡◌, ℕ, zero, suc, Bool, true, false, not, if◌then◌else◌, List, [], ◌∷◌, Option, Some, refl, sym, ap, subst}
use Rattle.std.specs.Prelude.{slice_get}
use Rattle.std.specs.List.{filter}
use Rattle.ir_grammar.specs.Numbering.{first_occurrences}

-- the thing stands at a place of the list
abbrev IsAmong : {A : Type 0} → List A → A → Type 0
IsAmong xs x = (at : ℕ) × (slice_get xs at ≡ Some x)

-- no thing stands again behind itself
abbrev NoneAgain : {A : Type 0} → List A → Type 0
NoneAgain [] = Unit {0}
NoneAgain (x ∷ xs) = (IsAmong xs x → ⊥) × NoneAgain xs

some_is : {A : Type 0} (x y : A) → ◌≡◌ {A = Option A} (Some x) (Some y) → x ≡ y
some_is x y e = cc

-- a filter of the rest, with the first in front where it passes
abbrev kept_behind : {A : Type 0} → (A → Bool) → A → List A → Bool → List A
kept_behind test y ys b = if b then y ∷ filter test ys else filter test ys

-- where what stands in the rest is known, so is what stands behind the first
kept_of : {A : Type 0} (test : A → Bool) (y : A) (ys : List A) (x : A)
    → ((at : ℕ) → slice_get (filter test ys) at ≡ Some x → (test x ≡ true) × IsAmong ys x)
    → (b : Bool) → test y ≡ b → (at : ℕ) → slice_get (kept_behind test y ys b) at ≡ Some x
    → (test x ≡ true) × IsAmong (y ∷ ys) x
kept_of {A} test y ys x rest true is zero e =
    let same : y ≡ x = some_is y x e in
    (subst (λ (z : A). test z ≡ true) same is, (zero, ap (λ (z : A). Some z) same))
kept_of test y ys x rest true is (suc at) e = let found = rest at e in (found.0, (suc found.1.0, found.1.1))
kept_of test y ys x rest false is at e = let found = rest at e in (found.0, (suc found.1.0, found.1.1))

-- What stands in a filtered list passes the test, and stands in the list.
kept : {A : Type 0} (test : A → Bool) (xs : List A) (at : ℕ) (x : A) → slice_get (filter test xs) at ≡ Some x
    → (test x ≡ true) × IsAmong xs x
kept test [] at x e = absurd cc
kept test (y ∷ ys) at x e = kept_of test y ys x (λ at e. kept test ys at x e) (test y) refl at e

none_behind : {A : Type 0} (test : A → Bool) (x : A) (xs : List A) → (IsAmong xs x → ⊥)
    → NoneAgain (filter test xs) → (b : Bool) → NoneAgain (kept_behind test x xs b)
none_behind test x xs none rest true = ((λ found. none (kept test xs found.0 x found.1).1), rest)
none_behind test x xs none rest false = rest

none_in_filter : {A : Type 0} (test : A → Bool) (xs : List A) → NoneAgain xs → NoneAgain (filter test xs)
none_in_filter test [] none = tt
none_in_filter test (x ∷ xs) none = none_behind test x xs none.0 (none_in_filter test xs none.1) (test x)

not_true : (b : Bool) → not b ≡ true → b ≡ true → ⊥
not_true true e is = absurd cc
not_true false e is = absurd cc

first_once : {A : Type 0} (same : A → A → Bool) → ((x : A) → same x x ≡ true) → (xs : List A)
    → NoneAgain (first_occurrences same xs)
first_once same itself [] = tt
first_once same itself (x ∷ xs) = (
  λ found. not_true (same x x)
      (kept (λ y. not (same x y)) (first_occurrences same xs) found.0 x found.1).0 (itself x),
  none_in_filter (λ y. not (same x y)) (first_occurrences same xs) (first_once same itself xs),
)

one_of : {A : Type 0} (xs : List A) → NoneAgain xs → (i j : ℕ) (x : A) → slice_get xs i ≡ Some x
    → slice_get xs j ≡ Some x → i ≡ j
one_of [] none i j x e d = absurd cc
one_of (y ∷ ys) none zero zero x e d = refl
one_of {A} (y ∷ ys) none zero (suc j) x e d =
    let same : y ≡ x = some_is y x e in
    absurd (none.0 (j, subst (λ (z : A). slice_get ys j ≡ Some z) (sym same) d))
one_of {A} (y ∷ ys) none (suc i) zero x e d =
    let same : y ≡ x = some_is y x d in
    absurd (none.0 (i, subst (λ (z : A). slice_get ys i ≡ Some z) (sym same) e))
one_of (y ∷ ys) none (suc i) (suc j) x e d = ap suc (one_of ys none.1 i j x e d)

pub one_place : {A : Type 0} (same : A → A → Bool) → ((x : A) → same x x ≡ true) → (xs : List A) (i j : ℕ) (x : A)
    → slice_get (first_occurrences same xs) i ≡ Some x → slice_get (first_occurrences same xs) j ≡ Some x → i ≡ j
one_place same itself xs i j x e d = one_of (first_occurrences same xs) (first_once same itself xs) i j x e d
