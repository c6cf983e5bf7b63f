-- Elements of lists: what a search, a filter and a list that is made of lists have.
use Rattle.std.proofs.Common.{◌≡◌, ◌⊎◌, ℕ, zero, suc, Bool, true, false, List, [], ◌∷◌, ◌++◌, map, flat_map, filter}
use Rattle.std.proofs.Common.{find, Some, Contains, slice_get, refl, sym, ap, ◌∙◌, subst, inl, inr, arith}
use Rattle.std.specs.List.{list_any, list_all}
use Rattle.std.proofs.lemmas.Bool.{cases_Bool, cases_eq, true≢false}
use Rattle.std.proofs.lemmas.Option.{slice_get_within, get_or_from_slice_get}
use Rattle.std.proofs.lemmas.List.Elements.{All-contains, All-filter, All-contains_itself, filter_passes}
use Rattle.std.proofs.lemmas.List.Elements.{Contains-append_left, Contains-append_right, Contains-append_cases}
use Rattle.std.proofs.lemmas.List.Folds.{list_any_at, Any-from_list_any}
use Rattle.std.proofs.lemmas.List.Sums.{AllPass-from_list_all}

-- ---- places

pub contains_at : {X : Type 0} (xs : List X) (k : ℕ) (x : X) → slice_get xs k ≡ Some x → Contains xs x
contains_at xs k x at = (k, slice_get_within xs k x at, get_or_from_slice_get xs k x x at)

pub contains_more : {X : Type 0} (y : X) (xs : List X) (x : X) → Contains xs x → Contains (y ∷ xs) x
contains_more y xs x there = (suc there.0, omega (arith, there.1), there.2)

pub contains_none : {X : Type 0} (x : X) → Contains [] x → ⊥
contains_none x there = omega (arith, there.1)

pub contains_cases : {X : Type 0} (x : X) (xs : List X) (y : X) → Contains (x ∷ xs) y → (x ≡ y) ⊎ Contains xs y
contains_cases x xs y (zero, within, is) = inl is
contains_cases x xs y (suc k, within, is) = inr (k, omega arith, is)

-- a number is in a list, or it isn't
pub contains_or_not : (xs : List ℕ) (y : ℕ) → Contains xs y ⊎ (Contains xs y → ⊥)
contains_or_not [] y = inr (contains_none y)
contains_or_not (x ∷ xs) y =
    elim (cases_eq x y) [
      | inl e ↦ inl (0, omega arith, e)
      | inr apart ↦
          elim (contains_or_not xs y) [
            | inl there ↦ inl (contains_more x xs y there)
            | inr none ↦
                inr (λ there. elim (contains_cases x xs y there) [ inl e ↦ apart e | inr later ↦ none later ])
          ]
    ]

-- ---- lists of nothing

pub nothing_in : {X : Type 0} (xs : List X) (x : X) → xs ≡ [] → Contains xs x → ⊥
nothing_in xs x e there = contains_none x (subst (λ (ys : List _). Contains ys x) e there)

pub map_none : {X Y : Type 0} (g : X → Y) (xs : List X) → map g xs ≡ [] → xs ≡ []
map_none g [] e = refl
map_none g (x ∷ xs) e = absurd (cc)

pub append_none : {X : Type 0} (xs ys : List X) → xs ++ ys ≡ [] → (xs ≡ []) × (ys ≡ [])
append_none [] ys e = (refl, e)
append_none (x ∷ xs) ys e = absurd (cc)

-- ---- maps

pub map_has : {X Y : Type 0} (g : X → Y) (xs : List X) (x : X) → Contains xs x → Contains (map g xs) (g x)
map_has g [] x there = absurd (omega (arith, there.1))
map_has g (y ∷ ys) x (zero, within, is) = (zero, omega arith, ap g is)
map_has g (y ∷ ys) x (suc k, within, is) = contains_more (g y) (map g ys) (g x) (map_has g ys x (k, omega arith, is))

pub flat_map_has : {X Y : Type 0} (g : X → List Y) (xs : List X) (x : X) (y : Y) → Contains xs x → Contains (g x) y
    → Contains (flat_map g xs) y
flat_map_has g [] x y there own = absurd (omega (arith, there.1))
flat_map_has g (z ∷ xs) x y (zero, within, is) own =
    Contains-append_left (g z) (flat_map g xs) y (subst (λ w. Contains (g w) y) (sym is) own)
flat_map_has g (z ∷ xs) x y (suc k, within, is) own =
    Contains-append_right (g z) (flat_map g xs) y (flat_map_has g xs x y (k, omega arith, is) own)

pub flat_map_only : {X Y : Type 0} (g : X → List Y) (xs : List X) (y : Y) → Contains (flat_map g xs) y
    → (x : X) × Contains xs x × Contains (g x) y
flat_map_only g [] y there = absurd (omega (arith, there.1))
flat_map_only g (x ∷ xs) y there =
    elim (Contains-append_cases (g x) (flat_map g xs) y there) [
      | inl own ↦ (x, (0, omega arith, refl), own)
      | inr later ↦
          let found = flat_map_only g xs y later in
          (found.0, contains_more x xs found.0 found.1, found.2)
    ]

pub flat_map_none : {X Y : Type 0} (g : X → List Y) (xs : List X) (x : X) → flat_map g xs ≡ [] → Contains xs x
    → g x ≡ []
flat_map_none g [] x e there = absurd (omega (arith, there.1))
flat_map_none g (z ∷ xs) x e (zero, within, is) = ap g (sym is) ∙ (append_none (g z) (flat_map g xs) e).0
flat_map_none g (z ∷ xs) x e (suc k, within, is) =
    flat_map_none g xs x (append_none (g z) (flat_map g xs) e).1 (k, omega arith, is)

-- ---- what passes a test

pub filter_has : {X : Type 0} (p : X → Bool) (xs : List X) (x : X) → Contains xs x → p x ≡ true
    → Contains (filter p xs) x
filter_has p [] x there passes = absurd (omega (arith, there.1))
filter_has p (y ∷ ys) x (zero, within, is) passes =
    let first : p y ≡ true = ap p is ∙ passes in
    rw first (0, omega arith, is)
filter_has p (y ∷ ys) x (suc k, within, is) passes =
    let there = filter_has p ys x (k, omega arith, is) passes in
    elim (cases_Bool (p y)) [
      | inl kept ↦ rw kept (contains_more y (filter p ys) x there)
      | inr left ↦ rw left there
    ]

pub none_passes : {X : Type 0} (p : X → Bool) (xs : List X) (x : X) → filter p xs ≡ [] → Contains xs x → p x ≡ false
none_passes p xs x none there =
    elim (cases_Bool (p x)) [
      | inl passes ↦ absurd (nothing_in (filter p xs) x none (filter_has p xs x there passes))
      | inr fails ↦ fails
    ]

pub find_has : {X : Type 0} (p : X → Bool) (xs : List X) (x : X) → Contains xs x → p x ≡ true
    → (y : X) × (find p xs ≡ Some y)
find_has p [] x there passes = absurd (omega (arith, there.1))
find_has p (y ∷ ys) x (zero, within, is) passes =
    let first : p y ≡ true = ap p is ∙ passes in
    (y, rw first refl)
find_has p (y ∷ ys) x (suc k, within, is) passes =
    elim (cases_Bool (p y)) [
      | inl first ↦ (y, rw first refl)
      | inr left ↦
          let later = find_has p ys x (k, omega arith, is) passes in
          (later.0, rw left later.1)
    ]

pub any_found : {X : Type 0} (p : X → Bool) (xs : List X) → list_any p xs ≡ true → (x : X) × (find p xs ≡ Some x)
any_found p xs some =
    let any = Any-from_list_any p xs some in
    find_has p xs any.1 (any.0, any.2, any.3) any.4

pub none_of_any : {X : Type 0} (p : X → Bool) (xs : List X) (x : X) → list_any p xs ≡ false → Contains xs x
    → p x ≡ false
none_of_any p xs x none there =
    elim (cases_Bool (p x)) [
      | inl passes ↦
          let some = list_any_at p xs there.0 x there.1 (ap p there.2 ∙ passes) in
          absurd (true≢false (sym some ∙ none))
      | inr fails ↦ fails
    ]

pub one_of_all : {X : Type 0} (p : X → Bool) (xs : List X) (x : X) → list_all p xs ≡ true → Contains xs x → p x ≡ true
one_of_all p xs x all there = All-contains (λ y. p y ≡ true) xs x (AllPass-from_list_all p xs all) there

pub map_only : {X Y : Type 0} (g : X → Y) (xs : List X) (y : Y) → Contains (map g xs) y
    → (x : X) × Contains xs x × (g x ≡ y)
map_only g [] y there = absurd (omega (arith, there.1))
map_only g (x ∷ xs) y (zero, within, is) = (x, (0, omega arith, refl), is)
map_only g (x ∷ xs) y (suc k, within, is) =
    let found = map_only g xs y (k, omega arith, is) in
    (found.0, contains_more x xs found.0 found.1, found.2)

pub filter_only : {X : Type 0} (p : X → Bool) (xs : List X) (x : X) → Contains (filter p xs) x
    → Contains xs x × (p x ≡ true)
filter_only p xs x there = (
  All-contains (Contains xs) (filter p xs) x (All-filter p (Contains xs) xs (All-contains_itself xs)) there,
  All-contains (λ y. p y ≡ true) (filter p xs) x (filter_passes p xs) there,
)
