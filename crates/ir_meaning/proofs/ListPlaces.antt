-- Elements of a list by their places, and what a filter and a search find.
use Rattle.std.specs.Prelude.{◌≡◌, ℕ, zero, suc, List, [], ◌∷◌, Bool, true, false, cond, Option, Some, slice_get}
use Rattle.std.specs.Prelude.{filter, find, flat_map, All, Contains, Any, refl}
use Rattle.std.proofs.Common.{ap, sym, subst, ◌∙◌}
use Rattle.std.proofs.lemmas.List.Elements.{Contains-append_left, Contains-append_right}
use Rattle.std.proofs.lemmas.Option.{none-some, same_Some, slice_get_within, slice_get-get_or, get_or_from_slice_get}

pub contained_at : {X : Type 0} (xs : List X) (x : X) → Contains xs x → (k : ℕ) × (slice_get xs k ≡ Some x)
contained_at xs x h =
    (h.0, slice_get-get_or xs h.0 x h.1 ∙ ap (λ (y : _). Some y) h.2)

pub some_at : {X : Type 0} (P : X → Type 0) (xs : List X) → Any P xs
    → (k : ℕ) × (x : X) × (slice_get xs k ≡ Some x) × P x
some_at P xs h =
    (h.0, h.1, slice_get-get_or xs h.0 h.1 h.2 ∙ ap (λ (y : _). Some y) h.3, h.4)

pub all_at : {X : Type 0} (P : X → Type 0) (xs : List X) (k : ℕ) (x : X) → All P xs → slice_get xs k ≡ Some x → P x
all_at P xs k x all at =
    subst P (get_or_from_slice_get xs k x x at) (all k x (slice_get_within xs k x at))

pub contains_in_all : {X : Type 0} (pick : X → List ℕ) (xs : List X) (k : ℕ) (x : X) (y : ℕ) → slice_get xs k ≡ Some x
    → Contains (pick x) y → Contains (flat_map pick xs) y
contains_in_all pick [] k x y at h = absurd (none-some x at)
contains_in_all pick (z ∷ zs) zero x y at h =
    Contains-append_left (pick z) (flat_map pick zs) y (rw (same_Some z x at) h)
contains_in_all pick (z ∷ zs) (suc k) x y at h =
    Contains-append_right (pick z) (flat_map pick zs) y (contains_in_all pick zs k x y at h)

-- what passes is among those that pass
kept_first : {X : Type 0} (test : X → Bool) (y x : X) (rest : List X) (b : Bool)
    → ((j : ℕ) × (slice_get rest j ≡ Some x)) → (j : ℕ) × (slice_get (cond b (y ∷ rest) rest) j ≡ Some x)
kept_first test y x rest true h = (suc h.0, h.1)
kept_first test y x rest false h = h

pub kept_at : {X : Type 0} (test : X → Bool) (xs : List X) (k : ℕ) (x : X) → slice_get xs k ≡ Some x → test x ≡ true
    → (j : ℕ) × (slice_get (filter test xs) j ≡ Some x)
kept_at test [] k x at passes = absurd (none-some x at)
kept_at test (y ∷ ys) zero x at passes =
    let passes' : test y ≡ true = ap test (same_Some y x at) ∙ passes in
    (0, subst (λ (b : Bool). slice_get (cond b (y ∷ filter test ys) (filter test ys)) 0 ≡ Some x) (sym passes') at)
kept_at test (y ∷ ys) (suc k) x at passes =
    kept_first test y x (filter test ys) (test y) (kept_at test ys k x at passes)

-- the first one that passes is the one that is found
heads : {X : Type 0} (x y : X) (xs ys : List X) → x ∷ xs ≡ y ∷ ys → x ≡ y
heads x y xs ys e = cc

first_first : {X : Type 0} (y x : X) (kept rest : List X) (o : Option X) (b : Bool) → (kept ≡ x ∷ rest → o ≡ Some x)
    → cond b (y ∷ kept) kept ≡ x ∷ rest → cond b (Some y) o ≡ Some x
first_first y x kept rest o true more e = ap (λ (z : _). Some z) (heads y x kept rest e)
first_first y x kept rest o false more e = more e

pub found_from_filter : {X : Type 0} (test : X → Bool) (xs : List X) (x : X) (rest : List X) → filter test xs ≡ x ∷ rest
    → find test xs ≡ Some x
found_from_filter test [] x rest e = cc
found_from_filter test (y ∷ ys) x rest e =
    first_first y x (filter test ys) rest (find test ys) (test y) (found_from_filter test ys x rest) e

-- what is found stands in the list, and passes
found_there_first : {X : Type 0} (test : X → Bool) (y x : X) (ys : List X) (o : Option X) (b : Bool) → test y ≡ b
    → (o ≡ Some x → (k : ℕ) × (slice_get ys k ≡ Some x) × (test x ≡ true)) → cond b (Some y) o ≡ Some x
    → (k : ℕ) × (slice_get (y ∷ ys) k ≡ Some x) × (test x ≡ true)
found_there_first test y x ys o true is more e = (0, e, ap test (sym (same_Some y x e)) ∙ is)
found_there_first test y x ys o false is more e =
    let rest = more e in
    (suc rest.0, rest.1, rest.2)

pub found_there : {X : Type 0} (test : X → Bool) (xs : List X) (x : X) → find test xs ≡ Some x
    → (k : ℕ) × (slice_get xs k ≡ Some x) × (test x ≡ true)
found_there test [] x e = absurd (none-some x e)
found_there test (y ∷ ys) x e =
    found_there_first test y x ys (find test ys) (test y) refl (found_there test ys x) e
