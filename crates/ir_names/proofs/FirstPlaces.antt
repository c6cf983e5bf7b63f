-- The names of globals, by their first places.
use Rattle.std.proofs.Common.{◌≡◌, ℕ, zero, suc, ◌+◌, Bool, true, false, cond, ◌||◌, List, [], ◌∷◌, ◌++◌, length, Option, Some, None, map, slice_get, MatchOption, refl, sym, ap, ◌∙◌, subst, Bor, arith, ◌⊎◌, inl, inr}
use Rattle.std.specs.List.{list_any, AllByRecursion, IsDistinct}
use Rattle.std.specs.Str.{bytes_eq}
use Rattle.std.specs.HashMap.{HashMap, get_by}
use Rattle.std.proofs.lemmas.Bool.{false≢true}
use Rattle.std.proofs.lemmas.List.{map-append, append_assoc}
use Rattle.std.proofs.lemmas.List.Folds.{list_any-append}
use Rattle.std.proofs.lemmas.Option.{none-some, same_Some, slice_get-map}
use Rattle.std.proofs.lemmas.Slice.Eq.{bytes_eq-Decides}
use Rattle.ir_grammar.specs.Numbering.{IsFirstPlace}
use Rattle.ir_names.specs.Growing.{with_name}
use Rattle.ir_names.specs.Firsts.{AreFirstPlaces}
use Rattle.ir_names.proofs.Growing.{kept_first}

-- what a reference points to
abbrev pub text : Bor (List ℕ) → List ℕ
text k = k.now

-- Names that are equal byte by byte are one.
pub same_text : (a b : List ℕ) → bytes_eq a b ≡ true → a ≡ b
same_text a b e = (bytes_eq-Decides a b).0 e

-- A name of the list is found in it.
pub stands_among : (names : List (List ℕ)) (name : List ℕ) (at : ℕ) → slice_get names at ≡ Some name
    → list_any (bytes_eq name) names ≡ true
stands_among [] name at e = absurd (none-some _ e)
stands_among (x ∷ names) name zero e = rw ((bytes_eq-Decides name x).1 (sym (same_Some _ _ e))) refl
stands_among (x ∷ names) name (suc at) e = either (bytes_eq name x) (list_any (bytes_eq name) names)
    (stands_among names name at e)
  where
    either : (a b : Bool) → b ≡ true → (a || b) ≡ true
    either true b e = refl
    either false b e = e

-- What a map of first places gives.
pub place_is : (names : List (List ℕ)) (name : List ℕ) (o : Option ℕ) (id : ℕ)
    → MatchOption o (list_any (bytes_eq name) names ≡ false) (IsFirstPlace names name)
    → Some id ≡ o → IsFirstPlace names name id
place_is names name o id h e = subst (λ (o : Option ℕ). MatchOption o (list_any (bytes_eq name) names ≡ false)
    (IsFirstPlace names name)) (sym e) h

pub place_missing : (names : List (List ℕ)) (name : List ℕ) (o : Option ℕ)
    → MatchOption o (list_any (bytes_eq name) names ≡ false) (IsFirstPlace names name)
    → None ≡ o → list_any (bytes_eq name) names ≡ false
place_missing names name o h e = subst (λ (o : Option ℕ). MatchOption o (list_any (bytes_eq name) names ≡ false)
    (IsFirstPlace names name)) (sym e) h

-- A name that stands there has nothing added.
pub known_name : (defined others : List (List ℕ)) (name : List ℕ) (id : ℕ) → IsFirstPlace defined name id
    → defined ++ others ≡ with_name bytes_eq (defined ++ others) name
known_name defined others name id first =
    let found : list_any (bytes_eq name) (defined ++ others) ≡ true =
    rw (list_any-append (bytes_eq name) defined others, stands_among defined name id first.0) refl in
    rw found refl

pub known_place : (defined others : List (List ℕ)) (name : List ℕ) (id : ℕ) → IsFirstPlace defined name id
    → IsFirstPlace (defined ++ others) name id
known_place defined others name id first = kept_first (record { rest = others; whole = refl }) name id first

any_text : (name : List ℕ) (keys : List (Bor (List ℕ))) → list_any (λ (k : Bor (List ℕ)). bytes_eq name k.now) keys
    ≡ list_any (bytes_eq name) (map text keys)
any_text name [] = refl
any_text name (k ∷ keys) = rw (any_text name keys) refl

-- A name that stands not among those of items is added to the others.
pub new_name : (defined : List (List ℕ)) (keys : List (Bor (List ℕ))) (name : Bor (List ℕ))
    → list_any (bytes_eq name.now) defined ≡ false
    → defined ++ map text (cond (list_any (λ (k : Bor (List ℕ)). bytes_eq name.now k.now) keys) keys
    (keys ++ name ∷ [])) ≡ with_name bytes_eq (defined ++ map text keys) name.now
new_name defined keys name absent =
    let any : list_any (bytes_eq name.now) (defined ++ map text keys) ≡ list_any (bytes_eq name.now) (map text keys) =
    rw (list_any-append (bytes_eq name.now) defined (map text keys), absent) refl in
    rw (any_text name.now keys, any) (go (list_any (bytes_eq name.now) (map text keys)))
  where
    go : (b : Bool) → defined ++ map text (cond b keys (keys ++ name ∷ []))
        ≡ cond b (defined ++ map text keys) ((defined ++ map text keys) ++ name.now ∷ [])
    go true = refl
    go false = rw (map-append text keys (name ∷ [])) (sym (append_assoc defined (map text keys) (name.now ∷ [])))

-- What no name of a list is equal to doesn't stand in it.
absent_in : (x : Bor (List ℕ)) (keys : List (Bor (List ℕ)))
    → AllByRecursion (λ (y : Bor (List ℕ)). bytes_eq x.now y.now ≡ false) keys
    → (b : ℕ) → slice_get (map text keys) b ≡ Some x.now → ⊥
absent_in x [] all b e = none-some _ e
absent_in x (k ∷ keys) all zero e = false≢true (sym all.0 ∙ (bytes_eq-Decides x.now k.now).1 (sym (same_Some _ _ e)))
absent_in x (k ∷ keys) all (suc b) e = absent_in x keys all.1 b e

-- Names of which no two are equal have a place each.
apart : (keys : List (Bor (List ℕ))) → IsDistinct (λ (x y : Bor (List ℕ)). bytes_eq x.now y.now) keys
    → (a b : ℕ) (name : List ℕ) → slice_get (map text keys) a ≡ Some name → slice_get (map text keys) b ≡ Some name
    → a ≡ b
unfolding IsDistinct
apart [] distinct a b name e f = absurd (none-some _ e)
apart (k ∷ keys) distinct zero zero name e f = refl
apart (k ∷ keys) distinct zero (suc b) name e f = absurd (absent_in k keys distinct.0 b (f ∙ sym e))
apart (k ∷ keys) distinct (suc a) zero name e f = absurd (absent_in k keys distinct.0 a (e ∙ sym f))
apart (k ∷ keys) distinct (suc a) (suc b) name e f = ap suc (apart keys distinct.1 a b name e f)

slice_get_behind : (a b : List (List ℕ)) (at : ℕ) → slice_get (a ++ b) (length a + at) ≡ slice_get b at
slice_get_behind [] b at = let e : 0 + at ≡ at = omega arith in rw e refl
slice_get_behind (x ∷ a) b at = let e : suc (length a) + at ≡ suc (length a + at) =
    omega arith in rw e (slice_get_behind a b at)

-- a place is among the first names or behind them
placed : (a b : List (List ℕ)) (at : ℕ) (name : List ℕ) → slice_get (a ++ b) at ≡ Some name
    → (slice_get a at ≡ Some name) ⊎ ((j : ℕ) × (at ≡ length a + j) × (slice_get b j ≡ Some name))
placed [] b at name e = inr (at, omega arith, e)
placed (x ∷ a) b zero name e = inl e
placed (x ∷ a) b (suc at) name e = elim (placed a b at name e) [
  | inl h ↦ inl h
  | inr h ↦ inr (h.0, (let is : at ≡ length a + h.0 = h.1 in omega arith), h.2)
]

-- The place of one of the others.
pub new_place : (defined : List (List ℕ)) (keys : List (Bor (List ℕ))) (name k : Bor (List ℕ)) (at : ℕ)
    → list_any (bytes_eq name.now) defined ≡ false
    → IsDistinct (λ (x y : Bor (List ℕ)). bytes_eq x.now y.now) keys
    → slice_get keys at ≡ Some k → bytes_eq name.now k.now ≡ true
    → IsFirstPlace (defined ++ map text keys) name.now (length defined + at)
new_place defined keys name k at absent distinct e same =
    let here : slice_get (map text keys) at ≡ Some name.now =
    rw (slice_get-map text keys at, e) (ap Some (sym (same_text name.now k.now same))) in (
      slice_get_behind defined (map text keys) at ∙ here,
      λ place below f. elim (placed defined (map text keys) place name.now f) as (λ _. ⊥) [
        | inl h ↦ false≢true (sym absent ∙ stands_among defined name.now place h)
        | inr h ↦ (let one : h.0 ≡ at = apart keys distinct h.0 at name.now h.2 here in let is : place
            ≡ length defined + h.0 = h.1 in omega arith)
      ],
    )

last_place : (names : List (List ℕ)) (name : List ℕ) → slice_get (names ++ name ∷ []) (length names) ≡ Some name
last_place names name = let e : length names ≡ length names + 0 =
    omega arith in rw e (slice_get_behind names (name ∷ []) 0)

-- A name that is none of the others has its first place at the end.
first_at_end : (names : List (List ℕ)) (name : List ℕ) → list_any (bytes_eq name) names ≡ false
    → IsFirstPlace (names ++ name ∷ []) name (length names)
first_at_end names name absent = (
  last_place names name,
  λ k below e. elim (placed names (name ∷ []) k name e) as (λ _. ⊥) [
    | inl h ↦ false≢true (sym absent ∙ stands_among names name k h)
    | inr h ↦ (let is : k ≡ length names + h.0 = h.1 in omega arith)
  ],
)

other_way : (a b : List ℕ) → bytes_eq a b ≡ false → bytes_eq b a ≡ false
other_way a b e = go (bytes_eq b a) refl
  where
    go : (t : Bool) → bytes_eq b a ≡ t → t ≡ false
    go true f = absurd (false≢true (sym e ∙ (bytes_eq-Decides a b).1 (sym (same_text b a f))))
    go false f = refl

-- what a place says of the names and one more, by what it says of the names
abbrev Says : List (List ℕ) → List ℕ → Option ℕ → Type 0
Says names q o = MatchOption o (list_any (bytes_eq q) names ≡ false) (IsFirstPlace names q)

says_more : (names : List (List ℕ)) (name q : List ℕ) (o : Option ℕ) → bytes_eq q name ≡ false → Says names q o
    → Says (names ++ name ∷ []) q o
says_more names name q None other h = rw (list_any-append (bytes_eq q) names (name ∷ []), h, other) refl
says_more names name q (Some id) other h = known_place names (name ∷ []) q id h

says_again : (names : List (List ℕ)) (name q : List ℕ) (o : Option ℕ) → list_any (bytes_eq name) names ≡ true
    → Says names q o → Says (names ++ name ∷ []) q o
says_again names name q (Some id) found h = known_place names (name ∷ []) q id h
says_again names name q None found h = go (bytes_eq q name) refl
  where
    go : (b : Bool) → bytes_eq q name ≡ b → list_any (bytes_eq q) (names ++ name ∷ []) ≡ false
    go true e = absurd (false≢true (sym (subst (λ (x : List ℕ). list_any (bytes_eq x) names ≡ false)
        (same_text q name e) h) ∙ found))
    go false e = rw (list_any-append (bytes_eq q) names (name ∷ []), h, e) refl

-- One more name, which the map has already.
pub places_same : {S : Type 0} (places : HashMap (Bor (List ℕ)) ℕ S) (names : List (List ℕ)) (name : List ℕ)
    → AreFirstPlaces places names
    → list_any (bytes_eq name) names ≡ true
    → AreFirstPlaces places (names ++ name ∷ [])
places_same places names name are found q =
    says_again names name q (get_by (λ (k : Bor (List ℕ)). bytes_eq q k.now) places) found (are q)

-- One more name, which is noted at its place.
pub places_more : {S : Type 0} (old new : HashMap (Bor (List ℕ)) ℕ S) (names : List (List ℕ)) (name : List ℕ)
    → AreFirstPlaces old names
    → list_any (bytes_eq name) names ≡ false
    → ((q : List ℕ) → get_by (λ (k : Bor (List ℕ)). bytes_eq q k.now) new
    ≡ cond (bytes_eq name q) (Some (length names)) (get_by (λ (k : Bor (List ℕ)). bytes_eq q k.now) old))
    → AreFirstPlaces new (names ++ name ∷ [])
places_more old new names name are absent noted q = go (bytes_eq name q) refl (noted q)
  where
    go : (b : Bool) → bytes_eq name q ≡ b → get_by (λ (k : Bor (List ℕ)). bytes_eq q k.now) new
        ≡ cond b (Some (length names)) (get_by (λ (k : Bor (List ℕ)). bytes_eq q k.now) old)
        → Says (names ++ name ∷ []) q (get_by (λ (k : Bor (List ℕ)). bytes_eq q k.now) new)
    go true e f = subst (Says (names ++ name ∷ []) q) (sym f)
        (subst (λ (x : List ℕ). IsFirstPlace (names ++ name ∷ []) x (length names)) (same_text name q e)
        (first_at_end names name absent))
    go false e f = subst (Says (names ++ name ∷ []) q) (sym f)
        (says_more names name q (get_by (λ (k : Bor (List ℕ)). bytes_eq q k.now) old) (other_way name q e) (are q))
