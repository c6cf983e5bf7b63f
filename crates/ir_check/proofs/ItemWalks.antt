-- Items that break a rule, one item at a time.
use Rattle.std.proofs.Common.{◌≡◌, ℕ, zero, suc, ◌≤◌, Bool, true, false, ◌||◌, List, [], ◌∷◌, ◌++◌, length, drop, map}
use Rattle.std.proofs.Common.{Some, None, slice_get, Bor, refl, sym, ap, arith}
use Rattle.std.specs.List.{list_any}
use Rattle.std.specs.Str.{bytes_eq}
use Rattle.std.proofs.lemmas.List.Folds.{list_any-append}
use Rattle.std.proofs.lemmas.Option.{none-some, same_Some}
use Rattle.ir_model.specs.declared.item.Item.{Item}
use Rattle.ir_model.specs.declared.rule.Place.{Place}
use Rattle.ir_model.specs.declared.rule.Place.TheVariants as at
use Rattle.ir_rules.specs.Spots.{repeated}
use Rattle.ir_rules.specs.Items.{name_of, numbered_names, same_item_name}

-- an element stands before those behind it
pub drop_at : {X : Type 0} (xs : List X) (i : ℕ) (x : X) → slice_get xs i ≡ Some x
    → drop i xs ≡ x ∷ drop (suc i) xs
drop_at [] i x e = absurd (none-some _ e)
drop_at (y ∷ xs) zero x e = ap (λ z. z ∷ xs) (same_Some _ _ e)
drop_at (y ∷ xs) (suc i) x e = drop_at xs i x e

-- behind the last one stands nothing
pub drop_end : {X : Type 0} (xs : List X) (i : ℕ) → length xs ≤ i → drop i xs ≡ []
drop_end [] zero e = refl
drop_end [] (suc i) e = refl
drop_end (x ∷ xs) zero e = absurd (omega arith)
drop_end (x ∷ xs) (suc i) e = drop_end xs i (omega arith)

-- names without numbers
abbrev pub unnumbered : List (Bor (List ℕ)) → List (ℕ × List ℕ)
unnumbered keys = map (λ (k : Bor (List ℕ)). (0, k.now)) keys

-- the places of the items whose name one before them has, or one of some others
abbrev pub duplicates_behind : List (Bor (List ℕ)) → ℕ → List Item → List Place
duplicates_behind keys n items =
    map (λ (named : ℕ × List ℕ). at.Item named.0) (repeated same_item_name (unnumbered keys) (numbered_names n items))

-- Only the names before matter, and not their order.
repeated_same : {A : Type 0} (same : A → A → Bool) (before others xs : List A)
    → ((x : A) → list_any (same x) before ≡ list_any (same x) others)
    → repeated same before xs ≡ repeated same others xs
repeated_same same before others [] e = refl
repeated_same same before others (x ∷ xs) e =
    rw (e x, repeated_same same (x ∷ before) (x ∷ others) xs (λ y. ap (λ b. same y x || b) (e y))) refl

any_unnumbered : (named : ℕ × List ℕ) (keys : List (Bor (List ℕ)))
    → list_any (same_item_name named) (unnumbered keys) ≡ list_any (λ (k : Bor (List ℕ)). bytes_eq named.1 k.now) keys
any_unnumbered named [] = refl
any_unnumbered named (k ∷ keys) = rw (any_unnumbered named keys) refl

or_first : (a b : Bool) → (a || b) ≡ (b || (a || false))
or_first true true = refl
or_first true false = refl
or_first false true = refl
or_first false false = refl

-- one more name before
any_more : (named : ℕ × List ℕ) (n : ℕ) (name : Bor (List ℕ)) (keys : List (Bor (List ℕ)))
    → list_any (same_item_name named) ((n, name.now) ∷ unnumbered keys)
    ≡ list_any (same_item_name named) (unnumbered (keys ++ name ∷ []))
any_more named n name keys =
    let test = λ (k : Bor (List ℕ)). bytes_eq named.1 k.now in
    rw (any_unnumbered named (keys ++ name ∷ []), any_unnumbered named keys, list_any-append test keys (name ∷ []))
    (or_first (bytes_eq named.1 name.now) (list_any test keys))

module _ (items : List Item) (i : ℕ) (x : Item) (keys : List (Bor (List ℕ)))
    (here : slice_get items i ≡ Some x) where
  -- an item without a name
  pub nameless : None ≡ name_of x
      → slice_get (duplicates_behind keys i (drop i items)) 0
      ≡ slice_get (duplicates_behind keys (suc i) (drop (suc i) items)) 0
  nameless none = rw (drop_at items i x here, sym none) refl

  module _ (name : Bor (List ℕ)) (named : Some name.now ≡ name_of x) where
    -- an item whose name stands before
    pub named_again : list_any (λ (k : Bor (List ℕ)). bytes_eq name.now k.now) keys ≡ true
        → Some (at.Item i) ≡ slice_get (duplicates_behind keys i (drop i items)) 0
    named_again again = rw (drop_at items i x here, sym named, any_unnumbered (i, name.now) keys, again) refl

    -- an item whose name is new
    pub newly_named : list_any (λ (k : Bor (List ℕ)). bytes_eq name.now k.now) keys ≡ false
        → slice_get (duplicates_behind keys i (drop i items)) 0
        ≡ slice_get (duplicates_behind (keys ++ name ∷ []) (suc i) (drop (suc i) items)) 0
    newly_named new =
        rw (drop_at items i x here, sym named, any_unnumbered (i, name.now) keys, new)
        (ap (λ all. slice_get (map (λ (named : ℕ × List ℕ). at.Item named.0) all) 0)
        (repeated_same same_item_name ((i, name.now) ∷ unnumbered keys) (unnumbered (keys ++ name ∷ []))
        (numbered_names (suc i) (drop (suc i) items)) (λ q. any_more q i name keys)))
