-- A map of the first places of names, as one more name is noted.
use Rattle.std.proofs.Common.{◌≡◌, ℕ, Bool, true, false, cond, List, [], ◌∷◌, ◌++◌, length, Option, Some, None, find}
use Rattle.std.proofs.Common.{if◌then◌else◌, refl, sym, ap, ◌∙◌, Bor}
use Rattle.std.specs.Option.{option_or}
use Rattle.std.specs.Str.{bytes_eq}
use Rattle.std.specs.HashMap.{HashMap}
use Rattle.std.proofs.lemmas.Slice.Eq.{bytes_eq-Decides}
use Rattle.ir_model.specs.declared.signature.Signature.{Signature}
use Rattle.ir_check.specs.Firsts.{place_in, AreFirstPlaces}
use Rattle.ir_check.proofs.Positions.{position_push, found_at, find_position}

-- Names that are equal byte by byte are one.
pub same_text : (a b : List ℕ) → bytes_eq a b ≡ true → a ≡ b
same_text a b e = (bytes_eq-Decides a b).0 e

-- A name that isn't there is noted.
pub noted : (old : List ℕ → Option ℕ) (name q : List ℕ) (at : ℕ) (new : Option ℕ) → None ≡ old name
    → new ≡ cond (bytes_eq name q) (Some at) (old q)
    → new ≡ option_or (old q) (if bytes_eq name q then Some at else None)
noted old name q at new none is = is ∙ go (bytes_eq name q) refl
  where
    none_behind : (o : Option ℕ) → o ≡ option_or o None
    none_behind None = refl
    none_behind (Some i) = refl

    go : (b : Bool) → bytes_eq name q ≡ b
        → cond b (Some at) (old q) ≡ option_or (old q) (if b then Some at else None)
    go true e = rw (ap old (sym (same_text name q e)) ∙ sym none) refl
    go false e = none_behind (old q)

-- A name that is there stays.
pub kept : (old : List ℕ → Option ℕ) (name q : List ℕ) (at place : ℕ) → Some place ≡ old name
    → old q ≡ option_or (old q) (if bytes_eq name q then Some at else None)
kept old name q at place some = go (bytes_eq name q) refl
  where
    none_behind : (o : Option ℕ) → o ≡ option_or o None
    none_behind None = refl
    none_behind (Some i) = refl

    go : (b : Bool) → bytes_eq name q ≡ b → old q ≡ option_or (old q) (if b then Some at else None)
    go true e = rw (ap old (sym (same_text name q e)) ∙ sym some) refl
    go false e = none_behind (old q)

-- The first places of some functions and one more.
pub places_more : {S : Type 0} (old new : HashMap (Bor (List ℕ)) ℕ S) (functions : List Signature) (s : Signature)
    → AreFirstPlaces old functions
    → ((q : List ℕ) → place_in new q
    ≡ option_or (place_in old q) (if bytes_eq s.name q then Some (length functions) else None))
    → AreFirstPlaces new (functions ++ s ∷ [])
places_more old new functions s are more q = more q
    ∙ (ap (λ o. option_or o (if bytes_eq s.name q then Some (length functions) else None)) (are q)
    ∙ sym (position_push (λ (s : Signature). bytes_eq s.name q) functions s))

-- The function at a name's place.
pub function_at : {S : Type 0} (places : HashMap (Bor (List ℕ)) ℕ S) (functions : List Signature) (name : List ℕ)
    (o : Option ℕ) → AreFirstPlaces places functions → o ≡ place_in places name
    → found_at functions o ≡ find (λ (s : Signature). bytes_eq s.name name) functions
function_at places functions name o are is = ap (found_at functions) (is ∙ are name)
    ∙ sym (find_position (λ (s : Signature). bytes_eq s.name name) functions)
