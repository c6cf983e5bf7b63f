-- Keys are equal exactly where their names are.
use Rattle.std.proofs.Common.{◌≡◌, ℕ, Bool, true, false, List, [], ◌∷◌, ◌++◌, Option, Some, map, slice_get, refl, sym, ap, ◌∙◌, cond}
use Rattle.std.specs.List.{list_any}
use Rattle.std.proofs.lemmas.Bool.{false≢true}
use Rattle.std.proofs.lemmas.Bool.Decides.{Decides-eqb}
use Rattle.std.proofs.lemmas.List.{map-append}
use Rattle.std.proofs.lemmas.Option.{slice_get-map}
use Rattle.std.proofs.lemmas.Slice.Eq.{bytes_eq-Decides}
use Rattle.ir_text.specs.Written.{Name, Text, Number}
use Rattle.ir_grammar.specs.Numbering.{same_name, text_of_name}
use Rattle.ir_names.specs.declared.key.Key.{Key}
use Rattle.ir_names.specs.declared.key.Key.TheVariants as key
use Rattle.ir_names.specs.contracts.key.KeyPartialEq.TheImpl.{eq-value}
use Rattle.ir_names.specs.Keys.{name_of_key}
use Rattle.ir_names.specs.Growing.{with_name}

-- the test by which a table finds a key
abbrev pub same_key : Key → Key → Bool
same_key a b = eq-value.it a b

pub same_key_is : (a b : Key) → same_key a b ≡ same_name (name_of_key a) (name_of_key b)
same_key_is (key.Text a) (key.Text b) = refl
same_key_is (key.Text a) (key.Number n) = refl
same_key_is (key.Number m) (key.Text b) = refl
same_key_is (key.Number m) (key.Number n) = refl

pub same_name_only : (x y : Name) → same_name x y ≡ true → x ≡ y
same_name_only (Text a) (Text b) e = ap Text ((bytes_eq-Decides a b).0 e)
same_name_only (Text a) (Number n) e = absurd (false≢true e)
same_name_only (Number m) (Text b) e = absurd (false≢true e)
same_name_only (Number m) (Number n) e = ap Number ((Decides-eqb m n).0 e)

pub same_name_self : (x : Name) → same_name x x ≡ true
same_name_self (Text a) = (bytes_eq-Decides a a).1 refl
same_name_self (Number m) = (Decides-eqb m m).1 refl

any_key : (k : Key) (keys : List Key) → list_any (same_key k) keys
    ≡ list_any (same_name (name_of_key k)) (map name_of_key keys)
any_key k [] = refl
any_key k (x ∷ keys) = rw (same_key_is k x, any_key k keys) refl

-- A key that is inserted is a name that is added.
pub inserted : (k : Key) (keys : List Key)
    → map name_of_key (cond (list_any (same_key k) keys) keys (keys ++ k ∷ []))
    ≡ with_name same_name (map name_of_key keys) (name_of_key k)
inserted k keys = rw (any_key k keys) (go (list_any (same_name (name_of_key k)) (map name_of_key keys)))
  where
    go : (b : Bool) → map name_of_key (cond b keys (keys ++ k ∷ []))
        ≡ cond b (map name_of_key keys) (map name_of_key keys ++ name_of_key k ∷ [])
    go true = refl
    go false = map-append name_of_key keys (k ∷ [])

-- The stored key has the name.
pub stored_key : (keys : List Key) (at : ℕ) (k stored : Key) → slice_get keys at ≡ Some stored → same_key k stored
    ≡ true
    → slice_get (map name_of_key keys) at ≡ Some (name_of_key k)
stored_key keys at k stored e same =
    let named : name_of_key k ≡ name_of_key stored = same_name_only _ _ (sym (same_key_is k stored) ∙ same) in
    rw (slice_get-map name_of_key keys at, e, named) refl

-- the text of a key's name, where it is one
abbrev pub text_of_key : Key → Option (List ℕ)
text_of_key k = text_of_name (name_of_key k)

pub texts_of : (keys : List Key) → map text_of_key keys ≡ map text_of_name (map name_of_key keys)
texts_of [] = refl
texts_of (k ∷ keys) = ap (λ ts. text_of_key k ∷ ts) (texts_of keys)
