-- The names that are printed for a function's ids tell them apart.
use Rattle.std.proofs.Common.{◌≡◌, ℕ, ◌+◌, ◌<◌, ◌≤◌, true, List, [], ◌∷◌, ◌++◌, map, length, Option, Some, None, ◌⊎◌, is_none, refl, sym, ap, ◌∙◌, inl, inr, slice_get, arith, length-append}
use Rattle.std.specs.List.{filter}
use Rattle.std.specs.Option.{unwrap_or}
use Rattle.std.proofs.lemmas.Bool.{false≢true, eq-eqb}
use Rattle.std.proofs.lemmas.Option.{same_Some, none-some}
use Rattle.std.proofs.lemmas.Slice.Eq.{bytes_eq-Decides}
use Rattle.ir_model.specs.declared.function.Function.{Function}
use Rattle.ir_text.specs.Written.{Name, Text, Number}
use Rattle.ir_model.specs.Sites.{Site, DefinesValue, UsesValue, DefinesBlock, UsesBlock, UsesGlobal, function_sites}
use Rattle.ir_grammar.specs.Numbering.{first_occurrences, same_name, text_of_name}
use Rattle.ir_grammar.specs.Printing.{Thing, Value, Block_, same_thing, is_unnamed, defined_things, used_things, unnamed_things, number_of}
use Rattle.ir_grammar.proofs.OnePlace.{one_place}
use Rattle.ir_read_back.proofs.Printed.{name_or_number}
use Rattle.ir_read_back.proofs.Renamed.{same_number, moved_places, moved_tables}
use Rattle.ir_read_back.proofs.Among.{Among, in_first, in_second, in_filter, in_first_occurrences, stands_there, place_within, filter_shorter, first_shorter}
use Rattle.ir_read_back.proofs.Real.{Each}

-- ---- things

thing_itself : (t : Thing) → same_thing t t ≡ true
thing_itself (Value a) = eq-eqb a a refl
thing_itself (Block_ a) = eq-eqb a a refl

thing_equal : (s t : Thing) → same_thing s t ≡ true → s ≡ t
thing_equal (Value a) (Value b) e = ap Value (same_number a b e)
thing_equal (Block_ a) (Block_ b) e = ap Block_ (same_number a b e)
thing_equal (Value a) (Block_ b) e = absurd (false≢true e)
thing_equal (Block_ a) (Value b) e = absurd (false≢true e)

-- The function defines or uses the thing at some of these sites.
abbrev pub Occurs : List Site → Thing → Type 0
Occurs sites t = Among (defined_things sites) t ⊎ Among (used_things sites) t

pub in_unnamed : (f : Function) (t : Thing) → Occurs (function_sites f) t → is_unnamed f t ≡ true
    → Among (unnamed_things f) t
unfolding unnamed_things
in_unnamed f t occurs unnamed =
    let sites : List Site = function_sites f in
    let things : List Thing = defined_things sites ++ used_things sites in
    in_first_occurrences same_thing thing_itself thing_equal (filter (is_unnamed f) things) t
    (in_filter (is_unnamed f) things t unnamed (in_one occurs))
  where
    in_one : Occurs (function_sites f) t → Among (defined_things (function_sites f) ++ used_things (function_sites f)) t
    in_one (inl among) = in_first (defined_things (function_sites f)) (used_things (function_sites f)) t among
    in_one (inr among) = in_second (defined_things (function_sites f)) (used_things (function_sites f)) t among

number_stands : (f : Function) (t : Thing) → Among (unnamed_things f) t
    → slice_get (unnamed_things f) (number_of f t) ≡ Some t
unfolding number_of
number_stands f t among = stands_there same_thing thing_itself thing_equal (unnamed_things f) t among

numbers_apart : (f : Function) (s t : Thing) → Among (unnamed_things f) s → Among (unnamed_things f) t
    → number_of f s ≡ number_of f t → s ≡ t
numbers_apart f s t first second e =
    same_Some s t (sym (number_stands f s first) ∙ (ap (λ (n : ℕ). slice_get (unnamed_things f) n) e
    ∙ number_stands f t second))

-- ---- how many there are

things_fewer : (sites : List Site) → length (defined_things sites) + length (used_things sites) ≤ length sites
things_fewer [] = omega arith
things_fewer (DefinesValue v ∷ sites) = omega (arith, things_fewer sites)
things_fewer (UsesValue v ∷ sites) = omega (arith, things_fewer sites)
things_fewer (DefinesBlock b ∷ sites) = omega (arith, things_fewer sites)
things_fewer (UsesBlock b ∷ sites) = omega (arith, things_fewer sites)
things_fewer (UsesGlobal g ∷ sites) = omega (arith, things_fewer sites)

unnamed_fewer : (f : Function) → length (unnamed_things f) ≤ length (function_sites f)
unfolding unnamed_things
unnamed_fewer f =
    let sites : List Site = function_sites f in
    let things : List Thing = defined_things sites ++ used_things sites in
    omega (
      arith,
      first_shorter same_thing (filter (is_unnamed f) things),
      filter_shorter (is_unnamed f) things,
      things_fewer sites,
      length-append (defined_things sites) (used_things sites),
    )

-- The number of what occurs and has no name is below the number of sites.
pub number_below : (f : Function) (t : Thing) → Occurs (function_sites f) t → is_unnamed f t ≡ true
    → number_of f t < length (function_sites f)
unfolding number_of
number_below f t occurs unnamed =
    omega (
      arith,
      place_within same_thing thing_itself thing_equal (unnamed_things f) t (in_unnamed f t occurs unnamed),
      unnamed_fewer f,
    )

-- ---- names

pub name_itself : (name : Name) → same_name name name ≡ true
name_itself (Text text) = (bytes_eq-Decides text text).1 refl
name_itself (Number n) = eq-eqb n n refl

pub name_equal : (a b : Name) → same_name a b ≡ true → a ≡ b
name_equal (Text a) (Text b) e = ap Text ((bytes_eq-Decides a b).0 e)
name_equal (Number a) (Number b) e = ap Number (same_number a b e)
name_equal (Text a) (Number b) e = absurd (false≢true e)
name_equal (Number a) (Text b) e = absurd (false≢true e)

pub is_its_text : (name : Name) (text : List ℕ) → text_of_name name ≡ Some text → name ≡ Text text
is_its_text (Text a) text e = ap Text (same_Some a text e)
is_its_text (Number n) text e = absurd (none-some text e)

shown_text : (found : Option (List ℕ)) (n : ℕ) → text_of_name (name_or_number found n) ≡ found
shown_text None n = refl
shown_text (Some text) n = refl

-- ---- one table of a function: ids of one sort, the things that they are, and their text names

module _ (f : Function) (thing : ℕ → Thing) (thing_apart : (i j : ℕ) → thing i ≡ thing j → i ≡ j)
    (text : ℕ → Option (List ℕ)) (names : List Name) where
  -- the name that is printed for an id, and the name in the table
  abbrev pub printed : ℕ → Name
  printed i = name_or_number (text i) (number_of f (thing i))

  abbrev pub tabled : ℕ → Name
  tabled i = unwrap_or (slice_get (first_occurrences same_name names) i) (Number 0)

  -- The id has a place in the table, where it has the same text name, and it has a number where it has none.
  pub record Known (i : ℕ) : Type 0 where
    pub name : Name
    pub place : slice_get (first_occurrences same_name names) i ≡ Some name
    pub text_is : text i ≡ text_of_name name
    pub numbered : is_none (text i) ≡ true → Among (unnamed_things f) (thing i)

  names_apart : (i j : ℕ) (a b : Option (List ℕ)) → Known i → Known j → text i ≡ a → text j ≡ b
      → name_or_number a (number_of f (thing i)) ≡ name_or_number b (number_of f (thing j)) → i ≡ j
  names_apart i j (Some a) (Some b) first second is_a is_b e =
      let same : a ≡ b = cc in
      let at_i : first.name ≡ Text a = is_its_text first.name a (sym first.text_is ∙ is_a) in
      let at_j : second.name ≡ Text a = is_its_text second.name a (sym second.text_is ∙ (is_b ∙ ap Some (sym same))) in
      one_place same_name name_itself names i j (Text a) (first.place ∙ ap (λ (n : Name). Some n) at_i)
      (second.place ∙ ap (λ (n : Name). Some n) at_j)
  names_apart i j None None first second is_a is_b e =
      let same : number_of f (thing i) ≡ number_of f (thing j) = cc in
      thing_apart i j (numbers_apart f (thing i) (thing j) (first.numbered (ap is_none is_a))
      (second.numbered (ap is_none is_b)) same)
  names_apart i j (Some a) None first second is_a is_b e = absurd cc
  names_apart i j None (Some b) first second is_a is_b e = absurd cc

  table_place : (i : ℕ) → Known i → slice_get (first_occurrences same_name names) i ≡ Some (tabled i)
  table_place i known =
      known.place ∙ ap (λ (found : Option Name). Some (unwrap_or found (Number 0))) (sym known.place)

  table_text : (i : ℕ) → Known i → text_of_name (printed i) ≡ text_of_name (tabled i)
  table_text i known =
      shown_text (text i) (number_of f (thing i)) ∙ (known.text_is
      ∙ ap (λ (found : Option Name). text_of_name (unwrap_or found (Number 0))) (sym known.place))

  module _ (ids : List ℕ) (are : names ≡ map tabled ids) (known : Each Known ids) where
    tabled_places : (i : ℕ) → Known i → slice_get (first_occurrences same_name (map tabled ids)) i ≡ Some (tabled i)
    tabled_places i knows =
        ap (λ (ns : List Name). slice_get (first_occurrences same_name ns) i) (sym are) ∙ table_place i knows

    -- Each id is the place of the name that is printed for it.
    pub printed_places : (i : ℕ) → Known i
        → slice_get (first_occurrences same_name (map printed ids)) i ≡ Some (printed i)
    printed_places =
        moved_places same_name name_itself name_equal Known printed tabled ids known
        (λ i j p q e. names_apart i j (text i) (text j) p q refl refl e) tabled_places

    -- The table has the same texts.
    pub printed_texts : map text_of_name (first_occurrences same_name (map printed ids))
        ≡ map text_of_name (first_occurrences same_name names)
    printed_texts =
        moved_tables same_name name_itself name_equal Known text_of_name printed tabled ids known
        (λ i j p q e. names_apart i j (text i) (text j) p q refl refl e) tabled_places table_text
        ∙ ap (λ (ns : List Name). map text_of_name (first_occurrences same_name ns)) (sym are)
