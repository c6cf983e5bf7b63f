-- The text that is printed of a function has the ids of the function.
use Rattle.std.proofs.Common.{suc, length, ◌≡◌, ℕ, List, [], ◌∷◌, map, Option, Some, None, refl, sym, ap, ◌∙◌, slice_get}
use Rattle.std.specs.Option.{option_map, unwrap_or}
use Rattle.std.proofs.lemmas.Option.{slice_get-map, same_Some, none-some}
use Rattle.ir_model.specs.declared.function.Function.{Function}
use Rattle.ir_model.specs.declared.function.ValueInfo.{ValueInfo}
use Rattle.ir_text.specs.Written.{Name}
use Rattle.ir_text.specs.Mentions.{Mention}
use Rattle.ir_text.specs.Mentions as mention
use Rattle.ir_model.specs.Sites.{Site, function_sites}
use Rattle.ir_model.specs.Sites as site
use Rattle.ir_grammar.specs.Numbering.{Tables, tables_of, named, value_names, label_names, global_names, first_occurrences, same_name, text_of_name, StandsFor, EachMatches, IsFirstPlace, IsNumbered}
use Rattle.ir_grammar.specs.Printing.{Thing, Value, Block_, named_value, named_block}
use Rattle.ir_read_back.specs.Normal.{normal_function}
use Rattle.ir_read_back.proofs.Printed.{value_name, label_name, global_name, shown_mention, function_mentions}
use Rattle.ir_read_back.proofs.NamesApart.{Occurs, in_unnamed, Known, printed_places, printed_texts}
use Rattle.ir_read_back.proofs.Typed.{types_normal, sites_normal}
use Rattle.ir_read_back.proofs.Told.{value_ids, label_ids, global_ids, named_shown, shown_values, shown_labels, shown_globals, values_occur, labels_occur, HasPlace, Told, told_all}
use Rattle.ir_read_back.proofs.EachThing.{each_both, each_weaker}
use Rattle.ir_read_back.proofs.Real.{Each}

-- ---- the tables' text names

value_text_of : (f : Function) (v : ℕ) (text : Option (List ℕ)) (found : Option ValueInfo)
    → slice_get f.values v ≡ found → option_map (λ (info : ValueInfo). info.name) found ≡ Some text
    → named_value f v ≡ text
value_text_of f v text None at e = absurd (none-some text e)
value_text_of f v text (Some info) at e = rw at (same_Some info.name text e)

pub value_text : (f : Function) (names : List Name)
    → map (λ (info : ValueInfo). info.name) f.values ≡ map text_of_name names → (v : ℕ) (name : Name)
    → slice_get names v ≡ Some name → named_value f v ≡ text_of_name name
value_text f names are v name at =
    value_text_of f v (text_of_name name) (slice_get f.values v) refl
    (sym (slice_get-map (λ (info : ValueInfo). info.name) f.values v)
    ∙ (ap (λ (texts : List (Option (List ℕ))). slice_get texts v) are
    ∙ (slice_get-map text_of_name names v ∙ ap (option_map text_of_name) at)))

pub label_text : (f : Function) (names : List Name) → f.labels ≡ map text_of_name names → (b : ℕ) (name : Name)
    → slice_get names b ≡ Some name → named_block f b ≡ text_of_name name
label_text f names are b name at =
    ap (λ (found : Option (Option (List ℕ))). unwrap_or found None)
    (ap (λ (texts : List (Option (List ℕ))). slice_get texts b) are
    ∙ (slice_get-map text_of_name names b ∙ ap (option_map text_of_name) at))

value_apart : (i j : ℕ) → ◌≡◌ {A = Thing} (Value i) (Value j) → i ≡ j
value_apart i j e = cc

label_apart : (i j : ℕ) → ◌≡◌ {A = Thing} (Block_ i) (Block_ j) → i ≡ j
label_apart i j e = cc

-- ---- the printed mentions

-- Ids that are the places of their printed names stand for what is printed.
shown_match : (globals : List (List ℕ)) (f : Function) (tables : Tables) (KnownValue KnownLabel : ℕ → Type 0)
    → ((v : ℕ) → KnownValue v → slice_get tables.values v ≡ Some (value_name f v))
    → ((b : ℕ) → KnownLabel b → slice_get tables.labels b ≡ Some (label_name f b))
    → (sites : List Site) → Each KnownValue (value_ids sites) → Each KnownLabel (label_ids sites)
    → Each (λ g. IsFirstPlace tables.globals (global_name globals g) g) (global_ids sites)
    → EachMatches (StandsFor tables) sites (map (shown_mention globals f) sites)
shown_match globals f tables P Q value label [] vs bs gs = tt
shown_match globals f tables P Q value label (site.DefinesValue v ∷ sites) vs bs gs =
    (value v vs.0, shown_match globals f tables P Q value label sites vs.1 bs gs)
shown_match globals f tables P Q value label (site.UsesValue v ∷ sites) vs bs gs =
    (value v vs.0, shown_match globals f tables P Q value label sites vs.1 bs gs)
shown_match globals f tables P Q value label (site.DefinesBlock b ∷ sites) vs bs gs =
    (label b bs.0, shown_match globals f tables P Q value label sites vs bs.1 gs)
shown_match globals f tables P Q value label (site.UsesBlock b ∷ sites) vs bs gs =
    (label b bs.0, shown_match globals f tables P Q value label sites vs bs.1 gs)
shown_match globals f tables P Q value label (site.UsesGlobal g ∷ sites) vs bs gs =
    (gs.0, shown_match globals f tables P Q value label sites vs bs gs.1)

named_globals : (ms : List Mention) (next : ℕ) → global_names (named next ms) ≡ global_names ms
named_globals [] next = refl
named_globals (mention.DefinesValue written ∷ ms) next = named_globals ms _
named_globals (mention.DefinesBlock written ∷ ms) next = named_globals ms _
named_globals (mention.UsesValue name ∷ ms) next = named_globals ms next
named_globals (mention.UsesBlock name ∷ ms) next = named_globals ms next
named_globals (mention.UsesGlobal name ∷ ms) next =
    ap (λ (names : List (List ℕ)). name ∷ names) (named_globals ms next)

pub named_as_many : (ms : List Mention) (next : ℕ) → length (named next ms) ≡ length ms
named_as_many [] next = refl
named_as_many (mention.DefinesValue written ∷ ms) next = ap suc (named_as_many ms _)
named_as_many (mention.DefinesBlock written ∷ ms) next = ap suc (named_as_many ms _)
named_as_many (mention.UsesValue name ∷ ms) next = ap suc (named_as_many ms next)
named_as_many (mention.UsesBlock name ∷ ms) next = ap suc (named_as_many ms next)
named_as_many (mention.UsesGlobal name ∷ ms) next = ap suc (named_as_many ms next)

module _ (globals : List (List ℕ)) (ms : List Mention) (f : Function) (numbered : IsNumbered globals ms f) where
  abbrev sites : List Site
  sites = function_sites f

  abbrev tables : Tables
  tables = tables_of globals (named 0 ms)

  abbrev of_values : List Name
  of_values = value_names (named 0 ms)

  abbrev of_labels : List Name
  of_labels = label_names (named 0 ms)

  abbrev KnownValue : ℕ → Type 0
  KnownValue v = Known f Value value_apart (named_value f) of_values v

  abbrev KnownLabel : ℕ → Type 0
  KnownLabel b = Known f Block_ label_apart (named_block f) of_labels b

  told : Told tables sites (named 0 ms)
  told = told_all tables sites (named 0 ms) numbered.ids

  known_value : (v : ℕ) → HasPlace tables.values v × Occurs sites (Value v) → KnownValue v
  known_value v known = record {
    name = known.0.0;
    place = known.0.1;
    text_is = value_text f tables.values numbered.values v known.0.0 known.0.1;
    numbered = in_unnamed f (Value v) known.1;
  }

  known_values : Each KnownValue (value_ids sites)
  known_values =
      each_weaker (λ v. HasPlace tables.values v × Occurs sites (Value v)) KnownValue known_value (value_ids sites)
      (each_both (HasPlace tables.values) (λ v. Occurs sites (Value v)) (value_ids sites) told.values
      (values_occur sites))

  known_label : (b : ℕ) → HasPlace tables.labels b × Occurs sites (Block_ b) → KnownLabel b
  known_label b known = record {
    name = known.0.0;
    place = known.0.1;
    text_is = label_text f tables.labels numbered.labels b known.0.0 known.0.1;
    numbered = in_unnamed f (Block_ b) known.1;
  }

  known_labels : Each KnownLabel (label_ids sites)
  known_labels =
      each_weaker (λ b. HasPlace tables.labels b × Occurs sites (Block_ b)) KnownLabel known_label (label_ids sites)
      (each_both (HasPlace tables.labels) (λ b. Occurs sites (Block_ b)) (label_ids sites) told.labels
      (labels_occur sites))

  -- the mentions that are printed, and their tables
  abbrev shown : List Mention
  shown = function_mentions globals f

  value_places : (v : ℕ) → KnownValue v
      → slice_get (first_occurrences same_name (value_names shown)) v ≡ Some (value_name f v)
  value_places v known =
      rw (shown_values globals f sites)
      (printed_places f Value value_apart (named_value f) of_values (value_ids sites) told.value_names_are known_values
      v known)

  label_places : (b : ℕ) → KnownLabel b
      → slice_get (first_occurrences same_name (label_names shown)) b ≡ Some (label_name f b)
  label_places b known =
      rw (shown_labels globals f sites)
      (printed_places f Block_ label_apart (named_block f) of_labels (label_ids sites) told.label_names_are known_labels
      b known)

  value_texts : map (λ (info : ValueInfo). info.name) f.values
      ≡ map text_of_name (first_occurrences same_name (value_names shown))
  value_texts =
      rw (shown_values globals f sites)
      (numbered.values ∙ sym (printed_texts f Value value_apart (named_value f) of_values (value_ids sites)
      told.value_names_are known_values))

  label_texts : f.labels ≡ map text_of_name (first_occurrences same_name (label_names shown))
  label_texts =
      rw (shown_labels globals f sites)
      (numbered.labels ∙ sym (printed_texts f Block_ label_apart (named_block f) of_labels (label_ids sites)
      told.label_names_are known_labels))

  shown_ids : EachMatches (StandsFor (tables_of globals shown)) sites shown
  shown_ids =
      shown_match globals f (tables_of globals shown) KnownValue KnownLabel value_places label_places sites known_values
      known_labels told.globals

  -- The globals that are mentioned are the same.
  pub same_globals : global_names (function_mentions globals f) ≡ global_names ms
  same_globals =
      shown_globals globals f sites ∙ (sym told.global_names_are ∙ named_globals ms 0)

  -- There are as many mentions as ids.
  pub as_many_mentions : length ms ≡ length (function_sites f)
  as_many_mentions = sym (named_as_many ms 0) ∙ told.as_many

  -- The function has the ids of what is printed of it.
  pub numbered_as_shown : IsNumbered globals shown f
  numbered_as_shown =
      let named_so : named 0 shown ≡ shown = named_shown globals f sites 0 in
      record {
        ids = rw named_so shown_ids;
        values = rw named_so value_texts;
        labels = rw named_so label_texts;
        types = numbered.types;
      }

  -- So has the function with the numerals that are printed.
  pub normal_numbered_as_shown : IsNumbered globals shown (normal_function f)
  normal_numbered_as_shown =
      let same = numbered_as_shown in
      record {
        ids = rw (sites_normal f) same.ids;
        values = same.values;
        labels = same.labels;
        types = types_normal f.params f.blocks f.values numbered.types;
      }
