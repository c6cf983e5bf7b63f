-- The names that are printed for a function are bytes, and the numbers are below that of its mentions.
use Rattle.std.proofs.Common.{◌≡◌, ℕ, ◌<◌, ◌≤◌, true, List, [], ◌∷◌, map, length, Option, Some, None, is_none, refl, sym, subst, ◌∙◌, arith}
use Rattle.ir_model.specs.declared.function.Function.{Function}
use Rattle.ir_text.specs.Written.{Name, Text, Number}
use Rattle.ir_text.specs.Mentions.{Mention}
use Rattle.ir_text.specs.Mentions as mention
use Rattle.ir_model.specs.Sites.{Site, function_sites}
use Rattle.ir_model.specs.Sites as site
use Rattle.ir_grammar.specs.Numbering.{Tables, tables_of, named, value_names, label_names, global_names, same_name, text_of_name, IsNumbered}
use Rattle.ir_grammar.specs.Printing.{Value, Block_, named_value, named_block, number_of}
use Rattle.ir_read_back.proofs.Printed.{name_or_number, value_name, label_name, global_name, shown_mention, function_mentions}
use Rattle.ir_printer.proofs.QuotedNames.{AreBytes}
use Rattle.ir_read_back.proofs.ByteNames.{NameIsBytes, MentionIsBytes}
use Rattle.ir_read_back.proofs.EachThing.{first_each, at_place, each_weaker, each_both, all_of_map}
use Rattle.ir_read_back.proofs.NamesApart.{Occurs, number_below, is_its_text}
use Rattle.ir_read_back.proofs.Told.{value_ids, label_ids, global_ids, values_occur, labels_occur, HasPlace, Told, told_all}
use Rattle.ir_read_back.proofs.Numbered.{value_text, label_text, named_as_many}
use Rattle.ir_read_back.proofs.Real.{Each}

-- A text name is bytes, and a number is below this one.
abbrev pub NameWithin : ℕ → Name → Type 0
NameWithin most (Text text) = AreBytes text
NameWithin most (Number n) = n < most

abbrev pub MentionWithin : ℕ → Mention → Type 0
MentionWithin most (mention.DefinesValue None) = Unit {0}
MentionWithin most (mention.DefinesValue (Some name)) = NameWithin most name
MentionWithin most (mention.UsesValue name) = NameWithin most name
MentionWithin most (mention.DefinesBlock None) = Unit {0}
MentionWithin most (mention.DefinesBlock (Some name)) = NameWithin most name
MentionWithin most (mention.UsesBlock name) = NameWithin most name
MentionWithin most (mention.UsesGlobal name) = AreBytes name

-- ---- the names of a text

named_bytes : (ms : List Mention) (next : ℕ) → Each MentionIsBytes ms
    → Each MentionIsBytes (named next ms)
named_bytes [] next all = tt
named_bytes (mention.DefinesValue None ∷ ms) next all = (tt, named_bytes ms _ all.1)
named_bytes (mention.DefinesValue (Some name) ∷ ms) next all = (all.0, named_bytes ms _ all.1)
named_bytes (mention.DefinesBlock None ∷ ms) next all = (tt, named_bytes ms _ all.1)
named_bytes (mention.DefinesBlock (Some name) ∷ ms) next all = (all.0, named_bytes ms _ all.1)
named_bytes (mention.UsesValue name ∷ ms) next all = (all.0, named_bytes ms next all.1)
named_bytes (mention.UsesBlock name ∷ ms) next all = (all.0, named_bytes ms next all.1)
named_bytes (mention.UsesGlobal name ∷ ms) next all = (all.0, named_bytes ms next all.1)

value_names_bytes : (ms : List Mention) → Each MentionIsBytes ms
    → Each NameIsBytes (value_names ms)
value_names_bytes [] all = tt
value_names_bytes (mention.DefinesValue None ∷ ms) all = value_names_bytes ms all.1
value_names_bytes (mention.DefinesValue (Some name) ∷ ms) all = (all.0, value_names_bytes ms all.1)
value_names_bytes (mention.DefinesBlock written ∷ ms) all = value_names_bytes ms all.1
value_names_bytes (mention.UsesValue name ∷ ms) all = (all.0, value_names_bytes ms all.1)
value_names_bytes (mention.UsesBlock name ∷ ms) all = value_names_bytes ms all.1
value_names_bytes (mention.UsesGlobal name ∷ ms) all = value_names_bytes ms all.1

label_names_bytes : (ms : List Mention) → Each MentionIsBytes ms
    → Each NameIsBytes (label_names ms)
label_names_bytes [] all = tt
label_names_bytes (mention.DefinesBlock None ∷ ms) all = label_names_bytes ms all.1
label_names_bytes (mention.DefinesBlock (Some name) ∷ ms) all = (all.0, label_names_bytes ms all.1)
label_names_bytes (mention.DefinesValue written ∷ ms) all = label_names_bytes ms all.1
label_names_bytes (mention.UsesValue name ∷ ms) all = label_names_bytes ms all.1
label_names_bytes (mention.UsesBlock name ∷ ms) all = (all.0, label_names_bytes ms all.1)
label_names_bytes (mention.UsesGlobal name ∷ ms) all = label_names_bytes ms all.1

global_names_bytes : (ms : List Mention) → Each MentionIsBytes ms → Each AreBytes (global_names ms)
global_names_bytes [] all = tt
global_names_bytes (mention.UsesGlobal name ∷ ms) all = (all.0, global_names_bytes ms all.1)
global_names_bytes (mention.DefinesValue written ∷ ms) all = global_names_bytes ms all.1
global_names_bytes (mention.DefinesBlock written ∷ ms) all = global_names_bytes ms all.1
global_names_bytes (mention.UsesValue name ∷ ms) all = global_names_bytes ms all.1
global_names_bytes (mention.UsesBlock name ∷ ms) all = global_names_bytes ms all.1

-- ---- the names that are printed

name_within : (most : ℕ) (text : Option (List ℕ)) (n : ℕ) → ((t : List ℕ) → text ≡ Some t → AreBytes t)
    → (is_none text ≡ true → n < most) → NameWithin most (name_or_number text n)
name_within most None n bytes below = below refl
name_within most (Some text) n bytes below = bytes text refl

text_bytes : (name : Name) (text : List ℕ) → NameIsBytes name → text_of_name name ≡ Some text → AreBytes text
text_bytes name text bytes is = subst NameIsBytes (is_its_text name text is) bytes

-- the names at each site
shown_within : (globals : List (List ℕ)) (f : Function) (most : ℕ) (sites : List Site)
    → Each (λ v. NameWithin most (value_name f v)) (value_ids sites)
    → Each (λ b. NameWithin most (label_name f b)) (label_ids sites)
    → Each (λ g. AreBytes (global_name globals g)) (global_ids sites)
    → Each (MentionWithin most) (map (shown_mention globals f) sites)
shown_within globals f most [] vs bs gs = tt
shown_within globals f most (site.DefinesValue v ∷ sites) vs bs gs =
    (vs.0, shown_within globals f most sites vs.1 bs gs)
shown_within globals f most (site.UsesValue v ∷ sites) vs bs gs = (vs.0, shown_within globals f most sites vs.1 bs gs)
shown_within globals f most (site.DefinesBlock b ∷ sites) vs bs gs =
    (bs.0, shown_within globals f most sites vs bs.1 gs)
shown_within globals f most (site.UsesBlock b ∷ sites) vs bs gs = (bs.0, shown_within globals f most sites vs bs.1 gs)
shown_within globals f most (site.UsesGlobal g ∷ sites) vs bs gs = (gs.0, shown_within globals f most sites vs bs gs.1)

module _ (globals : List (List ℕ)) (ms : List Mention) (f : Function) (numbered : IsNumbered globals ms f)
    (bytes : Each MentionIsBytes ms) (most : ℕ) (few : length ms ≤ most) where
  abbrev sites : List Site
  sites = function_sites f

  abbrev tables : Tables
  tables = tables_of globals (named 0 ms)

  told : Told tables sites (named 0 ms)
  told = told_all tables sites (named 0 ms) numbered.ids

  sites_few : length (function_sites f) ≤ most
  sites_few = omega (arith, told.as_many, named_as_many ms 0)

  value_within : (v : ℕ) → HasPlace tables.values v × Occurs sites (Value v) → NameWithin most (value_name f v)
  value_within v known =
      let name : Name = known.0.0 in
      let text : named_value f v ≡ text_of_name name = value_text f tables.values numbered.values v name known.0.1 in
      let fits : NameIsBytes name =
      at_place NameIsBytes tables.values v name (first_each NameIsBytes same_name (value_names (named 0 ms))
      (value_names_bytes (named 0 ms) (named_bytes ms 0 bytes))) known.0.1 in
      name_within most (named_value f v) (number_of f (Value v)) (λ t e. text_bytes name t fits (sym text ∙ e))
      (λ unnamed. omega (arith, number_below f (Value v) known.1 unnamed, sites_few))

  label_within : (b : ℕ) → HasPlace tables.labels b × Occurs sites (Block_ b) → NameWithin most (label_name f b)
  label_within b known =
      let name : Name = known.0.0 in
      let text : named_block f b ≡ text_of_name name = label_text f tables.labels numbered.labels b name known.0.1 in
      let fits : NameIsBytes name =
      at_place NameIsBytes tables.labels b name (first_each NameIsBytes same_name (label_names (named 0 ms))
      (label_names_bytes (named 0 ms) (named_bytes ms 0 bytes))) known.0.1 in
      name_within most (named_block f b) (number_of f (Block_ b)) (λ t e. text_bytes name t fits (sym text ∙ e))
      (λ unnamed. omega (arith, number_below f (Block_ b) known.1 unnamed, sites_few))

  -- What is printed for the ids of the function is so.
  pub mentions_within : Each (MentionWithin most) (function_mentions globals f)
  mentions_within =
      let values = each_weaker (λ v. HasPlace tables.values v × Occurs sites (Value v))
      (λ v. NameWithin most (value_name f v)) value_within (value_ids sites) (each_both (HasPlace tables.values)
      (λ v. Occurs sites (Value v)) (value_ids sites) told.values (values_occur sites)) in
      let labels = each_weaker (λ b. HasPlace tables.labels b × Occurs sites (Block_ b))
      (λ b. NameWithin most (label_name f b)) label_within (label_ids sites) (each_both (HasPlace tables.labels)
      (λ b. Occurs sites (Block_ b)) (label_ids sites) told.labels (labels_occur sites)) in
      let names : Each AreBytes (map (global_name globals) (global_ids sites)) =
      subst (Each AreBytes) told.global_names_are (global_names_bytes (named 0 ms) (named_bytes ms 0 bytes)) in
      shown_within globals f most sites values labels
      (all_of_map AreBytes (global_name globals) (global_ids sites) names)
