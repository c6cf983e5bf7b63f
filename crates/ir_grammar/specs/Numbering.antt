-- Which ids the names of a module get: those of its values, of its blocks and of its globals.
use Rattle.std.specs.Prelude.{◌≡◌, ℕ, ◌+◌, ◌<◌, Bool, false, not, ◌==◌, max, List, [], ◌∷◌, ◌++◌, map, Option, Some, None, slice_get}
use Rattle.std.specs.List.{filter, list_any}
use Rattle.std.specs.Str.{bytes_eq}
use Rattle.ir_model.specs.declared.function.Function.{Function}
use Rattle.ir_model.specs.declared.function.ValueInfo.{ValueInfo}
use Rattle.ir_model.specs.declared.item.Item.{Item}
use Rattle.ir_model.specs.declared.item.Item.TheVariants as item
use Rattle.ir_model.specs.declared.item.Module.{Module}
use Rattle.ir_model.specs.Defined.{HasTypes}
use Rattle.ir_text.specs.Written.{Name, Text, Number}
use Rattle.ir_text.specs.Mentions.{Mention}
use Rattle.ir_text.specs.Mentions as mention
use Rattle.ir_model.specs.Sites.{Site, function_sites}
use Rattle.ir_text.specs.Sites.{Draft, without_ids}
use Rattle.ir_model.specs.Sites as site

-- ---- names

-- the number that the next thing without a name takes, when this name was defined
abbrev pub next_after : ℕ → Name → ℕ
next_after next (Text text) = next
next_after next (Number n) = max next (n + 1)

-- a name that is written, else the next number
abbrev pub or_next : Option Name → ℕ → Name
or_next (Some name) next = name
or_next None next = Number next

-- The mentions with a name each, in text order: what is defined without one takes one more than the greatest number
-- that was defined before in the function, from 0, whether a value or a block.
abbrev pub named : ℕ → List Mention → List Mention
named next [] = []
named next (mention.DefinesValue written ∷ ms) =
    mention.DefinesValue (Some (or_next written next)) ∷ named (next_after next (or_next written next)) ms
named next (mention.DefinesBlock written ∷ ms) =
    mention.DefinesBlock (Some (or_next written next)) ∷ named (next_after next (or_next written next)) ms
named next (m ∷ ms) = m ∷ named next ms

-- the names of the values, of the blocks and of the globals that are mentioned
abbrev pub value_names : List Mention → List Name
value_names [] = []
value_names (mention.DefinesValue (Some name) ∷ ms) = name ∷ value_names ms
value_names (mention.UsesValue name ∷ ms) = name ∷ value_names ms
value_names (_ ∷ ms) = value_names ms

abbrev pub label_names : List Mention → List Name
label_names [] = []
label_names (mention.DefinesBlock (Some name) ∷ ms) = name ∷ label_names ms
label_names (mention.UsesBlock name ∷ ms) = name ∷ label_names ms
label_names (_ ∷ ms) = label_names ms

abbrev pub global_names : List Mention → List (List ℕ)
global_names [] = []
global_names (mention.UsesGlobal name ∷ ms) = name ∷ global_names ms
global_names (_ ∷ ms) = global_names ms

abbrev pub same_name : Name → Name → Bool
same_name (Text a) (Text b) = bytes_eq a b
same_name (Number m) (Number n) = m == n
same_name _ _ = false

-- each of some things once, in the order in which they first occur
abbrev pub first_occurrences : {A : Type 0} → (A → A → Bool) → List A → List A
first_occurrences same [] = []
first_occurrences same (x ∷ xs) = x ∷ filter (λ y. not (same x y)) (first_occurrences same xs)

-- the text of a name, where it is one
abbrev pub text_of_name : Name → Option (List ℕ)
text_of_name (Text text) = Some text
text_of_name (Number n) = None

-- ---- functions

-- the names that ids stand for
pub record Tables : Type 0 where
  pub values : List Name
  pub labels : List Name
  pub globals : List (List ℕ)

-- values and blocks by first occurrence
abbrev pub tables_of : List (List ℕ) → List Mention → Tables
tables_of globals ms = record {
  values = first_occurrences same_name (value_names ms);
  labels = first_occurrences same_name (label_names ms);
  globals = globals;
}

-- The id is the first place of the name.
abbrev pub IsFirstPlace : List (List ℕ) → List ℕ → ℕ → Type 0
IsFirstPlace names name id = (slice_get names id ≡ Some name) × ((k : ℕ) → k < id → slice_get names k ≡ Some name → ⊥)

-- An id stands for what is mentioned.
abbrev pub StandsFor : Tables → Site → Mention → Type 0
StandsFor tables (site.DefinesValue id) (mention.DefinesValue (Some name)) = slice_get tables.values id ≡ Some name
StandsFor tables (site.UsesValue id) (mention.UsesValue name) = slice_get tables.values id ≡ Some name
StandsFor tables (site.DefinesBlock id) (mention.DefinesBlock (Some name)) = slice_get tables.labels id ≡ Some name
StandsFor tables (site.UsesBlock id) (mention.UsesBlock name) = slice_get tables.labels id ≡ Some name
StandsFor tables (site.UsesGlobal id) (mention.UsesGlobal name) = IsFirstPlace tables.globals name id
StandsFor tables _ _ = ⊥

-- Two lists have matching things at each place.
abbrev pub EachMatches : {A B : Type 0} → (A → B → Type 0) → List A → List B → Type 0
EachMatches Matches [] [] = Unit {0}
EachMatches Matches (x ∷ xs) (y ∷ ys) = Matches x y × EachMatches Matches xs ys
EachMatches Matches _ _ = ⊥

-- The function has, in text order, the ids of what is mentioned, and its tables have the names and the types.
pub record IsNumbered (globals : List (List ℕ)) (ms : List Mention) (f : Function) : Type 0 where
  pub ids : EachMatches (StandsFor (tables_of globals (named 0 ms))) (function_sites f) (named 0 ms)
  pub values : map (λ (info : ValueInfo). info.name) f.values ≡ map text_of_name (tables_of globals (named 0 ms)).values
  pub labels : f.labels ≡ map text_of_name (tables_of globals (named 0 ms)).labels
  pub types : HasTypes f.params f.blocks f.values

-- ---- modules

-- the name of a global item
abbrev pub defined_by : Item → List (List ℕ)
defined_by (item.Global g) = g.name ∷ []
defined_by _ = []

-- the names of the global items, in order
abbrev pub defined_globals : List Draft → List (List ℕ)
defined_globals [] = []
defined_globals (draft ∷ drafts) = defined_by draft.item ++ defined_globals drafts

-- the names of globals that operands mention, in text order
abbrev pub used_globals : List Draft → List (List ℕ)
used_globals [] = []
used_globals (draft ∷ drafts) = global_names draft.mentions ++ used_globals drafts

-- the names of the global items, and then each other one that is mentioned, by first occurrence
abbrev pub global_table : List Draft → List (List ℕ)
global_table drafts = defined_globals drafts
    ++ first_occurrences bytes_eq (filter (λ name. not (list_any (bytes_eq name) (defined_globals drafts)))
    (used_globals drafts))

-- A function is numbered; other items have no ids.
abbrev pub NumberedFunction : List (List ℕ) → List Mention → Item → Type 0
NumberedFunction globals ms (item.Define f) = IsNumbered globals ms f
NumberedFunction globals ms _ = Unit {0}

-- The item is the draft with ids.
abbrev pub IsNumberedItem : List (List ℕ) → Draft → Item → Type 0
IsNumberedItem globals draft x = (without_ids x ≡ draft.item) × NumberedFunction globals draft.mentions x

pub record IsNumberedModule (drafts : List Draft) (m : Module) : Type 0 where
  pub globals : m.globals ≡ global_table drafts
  pub items_are : EachMatches (IsNumberedItem m.globals) drafts m.items
