-- The ids of a module that a text spells stand in the tables of its functions.
use Rattle.std.proofs.Common.{◌≡◌, ℕ, ◌<◌, List, [], ◌∷◌, length, map, slice_get, Some, All, sym, ap, ◌∙◌, subst}
use Rattle.std.proofs.lemmas.List.{length-map}
use Rattle.std.proofs.lemmas.List.Elements.{All-nil, All-cons}
use Rattle.std.proofs.lemmas.Option.{slice_get_within}
use Rattle.ir_model.specs.declared.function.ValueInfo.{ValueInfo}
use Rattle.ir_model.specs.declared.function.Function.{Function}
use Rattle.ir_model.specs.declared.item.Item.{Item}
use Rattle.ir_model.specs.declared.item.Item.TheVariants as item
use Rattle.ir_model.specs.declared.item.Module.{Module}
use Rattle.ir_text.specs.Written.{Name}
use Rattle.ir_text.specs.Mentions.{Mention}
use Rattle.ir_text.specs.Mentions as mention
use Rattle.ir_model.specs.Sites.{Site, function_sites}
use Rattle.ir_text.specs.Sites.{Draft}
use Rattle.ir_model.specs.Sites as site
use Rattle.ir_grammar.specs.Numbering.{Tables, tables_of, named, text_of_name, StandsFor, EachMatches, IsNumbered, IsNumberedItem, IsNumberedModule}
use Rattle.ir_model.specs.WellMade.{IsInTable, HasIds, ItemHasIds, HaveIds}

module _ (f : Function) (tables : Tables) (values : length tables.values ≡ length f.values)
    (labels : length tables.labels ≡ length f.labels) where
  value_within : (id : ℕ) (name : Name) → slice_get tables.values id ≡ Some name → id < length f.values
  value_within id name at = subst (λ n. id < n) values (slice_get_within tables.values id name at)

  label_within : (id : ℕ) (name : Name) → slice_get tables.labels id ≡ Some name → id < length f.labels
  label_within id name at = subst (λ n. id < n) labels (slice_get_within tables.labels id name at)

  one_within : (s : Site) (m : Mention) → StandsFor tables s m → IsInTable f s
  one_within (site.DefinesValue id) (mention.DefinesValue (Some name)) h = value_within id name h
  one_within (site.UsesValue id) (mention.UsesValue name) h = value_within id name h
  one_within (site.DefinesBlock id) (mention.DefinesBlock (Some name)) h = label_within id name h
  one_within (site.UsesBlock id) (mention.UsesBlock name) h = label_within id name h
  one_within (site.UsesGlobal id) m h = tt
  one_within _ _ h = absurd h

  all_within : (sites : List Site) (ms : List Mention) → EachMatches (StandsFor tables) sites ms
      → All (IsInTable f) sites
  all_within [] ms h = All-nil (IsInTable f)
  all_within (s ∷ sites) [] h = absurd h
  all_within (s ∷ sites) (m ∷ ms) h =
      All-cons (IsInTable f) s sites (one_within s m h.0) (all_within sites ms h.1)

-- lists that are seen as one list have one length
same_length : {A B C : Type 0} (g : A → C) (h : B → C) (xs : List A) (ys : List B) → map g xs ≡ map h ys
    → length ys ≡ length xs
same_length g h xs ys e = sym (length-map ys h) ∙ (sym (ap length e) ∙ length-map xs g)

pub function_has_ids : (globals : List (List ℕ)) (ms : List Mention) (f : Function) → IsNumbered globals ms f → HasIds f
unfolding HasIds
function_has_ids globals ms f n =
    let tables = tables_of globals (named 0 ms) in
    all_within f tables
    (same_length (λ (info : ValueInfo). info.name) text_of_name f.values tables.values n.values)
    (sym (ap length n.labels ∙ length-map tables.labels text_of_name))
    (function_sites f) (named 0 ms) n.ids

item_has_ids : (globals : List (List ℕ)) (draft : Draft) (x : Item) → IsNumberedItem globals draft x → ItemHasIds x
item_has_ids globals draft (item.Define f) h = function_has_ids globals draft.mentions f h.1
item_has_ids globals draft (item.PassedOn text) h = tt
item_has_ids globals draft (item.Global g) h = tt
item_has_ids globals draft (item.Declare d) h = tt

items_have_ids : (globals : List (List ℕ)) (drafts : List Draft) (xs : List Item)
    → EachMatches (IsNumberedItem globals) drafts xs → All ItemHasIds xs
items_have_ids globals drafts [] h = All-nil ItemHasIds
items_have_ids globals [] (x ∷ xs) h = absurd h
items_have_ids globals (draft ∷ drafts) (x ∷ xs) h =
    All-cons ItemHasIds x xs (item_has_ids globals draft x h.0) (items_have_ids globals drafts xs h.1)

pub module_has_ids : (drafts : List Draft) (m : Module) → IsNumberedModule drafts m → HaveIds m
unfolding HaveIds
module_has_ids drafts m n = items_have_ids m.globals drafts m.items n.items_are
