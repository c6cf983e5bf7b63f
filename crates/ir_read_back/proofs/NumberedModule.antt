-- The printed text of a module has the ids of the module.
use Rattle.std.proofs.Common.{◌≡◌, ℕ, List, [], ◌∷◌, map, refl, sym, ap, subst, ◌∙◌}
use Rattle.ir_model.specs.declared.item.Item.{Item}
use Rattle.ir_model.specs.declared.item.Item.TheVariants as item
use Rattle.ir_model.specs.declared.item.Module.{Module}
use Rattle.ir_text.specs.Mentions.{Mention}
use Rattle.ir_text.specs.Tokens.{Lexeme}
use Rattle.ir_text.specs.Sites.{Draft, without_ids}
use Rattle.ir_grammar.specs.Items.{SpellsDraft, SpellsItems}
use Rattle.ir_grammar.specs.Numbering.{global_names, defined_by, defined_globals, used_globals, global_table, EachMatches, NumberedFunction, IsNumberedItem, IsNumberedModule}
use Rattle.ir_read_back.specs.Normal.{normal_item, normal}
use Rattle.ir_read_back.proofs.Printed.{item_mentions, printed_draft}
use Rattle.ir_read_back.proofs.Numbered.{same_globals, normal_numbered_as_shown}
use Rattle.ir_read_back.proofs.Real.{Each}

-- ---- what mentions names

-- Nothing but a function mentions a name.
abbrev pub MentionsNothing : Item → List Mention → Type 0
MentionsNothing (item.Define f) ms = Unit {0}
MentionsNothing _ ms = ms ≡ []

abbrev pub FunctionsMention : Draft → Type 0
FunctionsMention draft = MentionsNothing draft.item draft.mentions

draft_mentions : (x : Item) (ms : List Mention) (ts : List Lexeme) → SpellsDraft x ms ts → MentionsNothing x ms
draft_mentions (item.PassedOn text) ms ts spelled = spelled.0
draft_mentions (item.Global g) ms ts spelled = spelled.0
draft_mentions (item.Declare d) ms ts spelled = spelled.0
draft_mentions (item.Define f) ms ts spelled = tt

-- So it is in drafts that tokens spell.
pub functions_mention : (drafts : List Draft) (ts : List Lexeme) → SpellsItems drafts ts
    → Each FunctionsMention drafts
functions_mention [] ts spelled = tt
functions_mention (draft ∷ drafts) ts (us, vs, are, dropped, (own, behind, parts, spelled, others, apart)) =
    (draft_mentions draft.item draft.mentions own spelled, functions_mention drafts behind others)

-- ---- one item

same_defined : (x : Item) → defined_by (without_ids (normal_item x)) ≡ defined_by (without_ids x)
same_defined (item.PassedOn text) = refl
same_defined (item.Global g) = refl
same_defined (item.Declare d) = refl
same_defined (item.Define f) = refl

none_used : (ms : List Mention) → ms ≡ [] → global_names ms ≡ []
none_used ms none = ap global_names none

same_used : (globals : List (List ℕ)) (x : Item) (ms : List Mention) → MentionsNothing (without_ids x) ms
    → NumberedFunction globals ms x → global_names (item_mentions globals x) ≡ global_names ms
same_used globals (item.PassedOn text) ms silent numbered = sym (none_used ms silent)
same_used globals (item.Global g) ms silent numbered = sym (none_used ms silent)
same_used globals (item.Declare d) ms silent numbered = sym (none_used ms silent)
same_used globals (item.Define f) ms silent numbered = same_globals globals ms f numbered

numbered_as_printed : (globals : List (List ℕ)) (x : Item) (ms : List Mention) → NumberedFunction globals ms x
    → NumberedFunction globals (item_mentions globals x) (normal_item x)
numbered_as_printed globals (item.PassedOn text) ms numbered = tt
numbered_as_printed globals (item.Global g) ms numbered = tt
numbered_as_printed globals (item.Declare d) ms numbered = tt
numbered_as_printed globals (item.Define f) ms numbered = normal_numbered_as_shown globals ms f numbered

-- ---- all items

module _ (globals : List (List ℕ)) where
  defined_alike : (drafts : List Draft) (xs : List Item) → EachMatches (IsNumberedItem globals) drafts xs
      → defined_globals (map (printed_draft globals) xs) ≡ defined_globals drafts
  defined_alike [] [] match = refl
  defined_alike (draft ∷ drafts) (x ∷ xs) match =
      rw (same_defined x, match.0.0, defined_alike drafts xs match.1) refl
  defined_alike [] (x ∷ xs) match = absurd match
  defined_alike (draft ∷ drafts) [] match = absurd match

  used_alike : (drafts : List Draft) (xs : List Item) → Each FunctionsMention drafts
      → EachMatches (IsNumberedItem globals) drafts xs
      → used_globals (map (printed_draft globals) xs) ≡ used_globals drafts
  used_alike [] [] silent match = refl
  used_alike (draft ∷ drafts) (x ∷ xs) silent match =
      let nothing : MentionsNothing (without_ids x) draft.mentions =
      subst (λ (y : Item). MentionsNothing y draft.mentions) (sym match.0.0) silent.0 in
      rw (same_used globals x draft.mentions nothing match.0.1, used_alike drafts xs silent.1 match.1) refl
  used_alike [] (x ∷ xs) silent match = absurd match
  used_alike (draft ∷ drafts) [] silent match = absurd match

  items_alike : (drafts : List Draft) (xs : List Item) → EachMatches (IsNumberedItem globals) drafts xs
      → EachMatches (IsNumberedItem globals) (map (printed_draft globals) xs) (map normal_item xs)
  items_alike [] [] match = tt
  items_alike (draft ∷ drafts) (x ∷ xs) match =
      ((refl, numbered_as_printed globals x draft.mentions match.0.1), items_alike drafts xs match.1)
  items_alike [] (x ∷ xs) match = absurd match
  items_alike (draft ∷ drafts) [] match = absurd match

table_alike : (drafts others : List Draft) → defined_globals drafts ≡ defined_globals others
    → used_globals drafts ≡ used_globals others → global_table drafts ≡ global_table others
table_alike drafts others defined used = rw (defined, used) refl

-- ---- one module

-- The module with the numerals that are printed has the ids of what is printed of the module.
pub normal_numbered : (drafts : List Draft) (m : Module) → Each FunctionsMention drafts
    → IsNumberedModule drafts m → IsNumberedModule (map (printed_draft m.globals) m.items) (normal m)
unfolding normal
normal_numbered drafts m silent numbered = record {
  globals = numbered.globals ∙ sym (table_alike (map (printed_draft m.globals) m.items) drafts
      (defined_alike m.globals drafts m.items numbered.items_are)
      (used_alike m.globals drafts m.items silent numbered.items_are));
  items_are = items_alike m.globals drafts m.items numbered.items_are;
}
