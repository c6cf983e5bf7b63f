-- Reading the items of a module, each by its first token.
use Rattle.std.specs.Prelude.{◌≡◌, ℕ, ◌-◌, ◌≤◌, Bool, false, ◌&&◌, List, [], ◌∷◌, ◌++◌, length, map, Option, Some, None, Result, Ok, Err, codes}
use Rattle.std.specs.Option.{is_some, option_map}
use Rattle.ir_model.specs.declared.function.Function.{Function}
use Rattle.ir_model.specs.declared.item.Global_.{Global_}
use Rattle.ir_model.specs.declared.item.Declare.{Declare}
use Rattle.ir_model.specs.declared.item.Item.{Item}
use Rattle.ir_model.specs.declared.item.Item.TheVariants as item
use Rattle.ir_text.specs.Tokens.{Lexeme}
use Rattle.ir_text.specs.Said.{said_global}
use Rattle.ir_text.specs.Mentions.{Mention}
use Rattle.ir_model.specs.Sites.{Site}
use Rattle.ir_text.specs.Sites.{Draft, item_sites, without_ids}
use Rattle.ir_lex.specs.Tokenized.{Tokenized, lexemes}
use Rattle.ir_parts.specs.declared.fault.ItemFault.{ItemFault}
use Rattle.ir_parts.specs.declared.fault.ItemFault.TheVariants.{CannotGoOn, OutOfMemory}
use Rattle.ir_parts.specs.declared.ending.Ending.{Ending}
use Rattle.ir_parts.specs.Reading.{Read, ◌>>=◌, pure, refuse, made, is_keyword, choose}
use Rattle.ir_parts.specs.MetadataReading.{is_metadata}
use Rattle.ir_parts.specs.ListReading.{all_to_end_at}
use Rattle.ir_parts.specs.Places.{draft_of}
use Rattle.ir_items.specs.declared.global_ending.GlobalEnding.{GlobalEnding}
use Rattle.ir_items.specs.declared.global_ending.GlobalEnding.TheVariants as global
use Rattle.ir_items.specs.TailReading.{is_empty_run}
use Rattle.ir_items.specs.GlobalReading.{ended_global_at}
use Rattle.ir_items.specs.DroppedReading.{metadata_item_at}
use Rattle.ir_items.specs.DeclaredReading.{declare_at}
use Rattle.ir_items.specs.LineReading.{passed_line_at}
use Rattle.ir_functions.specs.Functions.{function_at}
use Rattle.ir_reader.specs.declared.items.ItemEnding.{ItemEnding}
use Rattle.ir_reader.specs.declared.items.ItemEnding.TheVariants.{Whole, Global, Declared}

-- an item, or none where it is dropped, and how it ends; with the mentions in it
abbrev pub Told : Type 0
Told = (Option Item × ItemEnding) × List Mention

-- ---- what is made of each kind

abbrev pub of_global : Global_ × GlobalEnding → Told
of_global ended = ((Some (item.Global ended.0), Global ended.1), [])

abbrev pub of_metadata : Unit {0} → Told
of_metadata x = ((None, Whole), [])

abbrev pub of_declare : Option Declare × Ending → Told
of_declare ended = ((option_map (λ declare. item.Declare declare) ended.0, Declared ended.1), [])

abbrev pub of_function : Function × List Mention → Told
of_function told = ((Some (item.Define told.0), Whole), told.1)

abbrev pub of_line : List ℕ → Told
of_line text = ((Some (item.PassedOn text), Whole), [])

-- ---- by the first token

abbrev pub is_global_name : Lexeme → Bool
is_global_name t = is_some (said_global t)

unfoldable pub global_item_at : Read Told
global_item_at = made of_global ended_global_at

unfoldable pub metadata_dropped_at : Read Told
metadata_dropped_at = made of_metadata metadata_item_at

unfoldable pub declare_item_at : Read Told
declare_item_at = made of_declare declare_at

unfoldable pub function_item_at : Read Told
function_item_at = made of_function function_at

unfoldable pub line_item_at : Read Told
line_item_at = made of_line passed_line_at

unfoldable pub defined_or_line_at : Read Told
defined_or_line_at = choose (is_keyword (codes "define")) function_item_at line_item_at

unfoldable pub worded_item_at : Read Told
worded_item_at = choose (is_keyword (codes "declare")) declare_item_at defined_or_line_at

unfoldable pub unnamed_item_at : Read Told
unnamed_item_at = choose is_metadata metadata_dropped_at worded_item_at

unfoldable pub item_at : Read Told
item_at = choose is_global_name global_item_at unnamed_item_at

-- ---- all items

-- Metadata behind the comma of an empty run is no item: it would be an attachment.
abbrev pub ends_in_comma : ItemEnding → Bool
ends_in_comma (Global (global.Words ending)) = is_empty_run ending
ends_in_comma _ = false

abbrev pub barred_behind : ItemEnding → Lexeme → Bool
barred_behind ending t = ends_in_comma ending && is_metadata t

abbrev pub barred : Told → Lexeme → Bool
barred told t = barred_behind told.0.1 t

-- what isn't dropped
abbrev pub with_draft : Option Item → List Mention → List Draft → List Draft
with_draft None ms drafts = drafts
with_draft (Some item) ms drafts = record { item = item; mentions = ms } ∷ drafts

abbrev pub drafts_of : List Told → List Draft
drafts_of [] = []
drafts_of (told ∷ items) = with_draft told.0.0 told.1 (drafts_of items)

unfoldable pub items_at : Read (List Draft)
items_at = made drafts_of (all_to_end_at barred item_at)

-- ---- what the code reads

-- an item behind which nothing is barred
unfoldable pub free_item_at : Read Told
free_item_at = item_at >>= λ told. choose (barred_behind told.0.1) refuse (pure told)

-- an item without its ids, and the ids in it
abbrev pub bare_item : Option Item × ItemEnding → Option Item × ItemEnding
bare_item ended = (option_map without_ids ended.0, ended.1)

abbrev pub sites_if_any : Option Item → List Site
sites_if_any None = []
sites_if_any (Some item) = item_sites item

-- with one more item, where there is one
abbrev pub with_item : List Item → Option Item → List Item
with_item items None = items
with_item items (Some item) = items ++ item ∷ []

-- All items are read, or refused at a token, unless memory runs out.
abbrev pub ReadsAll : Tokenized → Result (List Item) ItemFault → Type 0
ReadsAll t (Ok items) = items_at (lexemes t) ≡ Ok (map (draft_of t) items, [])
ReadsAll t (Err (CannotGoOn at)) = (items_at (lexemes t) ≡ Err (length t.tokens - at)) × (at ≤ length t.tokens)
ReadsAll t (Err OutOfMemory) = Unit {0}
