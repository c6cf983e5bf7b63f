-- What the printed text of a module mentions, and its items without ids.
use Rattle.std.specs.Prelude.{ℕ, List, [], map, Option, Some, None, unwrap_or, slice_get}
use Rattle.ir_model.specs.declared.function.Function.{Function}
use Rattle.ir_model.specs.declared.item.Item.{Item}
use Rattle.ir_model.specs.declared.item.Item.TheVariants as item
use Rattle.ir_text.specs.Written.{Name, Text, Number}
use Rattle.ir_text.specs.Mentions.{Mention}
use Rattle.ir_model.specs.Sites.{Site, function_sites}
use Rattle.ir_text.specs.Sites.{Draft, without_ids}
use Rattle.ir_grammar.specs.Printing.{Value, Block_, named_value, named_block, number_of}
use Rattle.ir_read_back.specs.Normal.{normal_item}
use Rattle.ir_read_back.proofs.Named.{Names, mention_at}

-- a text name, or else the number
abbrev pub name_or_number : Option (List ℕ) → ℕ → Name
name_or_number (Some text) n = Text text
name_or_number None n = Number n

-- the name that is printed for a value, for a block and for a global
abbrev pub value_name : Function → ℕ → Name
value_name f v = name_or_number (named_value f v) (number_of f (Value v))

abbrev pub label_name : Function → ℕ → Name
label_name f b = name_or_number (named_block f b) (number_of f (Block_ b))

abbrev pub global_name : List (List ℕ) → ℕ → List ℕ
global_name globals g = unwrap_or (slice_get globals g) []

-- the names that are printed for a function's ids
abbrev pub names_of : List (List ℕ) → Function → Names
names_of globals f = record { values = value_name f; labels = label_name f; globals = global_name globals }

-- the mention that is printed for an id
abbrev pub shown_mention : List (List ℕ) → Function → Site → Mention
shown_mention globals f = mention_at (names_of globals f)

abbrev pub function_mentions : List (List ℕ) → Function → List Mention
function_mentions globals f = map (shown_mention globals f) (function_sites f)

abbrev pub item_mentions : List (List ℕ) → Item → List Mention
item_mentions globals (item.Define f) = function_mentions globals f
item_mentions globals _ = []

-- an item as its text spells it
abbrev pub printed_draft : List (List ℕ) → Item → Draft
printed_draft globals x = record { item = without_ids (normal_item x); mentions = item_mentions globals x }
