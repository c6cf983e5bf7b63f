-- What is shown of ids, and the names that it says.
use Rattle.std.proofs.Common.{map, ℕ, ◌^◌, ◌<◌, List, [], unwrap_or, slice_get, Some}
use Rattle.ir_text.specs.Written.{Name, Text, Number, Says, SaysGlobal}
use Rattle.ir_text.specs.Mentions.{Mention}
use Rattle.ir_text.specs.Mentions as mention
use Rattle.ir_model.specs.Sites.{Site}
use Rattle.ir_model.specs.Sites as site
use Rattle.ir_grammar.specs.Printing.{Shown, name_text}
use Rattle.ir_read_back.proofs.Real.{Each}

-- the names that the ids of values, blocks and globals stand for
pub record Names : Type 0 where
  pub values : ℕ → Name
  pub labels : ℕ → Name
  pub globals : ℕ → List ℕ

-- what is mentioned at a site; each definition is written with its name
abbrev pub mention_at : Names → Site → Mention
mention_at names (site.DefinesValue v) = mention.DefinesValue (Some (names.values v))
mention_at names (site.UsesValue v) = mention.UsesValue (names.values v)
mention_at names (site.DefinesBlock b) = mention.DefinesBlock (Some (names.labels b))
mention_at names (site.UsesBlock b) = mention.UsesBlock (names.labels b)
mention_at names (site.UsesGlobal g) = mention.UsesGlobal (names.globals g)

-- The number of what has no text name is below 2^64.
abbrev pub NameFits : Name → Type 0
NameFits (Text name) = Unit {0}
NameFits (Number n) = n < 2 ^ 64

-- What is shown says the name.
pub record Shows (written : List ℕ) (name : Name) : Type 0 where
  pub says : Says written name
  pub fits : NameFits name

-- What is shown at a site says the name there.
abbrev pub IsShown : Shown → Names → Site → Type 0
IsShown shown names (site.DefinesValue v) = Shows (shown.values v) (names.values v)
IsShown shown names (site.UsesValue v) = Shows (shown.values v) (names.values v)
IsShown shown names (site.DefinesBlock b) = Shows (shown.labels b) (names.labels b)
IsShown shown names (site.UsesBlock b) = Shows (shown.labels b) (names.labels b)
IsShown shown names (site.UsesGlobal g) =
    SaysGlobal (name_text (unwrap_or (slice_get shown.globals g) [])) (names.globals g)

-- So it is at sites, and what is mentioned there.
abbrev pub AreShown : Shown → Names → List Site → Type 0
AreShown shown names sites = Each (IsShown shown names) sites

abbrev pub said_at : Names → List Site → List Mention
said_at names sites = map (mention_at names) sites
