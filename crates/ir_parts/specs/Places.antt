-- While a function is read, each id in it is the position of a token: of the token of its name, or, where nothing is
-- written, of the first token of what is defined.
use Rattle.std.specs.Prelude.{ℕ, List, [], map, Option, slice_get, unwrap_or}
use Rattle.std.specs.Option.{option_and_then}
use Rattle.ir_model.specs.declared.item.Item.{Item}
use Rattle.ir_text.specs.Tokens.{Lexeme}
use Rattle.ir_text.specs.Written.{Text}
use Rattle.ir_text.specs.Said.{said_local, said_label, said_global}
use Rattle.ir_text.specs.Mentions.{Mention}
use Rattle.ir_text.specs.Mentions as mention
use Rattle.ir_model.specs.Sites.{Site}
use Rattle.ir_text.specs.Sites.{Draft, item_sites, without_ids}
use Rattle.ir_model.specs.Sites as site
use Rattle.ir_lex.specs.Tokenized.{Tokenized, lexemes}

-- what the token at a position says
abbrev pub said_at : {A : Type 0} → (Lexeme → Option A) → Tokenized → ℕ → Option A
said_at said t at = option_and_then said (slice_get (lexemes t) at)

-- what an id that is a position mentions
abbrev pub mention_at : Tokenized → Site → Mention
mention_at t (site.DefinesValue at) = mention.DefinesValue (said_at said_local t at)
mention_at t (site.UsesValue at) = mention.UsesValue (unwrap_or (said_at said_local t at) (Text []))
mention_at t (site.DefinesBlock at) = mention.DefinesBlock (said_at said_label t at)
mention_at t (site.UsesBlock at) = mention.UsesBlock (unwrap_or (said_at said_local t at) (Text []))
mention_at t (site.UsesGlobal at) = mention.UsesGlobal (unwrap_or (said_at said_global t at) [])

abbrev pub mentions_at : Tokenized → List Site → List Mention
mentions_at t sites = map (mention_at t) sites

-- an item whose ids are positions, without them, and what it mentions
abbrev pub draft_of : Tokenized → Item → Draft
draft_of t item = record { item = without_ids item; mentions = mentions_at t (item_sites item) }
