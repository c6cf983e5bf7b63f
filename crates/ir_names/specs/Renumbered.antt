-- What it means that a walk past some mentions gave them their ids.
use Rattle.std.specs.Prelude.{◌≡◌, ℕ, List, [], ◌∷◌}
use Rattle.std.specs.Str.{bytes_eq}
use Rattle.ir_text.specs.Mentions.{Mention}
use Rattle.ir_text.specs.Mentions as mention
use Rattle.ir_model.specs.Sites.{Site}
use Rattle.ir_grammar.specs.Numbering.{Tables, named, next_after, or_next, value_names, label_names, global_names, same_name, StandsFor, EachMatches}
use Rattle.ir_lex.specs.Tokenized.{Tokenized}
use Rattle.ir_parts.specs.Places.{mentions_at}
use Rattle.ir_names.specs.declared.seen.Seen.{Seen}
use Rattle.ir_names.specs.Growing.{with_names, IsPrefix}

-- the number of the next thing without a name, behind these mentions
abbrev pub next_behind : ℕ → List Mention → ℕ
next_behind next [] = next
next_behind next (mention.DefinesValue written ∷ ms) = next_behind (next_after next (or_next written next)) ms
next_behind next (mention.DefinesBlock written ∷ ms) = next_behind (next_after next (or_next written next)) ms
next_behind next (m ∷ ms) = next_behind next ms

-- Past these mentions, each name is in its table.
pub record Passes (old new : Seen) (ms : List Mention) : Type 0 where
  pub next : new.next ≡ next_behind old.next ms
  pub values : new.values ≡ with_names same_name old.values (value_names (named old.next ms))
  pub labels : new.labels ≡ with_names same_name old.labels (label_names (named old.next ms))
  pub globals : new.globals ≡ with_names bytes_eq old.globals (global_names ms)

-- Each table keeps what it has in front.
pub record Grows (seen : Seen) (later : Tables) : Type 0 where
  pub values : IsPrefix seen.values later.values
  pub labels : IsPrefix seen.labels later.labels
  pub globals : IsPrefix seen.globals later.globals

-- Ids that are positions became ids of the tables, which stay right as the tables grow.
pub record Becomes (t : Tokenized) (old new : Seen) (before after : List Site) : Type 0 where
  pub passes : Passes old new (mentions_at t before)
  pub ids : (later : Tables) → Grows new later
      → EachMatches (StandsFor later) after (named old.next (mentions_at t before))

-- So did those of a thing, in which all else stayed.
pub record Renumbers {A : Type 0} (sites : A → List Site) (bare : A → A) (t : Tokenized) (old new : Seen)
    (x y : A) : Type 0 where
  pub becomes : Becomes t old new (sites x) (sites y)
  pub same : bare y ≡ bare x
