-- What a call says of the tokens that it read from a place on, where what it gives is seen by what it stands for: they
-- are a sentence, or where they stop being the beginning of one.
use Rattle.std.specs.Prelude.{ℕ, List, Result, Ok, Err}
use Rattle.ir_text.specs.Tokens.{Lexeme}
use Rattle.ir_text.specs.Mentions.{Mention, Mentioning}
use Rattle.ir_lex.specs.Tokenized.{Tokenized}
use Rattle.ir_parts.specs.declared.fault.ItemFault.{ItemFault}
use Rattle.ir_parts.specs.declared.fault.ItemFault.TheVariants.{CannotGoOn, OutOfMemory}
use Rattle.ir_parts.specs.Sentences.{IsSentence, IsBroken}

-- a language with mentions as one of what is read with its mentions
abbrev pub WithMentions : {A : Type 0} → (A → Mentioning) → A × List Mention → List Lexeme → Type 0
WithMentions L told ts = L told.0 told.1 ts

abbrev pub TellsAs : {X A : Type 0} → (X → A × List Mention) → (A → Mentioning) → Tokenized → ℕ
    → Result (X × ℕ) ItemFault → Type 0
TellsAs view L t from (Ok read) = IsSentence (WithMentions L) t from read.1 (view read.0)
TellsAs view L t from (Err (CannotGoOn at)) = IsBroken (WithMentions L) t from at
TellsAs view L t from (Err OutOfMemory) = Unit {0}
