-- A call that does what a teller does tells of sentences.
use Rattle.std.proofs.Common.{ℕ, ◌≤◌, List, length, Result, Ok, Err}
use Rattle.ir_text.specs.Tokens.{Lexeme}
use Rattle.ir_text.specs.Mentions.{Mention, Mentioning}
use Rattle.ir_lex.specs.Tokenized.{Tokenized}
use Rattle.ir_parts.specs.declared.fault.ItemFault.{ItemFault}
use Rattle.ir_parts.specs.declared.fault.ItemFault.TheVariants.{CannotGoOn, OutOfMemory}
use Rattle.ir_parts.specs.Reading.{left_from, ReadsAs}
use Rattle.ir_parts.proofs.Told.{tells}
use Rattle.ir_body.specs.Telling.{Telling}
use Rattle.ir_body.specs.Sentences.{TellsAs}
use Rattle.ir_body.proofs.Tellers.{IsTeller}

pub tells_as : {X A : Type 0} {read : Telling A} {L : A → Mentioning} {Stop : A → Lexeme → Type 0}
    → IsTeller read L Stop → (view : X → A × List Mention) (t : Tokenized) (from : ℕ) → from ≤ length t.tokens
    → (result : Result (X × ℕ) ItemFault) → ReadsAs view t result (read (left_from t from))
    → TellsAs view L t from result
tells_as teller view t from within (Ok read) e = tells teller.reader t from within (Ok (view read.0, read.1)) e
tells_as teller view t from within (Err (CannotGoOn at)) e = tells teller.reader t from within (Err (CannotGoOn at)) e
tells_as teller view t from within (Err OutOfMemory) e = tt
