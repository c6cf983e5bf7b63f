-- What is read of a declaration tells of sentences of the grammar.
use Rattle.std.proofs.Common.{ℕ, ◌≤◌, List, [], ◌∷◌, ◌++◌, length, Option, Result, Ok, Err}
use Rattle.ir_model.specs.declared.item.Declare.{Declare}
use Rattle.ir_text.specs.Tokens.{Lexeme}
use Rattle.ir_text.specs.Language.{Language}
use Rattle.ir_lex.specs.Tokenized.{Tokenized}
use Rattle.ir_parts.specs.declared.ending.Ending.{Ending}
use Rattle.ir_parts.specs.declared.fault.ItemFault.{ItemFault}
use Rattle.ir_parts.specs.declared.fault.ItemFault.TheVariants.{CannotGoOn, OutOfMemory}
use Rattle.ir_parts.specs.Reading.{left_from, Reads}
use Rattle.ir_parts.specs.Sentences.{Begins, IsSentence, IsBroken, Tells}
use Rattle.ir_parts.proofs.Told.{tells}
use Rattle.ir_items.specs.DeclaredReading.{declare_at, SpellsDeclareIfAny}
use Rattle.ir_items.proofs.DeclareReader.{SpellsEndedDeclare, ended_declares, declare_there, declare_back}

-- the grammar says nothing of how the words end
abbrev SpellsRead : Option Declare × Ending → Language
SpellsRead ended = SpellsDeclareIfAny ended.0

begins_ended : (ts : List Lexeme) → Begins SpellsRead ts → Begins SpellsEndedDeclare ts
begins_ended ts begun =
    let ended = declare_back begun.whole.0 (ts ++ begun.others) begun.sentence in
    record { whole = (begun.whole.0, ended.0); others = begun.others; sentence = ended.1 }

is_sentence : (t : Tokenized) (from after : ℕ) (ended : Option Declare × Ending)
    → IsSentence SpellsEndedDeclare t from after ended → IsSentence SpellsRead t from after ended
is_sentence t from after ended s = record {
  taken = s.taken;
  parts = s.parts;
  spelled = declare_there ended s.taken s.spelled;
  no_longer = λ next behind is begun. s.no_longer next behind is (begins_ended (s.taken ++ next ∷ []) begun);
}

is_broken : (t : Tokenized) (from at : ℕ) → IsBroken SpellsEndedDeclare t from at → IsBroken SpellsRead t from at
is_broken t from at b = record {
  taken = b.taken;
  parts = b.parts;
  begun = record {
    whole = b.begun.whole;
    others = b.begun.others;
    sentence = declare_there b.begun.whole (b.taken ++ b.begun.others) b.begun.sentence;
  };
  no_sentence = λ ended l. let found = declare_back ended.0 b.taken l in b.no_sentence (ended.0, found.0) found.1;
  no_longer = λ next behind is begun. b.no_longer next behind is (begins_ended (b.taken ++ next ∷ []) begun);
}

as_grammar : (t : Tokenized) (from : ℕ) (result : Result ((Option Declare × Ending) × ℕ) ItemFault)
    → Tells SpellsEndedDeclare t from result → Tells SpellsRead t from result
as_grammar t from (Ok found) tell = is_sentence t from found.1 found.0 tell
as_grammar t from (Err (CannotGoOn at)) tell = is_broken t from at tell
as_grammar t from (Err OutOfMemory) tell = tt

pub declare_tells : (t : Tokenized) (from : ℕ) → from ≤ length t.tokens
    → (result : Result ((Option Declare × Ending) × ℕ) ItemFault)
    → Reads t result (declare_at (left_from t from)) → Tells SpellsRead t from result
declare_tells t from within result e = as_grammar t from result (tells ended_declares t from within result e)
