-- Calls are read, with their attachments.
use Rattle.std.proofs.Common.{◌≡◌, ℕ, Bool, List, [], ◌∷◌, ◌++◌, Option, Some, None, ◌⊎◌, inl, inr, refl, sym, ap, subst, ◌∙◌}
use Rattle.ir_text.specs.Tokens.{Lexeme}
use Rattle.ir_text.specs.Listed.{sign}
use Rattle.ir_text.specs.Language.{Language, ◌·◌, one}
use Rattle.ir_text.specs.Language.Many.{none, more}
use Rattle.ir_text.specs.Mentions.{Mentioning, ◌⊙◌, silent}
use Rattle.ir_text.specs.PassedOn.{attachments, in_parentheses}
use Rattle.ir_grammar.specs.Operations.{the_sign}
use Rattle.ir_parts.specs.declared.ending.Ending.{Ending}
use Rattle.ir_parts.specs.declared.ending.Run.{Run}
use Rattle.ir_parts.specs.Reading.{one_at}
use Rattle.ir_parts.specs.WordsReading.{parentheses_at}
use Rattle.ir_parts.specs.Runs.{SpellsRunText}
use Rattle.ir_parts.proofs.Readers.{StopsAt, IsReader, of_stop, stops_at_all}
use Rattle.ir_parts.proofs.Combined.{behind_token}
use Rattle.ir_parts.proofs.MaybeReader.{maybe_reads}
use Rattle.ir_parts.proofs.MetadataReaders.{NoComma, parentheses_read, attachments_read}
use Rattle.ir_parts.proofs.TakingReader.{taking_reads}
use Rattle.ir_parts.proofs.WordsReader.{StopsWords, words_read}
use Rattle.ir_parts.proofs.RunEnds.{ends_each}
use Rattle.ir_body.specs.declared.operation.Operation.{Operation}
use Rattle.ir_parts.specs.Reading as reading
use Rattle.ir_body.specs.Telling.{Telling, ◌>>=◌, ◌⊗◌, ◌▷◌, made, silently, sign_at}
use Rattle.ir_body.proofs.Tellers.{IsTeller, silent_tells, told_reading, each_tells, made_tells, skip, both, sign_tells}
use Rattle.ir_functions.proofs.SameReadings.{skip_same, first_same, both_same, made_same, silently_skip, silently_made, made_made, skip_made, first_made, then_made, listed_same}
use Rattle.ir_functions.specs.declared.arguments.Argument.{Argument}
use Rattle.ir_functions.specs.declared.argument_list.Arguments.{Arguments}
use Rattle.ir_functions.specs.declared.calls.CallHead.{CallHead}
use Rattle.ir_functions.specs.declared.calls.Callee.{Callee}
use Rattle.ir_functions.specs.declared.calls.Callee.TheVariants.{Dropped, Named}
use Rattle.ir_functions.specs.Arguments.{argument_at, arguments_at, arguments_of, some_given_at, given_at}
use Rattle.ir_functions.specs.Silent.{trailing_at}
use Rattle.ir_functions.specs.Calls.{callee_of, tail_of, ended_at, dropped_at, call_of, called_at, behind_callee_at, call_at}
use Rattle.ir_functions.proofs.LineFacts.{StopsTail}
use Rattle.ir_functions.proofs.ArgumentLists.{SpellsArguments, arguments_tell}
use Rattle.ir_functions.proofs.CalleeReaders.{IsRead, callee_reads}
use Rattle.ir_functions.proofs.HeadReaders.{SpellsHead, head_reads}

-- ---- behind a call

-- passed-on words with their text, and attachments with their tokens
abbrev pub Behind : Type 0
Behind = (Run × List ℕ) × (Unit {0} × List Lexeme)

abbrev pub SpellsTrailing : Behind → Language
SpellsTrailing p = SpellsRunText p.0 · (λ us. attachments us × (p.1.1 ≡ us))

-- some tokens are there
abbrev IsThere : List Lexeme → Type 0
IsThere [] = ⊥
IsThere (t ∷ ts) = Unit {0}

-- attachments begin with a comma
attachments_first : (ts : List Lexeme) → attachments ts
    → (ts ≡ []) ⊎ ((others : List Lexeme) × (ts ≡ sign 44 ∷ others))
attachments_first ts none = inl refl
attachments_first ts (more us vs parts first others) = inr (
  first.1 ++ vs,
  parts ∙ ap (λ (us : List Lexeme). us ++ vs) (first.2 ∙ ap (λ (cs : List Lexeme). cs ++ first.1) first.3),
)

attachments_end : (said : Run × List ℕ) (found : Unit {0} × List Lexeme) (taken rest : List Lexeme)
    → attachments taken × (found.1 ≡ taken) → IsThere found.1 → StopsAt (StopsWords said) (taken ++ rest)
attachments_end said found taken rest l is = elim (attachments_first taken l.0) [
  | inl e ↦ absurd (subst IsThere (l.1 ∙ e) is)
  | inr (others, e) ↦
      subst (λ (ts : List Lexeme). StopsAt (StopsWords said) (ts ++ rest)) (sym e)
      (ends_each said.0.ending (sign 44) refl)
]

there_or_none : (found : Unit {0} × List Lexeme) (taken : List Lexeme) → attachments taken × (found.1 ≡ taken)
    → IsThere found.1 ⊎ ((taken ≡ []) × (IsThere found.1 → ⊥))
there_or_none found taken l = elim (attachments_first taken l.0) [
  | inl e ↦ inr (e, λ is. subst IsThere (l.1 ∙ e) is)
  | inr (others, e) ↦ inl (subst IsThere (sym (l.1 ∙ e)) tt)
]

-- What doesn't go on behind a call.
abbrev pub StopsBehind : Behind → Lexeme → Type 0
StopsBehind p t = StopsTail (tail_of p) t

stops_there : (p : Behind) (t : Lexeme)
    → NoComma p.1.0 t × ((IsThere p.1.1 → ⊥) → StopsWords p.0 t) → StopsBehind p t
stops_there (said, (u, [])) t stop = (stop.0, stop.1 (λ is. is))
stops_there (said, (u, v ∷ vs)) t stop = (stop.0, tt)

stops_back : (p : Behind) (t : Lexeme) → StopsBehind p t
    → NoComma p.1.0 t × ((IsThere p.1.1 → ⊥) → StopsWords p.0 t)
stops_back (said, (u, [])) t stop = (stop.0, λ nothing. stop.1)
stops_back (said, (u, v ∷ vs)) t stop = (stop.0, λ nothing. absurd (nothing tt))

trailing_reads : IsReader trailing_at SpellsTrailing StopsBehind
unfolding trailing_at
trailing_reads = of_stop StopsBehind stops_there stops_back
    (maybe_reads (λ found. IsThere found.1) words_read (taking_reads attachments_read) attachments_end there_or_none)

-- ---- a call, from behind its callee

-- what stands behind the callee of a call that is dropped, and of another
abbrev pub DroppedParts : Behind → Language
DroppedParts p = in_parentheses · SpellsTrailing p

abbrev pub CalledParts : List Argument × Behind → Mentioning
CalledParts p = the_sign 40 ⊙ (SpellsArguments p.0 ⊙ silent (SpellsTrailing p.1))

-- a call, or none, and how it ends
abbrev pub Read : Type 0
Read = Option Operation × Option Ending

abbrev pub make_dropped : Behind → Read
make_dropped p = (None, tail_of p)

abbrev pub make_call : CallHead → List ℕ → List Argument × Behind → Read
make_call head name p = (Some (call_of head name (arguments_of p.0) p.1.0.1), tail_of p.1)

abbrev pub SpellsBehindCallee : CallHead → Callee → Read → Mentioning
SpellsBehindCallee head Dropped read ms ts = (p : Behind) × (read ≡ make_dropped p) × silent (DroppedParts p) ms ts
SpellsBehindCallee head (Named name) read ms ts = (p : List Argument × Behind) × (read ≡ make_call head name p)
    × CalledParts p ms ts

-- the same, of all that is read
dropped_parts_at : Telling Read
dropped_parts_at = made make_dropped (silently (reading.◌▷◌ parentheses_at trailing_at))

called_parts_at : CallHead → List ℕ → Telling Read
called_parts_at head name = made (make_call head name) (sign_at 40 ▷ (arguments_at ⊗ silently trailing_at))

abbrev text_and_end : Behind → List ℕ × Option Ending
text_and_end p = (p.0.1, tail_of p)

abbrev given_and_end : List Argument × Behind → Arguments × (List ℕ × Option Ending)
given_and_end p = (arguments_of p.0, text_and_end p.1)

same_ended : (ts : List Lexeme) → silently ended_at ts ≡ made text_and_end (silently trailing_at) ts
unfolding ended_at
same_ended ts = silently_made text_and_end trailing_at ts

dropped_same : (ts : List Lexeme) → dropped_at ts ≡ dropped_parts_at ts
unfolding dropped_at dropped_parts_at
dropped_same ts =
    made_same no_call (silently parentheses_at ▷ silently ended_at)
    (made text_and_end (silently parentheses_at ▷ silently trailing_at))
    (λ ts. skip_same (silently parentheses_at) (silently ended_at) (made text_and_end (silently trailing_at))
    same_ended ts
    ∙ skip_made (silently parentheses_at) text_and_end (silently trailing_at) ts) ts
    ∙ (made_made no_call text_and_end (silently parentheses_at ▷ silently trailing_at) ts
    ∙ sym (made_same make_dropped (silently (reading.◌▷◌ parentheses_at trailing_at))
    (silently parentheses_at ▷ silently trailing_at) (silently_skip parentheses_at trailing_at) ts))
  where
    no_call : List ℕ × Option Ending → Read
    no_call t = (None, t.1)

same_given : (ts : List Lexeme) → given_at ts ≡ made arguments_of arguments_at ts
unfolding given_at some_given_at arguments_at
same_given ts = listed_same arguments_of argument_at 41 ts

parts_same : (ts : List Lexeme) → (given_at ⊗ silently ended_at) ts
    ≡ made given_and_end (arguments_at ⊗ silently trailing_at) ts
parts_same ts =
    first_same given_at (made arguments_of arguments_at) (silently ended_at) same_given ts
    ∙ (first_made arguments_of arguments_at (silently ended_at) ts
    ∙ (made_same with_arguments (arguments_at ⊗ silently ended_at) (made with_end (arguments_at ⊗ silently trailing_at))
    (λ ts. both_same arguments_at (silently ended_at) (made text_and_end (silently trailing_at)) same_ended ts
    ∙ then_made text_and_end arguments_at (silently trailing_at) ts) ts
    ∙ made_made with_arguments with_end (arguments_at ⊗ silently trailing_at) ts))
  where
    with_arguments : List Argument × (List ℕ × Option Ending) → Arguments × (List ℕ × Option Ending)
    with_arguments p = (arguments_of p.0, p.1)

    with_end : List Argument × Behind → List Argument × (List ℕ × Option Ending)
    with_end p = (p.0, text_and_end p.1)

called_same : (head : CallHead) (name : List ℕ) (ts : List Lexeme) → called_at head name ts
    ≡ called_parts_at head name ts
unfolding called_at called_parts_at
called_same head name ts =
    made_same call (sign_at 40 ▷ (given_at ⊗ silently ended_at))
    (made given_and_end (sign_at 40 ▷ (arguments_at ⊗ silently trailing_at)))
    (λ ts. skip_same (sign_at 40) (given_at ⊗ silently ended_at)
    (made given_and_end (arguments_at ⊗ silently trailing_at)) parts_same ts
    ∙ skip_made (sign_at 40) given_and_end (arguments_at ⊗ silently trailing_at) ts) ts
    ∙ made_made call given_and_end (sign_at 40 ▷ (arguments_at ⊗ silently trailing_at)) ts
  where
    call : Arguments × (List ℕ × Option Ending) → Read
    call p = (Some (call_of head name p.0 p.1.0), p.1.1)

behind_callee_tells : (head : CallHead) (callee : Callee)
    → IsTeller (behind_callee_at head callee) (SpellsBehindCallee head callee) (λ read. StopsTail read.1)
unfolding dropped_parts_at called_parts_at
behind_callee_tells head Dropped =
    told_reading dropped_at dropped_same
    (made_tells make_dropped (λ read. StopsTail read.1) (λ p t stop. stop) (λ p t stop. stop)
    (silent_tells (behind_token parentheses_read trailing_reads)))
behind_callee_tells head (Named name) =
    told_reading (called_at head name) (called_same head name)
    (made_tells (make_call head name) (λ read. StopsTail read.1) (λ p t stop. stop) (λ p t stop. stop)
    (skip (sign_tells 40) (both arguments_tell (silent_tells trailing_reads))))

-- ---- calls

-- a callee, and what stands behind it
abbrev pub WithCallee : Bool → CallHead → Read → Mentioning
WithCallee has_result head read ms ts = (callee : Callee)
    × (silent (one (IsRead has_result callee)) ⊙ SpellsBehindCallee head callee read) ms ts

-- a call with its attachments, or one that is dropped
abbrev pub SpellsCall : Bool → Read → Mentioning
SpellsCall has_result read ms ts = (head : CallHead)
    × (silent (SpellsHead head) ⊙ WithCallee has_result head read) ms ts

pub call_tells : (has_result : Bool)
    → IsTeller (call_at has_result) (SpellsCall has_result) (λ read. StopsTail read.1)
unfolding call_at
call_tells has_result =
    each_tells (λ head. silently (one_at (callee_of has_result)) >>= behind_callee_at head)
    (WithCallee has_result) (λ read. StopsTail read.1) (silent_tells head_reads)
    (λ head.
    each_tells (behind_callee_at head) (SpellsBehindCallee head) (λ read. StopsTail read.1)
    (silent_tells (callee_reads has_result)) (behind_callee_tells head)
    (λ callee read ms taken rest l stops. stops_at_all (taken ++ rest) (λ t. tt)))
    (λ head read ms taken rest l stops. stops_at_all (taken ++ rest) (λ t. tt))
