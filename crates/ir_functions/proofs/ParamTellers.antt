-- Parameters are read: a type, words, and a name or none.
use Rattle.std.proofs.Common.{◌≡◌, ℕ, suc, Bool, true, false, List, [], ◌∷◌, ◌++◌, length, Option, Some, None, Result, Ok, Err, ◌⊎◌, inl, inr, refl, sym, ap, subst, ◌∙◌, append_assoc}
use Rattle.std.proofs.lemmas.List.{append-nil}
use Rattle.scev_base.specs.declared.ids.ValueId.{ValueId}
use Rattle.ir_model.specs.declared.types.IrType.{IrType}
use Rattle.ir_model.specs.declared.types.IrType.TheVariants.{Int, Ptr}
use Rattle.ir_model.specs.declared.function.Param.{Param}
use Rattle.ir_text.specs.Tokens.{Lexeme}
use Rattle.ir_text.specs.Listed.{sign}
use Rattle.ir_text.specs.Language.{Language, ◌·◌}
use Rattle.ir_text.specs.Said.{said_local}
use Rattle.ir_text.specs.Mentions.{Mention, DefinesValue, Mentioning, ◌⊙◌, silent, defines_value, unwritten}
use Rattle.ir_model.specs.Kinds.{IsScalar}
use Rattle.ir_text.specs.Types.{SpellsTypeOf}
use Rattle.ir_text.specs.PassedOn.{SpellsWords}
use Rattle.ir_grammar.specs.Operations.{the_type}
use Rattle.ir_grammar.specs.Functions.{SpellsParam}
use Rattle.ir_parts.specs.declared.ending.Ending.{Ending}
use Rattle.ir_parts.specs.declared.ending.Run.{Run}
use Rattle.ir_parts.specs.Reading.{Read, begins, is_punctuation, choose, pure, go_on}
use Rattle.ir_parts.specs.Reading as reading
use Rattle.ir_parts.specs.WordsReading.{words_at}
use Rattle.ir_parts.specs.Runs.{goes_on, run_of, SpellsRunText}
use Rattle.ir_parts.proofs.Readers.{StopsAt, IsReader, Anything, of_language, of_reading, of_sentence_stop, mapped}
use Rattle.ir_parts.proofs.NoneGoesOn.{refused_there}
use Rattle.ir_parts.proofs.Optional.{or_nothing}
use Rattle.ir_parts.proofs.MaybeReader.{maybe_reads}
use Rattle.ir_parts.proofs.SingleTokens.{is_sign}
use Rattle.ir_parts.proofs.TypeReaders.{scalar_types}
use Rattle.ir_parts.proofs.RunEnds.{ends_each}
use Rattle.ir_parts.proofs.WordsReader.{StopsWords, words_read}
use Rattle.ir_body.specs.Telling.{silently, ◌⊗◌}
use Rattle.ir_body.proofs.Tellers.{IsTeller, IsMade, silent_tells, made_tells, both, then_as}
use Rattle.ir_functions.specs.Lines.{is_local}
use Rattle.ir_functions.specs.Functions.{name_at, no_name_at, param_name_at, param_of, param_at, params_at}
use Rattle.ir_functions.proofs.LineStarts.{is_local_there, is_local_back, local_ends}
use Rattle.ir_functions.proofs.LineTellers.{SpellsDefined, defined_tells}
use Rattle.ir_functions.proofs.ListingTellers.{SpellsListed, listed_tells}

-- ---- names

-- a name, or none; the flag says which
abbrev pub SpellsParamName : ValueId × Bool → Mentioning
SpellsParamName p ms ts = ((p.1 ≡ true) × SpellsDefined p.0 ms ts)
    ⊎ ((p.1 ≡ false) × (p.0.0 ≡ 0) × unwritten (DefinesValue None) ms ts)

-- A name goes on where none was read.
abbrev pub StopsName : ValueId × Bool → Lexeme → Type 0
StopsName p t = p.1 ≡ false → is_local t ≡ false

abbrev with_name : ValueId → ValueId × Bool
with_name v = (v, true)

abbrev SpellsNamed : ValueId × Bool → Mentioning
SpellsNamed p ms ts = (v : ValueId) × (p ≡ with_name v) × SpellsDefined v ms ts

abbrev Named : (ValueId × Bool) × List Mention → Language
Named told ts = SpellsNamed told.0 told.1 ts

abbrev nameless : (ValueId × Bool) × List Mention
nameless = ((record { 0 = 0 }, false), DefinesValue None ∷ [])

name_tells : IsTeller name_at SpellsNamed Anything
unfolding name_at
name_tells = made_tells with_name Anything (λ v t stop. tt) (λ v t stop. tt) defined_tells

name_reads : IsReader name_at Named (λ told t. StopsName told.0 t)
name_reads = of_sentence_stop (λ told t. StopsName told.0 t)
    (λ told ts t l stop e. absurd (let is : told.0.1 ≡ true = ap (λ (p : ValueId × Bool). p.1) l.1 in cc))
    (λ told ts t l stop. tt) name_tells.reader

name_starts : (told : (ValueId × Bool) × List Mention) (ts : List Lexeme) → Named told ts → begins is_local ts ≡ true
name_starts told ts l =
    let said = l.2.1 in ap (begins is_local) said.1.1.1 ∙ is_local_back said.1.1.0 said.0 said.1.1.2

name_begun : (t : Lexeme) (ts : List Lexeme) → is_local t ≡ true → name_at (t ∷ ts) ≡ Err (suc (length ts)) → ⊥
name_begun t ts passed e =
    let name = is_local_there t passed in
    refused_there name_tells.reader [] ts t e (record {
      whole = (with_name (record { 0 = 0 }), DefinesValue (Some name.0) ∷ []);
      others = [];
      sentence = (record { 0 = 0 }, refl, (refl, (name.0, (refl, (t, refl, name.1)))));
    })

pub param_name_reads : IsReader param_name_at (λ told ts. SpellsParamName told.0 told.1 ts)
    (λ told t. StopsName told.0 t)
unfolding param_name_at no_name_at
param_name_reads = of_language (λ told ts. SpellsParamName told.0 told.1 ts) there back
    (or_nothing is_local nameless name_reads name_starts name_begun (λ t e same. e) (λ t stop. stop refl))
  where
    there : (told : (ValueId × Bool) × List Mention) (ts : List Lexeme)
        → Named told ts ⊎ ((told ≡ nameless) × (ts ≡ [])) → SpellsParamName told.0 told.1 ts
    there told ts (inl l) = inl (
      ap (λ (p : ValueId × Bool). p.1) l.1,
      subst (λ (v : ValueId). SpellsDefined v told.1 ts) (sym (ap (λ (p : ValueId × Bool). p.0) l.1)) l.2,
    )
    there told ts (inr l) = inr (
      ap (λ (p : (ValueId × Bool) × List Mention). p.0.1) l.0,
      ap (λ (p : (ValueId × Bool) × List Mention). p.0.0.0) l.0,
      (ap (λ (p : (ValueId × Bool) × List Mention). p.1) l.0, l.1),
    )

    same_name : (p : ValueId × Bool) → p.1 ≡ true → p ≡ with_name p.0
    same_name p e = ap (λ (b : Bool). (p.0, b)) e

    same_none : (told : (ValueId × Bool) × List Mention) → told.0.1 ≡ false → told.0.0.0 ≡ 0
        → told.1 ≡ DefinesValue None ∷ [] → told ≡ nameless
    same_none told e zero one = rw (zero, e, one) refl

    back : (told : (ValueId × Bool) × List Mention) (ts : List Lexeme) → SpellsParamName told.0 told.1 ts
        → Named told ts ⊎ ((told ≡ nameless) × (ts ≡ []))
    back told ts (inl l) = inl (told.0.0, same_name told.0 l.0, l.1)
    back told ts (inr l) = inr (same_none told l.0 l.1 l.2.0, l.2.1)

-- ---- words, and a name

abbrev TookName : (ValueId × Bool) × List Mention → Type 0
TookName told = told.0.1 ≡ true

name_ends_words : (words : Run × List ℕ) (told : (ValueId × Bool) × List Mention) (taken rest : List Lexeme)
    → SpellsParamName told.0 told.1 taken → TookName told → StopsAt (StopsWords words) (taken ++ rest)
name_ends_words words told taken rest (inl l) took =
    let said = l.1.1 in
    subst (λ (ts : List Lexeme). StopsAt (StopsWords words) (ts ++ rest)) (sym said.1.1.1)
    ((local_ends said.1.1.0 said.0 said.1.1.2).no_words words.0.ending)
name_ends_words words told taken rest (inr l) took = absurd (let none = l.0 in cc)

name_or_none : (told : (ValueId × Bool) × List Mention) (taken : List Lexeme) → SpellsParamName told.0 told.1 taken
    → TookName told ⊎ ((taken ≡ []) × (TookName told → ⊥))
name_or_none told taken (inl l) = inl l.0
name_or_none told taken (inr l) = inr (l.2.1, λ took. absurd (let none = l.0 in cc))

abbrev words_then_name_at : Read ((Run × List ℕ) × ((ValueId × Bool) × List Mention))
words_then_name_at = reading.◌⊗◌ words_at param_name_at

abbrev pub StopsWordsName : (Run × List ℕ) × (ValueId × Bool) → Lexeme → Type 0
StopsWordsName p t = StopsName p.1 t × ((p.1.1 ≡ true → ⊥) → StopsWords p.0 t)

words_then_name : IsReader words_then_name_at
    (λ p. SpellsRunText p.0 · (λ ts. SpellsParamName p.1.0 p.1.1 ts))
    (λ p t. StopsName p.1.0 t × ((TookName p.1 → ⊥) → StopsWords p.0 t))
words_then_name = maybe_reads TookName words_read param_name_reads name_ends_words name_or_none

abbrev with_mentions : (Run × List ℕ) × ((ValueId × Bool) × List Mention)
    → ((Run × List ℕ) × (ValueId × Bool)) × List Mention
with_mentions p = ((p.0, p.1.0), p.1.1)

-- words, and a name or none
abbrev pub SpellsWordsName : (Run × List ℕ) × (ValueId × Bool) → Mentioning
SpellsWordsName p ms = SpellsRunText p.0 · (λ ts. SpellsParamName p.1 ms ts)

abbrev ToldWords : Type 0
ToldWords = ((Run × List ℕ) × (ValueId × Bool)) × List Mention

behind_words : (words : Run × List ℕ) (r : Result (((ValueId × Bool) × List Mention) × List Lexeme) ℕ)
    → ◌≡◌ {A = Result (ToldWords × List Lexeme) ℕ}
    (go_on {A = ToldWords} {B = ToldWords}
    (go_on {A = (ValueId × Bool) × List Mention} {B = ToldWords} r
    (λ read rest. Ok (((words, read.0), read.1 ++ []), rest)))
    (λ read rest. Ok ((read.0, read.1), rest)))
    (go_on {A = (Run × List ℕ) × ((ValueId × Bool) × List Mention)} {B = ToldWords}
    (go_on {A = (ValueId × Bool) × List Mention} {B = (Run × List ℕ) × ((ValueId × Bool) × List Mention)} r
    (λ name rest. Ok ((words, name), rest))) (λ p rest. Ok (with_mentions p, rest)))
behind_words words (Ok read) = ap (λ (ms : List Mention). Ok (((words, read.0.0), ms), read.1)) (append-nil read.0.1)
behind_words words (Err left) = refl

same_reading : (ts : List Lexeme)
    → (silently words_at ⊗ param_name_at) ts ≡ reading.made with_mentions words_then_name_at ts
same_reading ts = of (words_at ts) refl
  where
    of : (r : Result ((Run × List ℕ) × List Lexeme) ℕ) → words_at ts ≡ r
        → (silently words_at ⊗ param_name_at) ts ≡ reading.made with_mentions words_then_name_at ts
    of (Ok read) e = rw e (behind_words read.0 (param_name_at read.1))
    of (Err left) e = rw e refl

words_name_tells : IsTeller (silently words_at ⊗ param_name_at) SpellsWordsName StopsWordsName
words_name_tells = record {
  reader = of_reading (silently words_at ⊗ param_name_at) same_reading
      (of_language (λ told ts. SpellsWordsName told.0 told.1 ts)
      (λ told ts l. subst (λ (told : ((Run × List ℕ) × (ValueId × Bool)) × List Mention).
      SpellsWordsName told.0 told.1 ts) (sym l.1) l.2)
      (λ told ts l. ((told.0.0, (told.0.1, told.1)), refl, l))
      (mapped with_mentions (λ told t. StopsWordsName told.0 t) (λ p t stop. stop) (λ p t stop. stop)
      words_then_name));
}

-- ---- parameters

-- what doesn't go on with a parameter: behind its name nothing does
abbrev pub StopsParam : Param × Option Ending → Lexeme → Type 0
StopsParam p t = stops p.1
  where
    stops : Option Ending → Type 0
    stops None = Unit {0}
    stops (Some ending) = (goes_on ending t ≡ false) × (is_local t ≡ false)

abbrev SpellsParts : IrType × ((Run × List ℕ) × (ValueId × Bool)) → Mentioning
SpellsParts p = the_type IsScalar p.0 ⊙ SpellsWordsName p.1

-- a parameter, with how its words end
abbrev pub SpellsReadParam : Param × Option Ending → Mentioning
SpellsReadParam = IsMade param_of SpellsParts

stop_there : (p : IrType × ((Run × List ℕ) × (ValueId × Bool))) (t : Lexeme) → StopsWordsName p.1 t
    → StopsParam (param_of p) t
stop_there (kind, (words, (v, true))) t stop = tt
stop_there (kind, (words, (v, false))) t stop = (stop.1 (λ e. absurd cc), stop.0 refl)

stop_back : (p : IrType × ((Run × List ℕ) × (ValueId × Bool))) (t : Lexeme) → StopsParam (param_of p) t
    → StopsWordsName p.1 t
stop_back (kind, (words, (v, true))) t stop = (λ e. absurd cc, λ none. absurd (none refl))
stop_back (kind, (words, (v, false))) t stop = (λ e. stop.1, λ none. stop.0)

pub param_tells : IsTeller param_at SpellsReadParam StopsParam
unfolding param_at
param_tells = made_tells param_of StopsParam stop_there stop_back
    (both (silent_tells scalar_types) words_name_tells)

-- ---- what is read is a parameter

name_seen : (p : ValueId × Bool) (ms : List Mention) (ts : List Lexeme) → SpellsParamName p ms ts
    → (p.0.0 ≡ 0) × (defines_value ms ts ⊎ unwritten (DefinesValue None) ms ts)
name_seen p ms ts (inl l) = (l.1.0, inl l.1.1)
name_seen p ms ts (inr l) = (l.1, inr l.2)

words_name_seen : (p : (Run × List ℕ) × (ValueId × Bool)) (ms : List Mention) (ts : List Lexeme)
    → SpellsWordsName p ms ts
    → (silent (SpellsWords p.0.1) ⊙ (λ ms ts. (p.1.0.0 ≡ 0)
    × (defines_value ms ts ⊎ unwritten (DefinesValue None) ms ts))) ms ts
words_name_seen p ms ts l =
    let words = l.3 in (
      [],
      ms,
      refl,
      (l.0, l.1, l.2, (refl, ((words.0, words.1), words.3)), name_seen p.1 ms l.1 l.4),
    )

pub param_seen : (p : Param × Option Ending) (ms : List Mention) (ts : List Lexeme) → SpellsReadParam p ms ts
    → SpellsParam p.0 ms ts
param_seen p ms ts l =
    subst (λ (p : Param × Option Ending). SpellsParam p.0 ms ts) (sym l.1)
    (then_as (words_name_seen l.0.1) ms ts l.2)

-- with what was read of a parameter
record IsReadParam (param : Param) (ms : List Mention) (ts : List Lexeme) : Type 0 where
  words : Run × List ℕ
  named : Bool
  text : words.1 ≡ param.words
  spelled : SpellsParts (param.kind, (words, (param.value, named))) ms ts

is_read : (param : Param) (ms : List Mention) (ts : List Lexeme) → SpellsParam param ms ts → IsReadParam param ms ts
is_read param ms ts (
  before,
  behind,
  whole,
  (
    us,
    vs,
    parts,
    kind,
    (none, named, all, (ws, ns, both, (empty, (pieces, text)), (zero, inl name))),
  ),
)
    = record {
      words = (run_of pieces.0, param.words);
      named = true;
      text = refl;
      spelled = (
        before,
        named,
        whole ∙ ap (λ (ms : List Mention). before ++ ms) (all ∙ ap (λ (ms : List Mention). ms ++ named) empty),
        (us, vs, parts, kind, (ws, ns, both, (pieces.0, pieces.1, refl, text), inl (refl, (zero, name)))),
      );
    }
is_read param ms ts (
  before,
  behind,
  whole,
  (
    us,
    vs,
    parts,
    kind,
    (none, named, all, (ws, ns, both, (empty, (pieces, text)), (zero, inr name))),
  ),
)
    = record {
      words = (run_of pieces.0, param.words);
      named = false;
      text = refl;
      spelled = (
        before,
        named,
        whole ∙ ap (λ (ms : List Mention). before ++ ms) (all ∙ ap (λ (ms : List Mention). ms ++ named) empty),
        (us, vs, parts, kind, (ws, ns, both, (pieces.0, pieces.1, refl, text), inr (refl, zero, name))),
      );
    }

pub param_found : (param : Param) (ms : List Mention) (ts : List Lexeme) → SpellsParam param ms ts
    → (p : Param × Option Ending) × (p.0 ≡ param) × SpellsReadParam p ms ts
param_found param ms ts l =
    let r = is_read param ms ts l in
    let parts : IrType × ((Run × List ℕ) × (ValueId × Bool)) = (param.kind, (r.words, (param.value, r.named))) in (
      param_of parts,
      ap (λ (words : List ℕ). let param : Param = record { kind = param.kind; words = words; value = param.value } in
          param) r.text,
      (parts, refl, r.spelled),
    )

-- ---- the parameters and the `)` behind them

sign_stops : (b : ℕ) → ((ending : Ending) → goes_on ending (sign b) ≡ false) → is_local (sign b) ≡ false
    → (p : Param × Option Ending) (t : Lexeme) → is_punctuation b t ≡ true → StopsParam p t
sign_stops b ends other (param, None) t e = tt
sign_stops b ends other (param, Some ending) t e =
    subst (λ (t : Lexeme). StopsParam (param, Some ending) t) (sym (is_sign b t e)) (ends ending, other)

type_first : (kind : IrType) (ts rest : List Lexeme) → SpellsTypeOf IsScalar kind ts
    → begins (is_punctuation 41) (ts ++ rest) ≡ false
type_first (Int width) ts rest l = rw (l.1.1, l.1.2.0) refl
type_first Ptr ts rest l = rw l.1 refl
type_first _ ts rest l = absurd l.0

no_closing : (p : Param × Option Ending) (ms : List Mention) (ts rest : List Lexeme) → SpellsReadParam p ms ts
    → begins (is_punctuation 41) (ts ++ rest) ≡ false
no_closing p ms ts rest l =
    let parts = l.2.3 in
    ap (λ (ts : List Lexeme). begins (is_punctuation 41) (ts ++ rest)) parts.2
    ∙ (ap (begins (is_punctuation 41)) (append_assoc parts.0 parts.1 rest)
    ∙ type_first l.0.0 parts.0 (parts.1 ++ rest) parts.3.1)

pub params_tell : IsTeller params_at (SpellsListed SpellsReadParam 41) Anything
unfolding params_at said_local
params_tell = listed_tells SpellsReadParam 41 param_tells
    (λ p t e. sign_stops 44 (λ ending. ends_each ending (sign 44) refl) refl p t e)
    (λ p t e. sign_stops 41 (λ ending. ends_each ending (sign 41) refl) refl p t e)
    refl no_closing
