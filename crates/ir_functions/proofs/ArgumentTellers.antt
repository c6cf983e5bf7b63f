-- Arguments of calls are read: a type, a run, and the operand behind it or at its end.
use Rattle.std.proofs.Common.{◌≡◌, ℕ, Bool, true, false, ◌&&◌, if◌then◌else◌, List, [], ◌∷◌, ◌++◌, length, Option, Some, None, Result, Ok, Err, inl, inr, refl, sym, ap, subst, ◌∙◌, append_assoc, codes}
use Rattle.std.proofs.lemmas.List.{append-nil}
use Rattle.ir_model.specs.declared.types.IrType.{IrType}
use Rattle.ir_model.specs.declared.op.Operand.{Operand}
use Rattle.ir_model.specs.declared.op.Operand.TheVariants as operand
use Rattle.ir_text.specs.Tokens.{Lexeme}
use Rattle.ir_text.specs.Listed.{word}
use Rattle.ir_text.specs.Mentions.{Mention, Mentioning, ◌⊙◌}
use Rattle.ir_text.specs.PassedOn.{ArePieces}
use Rattle.ir_model.specs.Kinds.{IsScalar}
use Rattle.ir_grammar.specs.Operations.{the_type}
use Rattle.ir_parts.specs.declared.ending.Ending.{Ending}
use Rattle.ir_parts.specs.declared.ending.Ending.TheVariants.{Empty, Word, Placing, Placed, Quoted, Closed}
use Rattle.ir_parts.specs.declared.ending.Run.{Run}
use Rattle.ir_parts.specs.Reading.{Read, go_on, begins, is_word_kind, is_punctuation}
use Rattle.ir_parts.specs.WordsReading.{is_numeral, begins_piece}
use Rattle.ir_parts.specs.Runs.{ending_of_last, run_of, belongs_to}
use Rattle.ir_parts.proofs.Readers.{StopsAt, Taken, Refused, IsReader, either, both_read, one_refused, same_read, of_reading, stops_at_all}
use Rattle.ir_parts.proofs.PieceReaders.{neither_or, or_neither}
use Rattle.ir_parts.proofs.TypeReaders.{scalar_types}
use Rattle.ir_body.specs.Telling.{behind, ◌>>=◌, silently}
use Rattle.ir_parts.specs.Literals.{word_operand}
use Rattle.ir_body.specs.Operands.{operand_of, operand_of_parts}
use Rattle.ir_body.proofs.Tellers.{IsTeller, silent_tells, each_tells}
use Rattle.ir_functions.specs.declared.arguments.Argument.{Argument}
use Rattle.ir_functions.specs.Arguments.{is_outer, may_be_operand, inner_operand, argument_within, argument_behind_at, argument_at}
use Rattle.ir_functions.proofs.OperandTokens.{outer_token, outer_operand}
use Rattle.ir_functions.proofs.ArgumentRuns.{takes_numeral, inner_of, argument_of, SpellsBehind, StopsInner, with_tokens_at, SpellsPieces, StopsEnding, with_tokens_read, run_is_read, outer_read, inner_read, inner_refused, inner_of_last, argument_within_is, EndsInOperand, ends_in_operand, WithOperand, with_operand}

-- what stands behind a type
behind_type_at : IrType → Read (Argument × List Mention)
behind_type_at kind ts = go_on (with_tokens_at ts) (argument_behind_at kind)

-- A token doesn't go on with what was read.
abbrev StopsArgument : Argument × List Mention → Lexeme → Type 0
StopsArgument read t = StopsInner read.0.inner t

abbrev TakenBehind : IrType → List Lexeme → Argument × List Mention → List Lexeme → Type 0
TakenBehind kind ts read rest = Taken (SpellsBehind kind) StopsArgument ts read rest

-- The run that was taken.
abbrev TakenRun : List Lexeme → Run × List Lexeme → List Lexeme → Type 0
TakenRun ts run middle = Taken SpellsPieces (λ p. StopsEnding p.0.ending) ts run middle

-- how the run ends
run_ends : (ts : List Lexeme) (run : Run × List Lexeme) (middle : List Lexeme) (t : TakenRun ts run middle)
    → run.0.ending ≡ ending_of_last t.spelled.0.0
run_ends ts run middle t = ap (λ (run : Run). run.ending) t.spelled.0.2

-- ---- taking

-- what doesn't go on with a run takes no part in it
no_numeral : (ending : Ending) (t : Lexeme) → belongs_to ending t ≡ false
    → (takes_numeral ending && is_numeral t) ≡ false
no_numeral Placing t e = (or_neither (is_punctuation 40 t) (is_numeral t) e).1
no_numeral Empty t e = refl
no_numeral Word t e = refl
no_numeral Placed t e = refl
no_numeral Quoted t e = refl
no_numeral Closed t e = refl

none_inner : (ending : Ending) (t : Lexeme) → is_word_kind t.kind ≡ false → StopsEnding ending t
    → inner_of ending t ≡ None
unfolding StopsEnding
none_inner ending t is stops =
    let apart = or_neither (begins_piece t) (belongs_to ending t) stops in
    rw (is, no_numeral ending t apart.1) refl

taken_so : (kind : IrType) (ts : List Lexeme) (found read : Argument × List Mention) (others rest : List Lexeme)
    → ◌≡◌ {A = Result ((Argument × List Mention) × List Lexeme) ℕ} (Ok (found, others)) (Ok (read, rest))
    → TakenBehind kind ts found others → TakenBehind kind ts read rest
taken_so kind ts found read others rest e t =
    subst (λ (p : (Argument × List Mention) × List Lexeme). TakenBehind kind ts p.0 p.1)
    (same_read (found, others) (read, rest) e) t

outer_taken : (kind : IrType) (ts : List Lexeme) (run : Run × List Lexeme) (middle rest : List Lexeme)
    (read : Argument × List Mention) → TakenRun ts run middle → begins is_outer middle ≡ true
    → argument_behind_at kind run middle ≡ Ok (read, rest) → TakenBehind kind ts read rest
outer_taken kind ts run [] rest read t outer e = absurd cc
outer_taken kind ts run (u ∷ others) rest read t outer e =
    let o = outer_operand u outer in
    let so = outer_read kind run u others o.value outer o.operand in
    let none = none_inner run.0.ending u o.no_word t.stops in
    let none_there : inner_of (ending_of_last t.spelled.0.0) u ≡ None =
    ap (λ (ending : Ending). inner_of ending u) (sym (run_ends ts run (u ∷ others) t)) ∙ none in
    taken_so kind ts (argument_of kind run.1 o.value.0 None, o.value.1) read others rest (sym so ∙ e)
    (record {
      taken = t.taken ++ u ∷ [];
      parts = t.parts ∙ sym (append_assoc t.taken (u ∷ []) others);
      spelled = record {
        pieces = t.spelled.0.0;
        words = t.taken;
        last = u;
        parts = refl;
        are_pieces = t.spelled.0.1;
        value = o.value;
        operand = o.operand;
        made = ap (λ (words : List Lexeme). (argument_of kind words o.value.0 None, o.value.1)) t.spelled.1
            ∙ ap (λ (inner : Option Ending). (argument_of kind t.taken o.value.0 inner, o.value.1)) (sym none_there);
      };
      stops = stops_at_all others (λ t. tt);
    })

-- both stop
stops_inner : (ending : Ending) (rest : List Lexeme) → StopsAt (StopsEnding ending) rest → begins is_outer rest ≡ false
    → StopsAt (StopsInner (Some ending)) rest
unfolding StopsEnding
stops_inner ending [] stops outer = tt
stops_inner ending (t ∷ rest) stops outer = (stops, outer)

-- the last token of the run is the operand
within_taken : (kind : IrType) (ts : List Lexeme) (run : Run × List Lexeme) (rest : List Lexeme)
    (value : Operand × List Mention) (t : TakenRun ts run rest) → begins is_outer rest ≡ false
    → EndsInOperand run.0.ending t.taken → may_be_operand run.0.ending ≡ true
    → inner_operand run.0.ending run.1 ≡ Some value
    → TakenBehind kind ts (argument_within kind run.0.ending run.1 value.0, value.1) rest
within_taken kind ts run rest value t outer w may e =
    let tokens : run.1 ≡ w.before ++ w.last ∷ [] = t.spelled.1 ∙ w.parts in
    let operand : operand_of w.last ≡ Some value =
    sym (inner_of_last run.0.ending w.before w.last may)
    ∙ (ap (inner_operand run.0.ending) (sym tokens) ∙ e) in
    record {
      taken = t.taken;
      parts = t.parts;
      spelled = record {
        pieces = w.pieces;
        words = w.before;
        last = w.last;
        parts = w.parts;
        are_pieces = w.are_pieces;
        value = value;
        operand = operand;
        made = ap (λ (us : List Lexeme). (argument_within kind run.0.ending us value.0, value.1)) tokens
            ∙ (ap (λ (arg : Argument). (arg, value.1))
            (argument_within_is kind run.0.ending w.before w.last value.0)
            ∙ ap (λ (inner : Option Ending). (argument_of kind w.before value.0 inner, value.1)) (sym w.inner));
      };
      stops = stops_inner run.0.ending rest t.stops outer;
    }

-- only such runs have an operand at their end
may_be : (ending : Ending) (us : List Lexeme) (value : Operand × List Mention) → inner_operand ending us ≡ Some value
    → may_be_operand ending ≡ true
may_be Word us value e = refl
may_be Placed us value e = refl
may_be _ us value e = absurd cc

inner_taken : (kind : IrType) (ts : List Lexeme) (run : Run × List Lexeme) (middle rest : List Lexeme)
    (read : Argument × List Mention) → TakenRun ts run middle → begins is_outer middle ≡ false
    → (found : Option (Operand × List Mention)) → inner_operand run.0.ending run.1 ≡ found
    → argument_behind_at kind run middle ≡ Ok (read, rest) → TakenBehind kind ts read rest
inner_taken kind ts run middle rest read t outer None none e =
    absurd (let no = sym (inner_refused kind run middle outer none) ∙ e in cc)
inner_taken kind ts run middle rest read t outer (Some value) some e =
    let may = may_be run.0.ending run.1 value some in
    let w = ends_in_operand t.spelled.0.0 t.taken run.0.ending t.spelled.0.1 (sym (run_ends ts run middle t)) may in
    taken_so kind ts (argument_within kind run.0.ending run.1 value.0, value.1) read middle rest
    (sym (inner_read kind run middle value outer some) ∙ e)
    (within_taken kind ts run middle value t outer w may some)

behind_takes : (kind : IrType) (ts rest : List Lexeme) (read : Argument × List Mention)
    → behind_type_at kind ts ≡ Ok (read, rest) → TakenBehind kind ts read rest
unfolding behind_type_at
behind_takes kind ts rest read e =
    let b = both_read (with_tokens_at ts) (argument_behind_at kind) (read, rest) e in
    let t = with_tokens_read.takes ts b.middle b.value b.first in
    elim (either (begins is_outer b.middle)) [
      | inl outer ↦ outer_taken kind ts b.value b.middle rest read t outer b.second
      | inr none ↦
          inner_taken kind ts b.value b.middle rest read t none (inner_operand b.value.0.ending b.value.1) refl b.second
    ]

-- ---- reading what is spelled

-- An operand that is no word, and no numeral that belongs to the run, doesn't go on with it.
outer_stops : (ending : Ending) (t : Lexeme) (value : Operand × List Mention) → is_word_kind t.kind ≡ false
    → (takes_numeral ending && is_numeral t) ≡ false → operand_of t ≡ Some value → StopsEnding ending t
unfolding StopsEnding
outer_stops ending t value is none e =
    let o = outer_token t value is e in
    neither_or (begins_piece t) (belongs_to ending t) o.begins_none (apart ending none o.no_bracket o.no_equals)
  where
    apart : (ending : Ending) → (takes_numeral ending && is_numeral t) ≡ false → is_punctuation 40 t ≡ false
        → is_punctuation 61 t ≡ false → belongs_to ending t ≡ false
    apart Placing none bracket equals = neither_or (is_punctuation 40 t) (is_numeral t) bracket none
    apart Word none bracket equals = bracket
    apart Quoted none bracket equals = equals
    apart Empty none bracket equals = refl
    apart Placed none bracket equals = refl
    apart Closed none bracket equals = refl

-- The operand stands behind the run.
record IsBehind (ending : Ending) (t : Lexeme) : Type 0 where
  no_word : is_word_kind t.kind ≡ false
  no_part : (takes_numeral ending && is_numeral t) ≡ false

is_behind : (ending : Ending) (t : Lexeme) → inner_of ending t ≡ None → IsBehind ending t
is_behind ending t e = of_tests (is_word_kind t.kind) (takes_numeral ending && is_numeral t) refl refl e
  where
    of_tests : (w n : Bool) → is_word_kind t.kind ≡ w → (takes_numeral ending && is_numeral t) ≡ n
        → ◌≡◌ {A = Option Ending} (if w then Some Word else (if n then Some Placed else None)) None
        → IsBehind ending t
    of_tests true n word part e = absurd cc
    of_tests false true word part e = absurd cc
    of_tests false false word part e = record { no_word = word; no_part = part }

-- what was read of these tokens
abbrev SpelledRead : (kind : IrType) (read : Argument × List Mention) (taken : List Lexeme)
    → SpellsBehind kind read taken → Option Ending → Argument × List Mention
SpelledRead kind read taken l inner = (argument_of kind l.words l.value.0 inner, l.value.1)

outer_reads : (kind : IrType) (read : Argument × List Mention) (taken rest : List Lexeme)
    (l : SpellsBehind kind read taken) → inner_of (ending_of_last l.pieces) l.last ≡ None
    → behind_type_at kind (taken ++ rest) ≡ Ok (SpelledRead kind read taken l None, rest)
unfolding behind_type_at
outer_reads kind read taken rest l none =
    let is = is_behind (ending_of_last l.pieces) l.last none in
    let o = outer_token l.last l.value is.no_word l.operand in
    ap (λ (ts : List Lexeme). go_on (with_tokens_at (ts ++ rest)) (argument_behind_at kind)) l.parts
    ∙ (ap (λ (ts : List Lexeme). go_on (with_tokens_at ts) (argument_behind_at kind))
    (append_assoc l.words (l.last ∷ []) rest)
    ∙ (ap (λ r. go_on r (argument_behind_at kind))
    (run_is_read l.pieces l.words (l.last ∷ rest) l.are_pieces
    (outer_stops (ending_of_last l.pieces) l.last l.value is.no_word is.no_part l.operand))
    ∙ outer_read kind (run_of l.pieces, l.words) l.last rest l.value o.outer l.operand))

-- what stops both
ending_stops : (ending : Ending) (rest : List Lexeme) → StopsAt (StopsInner (Some ending)) rest
    → StopsAt (StopsEnding ending) rest
unfolding StopsEnding
ending_stops ending [] stops = tt
ending_stops ending (t ∷ rest) stops = stops.0

outer_none : (ending : Ending) (rest : List Lexeme) → StopsAt (StopsInner (Some ending)) rest
    → begins is_outer rest ≡ false
outer_none ending [] stops = refl
outer_none ending (t ∷ rest) stops = stops.1

inner_reads : (kind : IrType) (read : Argument × List Mention) (taken rest : List Lexeme) (ending : Ending)
    (l : SpellsBehind kind read taken) → WithOperand ending (l.words ++ l.last ∷ [])
    → StopsAt (StopsInner (Some ending)) rest
    → behind_type_at kind (taken ++ rest) ≡ Ok (SpelledRead kind read taken l (Some ending), rest)
unfolding behind_type_at
inner_reads kind read taken rest ending l w stops =
    let us = l.words ++ l.last ∷ [] in
    let operand : inner_operand (ending_of_last w.pieces) us ≡ Some l.value =
    ap (λ (ending : Ending). inner_operand ending us) w.ends
    ∙ (inner_of_last ending l.words l.last w.may ∙ l.operand) in
    ap (λ (ts : List Lexeme). go_on (with_tokens_at (ts ++ rest)) (argument_behind_at kind)) l.parts
    ∙ (ap (λ r. go_on r (argument_behind_at kind))
    (run_is_read w.pieces us rest w.are_pieces
    (subst (λ (ending : Ending). StopsAt (StopsEnding ending) rest) (sym w.ends) (ending_stops ending rest stops)))
    ∙ (inner_read kind (run_of w.pieces, us) rest l.value (outer_none ending rest stops) operand
    ∙ ap (λ (arg : Argument). Ok ((arg, l.value.1), rest))
    (ap (λ (ending : Ending). argument_within kind ending us l.value.0) w.ends
    ∙ argument_within_is kind ending l.words l.last l.value.0)))

behind_reads : (kind : IrType) (read : Argument × List Mention) (taken rest : List Lexeme)
    → SpellsBehind kind read taken → StopsAt (StopsArgument read) rest
    → behind_type_at kind (taken ++ rest) ≡ Ok (read, rest)
behind_reads kind read taken rest l stops = of_inner (inner_of (ending_of_last l.pieces) l.last) refl
  where
    with_inner : (inner : Option Ending) → inner_of (ending_of_last l.pieces) l.last ≡ inner
        → read ≡ SpelledRead kind read taken l inner
    with_inner inner e = l.made ∙ ap (SpelledRead kind read taken l) e

    of_inner : (inner : Option Ending) → inner_of (ending_of_last l.pieces) l.last ≡ inner
        → behind_type_at kind (taken ++ rest) ≡ Ok (read, rest)
    of_inner None e = outer_reads kind read taken rest l e
        ∙ ap (λ (read : Argument × List Mention). Ok (read, rest)) (sym (with_inner None e))
    of_inner (Some ending) e =
        inner_reads kind read taken rest ending l
        (with_operand l.pieces l.words l.last l.value ending l.are_pieces l.operand e)
        (subst (λ (read : Argument × List Mention). StopsAt (StopsArgument read) rest)
        (with_inner (Some ending) e) stops)
        ∙ ap (λ (read : Argument × List Mention). Ok (read, rest)) (sym (with_inner (Some ending) e))

-- ---- refusing

null_operand : operand_of (word (codes "null")) ≡ Some (operand.Null, [])
unfolding operand_of_parts word_operand
null_operand = refl

-- any run with `null` behind it
null_behind : (kind : IrType) (pieces : List (List Lexeme)) (us : List Lexeme) → ArePieces pieces us
    → SpellsBehind kind (argument_of kind us operand.Null (Some Word), []) (us ++ word (codes "null") ∷ [])
null_behind kind pieces us there = record {
  pieces = pieces;
  words = us;
  last = word (codes "null");
  parts = refl;
  are_pieces = there;
  value = (operand.Null, []);
  operand = null_operand;
  made = refl;
}

run_refuses : (kind : IrType) (ts : List Lexeme) (left : ℕ) → Refused with_tokens_at SpellsPieces ts left
    → Refused (behind_type_at kind) (SpellsBehind kind) ts left
unfolding behind_type_at
run_refuses kind ts left r = record {
  before = r.before;
  after = r.after;
  parts = r.parts;
  so_many = r.so_many;
  whole = (argument_of kind (r.before ++ r.others) operand.Null (Some Word), []);
  others = r.others ++ word (codes "null") ∷ [];
  begun = subst (λ (ts : List Lexeme). SpellsBehind kind
      (argument_of kind (r.before ++ r.others) operand.Null (Some Word), []) ts)
      (append_assoc r.before r.others (word (codes "null") ∷ []))
      (null_behind kind r.begun.0.0 (r.before ++ r.others) r.begun.0.1);
  at_end = ap (λ r. go_on r (argument_behind_at kind)) r.at_end;
  stays = λ t behind instead e. ap (λ r. go_on r (argument_behind_at kind)) (r.stays t behind instead e);
}

-- The run is there, and no operand stands at its end or behind it.
operand_refuses : (kind : IrType) (ts : List Lexeme) (run : Run × List Lexeme) (middle : List Lexeme)
    → TakenRun ts run middle → begins is_outer middle ≡ false → inner_operand run.0.ending run.1 ≡ None
    → Refused (behind_type_at kind) (SpellsBehind kind) ts (length middle)
unfolding behind_type_at
operand_refuses kind ts run middle t outer none = record {
  before = t.taken;
  after = middle;
  parts = t.parts;
  so_many = refl;
  whole = (argument_of kind t.taken operand.Null (Some Word), []);
  others = word (codes "null") ∷ [];
  begun = null_behind kind t.spelled.0.0 t.taken t.spelled.0.1;
  at_end = ap (behind_type_at kind) (sym (append-nil t.taken)) ∙ (read_on [] tt ∙ inner_refused kind run [] refl none);
  stays = λ u behind instead e. read_on (u ∷ instead)
      (subst (λ (ts : List Lexeme). StopsAt (StopsEnding run.0.ending) ts) e t.stops)
      ∙ inner_refused kind run (u ∷ instead) (ap (begins is_outer) (sym e) ∙ outer) none;
}
  where
    read_on : (rest : List Lexeme) → StopsAt (StopsEnding run.0.ending) rest
        → behind_type_at kind (t.taken ++ rest) ≡ argument_behind_at kind run rest
    read_on rest stops = ap (λ r. go_on r (argument_behind_at kind))
        (with_tokens_read.reads run t.taken rest t.spelled stops)

behind_refuses : (kind : IrType) (ts : List Lexeme) (left : ℕ) → behind_type_at kind ts ≡ Err left
    → Refused (behind_type_at kind) (SpellsBehind kind) ts left
unfolding behind_type_at
behind_refuses kind ts left e = elim (one_refused (with_tokens_at ts) (argument_behind_at kind) left e) [
  | inl refused ↦ run_refuses kind ts left (with_tokens_read.refuses ts left refused)
  | inr b ↦
      of_outer (begins is_outer b.middle) b.value b.middle (with_tokens_read.takes ts b.middle b.value b.first) refl
      (inner_operand b.value.0.ending b.value.1) refl b.second
]
  where
    of_outer : (outer : Bool) (run : Run × List Lexeme) (middle : List Lexeme) → TakenRun ts run middle
        → begins is_outer middle ≡ outer
        → (found : Option (Operand × List Mention)) → inner_operand run.0.ending run.1 ≡ found
        → argument_behind_at kind run middle ≡ Err left
        → Refused (behind_type_at kind) (SpellsBehind kind) ts left
    of_outer true run [] t outer found is e = absurd cc
    of_outer true run (u ∷ rest) t outer found is e =
        let o = outer_operand u outer in
        absurd (let no = sym (outer_read kind run u rest o.value outer o.operand) ∙ e in cc)
    of_outer false run middle t outer (Some value) is e =
        absurd (let no = sym (inner_read kind run middle value outer is) ∙ e in cc)
    of_outer false run middle t outer None is e =
        let same : ◌≡◌ {A = Result ((Argument × List Mention) × List Lexeme) ℕ} (Err (length middle)) (Err left) =
        sym (inner_refused kind run middle outer is) ∙ e in
        let so_many : length middle ≡ left = cc in
        subst (λ (n : ℕ). Refused (behind_type_at kind) (SpellsBehind kind) ts n) so_many
        (operand_refuses kind ts run middle t outer is)

behind_type_read : (kind : IrType) → IsReader (behind_type_at kind) (SpellsBehind kind) StopsArgument
behind_type_read kind = record {
  takes = λ ts rest read e. behind_takes kind ts rest read e;
  reads = λ read taken rest l stops. behind_reads kind read taken rest l stops;
  refuses = λ ts left e. behind_refuses kind ts left e;
  some = (argument_of kind [] operand.Null (Some Word), []);
  sentence = word (codes "null") ∷ [];
  sample = null_behind kind [] [] refl;
}

-- ---- with the type

-- nothing is told before
behind_nothing : {A : Type 0} (r : Result ((A × List Mention) × List Lexeme) ℕ) → behind [] r ≡ r
behind_nothing (Ok read) = refl
behind_nothing (Err left) = refl

pub told_behind : (kind : IrType) (r : Result ((Run × List Lexeme) × List Lexeme) ℕ)
    → go_on {A = (Run × List Lexeme) × List Mention} (go_on r (λ x rest. Ok ((x, []), rest)))
    (λ read rest. behind read.1 (argument_behind_at kind read.0 rest))
    ≡ go_on r (argument_behind_at kind)
told_behind kind (Ok read) = behind_nothing (argument_behind_at kind read.0 read.1)
told_behind kind (Err left) = refl

behind_type_tells : (kind : IrType) → IsTeller (silently with_tokens_at >>= argument_behind_at kind)
    (λ arg ms ts. SpellsBehind kind (arg, ms) ts) (λ arg. StopsInner arg.inner)
unfolding behind_type_at
behind_type_tells kind = record {
  reader = of_reading (silently with_tokens_at >>= argument_behind_at kind)
      (λ ts. told_behind kind (with_tokens_at ts)) (behind_type_read kind);
}

-- A type, and what stands behind it.
abbrev pub SpellsRead : Argument → Mentioning
SpellsRead arg ms ts = (kind : IrType) × (the_type IsScalar kind ⊙ (λ ms ts. SpellsBehind kind (arg, ms) ts)) ms ts

pub argument_tells : IsTeller argument_at SpellsRead (λ arg. StopsInner arg.inner)
unfolding argument_at
argument_tells =
    each_tells (λ kind. silently with_tokens_at >>= argument_behind_at kind)
    (λ kind arg ms ts. SpellsBehind kind (arg, ms) ts) (λ arg. StopsInner arg.inner) (silent_tells scalar_types)
    behind_type_tells (λ kind arg ms taken rest l stops. stops_at_all (taken ++ rest) (λ t. tt))
