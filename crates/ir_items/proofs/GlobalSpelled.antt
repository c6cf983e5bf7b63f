-- A global with how it ends spells the global, and each global ends in some way.
use Rattle.std.proofs.Common.{◌≡◌, ℕ, Bool, true, false, List, [], ◌∷◌, ◌++◌, map, Option, refl, sym, ap, subst, ◌∙◌, append_assoc}
use Rattle.ir_model.specs.declared.types.IrType.{IrType}
use Rattle.ir_model.specs.declared.item.Init.{Init}
use Rattle.ir_model.specs.declared.item.Global_.{Global_}
use Rattle.ir_text.specs.Tokens.{Lexeme}
use Rattle.ir_text.specs.Listed.{InSequence}
use Rattle.ir_text.specs.Language.{◌·◌, one, comma, keyword, punctuation}
use Rattle.ir_text.specs.Language.Many.{none, more}
use Rattle.ir_text.specs.Written.{IsGlobal}
use Rattle.ir_model.specs.Kinds.{IsStored}
use Rattle.ir_text.specs.Types.{SpellsTypeOf}
use Rattle.ir_text.specs.PassedOn.{attachments}
use Rattle.ir_grammar.specs.Items.{SpellsInitialiser, SpellsBehindCommas, SpellsGlobal, constant_word}
use Rattle.ir_parts.specs.declared.ending.Run.{Run}
use Rattle.ir_parts.specs.Runs.{run_of, SpellsRunText}
use Rattle.ir_items.specs.declared.global_ending.GlobalEnding.{GlobalEnding}
use Rattle.ir_items.specs.declared.global_ending.Typed.{Typed}
use Rattle.ir_items.specs.declared.global_ending.Tail.{Tail}
use Rattle.ir_items.specs.TailReading.{Runs, tail_of}
use Rattle.ir_items.specs.GlobalReading.{typed_of, global_of}
use Rattle.ir_items.proofs.TailReader.{Attached}
use Rattle.ir_items.proofs.GlobalReaders.{SpellsEnded}

-- ---- runs behind commas

behind_there : (runs : List (Run × List ℕ)) (ts : List Lexeme) → InSequence (λ run. comma · SpellsRunText run) runs ts
    → SpellsBehindCommas (map (λ (run : Run × List ℕ). run.1) runs) ts
behind_there [] ts l = l
behind_there (run ∷ runs) ts l =
    let first = l.3 in
    let words = first.4 in
    (l.0, l.1, l.2, (first.0, first.1, first.2, first.3, ((words.0, words.1), words.3)), behind_there runs l.1 l.4)

-- the runs that were written
record RunsOf (texts : List (List ℕ)) (ts : List Lexeme) : Type 0 where
  runs : List (Run × List ℕ)
  same : map (λ (run : Run × List ℕ). run.1) runs ≡ texts
  there : InSequence (λ run. comma · SpellsRunText run) runs ts

behind_back : (texts : List (List ℕ)) (ts : List Lexeme) → SpellsBehindCommas texts ts → RunsOf texts ts
behind_back [] ts l = record { runs = []; same = refl; there = l }
behind_back (text ∷ texts) ts l =
    let first = l.3 in
    let words = first.4 in
    let others = behind_back texts l.1 l.4 in
    record {
      runs = (run_of words.0.0, text) ∷ others.runs;
      same = ap (λ (texts : List (List ℕ)). text ∷ texts) others.same;
      there = (
        l.0,
        l.1,
        l.2,
        (first.0, first.1, first.2, first.3, (words.0.0, words.0.1, refl, words.1)),
        others.there,
      );
    }

-- ---- attachments

attached_there : (attached : Bool) (ts : List Lexeme) → Attached attached ts → attachments ts
attached_there false ts l = subst (λ (ts : List Lexeme). attachments ts) (sym l) none
attached_there true ts l =
    let bare = l.4 in
    let kind = bare.3 in
    more (l.0 ++ bare.0) bare.1
    (l.2 ∙ (ap (λ (us : List Lexeme). l.0 ++ us) bare.2 ∙ sym (append_assoc l.0 bare.0 bare.1)))
    (l.0, bare.0, refl, l.3, kind) bare.4

attached_back : (ts : List Lexeme) → attachments ts → (attached : Bool) × Attached attached ts
attached_back ts none = (false, refl)
attached_back ts (more us vs parts first others) = (
  true,
  (
    first.0,
    first.1 ++ vs,
    parts ∙ (ap (λ (us : List Lexeme). us ++ vs) first.2 ∙ append_assoc first.0 first.1 vs),
    first.3,
    (first.1, vs, refl, first.4, others),
  ),
)

-- ---- globals

regroup : (name equals words constant kind value runs rest : List Lexeme)
    → (name ++ equals) ++ ((words ++ (constant ++ kind)) ++ (value ++ (runs ++ rest)))
    ≡ name ++ (equals ++ (words ++ (constant ++ (kind ++ (value ++ (runs ++ rest))))))
regroup name equals words constant kind value runs rest = simp append_assoc

-- The parts of a global, where what was read is known.
record Parts (name : List ℕ) (said : Run × List ℕ) (constant : Bool) (kind : IrType) (value : Option Init)
    (runs : Runs) (ts : List Lexeme) : Type 0 where
  at_name : List Lexeme
  at_equals : List Lexeme
  at_words : List Lexeme
  at_constant : List Lexeme
  at_kind : List Lexeme
  at_value : List Lexeme
  at_runs : List Lexeme
  at_rest : List Lexeme
  parts : ts ≡ (at_name ++ at_equals) ++ ((at_words ++ (at_constant ++ at_kind)) ++ (at_value ++ (at_runs ++ at_rest)))
  name_there : one (IsGlobal name) at_name
  equals_there : punctuation 61 at_equals
  words_there : SpellsRunText said at_words
  constant_there : keyword (constant_word constant) at_constant
  kind_there : SpellsTypeOf IsStored kind at_kind
  value_there : SpellsInitialiser said.0.external value at_value
  runs_there : InSequence (λ run. comma · SpellsRunText run) runs.0 at_runs
  rest_there : Attached runs.1 at_rest

parts_spell : (name : List ℕ) (said : Run × List ℕ) (constant : Bool) (kind : IrType) (value : Option Init) (runs :
    Runs)
    (ts : List Lexeme) → Parts name said constant kind value runs ts
    → SpellsGlobal (global_of (name, (typed_of (said, (constant, kind)), (value, tail_of runs)))).0 ts
parts_spell name said constant kind value runs ts p =
    let words = p.words_there in (
      words.0,
      (
        p.at_name,
        _,
        p.parts ∙ regroup p.at_name p.at_equals p.at_words p.at_constant p.at_kind p.at_value p.at_runs p.at_rest,
        p.name_there,
        (
          p.at_equals,
          _,
          refl,
          p.equals_there,
          (
            p.at_words,
            _,
            refl,
            (words.1, words.3),
            (
              p.at_constant,
              _,
              refl,
              p.constant_there,
              (
                p.at_kind,
                _,
                refl,
                p.kind_there,
                (
                  p.at_value,
                  _,
                  refl,
                  subst (λ (run : Run). SpellsInitialiser run.external value p.at_value) words.2 p.value_there,
                  (
                    p.at_runs,
                    p.at_rest,
                    refl,
                    behind_there runs.0 p.at_runs p.runs_there,
                    attached_there runs.1 p.at_rest p.rest_there,
                  ),
                ),
              ),
            ),
          ),
        ),
      ),
    )

pub global_of_ended : (g : Global_) (ts : List Lexeme)
    → (ended : Global_ × GlobalEnding) × (ended.0 ≡ g) × SpellsEnded ended ts → SpellsGlobal g ts
global_of_ended g ts (ended, same, l) =
    let name = l.2.3 in
    let described = l.2.4 in
    let typed = described.1.3 in
    let valued = described.1.4 in
    let tail = valued.2.4 in
    let value : Option Init = valued.0.0 in
    let runs : Runs = tail.0 in
    let whole : ended ≡ global_of (l.0.0, (typed_of typed.0, (value, tail_of runs))) =
    l.1 ∙ ap (λ (d : Typed × (Option Init × Tail)). global_of (l.0.0, d)) (valued.1
    ∙ (ap (λ (t : Typed). (t, valued.0)) typed.1
    ∙ ap (λ (t : Tail). (typed_of typed.0, (value, t))) tail.1)) in
    let parts : Parts l.0.0 typed.0.0 typed.0.1.0 typed.0.1.1 value runs ts = record {
      at_name = name.0;
      at_equals = name.1;
      at_words = typed.2.0;
      at_constant = typed.2.4.0;
      at_kind = typed.2.4.1;
      at_value = valued.2.0;
      at_runs = tail.2.0;
      at_rest = tail.2.1;
      parts = rw (l.2.2, name.2, described.1.2, typed.2.2, typed.2.4.2, valued.2.2, tail.2.2) refl;
      name_there = name.3;
      equals_there = name.4;
      words_there = typed.2.3;
      constant_there = typed.2.4.3;
      kind_there = typed.2.4.4;
      value_there = subst (λ (t : Typed). SpellsInitialiser t.run.external value valued.2.0) typed.1 valued.2.3;
      runs_there = tail.2.3;
      rest_there = tail.2.4;
    } in
    subst (λ (g : Global_). SpellsGlobal g ts) (sym (ap (λ (e : Global_ × GlobalEnding). e.0) whole) ∙ same)
    (parts_spell l.0.0 typed.0.0 typed.0.1.0 typed.0.1.1 value runs ts parts)

pub ended_of_global : (g : Global_) (ts : List Lexeme) → SpellsGlobal g ts
    → (ended : Global_ × GlobalEnding) × (ended.0 ≡ g) × SpellsEnded ended ts
ended_of_global g ts l =
    let pieces = l.0 in
    let name = l.1 in
    let equals = name.4 in
    let words = equals.4 in
    let constant = words.4 in
    let kind = constant.4 in
    let value = kind.4 in
    let behind = value.4 in
    let runs = behind_back g.after behind.0 behind.3 in
    let rest = attached_back behind.1 behind.4 in
    let said : Run × List ℕ = (run_of pieces, g.before) in
    let typed : Typed = typed_of (said, (g.constant, g.kind)) in
    let tail : Tail = tail_of (runs.runs, rest.0) in (
      global_of (g.name, (typed, (g.init, tail))),
      ap (λ (after : List (List ℕ)). record {
        name = g.name;
        before = g.before;
        constant = g.constant;
        kind = g.kind;
        init = g.init;
        after = after;
      }) runs.same,
      (
        (g.name, (typed, (g.init, tail))),
        refl,
        (
          name.0 ++ equals.0,
          (words.0 ++ (constant.0 ++ kind.0)) ++ (value.0 ++ (behind.0 ++ behind.1)),
          rw (name.2, equals.2, words.2, constant.2, kind.2, value.2, behind.2)
              (sym (regroup name.0 equals.0 words.0 constant.0 kind.0 value.0 behind.0 behind.1)),
          (name.0, equals.0, refl, name.3, equals.3),
          (
            typed,
            (
              words.0 ++ (constant.0 ++ kind.0),
              value.0 ++ (behind.0 ++ behind.1),
              refl,
              (
                (said, (g.constant, g.kind)),
                refl,
                (
                  words.0,
                  constant.0 ++ kind.0,
                  refl,
                  (pieces, words.3.0, refl, words.3.1),
                  (constant.0, kind.0, refl, constant.3, kind.3),
                ),
              ),
              (
                (g.init, tail),
                refl,
                (
                  value.0,
                  behind.0 ++ behind.1,
                  refl,
                  value.3,
                  ((runs.runs, rest.0), refl, (behind.0, behind.1, refl, runs.there, rest.1)),
                ),
              ),
            ),
          ),
        ),
      ),
    )
