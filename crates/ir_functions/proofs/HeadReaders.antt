-- What stands before the callee of a call is read: `tail` and `notail`, `call`, passed-on words and a type.
use Rattle.std.proofs.Common.{◌≡◌, ℕ, Bool, true, false, List, [], ◌++◌, Result, Ok, Err, ◌⊎◌, inl, inr, refl, sym, ap, subst, ◌∙◌, codes}
use Rattle.ir_model.specs.declared.types.IrType.{IrType}
use Rattle.ir_text.specs.Tokens.{Lexeme}
use Rattle.ir_text.specs.Listed.{word}
use Rattle.ir_text.specs.Language.{Language, ◌·◌, keyword}
use Rattle.ir_model.specs.Kinds.{IsReturned}
use Rattle.ir_text.specs.Types.{SpellsTypeOf}
use Rattle.ir_text.specs.PassedOn.{passed_text, SpellsWords}
use Rattle.ir_grammar.specs.Operations.{SpellsFlag, SpellsTail, dropped_word}
use Rattle.ir_parts.specs.declared.ending.Run.{Run}
use Rattle.ir_parts.specs.Reading.{Read, go_on, ◌>>=◌, ◌⊗◌, ◌▷◌, made, pure, taking, keyword_at}
use Rattle.ir_parts.specs.TypeReading.{returned_type_at}
use Rattle.ir_parts.specs.WordsReading.{words_at}
use Rattle.ir_parts.specs.Runs.{SpellsRunText}
use Rattle.ir_parts.proofs.Readers.{StopsAt, IsReader, Anything, of_language, of_reading, mapped}
use Rattle.ir_parts.proofs.Combined.{behind_token}
use Rattle.ir_parts.proofs.Together.{both_followed}
use Rattle.ir_parts.proofs.MaybeReader.{maybe_reads}
use Rattle.ir_parts.proofs.SingleTokens.{keyword_reads}
use Rattle.ir_parts.proofs.TakingReader.{taking_reads}
use Rattle.ir_parts.proofs.TypeReaders.{returned_types}
use Rattle.ir_parts.proofs.WordsReader.{words_read, text_of_words, words_of_text}
use Rattle.ir_parts.proofs.RunEnds.{ended_by, type_ends}
use Rattle.ir_body.specs.Flags.{flag_at}
use Rattle.ir_body.proofs.FlagReaders.{NoFlagBehind, flag_reads}
use Rattle.ir_functions.specs.declared.calls.CallHead.{CallHead}
use Rattle.ir_functions.specs.Silent.{tail_at, head_at}

-- ---- `tail` and `notail`

-- whether each stands there
flags_at : Read (Bool × Bool)
flags_at = flag_at (codes "tail") ⊗ flag_at (codes "notail")

abbrev SpellsFlags : Bool × Bool → Language
SpellsFlags p = SpellsFlag (codes "tail") p.0 · SpellsFlag (codes "notail") p.1

-- The token is neither of those that could still stand there.
abbrev StopsFlags : Bool × Bool → Lexeme → Type 0
StopsFlags p t = NoFlagBehind (codes "notail") p.1 t × (((p.1 ≡ true) → ⊥) → NoFlagBehind (codes "tail") p.0 t)

no_tail : (set : Bool) → NoFlagBehind (codes "tail") set (word (codes "notail"))
no_tail true = tt
no_tail false = refl

flags_read : IsReader flags_at SpellsFlags StopsFlags
unfolding flags_at
flags_read = maybe_reads (λ set. set ≡ true) (flag_reads (codes "tail")) (flag_reads (codes "notail"))
    behind none
  where
    behind : (x y : Bool) (taken rest : List Lexeme) → SpellsFlag (codes "notail") y taken → y ≡ true
        → StopsAt (NoFlagBehind (codes "tail") x) (taken ++ rest)
    behind x true taken rest l is =
        subst (λ (ts : List Lexeme). StopsAt (NoFlagBehind (codes "tail") x) (ts ++ rest)) (sym l) (no_tail x)
    behind x false taken rest l is = absurd cc

    none : (y : Bool) (taken : List Lexeme) → SpellsFlag (codes "notail") y taken
        → (y ≡ true) ⊎ ((taken ≡ []) × (y ≡ true → ⊥))
    none true taken l = inl refl
    none false taken l = inr (l, λ is. cc)

-- `call` is neither
call_stops : (p : Bool × Bool) → StopsFlags p (word (codes "call"))
call_stops (a, b) = (no_flag (codes "notail") b refl, λ other. no_flag (codes "tail") a refl)
  where
    no_flag : (text : List ℕ) (set : Bool) → NoFlagBehind text false (word (codes "call"))
        → NoFlagBehind text set (word (codes "call"))
    no_flag text true e = tt
    no_flag text false e = e

-- ---- behind them

abbrev behind_call_at : Read ((Run × List ℕ) × IrType)
behind_call_at = words_at ⊗ returned_type_at

abbrev SpellsBehindCall : (Run × List ℕ) × IrType → Language
SpellsBehindCall p = SpellsRunText p.0 · SpellsTypeOf IsReturned p.1

behind_call_read : IsReader behind_call_at SpellsBehindCall Anything
behind_call_read = both_followed words_read returned_types
    (λ said kind taken rest l stops. ended_by said.0 taken rest (type_ends kind taken l.1))

-- ---- the head

-- the parts of a head
abbrev Parts : Type 0
Parts = ((Bool × Bool) × List Lexeme) × ((Run × List ℕ) × IrType)

parts_at : Read Parts
parts_at = taking flags_at ⊗ (keyword_at (codes "call") ▷ behind_call_at)

abbrev SpellsParts : Parts → Language
SpellsParts p = (λ us. SpellsFlags p.0.0 us × (p.0.1 ≡ us)) · (keyword (codes "call") · SpellsBehindCall p.1)

call_first : (flags : (Bool × Bool) × List Lexeme) (p : (Run × List ℕ) × IrType) (taken rest : List Lexeme)
    → (keyword (codes "call") · SpellsBehindCall p) taken → StopsAt (StopsFlags flags.0) (taken ++ rest)
call_first flags p taken rest l =
    subst (λ (ts : List Lexeme). StopsAt (StopsFlags flags.0) (ts ++ rest))
    (sym (l.2 ∙ ap (λ (us : List Lexeme). us ++ l.1) l.3)) (call_stops flags.0)

parts_read : IsReader parts_at SpellsParts Anything
unfolding parts_at
parts_read = both_followed (taking_reads flags_read) (behind_token (keyword_reads (codes "call")) behind_call_read)
    (λ flags p taken rest l stops. call_first flags p taken rest l)

-- what is made of them
abbrev head_of : Parts → CallHead
head_of p = record { tail = passed_text p.0.1; before = p.1.0.1; ret = p.1.1 }

-- The same is read by `head_at`.
same_head : (r : Result (((Bool × Bool) × List Lexeme) × List Lexeme) ℕ) (b : Read ((Run × List ℕ) × IrType))
    → go_on {A = List ℕ × ((Run × List ℕ) × IrType)}
    (go_on {A = List ℕ} (go_on r (λ p rest. Ok (passed_text p.1, rest)))
    (λ tail. b >>= λ p. pure (tail, p)))
    (λ p rest. Ok (record { tail = p.0; before = p.1.0.1; ret = p.1.1 }, rest))
    ≡ go_on {A = Parts} (go_on r (λ flags. b >>= λ p. pure (flags, p))) (λ p rest. Ok (head_of p, rest))
same_head (Err left) b = refl
same_head (Ok (flags, rest)) b = of_rest (b rest)
  where
    of_rest : (s : Result (((Run × List ℕ) × IrType) × List Lexeme) ℕ)
        → go_on {A = List ℕ × ((Run × List ℕ) × IrType)} (go_on s (λ p rest. Ok ((passed_text flags.1, p), rest)))
        (λ p rest. Ok (record { tail = p.0; before = p.1.0.1; ret = p.1.1 }, rest))
        ≡ go_on {A = Parts} (go_on s (λ p rest. Ok ((flags, p), rest))) (λ p rest. Ok (head_of p, rest))
    of_rest (Ok read) = refl
    of_rest (Err left) = refl

abbrev pub SpellsHead : CallHead → Language
SpellsHead head = SpellsTail head.tail · (keyword (codes "call") · (SpellsWords head.before
    · SpellsTypeOf IsReturned head.ret))

abbrev FromParts : CallHead → Language
FromParts head ts = (p : Parts) × (head ≡ head_of p) × SpellsParts p ts

-- flags, and words that are dropped
flag_dropped : (text : List ℕ) (set : Bool) (ts : List Lexeme) → SpellsFlag text set ts → dropped_word text ts
flag_dropped text true ts l = inl l
flag_dropped text false ts l = inr l

dropped_flag : (text : List ℕ) (ts : List Lexeme) → dropped_word text ts → (set : Bool) × SpellsFlag text set ts
dropped_flag text ts (inl l) = (true, l)
dropped_flag text ts (inr l) = (false, l)

head_there : (head : CallHead) (ts : List Lexeme) → FromParts head ts → SpellsHead head ts
head_there head ts (p, made, (us, vs, parts, (flags, same), (ws, xs, split, call, (ys, zs, halves, said, kind)))) =
    subst (λ (head : CallHead). SpellsHead head ts) (sym made) (
      us,
      vs,
      parts,
      (
        ap passed_text same,
        (
          flags.0,
          flags.1,
          flags.2,
          flag_dropped (codes "tail") p.0.0.0 flags.0 flags.3,
          flag_dropped (codes "notail") p.0.0.1 flags.1 flags.4,
        ),
      ),
      (ws, xs, split, call, (ys, zs, halves, text_of_words p.1.0.1 ys (p.1.0, refl, said), kind)),
    )

head_back : (head : CallHead) (ts : List Lexeme) → SpellsHead head ts → FromParts head ts
head_back head ts (us, vs, parts, (text, flags), (ws, xs, split, call, (ys, zs, halves, before, kind))) =
    let tail = dropped_flag (codes "tail") flags.0 flags.3 in
    let notail = dropped_flag (codes "notail") flags.1 flags.4 in
    let said = words_of_text head.before ys before in (
      (((tail.0, notail.0), us), (said.0, head.ret)),
      ap (λ (tail : List ℕ). record { tail = tail; before = head.before; ret = head.ret }) text
          ∙ ap (λ (before : List ℕ). record { tail = passed_text us; before = before; ret = head.ret }) (sym said.1),
      (
        us,
        vs,
        parts,
        ((flags.0, flags.1, flags.2, tail.1, notail.1), refl),
        (ws, xs, split, call, (ys, zs, halves, said.2, kind)),
      ),
    )

pub head_reads : IsReader head_at SpellsHead Anything
unfolding head_at tail_at flags_at parts_at
head_reads = of_reading head_at
    (λ ts. same_head (taking flags_at ts) (keyword_at (codes "call") ▷ behind_call_at))
    (of_language SpellsHead head_there head_back
    (mapped head_of Anything (λ p t stop. tt) (λ p t stop. tt) parts_read))
