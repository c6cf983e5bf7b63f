-- Globals are read.
use Rattle.std.proofs.Common.{◌≡◌, ℕ, Bool, true, false, List, [], ◌++◌, Option, Some, None, ◌⊎◌, inl, inr, refl, sym, ap, subst, ◌∙◌, codes}
use Rattle.ir_model.specs.declared.types.IrType.{IrType}
use Rattle.ir_model.specs.declared.item.Init.{Init}
use Rattle.ir_model.specs.declared.item.Global_.{Global_}
use Rattle.ir_text.specs.Bytes.{begins_word, is_letter}
use Rattle.ir_text.specs.Names.{is_word}
use Rattle.ir_text.specs.Tokens.{Lexeme}
use Rattle.ir_text.specs.Listed.{word, global}
use Rattle.ir_text.specs.Language.{Language, ◌·◌, one, keyword, punctuation}
use Rattle.ir_text.specs.Written.{IsGlobal}
use Rattle.ir_text.specs.Said.{said_global}
use Rattle.ir_model.specs.Kinds.{IsStored}
use Rattle.ir_text.specs.Types.{SpellsTypeOf}
use Rattle.ir_grammar.specs.Items.{SpellsInit, SpellsInitialiser, constant_word}
use Rattle.ir_parts.specs.declared.ending.Ending.{Ending}
use Rattle.ir_parts.specs.declared.ending.Ending.TheVariants.{Empty, Word, Placing, Placed, Quoted, Closed}
use Rattle.ir_parts.specs.declared.ending.Run.{Run}
use Rattle.ir_parts.specs.Reading.{made, is_keyword, one_at}
use Rattle.ir_parts.specs.WordsReading.{is_passed_text}
use Rattle.ir_parts.specs.Runs.{goes_on, SpellsRunText}
use Rattle.ir_parts.proofs.Readers.{StopsAt, IsReader, Anything, of_language, mapped, one_reads, chosen, then_reads}
use Rattle.ir_parts.proofs.Combined.{pure_reads, stands_for, before_token, not_at_first}
use Rattle.ir_parts.proofs.Together.{both_followed, both_read_on}
use Rattle.ir_parts.proofs.SingleTokens.{keyword_reads, sign_reads}
use Rattle.ir_parts.proofs.TypeReaders.{stored_types}
use Rattle.ir_parts.proofs.SaidNames.{global_there, global_back}
use Rattle.ir_parts.proofs.WordsReader.{StopsWords, words_read}
use Rattle.ir_items.specs.declared.global_ending.GlobalEnding.{GlobalEnding}
use Rattle.ir_items.specs.declared.global_ending.Typed.{Typed}
use Rattle.ir_items.specs.declared.global_ending.Tail.{Tail}
use Rattle.ir_items.specs.TailReading.{goes_on_global}
use Rattle.ir_items.specs.GlobalReading.{name_at, constant_at, typed_of, typed_at, initialiser_at, valued_at, described_at, global_of, ended_global_at}
use Rattle.ir_items.proofs.InitReader.{init_reads}
use Rattle.ir_items.proofs.TailReader.{SpellsEndedTail, StopsTail, tail_read}

-- ---- the name

a_name : IsGlobal (codes "a") (global (codes "a"))
unfolding is_word begins_word is_letter
a_name = (refl, codes "a", refl, inl (refl, refl))

pub global_names : IsReader (one_at said_global) (λ name. one (IsGlobal name)) Anything
global_names = one_reads said_global IsGlobal global_there global_back (codes "a") (global (codes "a")) a_name

abbrev pub SpellsName : List ℕ → Language
SpellsName name = one (IsGlobal name) · punctuation 61

name_reads : IsReader name_at SpellsName Anything
unfolding name_at
name_reads = before_token global_names (sign_reads 61)

-- ---- up to the type

constant_reads : IsReader constant_at (λ constant. keyword (constant_word constant)) Anything
unfolding constant_at
constant_reads = of_language (λ constant. keyword (constant_word constant)) there back
    (chosen (is_keyword (codes "constant")) (stands_for true (keyword_reads (codes "constant")))
    (stands_for false (keyword_reads (codes "global")))
    (λ constant ts l. rw l.1 refl) (λ constant taken rest l stops. rw l.1 refl)
    (λ t ts passed e. not_at_first (is_keyword (codes "constant")) (pure_reads true) t ts passed e))
  where
    there : (constant : Bool) (ts : List Lexeme)
        → ((constant ≡ true) × keyword (codes "constant") ts) ⊎ ((constant ≡ false) × keyword (codes "global") ts)
        → keyword (constant_word constant) ts
    there constant ts (inl l) = subst (λ (b : Bool). keyword (constant_word b) ts) (sym l.0) l.1
    there constant ts (inr l) = subst (λ (b : Bool). keyword (constant_word b) ts) (sym l.0) l.1

    back : (constant : Bool) (ts : List Lexeme) → keyword (constant_word constant) ts
        → ((constant ≡ true) × keyword (codes "constant") ts) ⊎ ((constant ≡ false) × keyword (codes "global") ts)
    back true ts l = inl (refl, l)
    back false ts l = inr (refl, l)

-- `global` and `constant` go on with no run
opening_stops : (constant : Bool) (ending : Ending) → goes_on ending (word (constant_word constant)) ≡ false
unfolding is_passed_text
opening_stops true Empty = refl
opening_stops true Word = refl
opening_stops true Placing = refl
opening_stops true Placed = refl
opening_stops true Quoted = refl
opening_stops true Closed = refl
opening_stops false Empty = refl
opening_stops false Word = refl
opening_stops false Placing = refl
opening_stops false Placed = refl
opening_stops false Quoted = refl
opening_stops false Closed = refl

abbrev pub SpellsTyped : Typed → Language
SpellsTyped typed ts = (p : (Run × List ℕ) × (Bool × IrType)) × (typed ≡ typed_of p)
    × (SpellsRunText p.0 · (keyword (constant_word p.1.0) · SpellsTypeOf IsStored p.1.1)) ts

typed_reads : IsReader typed_at SpellsTyped Anything
unfolding typed_at
typed_reads = mapped typed_of Anything (λ p t stop. tt) (λ p t stop. tt)
    (both_followed words_read (both_read_on constant_reads stored_types) ends)
  where
    ends : (run : Run × List ℕ) (p : Bool × IrType) (taken rest : List Lexeme)
        → (keyword (constant_word p.0) · SpellsTypeOf IsStored p.1) taken → StopsAt (Anything p.1) rest
        → StopsAt (StopsWords run) (taken ++ rest)
    ends run p taken rest l stops =
        subst (λ (taken : List Lexeme). StopsAt (StopsWords run) (taken ++ rest))
        (sym (l.2 ∙ ap (λ (us : List Lexeme). us ++ l.1) l.3)) (opening_stops p.0 run.0.ending)

-- ---- the initialiser, and what stands behind it

initialiser_reads : (external : Bool) → IsReader (initialiser_at external) (SpellsInitialiser external) Anything
unfolding initialiser_at
initialiser_reads true = of_language (SpellsInitialiser true) there back (pure_reads None)
  where
    there : (value : Option Init) (ts : List Lexeme) → (value ≡ None) × (ts ≡ []) → SpellsInitialiser true value ts
    there value ts l = subst (λ (value : Option Init). SpellsInitialiser true value ts) (sym l.0) l.1

    back : (value : Option Init) (ts : List Lexeme) → SpellsInitialiser true value ts → (value ≡ None) × (ts ≡ [])
    back None ts l = (refl, l)
    back (Some value) ts l = absurd l
initialiser_reads false = of_language (SpellsInitialiser false) there back
    (mapped (λ value. Some value) Anything (λ value t stop. tt) (λ value t stop. tt) init_reads)
  where
    there : (value : Option Init) (ts : List Lexeme) → (init : Init) × (value ≡ Some init) × SpellsInit init ts
        → SpellsInitialiser false value ts
    there value ts l = subst (λ (value : Option Init). SpellsInitialiser false value ts) (sym l.1) l.2

    back : (value : Option Init) (ts : List Lexeme) → SpellsInitialiser false value ts
        → (init : Init) × (value ≡ Some init) × SpellsInit init ts
    back None ts l = absurd l
    back (Some value) ts l = (value, refl, l)

abbrev pub SpellsValued : Bool → Option Init × Tail → Language
SpellsValued external valued = SpellsInitialiser external valued.0 · SpellsEndedTail valued.1

valued_reads : (external : Bool) → IsReader (valued_at external) (SpellsValued external) (λ valued. StopsTail valued.1)
unfolding valued_at
valued_reads external = both_read_on (initialiser_reads external) tail_read

abbrev pub SpellsDescribed : Typed × (Option Init × Tail) → Language
SpellsDescribed described ts = (typed : Typed) × (SpellsTyped typed · (λ us. (valued : Option Init × Tail)
    × (described ≡ (typed, valued)) × SpellsValued typed.run.external valued us)) ts

described_reads : IsReader described_at SpellsDescribed (λ described. StopsTail described.1.1)
unfolding described_at
described_reads =
    then_reads (λ typed. made (λ valued. (typed, valued)) (valued_at typed.run.external))
    (λ typed described us. (valued : Option Init × Tail) × (described ≡ (typed, valued))
    × SpellsValued typed.run.external valued us)
    (λ described. StopsTail described.1.1) typed_reads
    (λ typed. mapped (λ valued. (typed, valued)) (λ described. StopsTail described.1.1) (λ valued t stop. stop)
    (λ valued t stop. stop) (valued_reads typed.run.external))

-- ---- globals, and how they end

abbrev pub SpellsEnded : Global_ × GlobalEnding → Language
SpellsEnded ended ts = (p : List ℕ × (Typed × (Option Init × Tail))) × (ended ≡ global_of p)
    × (SpellsName p.0 · SpellsDescribed p.1) ts

-- A token doesn't go on with the global.
abbrev pub StopsGlobal : Global_ × GlobalEnding → Lexeme → Type 0
StopsGlobal ended t = goes_on_global ended.1 t ≡ false

pub ended_globals : IsReader ended_global_at SpellsEnded StopsGlobal
unfolding ended_global_at
ended_globals = mapped global_of StopsGlobal (λ p t stop. stop) (λ p t stop. stop)
    (both_read_on name_reads described_reads)
