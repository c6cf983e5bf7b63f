-- Words that are read and dropped.
use Rattle.std.proofs.Common.{◌≡◌, ℕ, Bool, true, false, List, [], ◌++◌, Result, Ok, Err, inl, inr, refl}
use Rattle.std.specs.Str.{bytes_eq}
use Rattle.ir_text.specs.Tokens.{Lexeme}
use Rattle.ir_text.specs.Mentions.{Mention, Mentioning, ◌⊙◌, silent}
use Rattle.ir_grammar.specs.Operations.{SpellsFlag, dropped_word}
use Rattle.ir_parts.specs.Reading.{Read, begins, go_on, pure, is_keyword}
use Rattle.ir_parts.specs.Reading as reading
use Rattle.ir_body.specs.Telling.{Telling, behind, made, ◌⊗◌, ◌▷◌, silently}
use Rattle.ir_body.specs.Flags.{flag_at, dropped_at}
use Rattle.ir_body.proofs.Tellers.{IsTeller, silent_tells, each_tells, told_as, told_reading}
use Rattle.ir_body.proofs.Firsts.{BeginsNot}
use Rattle.ir_body.proofs.FlagReaders.{flag_reads, flag_stops}

-- a word that is dropped, and then what doesn't begin with it
pub drop_tells : {Y : Type 0} (text : List ℕ) {b : Telling Y} {B : Y → Mentioning} {StopB : Y → Lexeme → Type 0}
    → IsTeller b B StopB
    → ((y : Y) → BeginsNot (is_keyword text) (B y))
    → IsTeller (silently (dropped_at text) ▷ b) (λ y. silent (dropped_word text) ⊙ B y) StopB
unfolding dropped_at
drop_tells {Y} text {b} {B} {StopB} next other =
    told_as (λ y. silent (dropped_word text) ⊙ B y) there back
    (told_reading (silently (dropped_at text) ▷ b) (λ ts. same (flag_at text ts))
    (each_tells (λ set. b) (λ set. B) StopB (silent_tells (flag_reads text)) (λ set. next)
    (λ set y ms taken rest l stops. flag_stops text set (taken ++ rest) (other y ms taken rest l))))
  where
    same : (r : Result (Bool × List Lexeme) ℕ)
        → go_on {A = Unit {0} × List Mention} (go_on (go_on r (λ set. pure tt)) (λ u rest. Ok ((u, []), rest)))
        (λ u rest. behind u.1 (b rest))
        ≡ go_on {A = Bool × List Mention} (go_on r (λ set rest. Ok ((set, []), rest)))
        (λ set rest. behind set.1 (b rest))
    same (Ok read) = refl
    same (Err left) = refl

    dropped : (set : Bool) (ts : List Lexeme) → SpellsFlag text set ts → dropped_word text ts
    dropped true ts l = inl l
    dropped false ts l = inr l

    there : (y : Y) (ms : List Mention) (ts : List Lexeme) → (set : Bool) × (silent (SpellsFlag text set) ⊙ B y) ms ts
        → (silent (dropped_word text) ⊙ B y) ms ts
    there y ms ts l =
        (l.1.0, l.1.1, l.1.2, (l.1.3.0, l.1.3.1, l.1.3.2, (l.1.3.3.0, dropped l.0 l.1.3.0 l.1.3.3.1), l.1.3.4))

    kept : (y : Y) (ms before after : List Mention) (ts us vs : List Lexeme) → ms ≡ before ++ after → ts ≡ us
        ++ vs → before ≡ []
        → dropped_word text us → B y after vs → (set : Bool) × (silent (SpellsFlag text set) ⊙ B y) ms ts
    kept y ms before after ts us vs e d none (inl l) b = (true, (before, after, e, (us, vs, d, (none, l), b)))
    kept y ms before after ts us vs e d none (inr l) b = (false, (before, after, e, (us, vs, d, (none, l), b)))

    back : (y : Y) (ms : List Mention) (ts : List Lexeme) → (silent (dropped_word text) ⊙ B y) ms ts
        → (set : Bool) × (silent (SpellsFlag text set) ⊙ B y) ms ts
    back y ms ts l = kept y ms l.0 l.1 ts l.3.0 l.3.1 l.2 l.3.2 l.3.3.0 l.3.3.1 l.3.4

-- neither a dropped word nor what stands behind it
pub dropped_begins_not : (text other : List ℕ) {B : Mentioning} → bytes_eq text other ≡ false
    → BeginsNot (is_keyword other) B → BeginsNot (is_keyword other) (silent (dropped_word text) ⊙ B)
dropped_begins_not text other {B} apart next ms taken rest l = of l.3.3.1
  where
    of : dropped_word text l.3.0 → begins (is_keyword other) (taken ++ rest) ≡ false
    of (inl there) = rw (l.3.2, there) apart
    of (inr none) = rw (l.3.2, none) (next l.1 l.3.1 rest l.3.4)

-- what says nothing, before what is read silently
pub silently_behind : {X Y : Type 0} (r : Read (Unit {0})) (q : Read X) (b : Telling Y) (ts : List Lexeme)
    → (silently (reading.◌▷◌ r q) ⊗ b) ts ≡ (silently r ▷ (silently q ⊗ b)) ts
silently_behind {X} {Y} r q b ts = of (r ts)
  where
    nothing_told : (r : Result (((X × Y) × List Mention) × List Lexeme) ℕ) → r ≡ behind [] r
    nothing_told (Ok read) = refl
    nothing_told (Err left) = refl

    of : (r : Result (Unit {0} × List Lexeme) ℕ)
        → go_on {A = X × List Mention} (go_on (go_on r (λ u. q)) (λ x rest. Ok ((x, []), rest)))
        (λ x rest. behind x.1 (made (λ y. (x.0, y)) b rest))
        ≡ go_on {A = Unit {0} × List Mention} (go_on r (λ u rest. Ok ((u, []), rest)))
        (λ u rest. behind u.1 ((silently q ⊗ b) rest))
    of (Ok read) = nothing_told ((silently q ⊗ b) read.1)
    of (Err left) = refl
