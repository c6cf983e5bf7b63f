-- What stands behind the initialiser of a global is read.
use Rattle.std.proofs.Common.{◌≡◌, ℕ, zero, suc, ◌≤◌, Bool, true, false, List, [], ◌∷◌, ◌++◌, length, inl, inr, refl, sym, ap, subst, ◌∙◌, append_assoc, arith}
use Rattle.std.proofs.lemmas.List.{length-append}
use Rattle.ir_text.specs.Tokens.{Lexeme}
use Rattle.ir_text.specs.Listed.{sign, InSequence}
use Rattle.ir_text.specs.Language.{Language, ◌·◌, nothing, comma}
use Rattle.ir_text.specs.PassedOn.{attachments}
use Rattle.ir_parts.specs.declared.ending.Run.{Run}
use Rattle.ir_parts.specs.Reading.{Read, pure, ◌▷◌, made, is_punctuation, punctuation_at}
use Rattle.ir_parts.specs.MetadataReading.{is_metadata_word}
use Rattle.ir_parts.specs.WordsReading.{words_at}
use Rattle.ir_parts.specs.Runs.{SpellsRunText}
use Rattle.ir_parts.proofs.Readers.{IsReader, mapped}
use Rattle.ir_parts.proofs.WordsReader.{words_read}
use Rattle.ir_items.specs.declared.global_ending.Tail.{Tail}
use Rattle.ir_items.specs.TailReading.{goes_on_global, Runs, with_run, attached_runs_at, more_runs_at, behind_comma_at, runs_most_at, runs_at, tail_of, tail_at}
use Rattle.ir_items.proofs.Agreement.{Agree, shrinks, same_agree, then_agree, made_agree, behind_agree, chosen_agree, other_agree}
use Rattle.ir_items.proofs.Bounded.{bounded_reads}
use Rattle.ir_items.proofs.TailReaders.{StopRuns, SpellsBare, SpellsAttached, SpellsTail, SpellsBehind, most_read}

-- ---- how many runs may be read doesn't matter where there are at least as many as tokens

more_agree : (most : ℕ) (a b : Read Runs) → Agree most a b → Agree most (more_runs_at a) (more_runs_at b)
unfolding more_runs_at
more_agree most a b same =
    then_agree most words_at words_at (λ run. made (with_run run) a) (λ run. made (with_run run) b) (shrinks words_read)
    (same_agree most words_at) (λ run. made_agree most a b (λ runs. pure (with_run run runs)) same)

tail_agree : (most : ℕ) (a b : Read Runs) → Agree most a b → Agree (suc most) (behind_comma_at a) (behind_comma_at b)
unfolding behind_comma_at
tail_agree most a b same =
    chosen_agree (suc most) (is_punctuation 44) (punctuation_at 44 ▷ a) (punctuation_at 44 ▷ b) (pure ([], false))
    (behind_agree most (is_punctuation 44) (λ _. a) (λ _. b) same)

runs_agree : (n m : ℕ) (ts : List Lexeme) → length ts ≤ n → length ts ≤ m
    → behind_comma_at (runs_most_at n) ts ≡ behind_comma_at (runs_most_at m) ts
unfolding behind_comma_at runs_most_at
runs_agree n m [] short less = refl
runs_agree zero m (t ∷ ts) short less = absurd (omega arith)
runs_agree (suc n) zero (t ∷ ts) short less = absurd (omega arith)
runs_agree (suc n) (suc m) (t ∷ ts) short less =
    tail_agree (length ts) (runs_most_at (suc n)) (runs_most_at (suc m))
    (other_agree (length ts) is_metadata_word attached_runs_at (more_runs_at (behind_comma_at (runs_most_at n)))
    (more_runs_at (behind_comma_at (runs_most_at m)))
    (more_agree (length ts) (behind_comma_at (runs_most_at n)) (behind_comma_at (runs_most_at m))
    (λ us shorter. runs_agree n m us (omega arith) (omega arith)))) (t ∷ ts) (omega arith)

-- ---- the language

-- nothing, or attachments
abbrev pub Attached : Bool → Language
Attached false = nothing
Attached true = comma · SpellsBare · attachments

abbrev pub SpellsRuns : Runs → Language
SpellsRuns runs = InSequence (λ run. comma · SpellsRunText run) runs.0 · Attached runs.1

regroup : (us vs ws rest : List Lexeme) → us ++ (vs ++ (ws ++ rest)) ≡ ((us ++ vs) ++ ws) ++ rest
regroup us vs ws rest = simp append_assoc

no_runs : (ts : List Lexeme) → SpellsRuns ([], false) ts → ts ≡ []
no_runs ts l = l.2 ∙ rw (l.3, l.4) refl

runs_there : (most : ℕ) (runs : Runs) (ts : List Lexeme) → SpellsTail (SpellsBehind most) runs ts → SpellsRuns runs ts
unfolding SpellsBehind
runs_there most runs ts (inr l) = subst (λ (runs : Runs). SpellsRuns runs ts) (sym l.0) ([], [], l.1, refl, refl)
runs_there zero runs ts (inl l) =
    subst (λ (runs : Runs). SpellsRuns runs ts) (sym l.4.0)
    ([], ts, refl, refl, (l.0, l.1, l.2, l.3, l.4.1))
runs_there (suc most) runs ts (inl (c, us, parts, first, inl l)) =
    subst (λ (runs : Runs). SpellsRuns runs ts) (sym l.0)
    ([], ts, refl, refl, (c, us, parts, first, l.1))
runs_there (suc most) runs ts (inl (c, us, parts, first, inr l)) =
    let run = l.0 in
    let others = l.1.4 in
    let rest = runs_there most others.0 l.1.1 others.2 in
    subst (λ (runs : Runs). SpellsRuns runs ts) (sym others.1) (
      (c ++ l.1.0) ++ rest.0,
      rest.1,
      parts ∙ (ap (λ (us : List Lexeme). c ++ us) (l.1.2 ∙ ap (λ (us : List Lexeme). l.1.0 ++ us) rest.2)
          ∙ regroup c l.1.0 rest.0 rest.1),
      (c ++ l.1.0, rest.0, refl, (c, l.1.0, refl, first, l.1.3), rest.3),
      rest.4,
    )

attached_behind : (most : ℕ) (runs : Runs) (ts : List Lexeme) → SpellsAttached runs ts → SpellsBehind most runs ts
unfolding SpellsBehind
attached_behind zero runs ts l = l
attached_behind (suc most) runs ts l = inl l

runs_back : (runs : List (Run × List ℕ)) (attached : Bool) (ts : List Lexeme) → SpellsRuns (runs, attached) ts
    → (most : ℕ) → length ts ≤ most → SpellsTail (SpellsBehind most) (runs, attached) ts
unfolding SpellsBehind
runs_back [] false ts l most short = inr (refl, no_runs ts l)
runs_back [] true ts l most short =
    let a = l.4 in
    inl (
      a.0,
      a.1,
      l.2 ∙ (ap (λ (us : List Lexeme). us ++ l.1) l.3 ∙ a.2),
      a.3,
      attached_behind most ([], true) a.1 (refl, a.4),
    )
runs_back (run ∷ runs) attached ts l zero short =
    absurd (omega (
      arith,
      ap length l.2,
      length-append l.0 l.1,
      ap length l.3.2,
      length-append l.3.0 l.3.1,
      ap length l.3.3.2,
      length-append l.3.3.0 l.3.3.1,
      ap length l.3.3.3,
    ))
runs_back (run ∷ runs) attached ts l (suc most) short =
    let first = l.3.3 in
    let rest : List Lexeme = l.3.1 ++ l.1 in
    let all : ts ≡ sign 44 ∷ (first.1 ++ rest) =
    rw (l.2, l.3.2, first.2, first.3) (ap (λ (ts : List Lexeme). sign 44 ∷ ts) (append_assoc first.1 l.3.1 l.1)) in
    inl (
      sign 44 ∷ [],
      first.1 ++ rest,
      all,
      refl,
      inr (
        run,
        (
          first.1,
          rest,
          refl,
          first.4,
          (
            (runs, attached),
            refl,
            runs_back runs attached rest (l.3.1, l.1, refl, l.3.4, l.4) most
                (omega (arith, ap length all, length-append first.1 rest)),
          ),
        ),
      ),
    )

runs_read : IsReader runs_at SpellsRuns StopRuns
unfolding runs_at
runs_read =
    bounded_reads (λ most. behind_comma_at (runs_most_at most)) (λ most. SpellsTail (SpellsBehind most)) StopRuns
    most_read runs_agree SpellsRuns runs_there (λ runs ts l most short. runs_back runs.0 runs.1 ts l most short)
    ([], false) [] ([], [], refl, refl, refl)

-- ---- with what is made of them

abbrev pub SpellsEndedTail : Tail → Language
SpellsEndedTail tail ts = (runs : Runs) × (tail ≡ tail_of runs) × SpellsRuns runs ts

-- A token doesn't go on with a tail.
abbrev pub StopsTail : Tail → Lexeme → Type 0
StopsTail tail t = goes_on_global tail.ending t ≡ false

pub tail_read : IsReader tail_at SpellsEndedTail StopsTail
unfolding tail_at
tail_read = mapped tail_of StopsTail (λ runs t stop. stop) (λ runs t stop. stop) runs_read
