-- What stands behind the initialiser of a global is read, with at most so many runs of words.
use Rattle.std.proofs.Common.{◌≡◌, ℕ, zero, suc, Bool, true, false, ◌||◌, ◌&&◌, List, [], ◌∷◌, ◌++◌, length, drop, Err, ◌⊎◌, inl, inr, refl, sym, ap, subst, ◌∙◌, append_assoc, codes}
use Rattle.ir_text.specs.declared.token.TokenKind.TheVariants.{Metadata}
use Rattle.ir_text.specs.Tokens.{Lexeme}
use Rattle.ir_text.specs.Listed.{sign}
use Rattle.ir_text.specs.Language.{Language, ◌·◌, ◌or◌, one, comma}
use Rattle.ir_text.specs.Language.Many.{none}
use Rattle.ir_text.specs.PassedOn.{IsMetadataWord, IsMetadataNumber, metadata_node, attachments}
use Rattle.ir_parts.specs.declared.ending.Ending.{Ending}
use Rattle.ir_parts.specs.declared.ending.Ending.TheVariants.{Empty}
use Rattle.ir_parts.specs.declared.ending.Run.{Run}
use Rattle.ir_parts.specs.Reading.{Read, made, begins, is_punctuation}
use Rattle.ir_parts.specs.MetadataReading.{is_metadata_word}
use Rattle.ir_parts.specs.Runs.{goes_on, SpellsRunText}
use Rattle.ir_parts.proofs.Readers.{StopsAt, IsReader, Anything, of_language, mapped, followed_until, chosen_apart, stops_at_all, stops_also}
use Rattle.ir_parts.proofs.NoneGoesOn.{refused_there}
use Rattle.ir_parts.proofs.Combined.{pure_reads, behind_token, not_at_first}
use Rattle.ir_parts.proofs.SingleTokens.{sign_reads, is_sign_itself}
use Rattle.ir_parts.proofs.PieceReaders.{or_neither, neither_or}
use Rattle.ir_parts.proofs.WordsReader.{StopsWords, words_read}
use Rattle.ir_parts.proofs.MetadataReaders.{word_there, word_back, a_number, bare_attachment_reads, attachments_read}
use Rattle.ir_items.specs.declared.global_ending.GlobalEnding.TheVariants.{Words}
use Rattle.ir_items.specs.TailReading.{is_empty_run, goes_on_global, Runs, with_run, attached_runs_at, more_runs_at, behind_comma_at, runs_most_at, ending_of_runs}
use Rattle.ir_items.proofs.RunEnds.{comma_stops_run, run_begins, piece_first}

-- ---- what stops

-- A token doesn't go on with the runs.
abbrev pub StopRuns : Runs → Lexeme → Type 0
StopRuns runs t = goes_on_global (ending_of_runs runs.1 runs.0) t ≡ false

-- The same, where the kind of an attachment may stand behind the first run, which nothing follows.
abbrev StopWeakly : Runs → Lexeme → Type 0
StopWeakly (run ∷ [], false) t = (is_punctuation 44 t || goes_on run.0.ending t) ≡ false
StopWeakly (run ∷ [], true) t = is_punctuation 44 t ≡ false
StopWeakly ([], attached) t = is_punctuation 44 t ≡ false
StopWeakly (run ∷ next ∷ runs, attached) t = StopRuns (next ∷ runs, attached) t

-- what follows the first run
abbrev StopBehind : Runs → Lexeme → Type 0
StopBehind runs t = StopRuns (drop 1 runs.0, runs.1) t

-- ---- attachments

abbrev pub SpellsBare : Language
SpellsBare = one IsMetadataWord · (one IsMetadataNumber or metadata_node)

abbrev pub SpellsAttached : Runs → Language
SpellsAttached runs ts = (runs ≡ ([], true)) × (SpellsBare · attachments) ts

attached_read : IsReader attached_runs_at SpellsAttached StopRuns
unfolding attached_runs_at
attached_read = of_language SpellsAttached there back
    (behind_token bare_attachment_reads
    (mapped (λ (x : Unit {0}). none_attached) StopRuns (λ x t stop. stop) (λ x t stop. stop) attachments_read))
  where
    none_attached : Runs
    none_attached = ([], true)

    there : (runs : Runs) (ts : List Lexeme)
        → (SpellsBare · (λ ts. (x : Unit {0}) × (runs ≡ ([], true)) × attachments ts)) ts → SpellsAttached runs ts
    there runs ts l = (l.4.1, (l.0, l.1, l.2, l.3, l.4.2))

    back : (runs : Runs) (ts : List Lexeme) → SpellsAttached runs ts
        → (SpellsBare · (λ ts. (x : Unit {0}) × (runs ≡ ([], true)) × attachments ts)) ts
    back runs ts l = (l.1.0, l.1.1, l.1.2, l.1.3, (tt, l.0, l.1.4))

attached_starts : (runs : Runs) (ts : List Lexeme) → SpellsAttached runs ts → begins is_metadata_word ts ≡ true
attached_starts runs ts l = rw (l.1.2, l.1.3.2, l.1.3.3.1) (word_back l.1.3.3.0 l.1.3.3.2)

-- The kind of an attachment is taken.
attached_begun : (t : Lexeme) (ts : List Lexeme) → is_metadata_word t ≡ true
    → attached_runs_at (t ∷ ts) ≡ Err (suc (length ts)) → ⊥
attached_begun t ts passed e = refused_there attached_read [] ts t e (record {
  whole = ([], true);
  others = number ∷ [];
  sentence = (
    refl,
    (
      t ∷ number ∷ [],
      [],
      refl,
      (t ∷ [], number ∷ [], refl, (t, refl, word_there t passed), inl (number, refl, a_number)),
      none,
    ),
  );
})
  where
    number : Lexeme
    number = record { kind = Metadata; text = codes "!0" }

-- ---- a comma and what stands behind it, or nothing

abbrev pub SpellsTail : (Runs → Language) → Runs → Language
SpellsTail Behind runs ts = (comma · Behind runs) ts ⊎ ((runs ≡ ([], false)) × (ts ≡ []))

module _ {behind : Read Runs} {Behind : Runs → Language} (behind_reads : IsReader behind Behind StopRuns) where
  tail_reads : IsReader (behind_comma_at behind) (SpellsTail Behind) StopRuns
  unfolding behind_comma_at
  tail_reads = chosen_apart (is_punctuation 44) {Stop = StopRuns} (behind_token (sign_reads 44) behind_reads)
      (pure_reads ([], false))
      (λ runs ts l. rw (l.2, l.3) (is_sign_itself 44))
      parted (λ t ts passed e. not_at_first (is_punctuation 44) behind_reads t ts passed e)
      stops (λ runs taken rest l stop. stops_at_all rest (λ t. tt))
    where
      no_comma : (rest : List Lexeme) → StopsAt (StopRuns ([], false)) rest → begins (is_punctuation 44) rest ≡ false
      no_comma [] stop = refl
      no_comma (t ∷ rest) stop = stop

      stops_there : (rest : List Lexeme) → begins (is_punctuation 44) rest ≡ false → StopsAt (StopRuns ([], false)) rest
      stops_there [] e = tt
      stops_there (t ∷ rest) e = e

      parted : (runs : Runs) (taken rest : List Lexeme) → (runs ≡ ([], false)) × (taken ≡ [])
          → StopsAt (StopRuns runs) rest → begins (is_punctuation 44) (taken ++ rest) ≡ false
      parted runs taken rest l stop =
          ap (λ (taken : List Lexeme). begins (is_punctuation 44) (taken ++ rest)) l.1
          ∙ no_comma rest (subst (λ (runs : Runs). StopsAt (StopRuns runs) rest) l.0 stop)

      stops : (runs : Runs) (taken rest : List Lexeme) → (runs ≡ ([], false)) × (taken ≡ [])
          → begins (is_punctuation 44) (taken ++ rest) ≡ false → StopsAt (Anything runs) rest
          → StopsAt (StopRuns runs) rest
      stops runs taken rest l e all =
          subst (λ (runs : Runs). StopsAt (StopRuns runs) rest) (sym l.0)
          (stops_there rest (ap (λ (taken : List Lexeme). begins (is_punctuation 44) (taken ++ rest)) (sym l.1) ∙ e))

-- ---- a run of words, and what stands behind it

-- The runs behind the first one.
abbrev pub Others : (Runs → Language) → Run × List ℕ → Runs → Language
Others Tail run runs ts = (others : Runs) × (runs ≡ with_run run others) × Tail others ts

abbrev pub SpellsMore : (Runs → Language) → Runs → Language
SpellsMore Tail runs ts = (run : Run × List ℕ) × (SpellsRunText run · Others Tail run runs) ts

-- What ends the run and what is behind it ends both.
halts_at : (run : Run × List ℕ) (others : Runs) (rest : List Lexeme) → (others ≡ ([], false) → StopsAt (StopsWords run)
    rest)
    → StopsAt (StopRuns others) rest → StopsAt (StopWeakly (with_run run others)) rest
halts_at run others [] first next = tt
halts_at run ([], false) (t ∷ rest) first next = neither_or (is_punctuation 44 t) (goes_on run.0.ending t) next (first
    refl)
halts_at run ([], true) (t ∷ rest) first next = next
halts_at run (other ∷ others, attached) (t ∷ rest) first next = next

stops_behind : (run : Run × List ℕ) (others : Runs) (rest : List Lexeme) → StopsAt (StopWeakly (with_run run others))
    rest
    → StopsAt (StopRuns others) rest
stops_behind run others [] stop = tt
stops_behind run ([], false) (t ∷ rest) stop = (or_neither (is_punctuation 44 t) (goes_on run.0.ending t) stop).0
stops_behind run ([], true) (t ∷ rest) stop = stop
stops_behind run (other ∷ others, attached) (t ∷ rest) stop = stop

stops_run : (run : Run × List ℕ) (rest : List Lexeme) → StopsAt (StopWeakly (run ∷ [], false)) rest
    → StopsAt (StopsWords run) rest
stops_run run [] stop = tt
stops_run run (t ∷ rest) stop = (or_neither (is_punctuation 44 t) (goes_on run.0.ending t) stop).1

module _ {behind : Read Runs} {Behind : Runs → Language} (behind_reads : IsReader behind Behind StopRuns)
    (some : (ts : List Lexeme) → Behind ([], false) ts → ⊥) where
  -- nothing is there, or a comma
  nothing_or_comma : (others : Runs) (taken : List Lexeme) → SpellsTail Behind others taken
      → ((others ≡ ([], false)) × (taken ≡ [])) ⊎ ((rest : List Lexeme) × (taken ≡ sign 44 ∷ rest))
  nothing_or_comma others taken (inl l) = inr (l.1, l.2 ∙ ap (λ (us : List Lexeme). us ++ l.1) l.3)
  nothing_or_comma others taken (inr l) = inl l

  -- there is no run and no attachment only where nothing is
  only_nothing : (others : Runs) (taken : List Lexeme) → SpellsTail Behind others taken → others ≡ ([], false)
      → taken ≡ []
  only_nothing others taken (inl l) e =
      absurd (some l.1 (subst (λ (runs : Runs). Behind runs l.1) e l.4))
  only_nothing others taken (inr l) e = l.1

  halts : (run : Run × List ℕ) (runs : Runs) (taken rest : List Lexeme) → Others (SpellsTail Behind) run runs taken
      → StopsAt (StopsWords run) (taken ++ rest) → StopsAt (StopBehind runs) rest → StopsAt (StopWeakly runs) rest
  halts run runs taken rest l first next =
      subst (λ (runs : Runs). StopsAt (StopWeakly runs) rest) (sym l.1)
      (halts_at run l.0 rest
      (λ e. subst (λ (taken : List Lexeme). StopsAt (StopsWords run) (taken ++ rest)) (only_nothing l.0 taken l.2 e)
      first)
      (subst (λ (runs : Runs). StopsAt (StopBehind runs) rest) l.1 next))

  stopped : (run : Run × List ℕ) (runs : Runs) (taken rest : List Lexeme) → Others (SpellsTail Behind) run runs taken
      → StopsAt (StopWeakly runs) rest → StopsAt (StopsWords run) (taken ++ rest) × StopsAt (StopBehind runs) rest
  stopped run runs taken rest l stop =
      let at : StopsAt (StopWeakly (with_run run l.0)) rest =
      subst (λ (runs : Runs). StopsAt (StopWeakly runs) rest) l.1 stop in (
        elim (nothing_or_comma l.0 taken l.2) [
          | inl e ↦
              subst (λ (taken : List Lexeme). StopsAt (StopsWords run) (taken ++ rest)) (sym e.1)
              (stops_run run rest (subst (λ (others : Runs). StopsAt (StopWeakly (with_run run others)) rest) e.0 at))
          | inr e ↦
              subst (λ (taken : List Lexeme). StopsAt (StopsWords run) (taken ++ rest)) (sym e.1)
              (comma_stops_run run.0.ending)
        ],
        subst (λ (runs : Runs). StopsAt (StopBehind runs) rest) (sym l.1) (stops_behind run l.0 rest at),
      )

  more_read : IsReader (more_runs_at (behind_comma_at behind)) (SpellsMore (SpellsTail Behind)) StopWeakly
  unfolding more_runs_at
  more_read = followed_until (λ run. made (with_run run) (behind_comma_at behind)) (Others (SpellsTail Behind))
      StopBehind
      StopWeakly words_read
      (λ run. mapped (with_run run) StopBehind (λ runs t stop. stop) (λ runs t stop. stop) (tail_reads behind_reads))
      halts stopped

-- ---- the run, by its first token

words_then_none : (ending : Ending) (rest : List Lexeme) → ending ≡ Empty
    → StopsAt (λ t. goes_on_global (Words ending) t ≡ false) rest → begins is_metadata_word rest ≡ false
words_then_none ending [] is stop = refl
words_then_none ending (t ∷ rest) is stop =
    let parts : goes_on_global (Words Empty) t ≡ false =
    subst (λ (ending : Ending). goes_on_global (Words ending) t ≡ false) is stop in
    (or_neither (goes_on Empty t) (is_metadata_word t)
    (or_neither (is_punctuation 44 t) (goes_on Empty t || is_metadata_word t) parts).1).1

none_then_words : (ending : Ending) (rest : List Lexeme) → begins is_metadata_word rest ≡ false
    → StopsAt (λ t. (is_punctuation 44 t || goes_on ending t) ≡ false) rest
    → StopsAt (λ t. goes_on_global (Words ending) t ≡ false) rest
none_then_words ending [] e stop = tt
none_then_words ending (t ∷ rest) e stop =
    let parts = or_neither (is_punctuation 44 t) (goes_on ending t) stop in
    neither_or (is_punctuation 44 t) (goes_on ending t || (is_empty_run ending && is_metadata_word t)) parts.0
    (neither_or (goes_on ending t) (is_empty_run ending && is_metadata_word t) parts.1
    (last_false (is_empty_run ending) (is_metadata_word t) e))
  where
    last_false : (a b : Bool) → b ≡ false → (a && b) ≡ false
    last_false true b e = e
    last_false false b e = refl

some_then_words : (ending : Ending) (rest : List Lexeme) → is_empty_run ending ≡ false
    → StopsAt (λ t. (is_punctuation 44 t || goes_on ending t) ≡ false) rest
    → StopsAt (λ t. goes_on_global (Words ending) t ≡ false) rest
some_then_words ending [] e stop = tt
some_then_words ending (t ∷ rest) e stop =
    let parts = or_neither (is_punctuation 44 t) (goes_on ending t) stop in
    neither_or (is_punctuation 44 t) (goes_on ending t || (is_empty_run ending && is_metadata_word t)) parts.0
    (neither_or (goes_on ending t) (is_empty_run ending && is_metadata_word t) parts.1
    (first_false (is_empty_run ending) (is_metadata_word t) e))
  where
    first_false : (a b : Bool) → a ≡ false → (a && b) ≡ false
    first_false true b e = absurd cc
    first_false false b e = refl

weakly_so : (runs : Runs) (t : Lexeme) → StopRuns runs t → StopWeakly runs t
weakly_so ([], true) t stop = stop
weakly_so ([], false) t stop = stop
weakly_so (run ∷ [], true) t stop = stop
weakly_so (run ∷ [], false) t stop =
    let parts = or_neither (is_punctuation 44 t)
    (goes_on run.0.ending t || (is_empty_run run.0.ending && is_metadata_word t)) stop in
    neither_or (is_punctuation 44 t) (goes_on run.0.ending t) parts.0
    (or_neither (goes_on run.0.ending t) (is_empty_run run.0.ending && is_metadata_word t) parts.1).0
weakly_so (run ∷ next ∷ runs, true) t stop = stop
weakly_so (run ∷ next ∷ runs, false) t stop = stop

module _ {behind : Read Runs} {Behind : Runs → Language} (behind_reads : IsReader behind Behind StopRuns)
    (some : (ts : List Lexeme) → Behind ([], false) ts → ⊥) where
  -- no run begins with the kind of an attachment, and none stands behind an empty one
  more_parted : (runs : Runs) (taken rest : List Lexeme) → SpellsMore (SpellsTail Behind) runs taken
      → StopsAt (StopRuns runs) rest → begins is_metadata_word (taken ++ rest) ≡ false
  more_parted runs taken rest l stop =
      let run = l.0 in
      let us = l.1.0 in
      let vs = l.1.1 in
      let others = l.1.4 in
      ap (begins is_metadata_word) (ap (λ (taken : List Lexeme). taken ++ rest) l.1.2 ∙ append_assoc us vs rest)
      ∙ elim (run_begins run us l.1.3) [
        | inr first ↦ piece_first us (vs ++ rest) first.0
        | inl first ↦
            ap (λ (us : List Lexeme). begins is_metadata_word (us ++ (vs ++ rest))) first.0
            ∙ elim (nothing_or_comma behind_reads some others.0 vs others.2) [
              | inr behind ↦ ap (λ (vs : List Lexeme). begins is_metadata_word (vs ++ rest)) behind.1
              | inl ends ↦
                  ap (λ (vs : List Lexeme). begins is_metadata_word (vs ++ rest)) ends.1
                  ∙ words_then_none run.0.ending rest first.1
                  (subst (λ (others : Runs). StopsAt (StopRuns (with_run run others)) rest) ends.0
                  (subst (λ (runs : Runs). StopsAt (StopRuns runs) rest) others.1 stop))
            ]
      ]

  more_stops : (runs : Runs) (taken rest : List Lexeme) → SpellsMore (SpellsTail Behind) runs taken
      → begins is_metadata_word (taken ++ rest) ≡ false → StopsAt (StopWeakly runs) rest → StopsAt (StopRuns runs) rest
  more_stops runs taken rest l e stop =
      subst (λ (runs : Runs). StopsAt (StopRuns runs) rest) (sym others.1)
      (of_others others.0 others.2 (subst (λ (runs : Runs). StopsAt (StopWeakly runs) rest) others.1 stop))
    where
      run : Run × List ℕ
      run = l.0

      us : List Lexeme
      us = l.1.0

      vs : List Lexeme
      vs = l.1.1

      others : Others (SpellsTail Behind) run runs vs
      others = l.1.4

      -- nothing stands behind the run
      alone : vs ≡ [] → StopsAt (StopWeakly (run ∷ [], false)) rest → StopsAt (StopRuns (run ∷ [], false)) rest
      alone ends stop = elim (run_begins run us l.1.3) [
        | inr first ↦ some_then_words run.0.ending rest first.1 stop
        | inl first ↦
            none_then_words run.0.ending rest
            (sym (ap (begins is_metadata_word) (ap (λ (taken : List Lexeme). taken ++ rest) l.1.2
            ∙ rw (first.0, ends) refl)) ∙ e) stop
      ]

      of_others : (others : Runs) → SpellsTail Behind others vs → StopsAt (StopWeakly (with_run run others)) rest
          → StopsAt (StopRuns (with_run run others)) rest
      of_others ([], false) t stop = alone (only_nothing behind_reads some ([], false) vs t refl) stop
      of_others ([], true) t stop = stop
      of_others (next ∷ runs, true) t stop = stop
      of_others (next ∷ runs, false) t stop = stop

-- ---- at most so many runs

unfoldable pub SpellsBehind : ℕ → Runs → Language
SpellsBehind zero runs = SpellsAttached runs
SpellsBehind (suc most) runs = SpellsAttached runs or SpellsMore (SpellsTail (SpellsBehind most)) runs

behind_some : (most : ℕ) (ts : List Lexeme) → SpellsBehind most ([], false) ts → ⊥
unfolding SpellsBehind
behind_some zero ts l = absurd (let e : false ≡ true = ap (λ (runs : Runs). runs.1) l.0 in cc)
behind_some (suc most) ts (inl l) = absurd (let e : false ≡ true = ap (λ (runs : Runs). runs.1) l.0 in cc)
behind_some (suc most) ts (inr l) =
    absurd (let e : [] ≡ l.0 ∷ l.1.4.0.0 = ap (λ (runs : Runs). runs.0) l.1.4.1 in cc)

pub behind_reads : (most : ℕ) → IsReader (runs_most_at most) (SpellsBehind most) StopRuns
unfolding runs_most_at SpellsBehind
behind_reads zero = attached_read
behind_reads (suc most) = chosen_apart is_metadata_word {Stop = StopRuns} attached_read
    (more_read (behind_reads most) (behind_some most)) attached_starts
    (more_parted (behind_reads most) (behind_some most)) attached_begun
    (more_stops (behind_reads most) (behind_some most)) (λ runs taken rest l stop. stops_also rest (weakly_so runs) stop)

pub most_read : (most : ℕ) → IsReader (behind_comma_at (runs_most_at most)) (SpellsTail (SpellsBehind most)) StopRuns
most_read most = tail_reads (behind_reads most)
