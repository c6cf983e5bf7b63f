-- Reading what stands behind the initialiser of a global: runs of words, each behind a comma, and attachments.
use Rattle.std.specs.Prelude.{ℕ, zero, suc, Bool, true, false, ◌||◌, ◌&&◌, not, List, [], ◌∷◌, length, drop, map}
use Rattle.ir_text.specs.Tokens.{Lexeme}
use Rattle.ir_parts.specs.declared.ending.Ending.{Ending}
use Rattle.ir_parts.specs.declared.ending.Ending.TheVariants.{Empty}
use Rattle.ir_parts.specs.declared.ending.Run.{Run}
use Rattle.ir_parts.specs.Reading.{Read, ◌>>=◌, pure, ◌▷◌, made, begins, is_punctuation, punctuation_at, choose}
use Rattle.ir_parts.specs.MetadataReading.{is_metadata_word, bare_attachment_at, attachments_at}
use Rattle.ir_parts.specs.WordsReading.{words_at}
use Rattle.ir_parts.specs.Runs.{goes_on}
use Rattle.ir_items.specs.declared.global_ending.GlobalEnding.{GlobalEnding}
use Rattle.ir_items.specs.declared.global_ending.GlobalEnding.TheVariants.{Whole, Words}
use Rattle.ir_items.specs.declared.global_ending.Tail.{Tail}

-- ---- what goes on

abbrev pub is_empty_run : Ending → Bool
is_empty_run Empty = true
is_empty_run _ = false

-- whether a token goes on with a global that ends so
abbrev pub goes_on_global : GlobalEnding → Lexeme → Bool
goes_on_global Whole t = is_punctuation 44 t
goes_on_global (Words ending) t = is_punctuation 44 t || (goes_on ending t || (is_empty_run ending && is_metadata_word
    t))

-- ---- the reading

-- the runs with their texts, and whether attachments stand behind them
abbrev pub Runs : Type 0
Runs = List (Run × List ℕ) × Bool

abbrev pub with_run : Run × List ℕ → Runs → Runs
with_run run runs = (run ∷ runs.0, runs.1)

-- an attachment without its comma, and others
unfoldable pub attached_runs_at : Read Runs
attached_runs_at = bare_attachment_at ▷ attachments_at ▷ pure ([], true)

-- a run of words, and what stands behind it
unfoldable pub more_runs_at : Read Runs → Read Runs
more_runs_at others = words_at >>= λ run. made (with_run run) others

-- what stands behind a comma, or nothing
unfoldable pub behind_comma_at : Read Runs → Read Runs
behind_comma_at behind = choose (is_punctuation 44) (punctuation_at 44 ▷ behind) (pure ([], false))

-- behind a comma stand at most so many runs
unfoldable pub runs_most_at : ℕ → Read Runs
runs_most_at zero = attached_runs_at
runs_most_at (suc most) = choose is_metadata_word attached_runs_at (more_runs_at (behind_comma_at (runs_most_at most)))

-- any number: there are no more of them than tokens
unfoldable pub runs_at : Read Runs
runs_at ts = behind_comma_at (runs_most_at (length ts)) ts

-- how they end
abbrev pub ending_of_runs : Bool → List (Run × List ℕ) → GlobalEnding
ending_of_runs true runs = Whole
ending_of_runs false [] = Whole
ending_of_runs false (run ∷ []) = Words run.0.ending
ending_of_runs false (run ∷ next ∷ runs) = ending_of_runs false (next ∷ runs)

abbrev pub tail_of : Runs → Tail
tail_of runs = record { after = map (λ run. run.1) runs.0; ending = ending_of_runs runs.1 runs.0 }

unfoldable pub tail_at : Read Tail
tail_at = made tail_of runs_at

-- ---- as the code reads it

-- whether a run stands next, behind a comma
abbrev pub begins_run : List Lexeme → Bool
begins_run ts = begins (is_punctuation 44) ts && not (begins is_metadata_word (drop 1 ts))

unfoldable pub next_run_at : Read (Run × List ℕ)
next_run_at = punctuation_at 44 ▷ words_at

-- attachments, one at least
unfoldable pub some_attached_at : Read (Unit {0})
some_attached_at = punctuation_at 44 ▷ bare_attachment_at ▷ attachments_at
