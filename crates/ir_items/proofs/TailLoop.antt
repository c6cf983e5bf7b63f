-- What stands behind the initialiser of a global is read as a loop does it.
use Rattle.std.proofs.Common.{◌≡◌, ℕ, zero, suc, ◌-◌, ◌<◌, ◌≤◌, Bool, true, false, ◌&&◌, not, List, [], ◌∷◌, ◌++◌, map, length, Result, Ok, Err, refl, sym, ap, ◌∙◌, append_assoc, arith}
use Rattle.std.proofs.lemmas.Bool.{and_parts}
use Rattle.std.proofs.lemmas.List.{append-nil}
use Rattle.ir_text.specs.Tokens.{Lexeme}
use Rattle.ir_lex.specs.Tokenized.{Tokenized}
use Rattle.ir_parts.specs.declared.ending.Run.{Run}
use Rattle.ir_parts.specs.declared.fault.ItemFault.{ItemFault}
use Rattle.ir_parts.specs.declared.fault.ItemFault.TheVariants.{CannotGoOn, OutOfMemory}
use Rattle.ir_parts.specs.Reading.{Read, go_on, ◌>>=◌, pure, ◌▷◌, made, begins, is_punctuation, punctuation_at, token_at, left_from, Reads, Passes}
use Rattle.ir_parts.specs.MetadataReading.{is_metadata_word, bare_attachment_at, attachments_at}
use Rattle.ir_parts.specs.WordsReading.{words_at}
use Rattle.ir_parts.proofs.Places.{shorter_left}
use Rattle.ir_parts.proofs.Readers.{chosen_first, chosen_other}
use Rattle.ir_parts.proofs.Repeated.{none_left}
use Rattle.ir_items.specs.declared.global_ending.GlobalEnding.{GlobalEnding}
use Rattle.ir_items.specs.declared.global_ending.GlobalEnding.TheVariants.{Whole, Words}
use Rattle.ir_items.specs.declared.global_ending.Tail.{Tail}
use Rattle.ir_items.specs.TailReading.{Runs, with_run, attached_runs_at, more_runs_at, behind_comma_at, runs_most_at, runs_at, ending_of_runs, tail_of, tail_at, begins_run, next_run_at, some_attached_at}

-- runs that were read before, and what is still read
abbrev pub with_earlier : List (Run × List ℕ) → Result (Runs × List Lexeme) ℕ → Result (Runs × List Lexeme) ℕ
with_earlier earlier read = go_on read (λ runs. pure (earlier ++ runs.0, runs.1))

-- at most so many runs, from a comma on
abbrev pub most_at : ℕ → Read Runs
most_at most = behind_comma_at (runs_most_at most)

-- ---- what stands next

-- a run, and what is behind it
run_next : (most : ℕ) (ts : List Lexeme) → begins_run ts ≡ true
    → most_at (suc most) ts ≡ go_on (next_run_at ts) (λ run. made (with_run run) (most_at most))
unfolding behind_comma_at runs_most_at more_runs_at next_run_at token_at
run_next most [] e = absurd cc
run_next most (t ∷ ts) e =
    let parts = and_parts (is_punctuation 44 t) (not (begins is_metadata_word ts)) e in
    let other : begins is_metadata_word ts ≡ false = not_true (begins is_metadata_word ts) parts.1 in
    rw parts.0 (chosen_other is_metadata_word attached_runs_at (words_at >>= λ run. made (with_run run) (most_at most))
    ts
    other)
  where
    not_true : (b : Bool) → not b ≡ true → b ≡ false
    not_true true e = absurd cc
    not_true false e = refl

-- nothing
none_next : (most : ℕ) (ts : List Lexeme) → begins (is_punctuation 44) ts ≡ false → most_at most ts ≡ Ok (
  ([], false),
  ts,
)
unfolding behind_comma_at
none_next most ts e = chosen_other (is_punctuation 44) (punctuation_at 44 ▷ runs_most_at most) (pure ([], false)) ts e

-- attachments
attached_next : (most : ℕ) (ts : List Lexeme) → begins_run ts ≡ false → begins (is_punctuation 44) ts ≡ true
    → most_at most ts ≡ go_on (some_attached_at ts) (λ x. pure ([], true))
unfolding behind_comma_at runs_most_at some_attached_at attached_runs_at token_at
attached_next most [] e passed = absurd cc
attached_next most (t ∷ ts) e passed =
    let word : begins is_metadata_word ts ≡ true = is_true (is_punctuation 44 t) (begins is_metadata_word ts) passed e
    in
    rw passed (of_most most word ∙ regroup (bare_attachment_at ts))
  where
    is_true : (a b : Bool) → a ≡ true → (a && not b) ≡ false → b ≡ true
    is_true a true first e = refl
    is_true true false first e = absurd cc
    is_true false false first e = absurd cc

    of_most : (most : ℕ) → begins is_metadata_word ts ≡ true
        → runs_most_at most ts ≡ go_on (bare_attachment_at ts) (λ _. attachments_at >>= λ _. pure ([], true))
    of_most zero word = refl
    of_most (suc most) word = chosen_first is_metadata_word attached_runs_at (more_runs_at (most_at most)) ts word

    behind : (r : Result (Unit {0} × List Lexeme) ℕ)
        → ◌≡◌ {A = Result (Runs × List Lexeme) ℕ} (go_on r (λ _. pure ([], true)))
        (go_on (go_on r (λ x. pure x)) (λ x. pure ([], true)))
    behind (Ok read) = refl
    behind (Err left) = refl

    regroup : (r : Result (Unit {0} × List Lexeme) ℕ)
        → ◌≡◌ {A = Result (Runs × List Lexeme) ℕ} (go_on r (λ _. attachments_at >>= λ _. pure ([], true)))
        (go_on (go_on r (λ _. attachments_at)) (λ x. pure ([], true)))
    regroup (Ok read) = refl
    regroup (Err left) = refl

-- ---- the loop

-- What was read so far, and what is left of it gives the whole reading.
pub record TailRead (t : Tokenized) (from at : ℕ) (after : List (List ℕ)) (ending : GlobalEnding) : Type 0 where
  pub earlier : List (Run × List ℕ)
  pub texts : after ≡ map (λ run. run.1) earlier
  pub ends : ending ≡ ending_of_runs false earlier
  pub most : ℕ
  pub enough : length (left_from t at) ≤ most
  pub so_far : with_earlier earlier (most_at most (left_from t at)) ≡ runs_at (left_from t from)

module _ (t : Tokenized) (from : ℕ) where
  pub tail_begins : TailRead t from from [] Whole
  unfolding runs_at
  tail_begins = record {
    earlier = [];
    texts = refl;
    ends = refl;
    most = length (left_from t from);
    enough = omega arith;
    so_far = from_nothing (most_at (length (left_from t from)) (left_from t from));
  }
    where
      from_nothing : (read : Result (Runs × List Lexeme) ℕ) → with_earlier [] read ≡ read
      from_nothing (Err left) = refl
      from_nothing (Ok read) = refl

  regroup : (earlier : List (Run × List ℕ)) (run : Run × List ℕ) (read : Result (Runs × List Lexeme) ℕ)
      → with_earlier earlier (go_on read (λ runs. pure (with_run run runs))) ≡ with_earlier (earlier ++ run ∷ []) read
  regroup earlier run (Err left) = refl
  regroup earlier run (Ok read) =
      ap (λ (runs : List (Run × List ℕ)). Ok ((runs, read.0.1), read.1)) (sym (append_assoc earlier (run ∷ [])
      read.0.0))

  more_texts : (earlier : List (Run × List ℕ)) (run : Run × List ℕ)
      → map (λ (run : Run × List ℕ). run.1) earlier ++ run.1 ∷ [] ≡ map (λ (run : Run × List ℕ). run.1) (earlier ++ run
      ∷
      [])
  more_texts [] run = refl
  more_texts (first ∷ earlier) run = ap (λ (texts : List (List ℕ)). first.1 ∷ texts) (more_texts earlier run)

  last_ends : (earlier : List (Run × List ℕ)) (run : Run × List ℕ)
      → Words run.0.ending ≡ ending_of_runs false (earlier ++ run ∷ [])
  last_ends [] run = refl
  last_ends (first ∷ []) run = refl
  last_ends (first ∷ next ∷ earlier) run = last_ends (next ∷ earlier) run

  pub tail_more : (at behind : ℕ) (after : List (List ℕ)) (ending : GlobalEnding) (run : Run × List ℕ)
      → TailRead t from at after ending → true ≡ begins_run (left_from t at)
      → next_run_at (left_from t at) ≡ Ok (run, left_from t behind)
      → (at < behind) × (behind ≤ length t.tokens)
      → TailRead t from behind (after ++ run.1 ∷ []) (Words run.0.ending)
  tail_more at behind after ending run loop passed read forth = go loop.most loop.enough loop.so_far
    where
      fewer : length (left_from t behind) < length (left_from t at)
      fewer = shorter_left t at behind forth.0 forth.1

      go : (most : ℕ) → length (left_from t at) ≤ most
          → with_earlier loop.earlier (most_at most (left_from t at)) ≡ runs_at (left_from t from)
          → TailRead t from behind (after ++ run.1 ∷ []) (Words run.0.ending)
      go zero enough e = absurd (let less = fewer in omega arith)
      go (suc most) enough e = record {
        earlier = loop.earlier ++ run ∷ [];
        texts = ap (λ (texts : List (List ℕ)). texts ++ run.1 ∷ []) loop.texts ∙ more_texts loop.earlier run;
        ends = last_ends loop.earlier run;
        most = most;
        enough = let less = fewer in omega arith;
        so_far = sym (ap (with_earlier loop.earlier) (run_next most (left_from t at) (sym passed)
            ∙ ap (λ r. go_on r (λ run. made (with_run run) (most_at most))) read)
            ∙ regroup loop.earlier run (most_at most (left_from t behind))) ∙ e;
      }

  refuses_so : (earlier : List (Run × List ℕ)) (ts : List Lexeme) (left most : ℕ) (total : Result (Runs × List Lexeme)
      ℕ)
      → begins_run ts ≡ true → next_run_at ts ≡ Err left → length ts ≤ most
      → with_earlier earlier (most_at most ts) ≡ total → total ≡ Err left
  refuses_so earlier ts left zero total passed read enough e =
      absurd (let failed : begins_run ts ≡ false = ap begins_run (none_left ts enough) in cc)
  refuses_so earlier ts left (suc most) total passed read enough e =
      sym e ∙ ap (with_earlier earlier) (run_next most ts passed
      ∙ ap (λ r. go_on r (λ run. made (with_run run) (most_at most))) read)

  pub tail_no_more : (fault : ItemFault) (at : ℕ) (after : List (List ℕ)) (ending : GlobalEnding)
      → TailRead t from at after ending → true ≡ begins_run (left_from t at)
      → Reads {X = Run × List ℕ} t (Err fault) (next_run_at (left_from t at))
      → Reads {X = Tail} t (Err fault) (tail_at (left_from t from))
  unfolding tail_at
  tail_no_more OutOfMemory at after ending loop passed read = tt
  tail_no_more (CannotGoOn place) at after ending loop passed read = (
    ap (λ r. go_on r (λ runs. pure (tail_of runs)))
        (refuses_so loop.earlier (left_from t at) (length t.tokens - place) loop.most (runs_at (left_from t from))
        (sym passed) read.0 loop.enough loop.so_far),
    read.1,
  )

  -- the tail of runs
  made_of : (attached : Bool) (earlier : List (Run × List ℕ)) (after : List (List ℕ)) (ending : GlobalEnding)
      → after ≡ map (λ run. run.1) earlier → ending ≡ ending_of_runs attached earlier
      → tail_of (earlier ++ [], attached) ≡ record { after = after; ending = ending }
  made_of attached earlier after ending texts ends =
      ap (λ (runs : List (Run × List ℕ)). tail_of (runs, attached)) (append-nil earlier) ∙ rw (texts, ends) refl

  pub tail_ends : (at : ℕ) (after : List (List ℕ)) (ending : GlobalEnding) → TailRead t from at after ending
      → begins (is_punctuation 44) (left_from t at) ≡ false
      → tail_at (left_from t from) ≡ Ok (record { after = after; ending = ending }, left_from t at)
  unfolding tail_at
  tail_ends at after ending loop none =
      ap (λ r. go_on r (λ runs. pure (tail_of runs)))
      (sym loop.so_far ∙ ap (with_earlier loop.earlier) (none_next loop.most (left_from t at) none))
      ∙ ap (λ (tail : Tail). Ok (tail, left_from t at)) (made_of false loop.earlier after ending loop.texts loop.ends)

  pub tail_attached : (at behind : ℕ) (after : List (List ℕ)) (ending : GlobalEnding) → TailRead t from at after ending
      → false ≡ begins_run (left_from t at) → begins (is_punctuation 44) (left_from t at) ≡ true
      → some_attached_at (left_from t at) ≡ Ok (tt, left_from t behind)
      → tail_at (left_from t from) ≡ Ok (record { after = after; ending = Whole }, left_from t behind)
  unfolding tail_at
  tail_attached at behind after ending loop failed passed read =
      ap (λ r. go_on r (λ runs. pure (tail_of runs)))
      (sym loop.so_far ∙ ap (with_earlier loop.earlier) (attached_next loop.most (left_from t at) (sym failed) passed
      ∙ ap (λ r. go_on r (λ x. pure ([], true))) read))
      ∙ ap (λ (tail : Tail). Ok (tail, left_from t behind)) (made_of true loop.earlier after Whole loop.texts refl)

  pub tail_not_attached : (fault : ItemFault) (at : ℕ) (after : List (List ℕ)) (ending : GlobalEnding)
      → TailRead t from at after ending
      → false ≡ begins_run (left_from t at) → begins (is_punctuation 44) (left_from t at) ≡ true
      → Passes t (Err fault) (some_attached_at (left_from t at))
      → Reads {X = Tail} t (Err fault) (tail_at (left_from t from))
  unfolding tail_at
  tail_not_attached OutOfMemory at after ending loop failed passed read = tt
  tail_not_attached (CannotGoOn place) at after ending loop failed passed read = (
    ap (λ r. go_on r (λ runs. pure (tail_of runs)))
        (sym loop.so_far ∙ ap (with_earlier loop.earlier) (attached_next loop.most (left_from t at) (sym failed) passed
        ∙ ap (λ r. go_on r (λ x. pure ([], true))) read.0)),
    read.1,
  )
