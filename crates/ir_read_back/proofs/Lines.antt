-- What stands on a line of its own: its end, runs of words, parts with commas, and lines that are passed on.
use Rattle.std.proofs.Common.{◌≡◌, ℕ, List, [], ◌∷◌, ◌++◌, codes, refl, append_assoc}
use Rattle.std.specs.List.{flat_map}
use Rattle.ir_text.specs.Tokens.{Lexeme}
use Rattle.ir_text.specs.Listed.{InSequence, SeparatedByCommas, sign}
use Rattle.ir_text.specs.Language.{Language, ◌·◌, nothing, comma}
use Rattle.ir_text.specs.Mentions.{Mention, Mentioning, silent}
use Rattle.ir_text.specs.PassedOn.{passed_text, SpellsWords}
use Rattle.ir_grammar.specs.Items.{passed_line, ListedByCommas}
use Rattle.ir_grammar.specs.Printing.{joined, behind_space}
use Rattle.ir_lex.proofs.Plain.{Stops}
use Rattle.ir_read_back.proofs.Passed.{passed_rewrites, words_behind}
use Rattle.ir_read_back.proofs.Steps.{behind_line_feed}
use Rattle.ir_read_back.proofs.Words.{comma_is_sign}
use Rattle.ir_read_back.proofs.Writes.{Anything, Writes, Rewrites, silently, and_then, behind_a_space, sign_then, stop_then}

-- ---- the same, seen otherwise

-- What is written of one production is of another, where each sentence of it is.
pub written_as : {Behind : List ℕ → Type 0} {A B : Mentioning} {ms : List Mention} {text : List ℕ}
    → ((ts : List Lexeme) → A ms ts → B ms ts)
    → Writes Behind A ms text
    → Writes Behind B ms text
written_as gives all =
    record { lexemes = all.lexemes; spelled = gives all.lexemes all.spelled; lexed = all.lexed }

-- Languages that have the same sentences as others.
pub seen_as : {Behind : List ℕ → Type 0} {A A' B B' : Language} {text : List ℕ}
    → ((ts : List Lexeme) → A ts → B ts)
    → ((ts : List Lexeme) → B' ts → A' ts)
    → Rewrites Behind (silent B) (silent B') [] text
    → Rewrites Behind (silent A) (silent A') [] text
seen_as to from part = record {
  writes = λ old ts spelled real.
      written_as (λ us s. (s.0, from us s.1)) (part.writes [] ts (refl, to ts spelled.1) real);
}

-- ---- ends of lines

-- A line feed behind a text.
pub line_then : {Old New : Mentioning} {ms : List Mention} {text : List ℕ}
    → Rewrites Stops Old New ms text
    → Rewrites Anything Old New ms (text ++ codes "\n")
line_then {text = text} part = record {
  writes = λ old ts spelled real.
      let all = part.writes old ts spelled real in
      record {
        lexemes = all.lexemes;
        spelled = all.spelled;
        lexed = λ rest others any tokens.
            rw (append_assoc text (codes "\n") rest) (all.lexed (10 ∷ rest) others refl (behind_line_feed tokens));
      };
}

-- A line feed where nothing that may stand there is written.
pub line_ends : {Old : Mentioning} (L : Language) → L [] → Rewrites Anything Old (silent L) [] (codes "\n")
line_ends L none = record {
  writes = λ old ts spelled real. record {
    lexemes = [];
    spelled = (refl, none);
    lexed = λ rest others any tokens. behind_line_feed tokens;
  };
}

-- A line that is passed on.
pub line_rewrites : (text : List ℕ)
    → Rewrites Anything (silent (λ ts. passed_line ts × (text ≡ passed_text ts)))
    (silent (λ ts. passed_line ts × (text ≡ passed_text ts))) [] (text ++ codes "\n")
line_rewrites text =
    line_then (passed_rewrites (λ t ts. passed_line ts × (t ≡ passed_text ts)) (λ t ts s. s.1) text)

-- ---- runs of words behind commas

abbrev pub runs_text : List (List ℕ) → List ℕ
runs_text runs = flat_map (λ words. 44 ∷ behind_space words) runs

abbrev SpellsRun : List ℕ → Language
SpellsRun text = comma · SpellsWords text

stops_runs : (runs : List (List ℕ)) → Stops (runs_text runs)
stops_runs [] = tt
stops_runs (words ∷ runs) = refl

run_rewrites : (words : List ℕ)
    → Rewrites Stops (silent (SpellsRun words)) (silent (SpellsRun words)) [] (44 ∷ behind_space words)
run_rewrites words = silently (sign_then 44 comma_is_sign (words_behind words))

none_written : Rewrites Stops (silent nothing) (silent nothing) [] []
none_written = record {
  writes = λ old ts spelled real.
      record { lexemes = []; spelled = (refl, refl); lexed = λ rest others stops tokens. tokens };
}

pub runs_rewrite : (runs : List (List ℕ))
    → Rewrites Stops (silent (InSequence SpellsRun runs)) (silent (InSequence SpellsRun runs)) [] (runs_text runs)
runs_rewrite [] = none_written
runs_rewrite (words ∷ runs) = silently (stop_then (stops_runs runs) (run_rewrites words) (runs_rewrite runs))

-- ---- parts with commas between them

module _ {X : Type 0} (Spells : X → List Lexeme → Type 0) (text : X → List ℕ)
    (each : (x : X) → Rewrites Stops (silent (Spells x)) (silent (Spells x)) [] (text x)) where
  abbrev Parts : X → X → List X → Language
  Parts x y ys = Spells x · (comma · SeparatedByCommas Spells (y ∷ ys))

  apart : (x y : X) (ys : List X) (ts : List Lexeme) → SeparatedByCommas Spells (x ∷ y ∷ ys) ts → Parts x y ys ts
  apart x y ys ts (front, rest, is, first, others) =
      (front, sign 44 ∷ rest, is, first, (sign 44 ∷ [], rest, refl, refl, others))

  together : (x y : X) (ys : List X) (ts : List Lexeme) → Parts x y ys ts → SeparatedByCommas Spells (x ∷ y ∷ ys) ts
  together x y ys ts (front, behind, is, first, (own, rest, parts, sign_is, others)) =
      (front, rest, rw (is, parts, sign_is) refl, first, others)

  separated_rewrite : (x : X) (xs : List X)
      → Rewrites Stops (silent (SeparatedByCommas Spells (x ∷ xs))) (silent (SeparatedByCommas Spells (x ∷ xs))) []
      (joined text (codes ", ") (x ∷ xs))
  separated_rewrite x [] = each x
  separated_rewrite x (y ∷ ys) =
      seen_as (apart x y ys) (together x y ys)
      (silently (and_then (λ rest behind. refl) (each x)
      (silently (sign_then 44 comma_is_sign (behind_a_space (separated_rewrite y ys))))))

  pub listed_rewrite : (xs : List X)
      → Rewrites Stops (silent (ListedByCommas Spells xs)) (silent (ListedByCommas Spells xs)) []
      (joined text (codes ", ") xs)
  listed_rewrite [] = none_written
  listed_rewrite (x ∷ xs) = separated_rewrite x xs
