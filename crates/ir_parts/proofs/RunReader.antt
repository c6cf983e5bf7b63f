-- Runs of passed-on words are read, and what comes out is what their pieces say.
use Rattle.std.proofs.Common.{◌≡◌, suc, Bool, true, false, ◌||◌, List, [], ◌∷◌, map, length, Err, ◌⊎◌, inl, inr, refl, sym, ap, ◌∙◌, codes}
use Rattle.std.specs.List.{list_any}
use Rattle.ir_text.specs.Tokens.{Lexeme}
use Rattle.ir_text.specs.Listed.{word, InSequence}
use Rattle.ir_text.specs.Language.{Language}
use Rattle.ir_text.specs.PassedOn.{IsAttributeGroup, IsPiece, ArePieces, begins_external, is_external}
use Rattle.ir_text.specs.Written.{IsStringToken}
use Rattle.ir_parts.specs.declared.ending.Ending.{Ending}
use Rattle.ir_parts.specs.declared.ending.Ending.TheVariants.{Empty, Word, Placing, Placed, Quoted, Closed}
use Rattle.ir_parts.specs.declared.ending.Run.{Run}
use Rattle.ir_parts.specs.Reading.{begins, is_punctuation}
use Rattle.ir_parts.specs.TypeReading.{int_width_of}
use Rattle.ir_parts.specs.WordsReading.{is_passed_text, is_passed, is_string_token, is_group, is_numeral, begins_piece, piece_at, last_ending, of_pieces, run_at}
use Rattle.ir_parts.specs.Runs.{ending_of_last, run_of_piece, run_of, belongs_to, goes_on, SpellsRun}
use Rattle.ir_parts.proofs.Readers.{IsReader, of_language, mapped}
use Rattle.ir_parts.proofs.NoneGoesOn.{refused_there}
use Rattle.ir_parts.proofs.Repeated.{BehindLast, repeated_by_last}
use Rattle.ir_parts.proofs.PieceTokens.{IsPassed, passed_there, passed_back, string_there, string_back, group_there, group_back}
use Rattle.ir_parts.proofs.PieceReaders.{EndsRun, or_neither, neither_or}
use Rattle.ir_parts.proofs.PieceSayings.{SpellsPiece, piece_reads}

-- ---- what begins a piece

-- one of three tests passes
one_of : (a b c : Bool) → (a || (b || c)) ≡ true → (a ≡ true) ⊎ (b ≡ true) ⊎ (c ≡ true)
one_of true b c e = inl refl
one_of false true c e = inr (inl refl)
one_of false false c e = inr (inr e)

first_of_three : (a b c : Bool) → a ≡ true → (a || (b || c)) ≡ true
first_of_three a b c e = rw e refl

second_of_three : (a b c : Bool) → b ≡ true → (a || (b || c)) ≡ true
second_of_three true b c e = refl
second_of_three false b c e = rw e refl

third_of_three : (a b c : Bool) → c ≡ true → (a || (b || c)) ≡ true
third_of_three true b c e = refl
third_of_three false true c e = refl
third_of_three false false c e = e

-- a word, a string and a group begin a piece
passed_begins : (t : Lexeme) → IsPassed t → begins_piece t ≡ true
passed_begins t is = first_of_three (is_passed t) (is_string_token t) (is_group t) (passed_back t is)

string_begins : (t : Lexeme) → IsStringToken t → begins_piece t ≡ true
string_begins t is = second_of_three (is_passed t) (is_string_token t) (is_group t) (string_back t is)

group_begins : (t : Lexeme) → IsAttributeGroup t → begins_piece t ≡ true
group_begins t is = third_of_three (is_passed t) (is_string_token t) (is_group t) (group_back t is)

-- as do these words
align_begins : begins_piece (word (codes "align")) ≡ true
unfolding is_passed_text int_width_of
align_begins = refl

cc_begins : begins_piece (word (codes "cc")) ≡ true
unfolding is_passed_text int_width_of
cc_begins = refl

-- Each piece begins with a token that begins one.
pub piece_starts : (ts : List Lexeme) → IsPiece ts → begins begins_piece ts ≡ true
piece_starts ts (inl l) = rw l.1 (passed_begins l.0 l.2)
piece_starts ts (inr (inl l)) = rw (l.2, l.3.1) (passed_begins l.3.0 l.3.2)
piece_starts ts (inr (inr (inl (us, vs, parts, inl first, number)))) = rw (parts, first) align_begins
piece_starts ts (inr (inr (inl (us, vs, parts, inr first, number)))) = rw (parts, first) cc_begins
piece_starts ts (inr (inr (inr (inl l)))) = rw l.1 (string_begins l.0 l.2)
piece_starts ts (inr (inr (inr (inr (inl l))))) = rw (l.2, l.3.1) (string_begins l.3.0 l.3.2)
piece_starts ts (inr (inr (inr (inr (inr l))))) = rw l.1 (group_begins l.0 l.2)

-- Each of these tokens is a piece alone.
alone : (t : Lexeme) → begins_piece t ≡ true → IsPiece (t ∷ [])
alone t e = elim (one_of (is_passed t) (is_string_token t) (is_group t) e) [
  | inl passed ↦ inl (t, refl, passed_there t passed)
  | inr (inl string) ↦ inr (inr (inr (inl (t, refl, string_there t string))))
  | inr (inr group) ↦ inr (inr (inr (inr (inr (t, refl, group_there t group)))))
]

-- No piece is refused at its first token.
piece_begun : (t : Lexeme) (ts : List Lexeme) → begins_piece t ≡ true
    → piece_at (t ∷ ts) ≡ Err (suc (length ts)) → ⊥
piece_begun t ts passed e = refused_there piece_reads [] ts t e
    (record { whole = run_of_piece (t ∷ []); others = []; sentence = (alone t passed, refl) })

-- What is no bracket, no numeral and no `=` belongs to no piece.
pub belongs_to_none : (ending : Ending) (t : Lexeme) → is_punctuation 40 t ≡ false → is_numeral t ≡ false
    → is_punctuation 61 t ≡ false → belongs_to ending t ≡ false
belongs_to_none Empty t bracket number equals = refl
belongs_to_none Word t bracket number equals = bracket
belongs_to_none Placing t bracket number equals =
    neither_or (is_punctuation 40 t) (is_numeral t) bracket number
belongs_to_none Placed t bracket number equals = refl
belongs_to_none Quoted t bracket number equals = equals
belongs_to_none Closed t bracket number equals = refl

-- What begins a piece belongs to none before it.
piece_ends : (run : Run) (t : Lexeme) → begins_piece t ≡ true → EndsRun run t
piece_ends run t e = elim (one_of (is_passed t) (is_string_token t) (is_group t) e) [
  | inl passed ↦
      let is = passed_there t passed in
      belongs_to_none run.ending t (rw is.0 refl) (rw is.0 refl) (rw is.0 refl)
  | inr (inl string) ↦
      let is = string_there t string in
      belongs_to_none run.ending t (rw is.0 refl) (rw is.0 refl) (rw is.0 refl)
  | inr (inr group) ↦
      let is = group_there t group in
      belongs_to_none run.ending t (rw is.0 refl) (rw is.0 refl) (rw is.0 refl)
]

-- ---- what the pieces say

-- Of the pieces and of the runs that they are alone, the same is said.
same_external : (pieces : List (List Lexeme))
    → list_any (λ (run : Run). run.external) (map run_of_piece pieces) ≡ is_external pieces
same_external [] = refl
same_external (piece ∷ pieces) = ap (λ b. begins_external piece || b) (same_external pieces)

same_ending : (pieces : List (List Lexeme)) → last_ending (map run_of_piece pieces) ≡ ending_of_last pieces
same_ending [] = refl
same_ending (piece ∷ []) = refl
same_ending (piece ∷ next ∷ pieces) = same_ending (next ∷ pieces)

same_run : (pieces : List (List Lexeme)) → of_pieces (map run_of_piece pieces) ≡ run_of pieces
same_run pieces = rw (same_external pieces, same_ending pieces) refl

-- the pieces that were read
record PiecesOf (runs : List Run) (ts : List Lexeme) : Type 0 where
  pieces : List (List Lexeme)
  there : ArePieces pieces ts
  said : runs ≡ map run_of_piece pieces

-- the pieces of what was read, and what is read of pieces
pieces_of : (runs : List Run) (ts : List Lexeme) → InSequence SpellsPiece runs ts → PiecesOf runs ts
pieces_of [] ts l = record { pieces = []; there = l; said = refl }
pieces_of (run ∷ runs) ts (us, vs, parts, (piece, says), others) =
    let next = pieces_of runs vs others in
    record {
      pieces = us ∷ next.pieces;
      there = (us, vs, parts, (refl, piece), next.there);
      said = rw (says, next.said) refl;
    }

runs_of : (pieces : List (List Lexeme)) (ts : List Lexeme) → ArePieces pieces ts
    → InSequence SpellsPiece (map run_of_piece pieces) ts
runs_of [] ts l = l
runs_of (piece ∷ pieces) ts (us, vs, parts, (same, is), others) =
    (us, vs, parts, (rw same is, ap run_of_piece (sym same)), runs_of pieces vs others)

-- a run that is made of the pieces that were read
abbrev FromRuns : Run → Language
FromRuns run ts = (runs : List Run) × (run ≡ of_pieces runs) × InSequence SpellsPiece runs ts

-- What is made of them is a run by its language, and the other way round.
run_there : (run : Run) (ts : List Lexeme) → FromRuns run ts → SpellsRun run ts
run_there run ts (runs, made, l) =
    let p = pieces_of runs ts l in (p.pieces, p.there, made ∙ (ap of_pieces p.said ∙ same_run p.pieces))

run_back : (run : Run) (ts : List Lexeme) → SpellsRun run ts → FromRuns run ts
run_back run ts (pieces, there, made) =
    (map run_of_piece pieces, made ∙ sym (same_run pieces), runs_of pieces ts there)

-- ---- the reader

-- A token doesn't go on with the run.
abbrev pub StopsRun : Run → Lexeme → Type 0
StopsRun run t = goes_on run.ending t ≡ false

-- What stops the last of the pieces stops the run, and the other way round.
stop_there : (runs : List Run) (t : Lexeme) → BehindLast begins_piece EndsRun runs t → StopsRun (of_pieces runs) t
stop_there [] t stop = neither_or (begins_piece t) false stop refl
stop_there (run ∷ []) t stop = neither_or (begins_piece t) (belongs_to run.ending t) stop.0 stop.1
stop_there (run ∷ next ∷ runs) t stop = stop_there (next ∷ runs) t stop

stop_back : (runs : List Run) (t : Lexeme) → StopsRun (of_pieces runs) t → BehindLast begins_piece EndsRun runs t
stop_back [] t stop = (or_neither (begins_piece t) false stop).0
stop_back (run ∷ []) t stop = or_neither (begins_piece t) (belongs_to run.ending t) stop
stop_back (run ∷ next ∷ runs) t stop = stop_back (next ∷ runs) t stop

-- The reader of runs, which stops exactly where a token doesn't go on.
pub run_reads : IsReader run_at SpellsRun StopsRun
unfolding run_at
run_reads = of_language SpellsRun run_there run_back
    (mapped of_pieces StopsRun stop_there stop_back
    (repeated_by_last begins_piece EndsRun piece_reads (λ run ts l. piece_starts ts l.0) piece_ends piece_begun))
