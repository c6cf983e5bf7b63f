-- How runs of words begin and end, and what goes on with them.
use Rattle.std.proofs.Common.{◌≡◌, ℕ, Bool, true, false, if◌then◌else◌, List, [], ◌∷◌, ◌++◌, ◌⊎◌, inl, inr, refl, ap, ◌∙◌}
use Rattle.ir_text.specs.declared.token.TokenKind.{TokenKind}
use Rattle.ir_text.specs.declared.token.TokenKind.TheVariants.{Metadata}
use Rattle.ir_text.specs.Tokens.{Lexeme}
use Rattle.ir_text.specs.Listed.{sign}
use Rattle.ir_text.specs.PassedOn.{IsPiece, ArePieces, is_quoted}
use Rattle.ir_parts.specs.declared.ending.Ending.{Ending}
use Rattle.ir_parts.specs.declared.ending.Ending.TheVariants.{Empty, Word, Placing, Placed, Quoted, Closed}
use Rattle.ir_parts.specs.declared.ending.Run.{Run}
use Rattle.ir_parts.specs.Reading.{begins, is_word_kind}
use Rattle.ir_parts.specs.MetadataReading.{is_metadata_word}
use Rattle.ir_parts.specs.WordsReading.{is_numeral, begins_piece}
use Rattle.ir_parts.specs.Runs.{is_placing, ending_of_word, ending_of_string, ending_of, ending_of_last, run_of, goes_on, SpellsRunText}
use Rattle.ir_parts.proofs.Readers.{begins_still}
use Rattle.ir_parts.proofs.RunReader.{piece_starts}
use Rattle.ir_items.specs.TailReading.{is_empty_run}

-- a comma goes on with no run
pub comma_stops_run : (ending : Ending) → goes_on ending (sign 44) ≡ false
comma_stops_run Empty = refl
comma_stops_run Word = refl
comma_stops_run Placing = refl
comma_stops_run Placed = refl
comma_stops_run Quoted = refl
comma_stops_run Closed = refl

-- no piece begins with metadata
pub piece_no_metadata : (t : Lexeme) → begins_piece t ≡ true → is_metadata_word t ≡ false
piece_no_metadata t e = of_kind t.kind t.text e
  where
    of_kind : (kind : TokenKind) (text : List ℕ) → begins_piece (record { kind = kind; text = text }) ≡ true
        → is_metadata_word (record { kind = kind; text = text }) ≡ false
    of_kind Metadata text e = absurd cc
    of_kind _ text e = refl

-- ---- a run of some pieces doesn't end as one of none

one_some : (b : Bool) (x y : Ending) → is_empty_run x ≡ false → is_empty_run y ≡ false
    → is_empty_run (if b then x else y) ≡ false
one_some true x y first second = first
one_some false x y first second = second

word_some : (placing : Bool) (ts : List Lexeme) → is_empty_run (ending_of_word placing ts) ≡ false
word_some placing [] = one_some placing Placing Word refl refl
word_some placing (t ∷ ts) = one_some (is_numeral t) Placed Closed refl refl

string_some : (ts : List Lexeme) → is_empty_run (ending_of_string ts) ≡ false
string_some [] = refl
string_some (t ∷ ts) = refl

piece_some : (piece : List Lexeme) → IsPiece piece → is_empty_run (ending_of piece) ≡ false
piece_some [] is = absurd (let e = piece_starts [] is in cc)
piece_some (t ∷ ts) is =
    one_some (is_word_kind t.kind) (ending_of_word (is_placing t.text) ts)
    (if is_quoted t.kind then ending_of_string ts else Closed) (word_some (is_placing t.text) ts)
    (one_some (is_quoted t.kind) (ending_of_string ts) Closed (string_some ts) refl)

last_some : (piece : List Lexeme) (pieces : List (List Lexeme)) (ts : List Lexeme) → ArePieces (piece ∷ pieces) ts
    → is_empty_run (ending_of_last (piece ∷ pieces)) ≡ false
last_some piece [] ts l = piece_some piece l.3.1
last_some piece (next ∷ pieces) ts l = last_some next pieces l.1 l.4

-- A run has no piece, or it begins with one.
abbrev pub BeginsSo : Ending → List Lexeme → Type 0
BeginsSo ending us = ((us ≡ []) × (ending ≡ Empty))
    ⊎ ((begins begins_piece us ≡ true) × (is_empty_run ending ≡ false))

pub run_begins : (run : Run × List ℕ) (us : List Lexeme) → SpellsRunText run us → BeginsSo run.0.ending us
run_begins run us l = of_pieces l.0 us run.0 l.1 l.2
  where
    of_pieces : (pieces : List (List Lexeme)) (us : List Lexeme) (run : Run) → ArePieces pieces us → run ≡ run_of pieces
        → BeginsSo run.ending us
    of_pieces [] us run l is = inl (l, ap (λ (run : Run). run.ending) is)
    of_pieces (piece ∷ pieces) us run l is = inr (
      rw (l.2, l.3.0) (begins_still begins_piece piece l.1 (piece_starts piece l.3.1)),
      ap (λ (run : Run). is_empty_run run.ending) is ∙ last_some piece pieces us l,
    )

-- what begins with a piece begins with no metadata
pub piece_first : (us rest : List Lexeme) → begins begins_piece us ≡ true → begins is_metadata_word (us ++ rest) ≡ false
piece_first [] rest e = absurd cc
piece_first (t ∷ us) rest e = piece_no_metadata t e
