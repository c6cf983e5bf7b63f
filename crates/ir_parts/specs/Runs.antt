-- What a run of passed-on words says by its pieces, and which tokens go on with it.
use Rattle.std.specs.Prelude.{◌≡◌, ℕ, Bool, false, ◌||◌, ◌&&◌, not, if◌then◌else◌, List, [], ◌∷◌, codes}
use Rattle.ir_text.specs.Tokens.{Lexeme}
use Rattle.ir_text.specs.Language.{Language}
use Rattle.ir_text.specs.PassedOn.{is_among, is_quoted, ArePieces, begins_external, is_external, passed_text}
use Rattle.ir_parts.specs.declared.ending.Ending.{Ending}
use Rattle.ir_parts.specs.declared.ending.Ending.TheVariants.{Empty, Word, Placing, Placed, Quoted, Closed}
use Rattle.ir_parts.specs.declared.ending.Run.{Run}
use Rattle.ir_parts.specs.Reading.{is_word_kind, is_punctuation}
use Rattle.ir_parts.specs.WordsReading.{is_numeral, begins_piece}

-- ---- what the pieces say

-- whether a numeral may stand behind a word
abbrev pub is_placing : List ℕ → Bool
is_placing text = is_among (codes "align" ∷ codes "cc" ∷ []) text

-- how a word ends with what belongs to it
abbrev pub ending_of_word : Bool → List Lexeme → Ending
ending_of_word placing [] = if placing then Placing else Word
ending_of_word placing (t ∷ ts) = if is_numeral t then Placed else Closed

-- how a string ends with what belongs to it
abbrev pub ending_of_string : List Lexeme → Ending
ending_of_string [] = Quoted
ending_of_string (t ∷ ts) = Closed

-- how a piece ends
abbrev pub ending_of : List Lexeme → Ending
ending_of [] = Empty
ending_of (t ∷ ts) = if is_word_kind t.kind then ending_of_word (is_placing t.text) ts
    else (if is_quoted t.kind then ending_of_string ts else Closed)

-- how the last of the pieces ends
abbrev pub ending_of_last : List (List Lexeme) → Ending
ending_of_last [] = Empty
ending_of_last (piece ∷ []) = ending_of piece
ending_of_last (piece ∷ next ∷ pieces) = ending_of_last (next ∷ pieces)

abbrev pub run_of_piece : List Lexeme → Run
run_of_piece piece = record { external = begins_external piece; ending = ending_of piece }

abbrev pub run_of : List (List Lexeme) → Run
run_of pieces = record { external = is_external pieces; ending = ending_of_last pieces }

-- ---- what goes on

-- whether a token belongs to a piece that ends so
abbrev pub belongs_to : Ending → Lexeme → Bool
belongs_to Word t = is_punctuation 40 t
belongs_to Placing t = is_punctuation 40 t || is_numeral t
belongs_to Quoted t = is_punctuation 61 t
belongs_to _ t = false

-- whether a token goes on with a run that ends so
abbrev pub goes_on : Ending → Lexeme → Bool
goes_on ending t = begins_piece t || belongs_to ending t

-- whether a token goes on with no run, however the run ends
abbrev pub ends_run : Lexeme → Bool
ends_run t = not (begins_piece t) && not (is_punctuation 40 t) && not (is_numeral t) && not (is_punctuation 61 t)

-- ---- the language

-- a run of passed-on words, and what it says
abbrev pub SpellsRun : Run → Language
SpellsRun run ts = (pieces : List (List Lexeme)) × ArePieces pieces ts × (run ≡ run_of pieces)

-- the same with the text that it is passed on as
abbrev pub SpellsRunText : Run × List ℕ → Language
SpellsRunText said ts = (pieces : List (List Lexeme)) × ArePieces pieces ts × (said.0 ≡ run_of pieces)
    × (said.1 ≡ passed_text ts)
