-- Reading runs of passed-on words, piece by piece.
use Rattle.std.specs.Prelude.{ℕ, Bool, true, false, ◌||◌, ◌&&◌, ◌==◌, not, if◌then◌else◌, List, [], ◌∷◌, Option, Some, None, codes}
use Rattle.std.specs.List.{list_any}
use Rattle.std.specs.Str.{bytes_eq}
use Rattle.ir_text.specs.declared.token.TokenKind.{TokenKind}
use Rattle.ir_text.specs.declared.token.TokenKind.TheVariants.{Group}
use Rattle.ir_text.specs.Names.{is_signed_number}
use Rattle.ir_text.specs.Said.{is_string_text}
use Rattle.ir_text.specs.Tokens.{Lexeme}
use Rattle.ir_text.specs.PassedOn.{opening_words, left_out_words, is_among, is_quoted, passed_text}
use Rattle.ir_parts.specs.declared.ending.Ending.{Ending}
use Rattle.ir_parts.specs.declared.ending.Ending.TheVariants.{Empty, Word, Placing, Placed, Quoted, Closed}
use Rattle.ir_parts.specs.declared.ending.Run.{Run}
use Rattle.ir_parts.specs.Reading.{Read, ◌>>=◌, pure, made, taking, one_at, token_at, is_word_kind, is_punctuation, punctuation_at, choose, repeated_at}
use Rattle.ir_parts.specs.TypeReading.{int_width_of, is_numeral_kind}
use Rattle.ir_parts.specs.BracketsReading.{closed_at}

-- ---- kinds of tokens

abbrev pub is_none : {A : Type 0} → Option A → Bool
is_none None = true
is_none (Some x) = false

-- a word that is no type, isn't left out, and begins nothing else
unfoldable pub is_passed_text : List ℕ → Bool
is_passed_text text = not (is_among opening_words text) && (not (is_among left_out_words text)
    && (not (bytes_eq text (codes "ptr")) && (not (bytes_eq text (codes "void")) && is_none (int_width_of text))))

abbrev pub is_passed : Lexeme → Bool
is_passed t = is_word_kind t.kind && is_passed_text t.text

abbrev pub is_string_token : Lexeme → Bool
is_string_token t = is_quoted t.kind && is_string_text t.text

-- `#` and a number, maybe behind a `-`
unfoldable pub is_group_text : List ℕ → Bool
is_group_text [] = false
is_group_text (b ∷ bs) = (b == 35) && is_signed_number bs

abbrev pub is_group_kind : TokenKind → Bool
is_group_kind Group = true
is_group_kind _ = false

abbrev pub is_group : Lexeme → Bool
is_group t = is_group_kind t.kind && is_group_text t.text

-- ---- pieces, of which each is a run of its own

-- what a word says: whether it is one of these, and whether a numeral may stand behind it
abbrev pub word_says : List ℕ → Bool × Bool
word_says text = (
  is_among (codes "external" ∷ codes "extern_weak" ∷ []) text,
  is_among (codes "align" ∷ codes "cc" ∷
      []) text,
)

abbrev pub passed_word : Lexeme → Option (Bool × Bool)
passed_word t = if is_passed t then Some (word_says t.text) else None

-- `( .. )`
unfoldable pub parentheses_at : Read (Unit {0})
parentheses_at = do
  _ ← punctuation_at 40
  closed_at (41 ∷ [])

unfoldable pub bracketed_at : Read Ending
bracketed_at = do
  _ ← parentheses_at
  pure Closed

abbrev pub is_numeral : Lexeme → Bool
is_numeral t = is_numeral_kind t.kind

unfoldable pub numeral_at : Read Ending
numeral_at = do
  _ ← token_at is_numeral
  pure Placed

unfoldable pub numeral_if_any_at : Read Ending
numeral_if_any_at = choose is_numeral numeral_at (pure Placing)

-- what stands behind a word: brackets, or a numeral where one may stand there
unfoldable pub numeral_or_nothing_at : Bool → Read Ending
numeral_or_nothing_at true = numeral_if_any_at
numeral_or_nothing_at false = pure Word

unfoldable pub behind_word_at : Bool → Read Ending
behind_word_at takes_numeral = choose (is_punctuation 40) bracketed_at (numeral_or_nothing_at takes_numeral)

unfoldable pub word_piece_at : Read Run
word_piece_at = do
  says ← one_at passed_word
  ending ← behind_word_at says.1
  pure (record { external = says.0; ending = ending })

unfoldable pub value_at : Read (Unit {0})
value_at = do
  _ ← punctuation_at 61
  token_at is_string_token

unfoldable pub paired_at : Read Ending
paired_at = do
  _ ← value_at
  pure Closed

unfoldable pub string_piece_at : Read Ending
string_piece_at = do
  _ ← token_at is_string_token
  choose (is_punctuation 61) paired_at (pure Quoted)

unfoldable pub group_at : Read Ending
group_at = do
  _ ← token_at is_group
  pure Closed

-- a string, or two with a `=` between them, or a group
unfoldable pub other_piece_at : Read Ending
other_piece_at = choose is_string_token string_piece_at group_at

unfoldable pub plain_piece_at : Read Run
plain_piece_at = do
  ending ← other_piece_at
  pure (record { external = false; ending = ending })

unfoldable pub piece_at : Read Run
piece_at = choose is_passed word_piece_at plain_piece_at

abbrev pub begins_piece : Lexeme → Bool
begins_piece t = is_passed t || (is_string_token t || is_group t)

-- ---- runs

abbrev pub pieces_at : Read (List Run)
pieces_at = repeated_at begins_piece piece_at

-- how the last of the pieces ends
abbrev pub last_ending : List Run → Ending
last_ending [] = Empty
last_ending (piece ∷ []) = piece.ending
last_ending (piece ∷ next ∷ pieces) = last_ending (next ∷ pieces)

-- what is made of the pieces: whether one of them begins so, and how the last one ends
abbrev pub of_pieces : List Run → Run
of_pieces pieces = record { external = list_any (λ piece. piece.external) pieces; ending = last_ending pieces }

-- a run with one more piece
abbrev pub joined : Run → Run → Run
joined so_far next = record { external = so_far.external || next.external; ending = next.ending }

unfoldable pub run_at : Read Run
run_at = do
  pieces ← pieces_at
  pure (of_pieces pieces)

-- ---- runs with their texts

unfoldable pub words_at : Read (Run × List ℕ)
words_at = made (λ p. (p.0, passed_text p.1)) (taking run_at)

-- the text alone
unfoldable pub words_text_at : Read (List ℕ)
words_text_at = do
  said ← words_at
  pure said.1
