-- Reading metadata that is dropped.
use Rattle.std.specs.Prelude.{ℕ, Bool, true, false, ◌&&◌, ◌==◌, List, [], ◌∷◌}
use Rattle.ir_text.specs.declared.token.TokenKind.{TokenKind}
use Rattle.ir_text.specs.declared.token.TokenKind.TheVariants.{Metadata}
use Rattle.ir_text.specs.Names.{is_word, is_signed_number}
use Rattle.ir_text.specs.Tokens.{Lexeme}
use Rattle.ir_parts.specs.Reading.{Read, ◌>>=◌, pure, token_at, is_punctuation, punctuation_at, choose, repeated_at}
use Rattle.ir_parts.specs.BracketsReading.{closed_at}
use Rattle.ir_parts.specs.WordsReading.{parentheses_at}

abbrev pub is_metadata_kind : TokenKind → Bool
is_metadata_kind Metadata = true
is_metadata_kind _ = false

abbrev pub is_metadata : Lexeme → Bool
is_metadata t = is_metadata_kind t.kind

-- `!` with a word behind it, with a number, and alone
unfoldable pub is_word_text : List ℕ → Bool
is_word_text [] = false
is_word_text (b ∷ bs) = (b == 33) && is_word bs

unfoldable pub is_number_text : List ℕ → Bool
is_number_text [] = false
is_number_text (b ∷ bs) = (b == 33) && is_signed_number bs

unfoldable pub is_bang_text : List ℕ → Bool
is_bang_text [] = false
is_bang_text (b ∷ []) = b == 33
is_bang_text (b ∷ c ∷ bs) = false

abbrev pub is_metadata_word : Lexeme → Bool
is_metadata_word t = is_metadata t && is_word_text t.text

abbrev pub is_metadata_number : Lexeme → Bool
is_metadata_number t = is_metadata t && is_number_text t.text

abbrev pub is_bang : Lexeme → Bool
is_bang t = is_metadata t && is_bang_text t.text

-- `{ .. }`
unfoldable pub braces_at : Read (Unit {0})
braces_at = do
  _ ← punctuation_at 123
  closed_at (125 ∷ [])

-- `!{ .. }` or `!word( .. )`
unfoldable pub braced_node_at : Read (Unit {0})
braced_node_at = do
  _ ← token_at is_bang
  braces_at

unfoldable pub named_node_at : Read (Unit {0})
named_node_at = do
  _ ← token_at is_metadata_word
  parentheses_at

unfoldable pub node_at : Read (Unit {0})
node_at = choose is_bang braced_node_at named_node_at

-- an attachment: a comma, its kind, and a number or a node
unfoldable pub attached_at : Read (Unit {0})
attached_at = choose is_metadata_number (token_at is_metadata_number) node_at

-- without its comma
unfoldable pub bare_attachment_at : Read (Unit {0})
bare_attachment_at = do
  _ ← token_at is_metadata_word
  attached_at

unfoldable pub attachment_at : Read (Unit {0})
attachment_at = do
  _ ← punctuation_at 44
  _ ← token_at is_metadata_word
  attached_at

-- as many as stand there
unfoldable pub attachments_at : Read (Unit {0})
attachments_at = do
  _ ← repeated_at (is_punctuation 44) attachment_at
  pure tt

-- pairs of metadata, as many as stand there
unfoldable pub pair_at : Read (Unit {0})
pair_at = do
  _ ← token_at is_metadata
  token_at is_metadata

unfoldable pub pairs_at : Read (Unit {0})
pairs_at = do
  _ ← repeated_at is_metadata pair_at
  pure tt
