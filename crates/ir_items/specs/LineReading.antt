-- Reading lines that are passed on.
use Rattle.std.specs.Prelude.{ℕ, Bool, ◌&&◌, List, codes}
use Rattle.ir_text.specs.Tokens.{Lexeme}
use Rattle.ir_text.specs.Said.{is_string_text, inner_text}
use Rattle.ir_text.specs.PassedOn.{is_quoted, passed_text}
use Rattle.ir_parts.specs.Reading.{Read, ◌>>=◌, made, taking, token_at, is_keyword, keyword_at, punctuation_at, choose}
use Rattle.ir_parts.specs.WordsReading.{is_string_token, is_group}
use Rattle.ir_parts.specs.MetadataReading.{braces_at}
use Rattle.ir_items.specs.LayoutScan.{is_fine_layout}

-- a string of a data layout that leaves nothing out
abbrev pub is_layout_text : List ℕ → Bool
is_layout_text text = is_string_text text && is_fine_layout (inner_text text)

abbrev pub is_layout : Lexeme → Bool
is_layout t = is_quoted t.kind && is_layout_text t.text

-- `=` and what stands behind it
unfoldable pub string_set_at : Read (Unit {0})
string_set_at = do
  _ ← punctuation_at 61
  token_at is_string_token

unfoldable pub layout_set_at : Read (Unit {0})
layout_set_at = do
  _ ← punctuation_at 61
  token_at is_layout

unfoldable pub braces_set_at : Read (Unit {0})
braces_set_at = do
  _ ← punctuation_at 61
  braces_at

-- the four kinds of lines
unfoldable pub source_line_at : Read (Unit {0})
source_line_at = do
  _ ← keyword_at (codes "source_filename")
  string_set_at

unfoldable pub triple_at : Read (Unit {0})
triple_at = do
  _ ← keyword_at (codes "triple")
  string_set_at

unfoldable pub data_layout_at : Read (Unit {0})
data_layout_at = do
  _ ← keyword_at (codes "datalayout")
  layout_set_at

unfoldable pub target_at : Read (Unit {0})
target_at = choose (is_keyword (codes "triple")) triple_at data_layout_at

unfoldable pub target_line_at : Read (Unit {0})
target_line_at = do
  _ ← keyword_at (codes "target")
  target_at

unfoldable pub attributes_line_at : Read (Unit {0})
attributes_line_at = do
  _ ← keyword_at (codes "attributes")
  _ ← token_at is_group
  braces_set_at

unfoldable pub other_line_at : Read (Unit {0})
other_line_at = choose (is_keyword (codes "target")) target_line_at attributes_line_at

unfoldable pub line_at : Read (Unit {0})
line_at = choose (is_keyword (codes "source_filename")) source_line_at other_line_at

-- a line, as the text that it is passed on as
unfoldable pub passed_line_at : Read (List ℕ)
passed_line_at = made (λ p. passed_text p.1) (taking line_at)
