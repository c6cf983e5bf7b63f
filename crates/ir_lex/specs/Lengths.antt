-- How long a part of a token at the start of a text is, where 0 says that there is none.
use Rattle.std.specs.Prelude.{ℕ, ◌+◌, max, if◌then◌else◌, nat_lt, nat_le, ◌==◌, List, [], ◌∷◌, length, take}
use Rattle.std.specs.List.{prefix_len}
use Rattle.std.specs.Str.{bytes_eq}
use Rattle.ir_text.specs.Bytes.{is_digit, begins_word, goes_on_word, is_no_quote}
use Rattle.ir_text.specs.Names.{dots}

-- three dots alone are no word, but two of them are
unfoldable pub word_len : List ℕ → ℕ
word_len [] = 0
word_len (b ∷ bs) =
    let run = prefix_len goes_on_word (b ∷ bs) in
    if begins_word b then (if bytes_eq (take run (b ∷ bs)) dots then 2 else run) else 0

-- at most 39 digits
unfoldable pub number_len : List ℕ → ℕ
number_len bs = if nat_le (prefix_len is_digit bs) 39 then prefix_len is_digit bs else 0

-- up to the next quote
unfoldable pub string_len : List ℕ → ℕ
string_len [] = 0
string_len (b ∷ bs) =
    let inner = prefix_len is_no_quote bs in
    if b == 34 then (if nat_lt inner (length bs) then inner + 2 else 0) else 0

unfoldable pub name_len : List ℕ → ℕ
name_len bs = max (max (word_len bs) (number_len bs)) (string_len bs)

-- one byte more, where there is anything
abbrev pub and_before : ℕ → ℕ
and_before n = if n == 0 then 0 else n + 1

unfoldable pub signed_len : List ℕ → ℕ
signed_len [] = 0
signed_len (b ∷ bs) = if b == 45 then and_before (number_len bs) else number_len (b ∷ bs)

unfoldable pub tag_len : List ℕ → ℕ
tag_len bs = max (word_len bs) (signed_len bs)
