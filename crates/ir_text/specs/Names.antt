-- What may stand behind a sigil, and before the `:` of a label.
use Rattle.std.specs.Prelude.{◌≡◌, ℕ, Bool, false, ◌||◌, ◌&&◌, ◌==◌, nat_lt, nat_le, not, List, [], ◌∷◌, ◌++◌, length, IsTrue, ◌⊎◌}
use Rattle.std.specs.List.{list_all}
use Rattle.std.specs.Str.{bytes_eq}
use Rattle.ir_text.specs.Bytes.{is_digit, begins_word, goes_on_word, is_no_quote}

-- `...`, which is no word
abbrev pub dots : List ℕ
dots = 46 ∷ 46 ∷ 46 ∷ []

unfoldable pub is_word : List ℕ → Bool
is_word [] = false
is_word (b ∷ bs) = begins_word b && list_all goes_on_word bs && not (bytes_eq (b ∷ bs) dots)

-- one to 39 decimal digits
unfoldable pub is_number : List ℕ → Bool
is_number bs = nat_lt 0 (length bs) && nat_le (length bs) 39 && list_all is_digit bs

-- the same, maybe behind a `-`
unfoldable pub is_signed_number : List ℕ → Bool
is_signed_number [] = false
is_signed_number (b ∷ bs) = is_number (b ∷ bs) || ((b == 45) && is_number bs)

-- `"`, bytes other than `"`, `"`
abbrev pub IsString : List ℕ → Type 0
IsString text = (inner : List ℕ) × (text ≡ 34 ∷ (inner ++ 34 ∷ [])) × IsTrue (list_all is_no_quote inner)

abbrev pub IsName : List ℕ → Type 0
IsName text = IsTrue (is_word text) ⊎ IsTrue (is_number text) ⊎ IsString text
