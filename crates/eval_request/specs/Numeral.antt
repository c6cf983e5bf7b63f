-- Decimal numerals.
use Rattle.std.specs.Prelude.{ℕ, Bool, false, List, [], ◌∷◌}
use Rattle.std.specs.List.{list_all}
use Rattle.std.specs.Str.Parse.{digits_value}
use Rattle.ir_text.specs.Bytes.{is_digit}

-- one or more digits, with any number of leading zeros
abbrev pub is_numeral : List ℕ → Bool
is_numeral [] = false
is_numeral (c ∷ text) = list_all is_digit (c ∷ text)

abbrev pub numeral_value : List ℕ → ℕ
numeral_value text = digits_value 10 text
