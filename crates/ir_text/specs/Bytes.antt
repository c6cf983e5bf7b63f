-- Kinds of bytes, as the lexical grammar of LLVM IR has them.
use Rattle.std.specs.Prelude.{ℕ, Bool, ◌||◌, ◌&&◌, ◌==◌, nat_le, not}
use Rattle.std.specs.Prelude.{codes}
use Rattle.std.specs.List.{list_any}

-- space, tab, carriage return, line feed
unfoldable pub is_blank : ℕ → Bool
is_blank b = (b == 32) || (b == 9) || (b == 13) || (b == 10)

unfoldable pub is_letter : ℕ → Bool
is_letter b = (nat_le 65 b && nat_le b 90) || (nat_le 97 b && nat_le b 122)

unfoldable pub is_digit : ℕ → Bool
is_digit b = nat_le 48 b && nat_le b 57

-- a letter, `$`, `.` or `_`
unfoldable pub begins_word : ℕ → Bool
begins_word b = is_letter b || (b == 36) || (b == 46) || (b == 95)

-- what may follow in a word: the same, digits and `-`
unfoldable pub goes_on_word : ℕ → Bool
goes_on_word b = begins_word b || is_digit b || (b == 45)

-- one of `( ) [ ] { } < > , = * : |`
unfoldable pub is_sign : ℕ → Bool
is_sign b = list_any (λ c. c == b) (codes "()[]{}<>,=*:|")

unfoldable pub is_no_quote : ℕ → Bool
is_no_quote b = not (b == 34)

unfoldable pub is_no_line_feed : ℕ → Bool
is_no_line_feed b = not (b == 10)
