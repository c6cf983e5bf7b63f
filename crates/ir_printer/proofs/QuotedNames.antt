-- What is printed for a name says the name.
use Rattle.std.proofs.Common.{◌≡◌, ℕ, ◌+◌, ◌*◌, ◌/◌, ◌%◌, ◌<◌, eqb, Bool, true, false, not, ◌&&◌, nat_le, List, [], ◌∷◌, ◌++◌, IsTrue, refl, sym, ap, ◌∙◌, inl, inr, arith}
use Rattle.std.specs.Char.{digit_value, is_ascii_hexdigit}
use Rattle.std.specs.List.{flat_map, list_all}
use Rattle.std.proofs.Math.Nat.{div-add-mod}
use Rattle.std.proofs.lemmas.Bool.Decides.{nat_tests}
use Rattle.std.proofs.lemmas.List.Folds.{list_all-append}
use Rattle.ir_text.specs.Bytes.{is_no_quote}
use Rattle.ir_text.specs.Names.{is_word}
use Rattle.ir_text.specs.Written.{Text, unescaped, IsQuoted, Says, SaysGlobal}
use Rattle.ir_grammar.specs.Printing.{hex_digit, escaped, quoted, name_text}
use Rattle.ir_printer.proofs.Seen.{tested}

-- Each number of a list is a byte.
unfoldable pub AreBytes : List ℕ → Type 0
AreBytes [] = Unit {0}
AreBytes (b ∷ bs) = (b < 256) × AreBytes bs

-- ---- one byte

is_plain : ℕ → Bool
is_plain b = nat_le 32 b && nat_le b 126 && not (eqb b 34) && not (eqb b 92)

escaped_plain : (b : ℕ) → is_plain b ≡ true → escaped b ≡ b ∷ []
unfolding is_plain
escaped_plain b h = rw h refl

escaped_other : (b : ℕ) → is_plain b ≡ false → escaped b ≡ 92 ∷ hex_digit (b / 16) ∷ hex_digit (b % 16) ∷ []
unfolding is_plain
escaped_other b h = rw h refl

plain_is_no_backslash : (b : ℕ) → is_plain b ≡ true → eqb b 92 ≡ false
unfolding is_plain
plain_is_no_backslash b h = grind (arith, nat_tests)

plain_is_no_quote : (b : ℕ) → is_plain b ≡ true → is_no_quote b ≡ true
unfolding is_plain is_no_quote
plain_is_no_quote b h = grind (arith, nat_tests)

digit_is_no_backslash : (n : ℕ) → n < 16 → eqb (hex_digit n) 92 ≡ false
digit_is_no_backslash n h = grind (arith, nat_tests)

digit_is_no_quote : (n : ℕ) → n < 16 → is_no_quote (hex_digit n) ≡ true
unfolding is_no_quote
digit_is_no_quote n h = grind (arith, nat_tests)

digit_is_digit : (n : ℕ) → n < 16 → is_ascii_hexdigit (hex_digit n) ≡ true
digit_is_digit n h = grind (arith, nat_tests)

value_of_digit : (n : ℕ) → n < 16 → digit_value (hex_digit n) ≡ n
value_of_digit n h = grind (arith, nat_tests)

-- ---- a string

unescaped_plain : (b : ℕ) (rest : List ℕ) → eqb b 92 ≡ false → unescaped (b ∷ rest) ≡ b ∷ unescaped rest
unfolding unescaped
unescaped_plain b [] h = refl
unescaped_plain b (c ∷ []) h = rw h refl
unescaped_plain b (c ∷ d ∷ rest) h = rw h refl

unescaped_digits : (h l : ℕ) (rest : List ℕ)
    → eqb h 92 ≡ false
    → is_ascii_hexdigit h ≡ true
    → is_ascii_hexdigit l ≡ true
    → unescaped (92 ∷ h ∷ l ∷ rest) ≡ (16 * digit_value h + digit_value l) ∷ unescaped rest
unfolding unescaped
unescaped_digits h l rest other high low = rw (other, high, low) refl

unescaped_byte : (b : ℕ) (rest : List ℕ) → b < 256 → unescaped (escaped b ++ rest) ≡ b ∷ unescaped rest
unescaped_byte b rest small = elim (tested (is_plain b)) [
  | inl h ↦ rw (escaped_plain b h) (unescaped_plain b rest (plain_is_no_backslash b h))
  | inr h ↦
      let high : b / 16 < 16 = omega arith in
      let low : b % 16 < 16 = omega arith in
      let value : 16 * digit_value (hex_digit (b / 16)) + digit_value (hex_digit (b % 16)) ≡ b =
      omega (arith, value_of_digit (b / 16) high, value_of_digit (b % 16) low, div-add-mod b 16) in
      rw (escaped_other b h)
      (unescaped_digits (hex_digit (b / 16)) (hex_digit (b % 16)) rest (digit_is_no_backslash (b / 16) high)
      (digit_is_digit (b / 16) high) (digit_is_digit (b % 16) low) ∙ ap (λ x. x ∷ unescaped rest) value)
]

-- A string means the bytes that it was printed for.
pub unescaped_escaped : (bytes : List ℕ) → AreBytes bytes → unescaped (flat_map escaped bytes) ≡ bytes
unfolding AreBytes unescaped
unescaped_escaped [] are = refl
unescaped_escaped (b ∷ bs) are =
    unescaped_byte b (flat_map escaped bs) are.0 ∙ ap (λ rest. b ∷ rest) (unescaped_escaped bs are.1)

backslash_is_no_quote : is_no_quote 92 ≡ true
unfolding is_no_quote
backslash_is_no_quote = refl

no_quote_in_byte : (b : ℕ) → b < 256 → list_all is_no_quote (escaped b) ≡ true
no_quote_in_byte b small = elim (tested (is_plain b)) [
  | inl h ↦ rw (escaped_plain b h, plain_is_no_quote b h) refl
  | inr h ↦
      let slash : is_no_quote 92 ≡ true = backslash_is_no_quote in
      rw (
        escaped_other b h,
        slash,
        digit_is_no_quote (b / 16) (omega arith),
        digit_is_no_quote (b % 16)
            (omega arith),
      ) refl
]

no_quote_in_escaped : (bytes : List ℕ) → AreBytes bytes → list_all is_no_quote (flat_map escaped bytes) ≡ true
unfolding AreBytes
no_quote_in_escaped [] are = refl
no_quote_in_escaped (b ∷ bs) are =
    rw (list_all-append is_no_quote (escaped b) (flat_map escaped bs), no_quote_in_byte b are.0)
    (no_quote_in_escaped bs are.1)

-- A text is printed as a string of it.
pub quoted_is_quoted : (bytes : List ℕ) → AreBytes bytes → IsQuoted (quoted bytes) bytes
unfolding quoted
quoted_is_quoted bytes are =
    (flat_map escaped bytes, refl, no_quote_in_escaped bytes are, sym (unescaped_escaped bytes are))

-- A text name is printed as a word or a string that says it, and so is that of a global.
pub name_says : (name : List ℕ) → AreBytes name → Says (name_text name) (Text name)
unfolding name_text
name_says name are = elim (tested (is_word name)) [
  | inl h ↦ rw h (inl (h, refl))
  | inr h ↦ rw h (inr (quoted_is_quoted name are))
]

pub name_says_global : (name : List ℕ) → AreBytes name → SaysGlobal (name_text name) name
unfolding name_text
name_says_global name are = elim (tested (is_word name)) [
  | inl h ↦ rw h (inl (h, refl))
  | inr h ↦ rw h (inr (inr (quoted_is_quoted name are)))
]
