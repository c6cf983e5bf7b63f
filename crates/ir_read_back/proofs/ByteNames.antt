-- Names that are written in bytes are bytes.
use Rattle.std.proofs.Common.{◌≡◌, ℕ, ◌+◌, ◌*◌, ◌<◌, eqb, Bool, true, false, ◌&&◌, List, [], ◌∷◌, ◌++◌, Some, None, inl, inr, refl, sym, subst, arith}
use Rattle.std.specs.Char.{digit_value, is_ascii_hexdigit}
use Rattle.std.proofs.lemmas.Bool.Decides.{nat_tests}
use Rattle.ir_text.specs.Tokens.{Lexeme}
use Rattle.ir_text.specs.Written.{Name, Text, Number, unescaped, IsQuoted, Says, SaysGlobal, IsLocal, IsLabel, IsGlobal, IsByteString}
use Rattle.ir_text.specs.Mentions.{Mention, DefinesValue, UsesValue, DefinesBlock, UsesBlock, UsesGlobal}
use Rattle.ir_printer.proofs.Seen.{tested}
use Rattle.ir_printer.proofs.QuotedNames.{AreBytes}

-- ---- lists of bytes

pub bytes_front : (xs ys : List ℕ) → AreBytes (xs ++ ys) → AreBytes xs
unfolding AreBytes
bytes_front [] ys are = tt
bytes_front (x ∷ xs) ys are = (are.0, bytes_front xs ys are.1)

pub bytes_behind : (xs ys : List ℕ) → AreBytes (xs ++ ys) → AreBytes ys
unfolding AreBytes
bytes_behind [] ys are = are
bytes_behind (x ∷ xs) ys are = bytes_behind xs ys are.1

pub bytes_rest : (x : ℕ) (xs : List ℕ) → AreBytes (x ∷ xs) → AreBytes xs
unfolding AreBytes
bytes_rest x xs are = are.1

pub bytes_from : {xs ys : List ℕ} → xs ≡ ys → AreBytes xs → AreBytes ys
bytes_from e are = subst AreBytes e are

-- ---- strings

two_digits : (c d : ℕ) → is_ascii_hexdigit c ≡ true → is_ascii_hexdigit d ≡ true
    → 16 * digit_value c + digit_value d < 256
two_digits c d high low = grind (arith, nat_tests)

and_left : (a b : Bool) → a && b ≡ true → a ≡ true
and_left true b e = refl
and_left false b e = e

and_right : (a b : Bool) → a && b ≡ true → b ≡ true
and_right true b e = e
and_right false b e = absurd cc

pub unescaped_bytes : (inner : List ℕ) → AreBytes inner → AreBytes (unescaped inner)
unfolding AreBytes unescaped
unescaped_bytes [] are = tt
unescaped_bytes (b ∷ []) are = are
unescaped_bytes (b ∷ c ∷ []) are = elim (tested (eqb b 92 && eqb c 92)) [
  | inl e ↦ rw e (omega arith, tt)
  | inr e ↦ rw e (are.0, are.1)
]
unescaped_bytes (b ∷ c ∷ d ∷ bs) are = elim (tested (eqb b 92 && eqb c 92)) [
  | inl e ↦ rw e (omega arith, unescaped_bytes (d ∷ bs) are.1.1)
  | inr e ↦ elim (tested (eqb b 92 && (is_ascii_hexdigit c && is_ascii_hexdigit d))) [
    | inl h ↦
        let digits : is_ascii_hexdigit c && is_ascii_hexdigit d ≡ true =
        and_right (eqb b 92) (is_ascii_hexdigit c && is_ascii_hexdigit d) h in
        rw (e, h) (
          two_digits c d (and_left (is_ascii_hexdigit c) (is_ascii_hexdigit d) digits)
              (and_right (is_ascii_hexdigit c) (is_ascii_hexdigit d) digits),
          unescaped_bytes bs are.1.1.1,
        )
    | inr h ↦ rw (e, h) (are.0, unescaped_bytes (c ∷ d ∷ bs) are.1)
  ]
]

pub quoted_bytes : (text bytes : List ℕ) → IsQuoted text bytes → AreBytes text → AreBytes bytes
quoted_bytes text bytes (inner, is, plain, means) are =
    bytes_from (sym means) (unescaped_bytes inner (bytes_front inner (34 ∷ [])
    (bytes_rest 34 (inner ++ 34 ∷ []) (bytes_from is are))))

-- ---- names

-- A text name is bytes.
abbrev pub NameIsBytes : Name → Type 0
NameIsBytes (Text text) = AreBytes text
NameIsBytes (Number n) = Unit {0}

abbrev pub MentionIsBytes : Mention → Type 0
MentionIsBytes (DefinesValue None) = Unit {0}
MentionIsBytes (DefinesValue (Some name)) = NameIsBytes name
MentionIsBytes (UsesValue name) = NameIsBytes name
MentionIsBytes (DefinesBlock None) = Unit {0}
MentionIsBytes (DefinesBlock (Some name)) = NameIsBytes name
MentionIsBytes (UsesBlock name) = NameIsBytes name
MentionIsBytes (UsesGlobal name) = AreBytes name

said_bytes : (written : List ℕ) (name : Name) → Says written name → AreBytes written → NameIsBytes name
said_bytes written (Text name) (inl (word, is)) are = bytes_from is are
said_bytes written (Text name) (inr quoted) are = quoted_bytes written name quoted are
said_bytes written (Number n) says are = tt

said_global_bytes : (written name : List ℕ) → SaysGlobal written name → AreBytes written → AreBytes name
said_global_bytes written name (inl (word, is)) are = bytes_from is are
said_global_bytes written name (inr (inl (number, is))) are = bytes_from is are
said_global_bytes written name (inr (inr quoted)) are = quoted_bytes written name quoted are

pub local_bytes : (name : Name) (t : Lexeme) → IsLocal name t → AreBytes t.text → NameIsBytes name
local_bytes name t (kind, written, is, says) are =
    said_bytes written name says (bytes_rest 37 written (bytes_from is are))

pub label_bytes : (name : Name) (t : Lexeme) → IsLabel name t → AreBytes t.text → NameIsBytes name
label_bytes name t (kind, written, is, says) are =
    said_bytes written name says (bytes_front written (58 ∷ []) (bytes_from is are))

pub global_bytes : (name : List ℕ) (t : Lexeme) → IsGlobal name t → AreBytes t.text → AreBytes name
global_bytes name t (kind, written, is, says) are =
    said_global_bytes written name says (bytes_rest 64 written (bytes_from is are))

pub byte_string_bytes : (bytes : List ℕ) (t : Lexeme) → IsByteString bytes t → AreBytes t.text → AreBytes bytes
byte_string_bytes bytes t (kind, text, is, quoted) are =
    quoted_bytes text bytes quoted (bytes_rest 99 text (bytes_from is are))
