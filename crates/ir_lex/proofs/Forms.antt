-- What the start of a text has of each form of a token.
use Rattle.std.proofs.Common.{ℕ, suc, ◌≡◌, ◌+◌, ◌<◌, ◌≤◌, true, false, List, [], ◌∷◌, ◌++◌, length, get_or, take, refl, sym, ap, ◌∙◌, ⊎_elim, ◌⊎◌, arith, append_assoc, add-one, length-append}
use Rattle.std.proofs.lemmas.Bool.{and_from, cond-false, lt-ltb, eq-eqb, ne_eqb, false≢true}
use Rattle.std.proofs.lemmas.List.{take_at, get_or_at}
use Rattle.ir_text.specs.Bytes.{is_letter, is_digit, begins_word, goes_on_word, is_sign}
use Rattle.ir_text.specs.Names.{dots, is_word, is_number, is_signed_number, IsString, IsName}
use Rattle.ir_text.specs.Tokens.{HasForm, IsSigilName, IsTagged}
use Rattle.ir_text.specs.declared.token.TokenKind.{TokenKind}
use Rattle.ir_text.specs.declared.token.TokenKind.TheVariants.{Word, Label, Numeral, Local, Global, Metadata, Group, Quoted, Sign, Dots}
use Rattle.ir_lex.specs.Lengths.{word_len, string_len, name_len, signed_len, tag_len}
use Rattle.ir_lex.specs.FirstToken.{begins_label, quoted_len, fits_signed}
use Rattle.ir_lex.proofs.LongestWord.{is_word-nil, word_len-most}
use Rattle.ir_lex.proofs.LongestNumber.{is_number-nil, signed-nil, signed_len-whole}
use Rattle.ir_lex.proofs.LongestString.{string_len-whole}
use Rattle.ir_lex.proofs.LongestName.{name_len-whole, name_len-most, tag_len-most, IsTag}
use Rattle.ir_lex.proofs.Fits.{fits_signed-is}

-- A form of n bytes that begins with no sigil.
pub data PlainAt (s : List ℕ) (n : ℕ) : TokenKind → Type 0 where
  as_word : 0 < n
      → n ≤ word_len s
      → PlainAt s n Word
  as_label : begins_label s ≡ true
      → n ≡ name_len s + 1
      → PlainAt s n Label
  as_numeral : 0 < n
      → n ≡ signed_len s
      → fits_signed (take n s) ≡ true
      → PlainAt s n Numeral
  as_quoted : 0 < n
      → n ≡ quoted_len s
      → PlainAt s n Quoted
  as_sign : {b : ℕ} (bs : List ℕ)
      → s ≡ b ∷ bs
      → is_sign b ≡ true
      → n ≡ 1
      → PlainAt s n (Sign b)
  as_dots : (rest : List ℕ)
      → s ≡ dots ++ rest
      → n ≡ 3
      → PlainAt s n Dots

-- A form of n bytes.
pub data FormAt (s : List ℕ) (n : ℕ) : TokenKind → Type 0 where
  as_plain : {kind : TokenKind} → PlainAt s n kind → FormAt s n kind
  as_local : (bs : List ℕ)
      → s ≡ 37 ∷ bs
      → 1 < n
      → n ≤ suc (name_len bs)
      → FormAt s n Local
  as_global : (bs : List ℕ)
      → s ≡ 64 ∷ bs
      → 1 < n
      → n ≤ suc (name_len bs)
      → FormAt s n Global
  as_metadata : (bs : List ℕ)
      → s ≡ 33 ∷ bs
      → 0 < n
      → n ≤ suc (tag_len bs)
      → FormAt s n Metadata
  as_group : (bs : List ℕ)
      → s ≡ 35 ∷ bs
      → 1 < n
      → n ≤ suc (tag_len bs)
      → FormAt s n Group

-- no part of a token is empty
pub some_word : (w : List ℕ) → is_word w ≡ true → 0 < length w
some_word [] h = absurd (false≢true (sym is_word-nil ∙ h))
some_word (b ∷ bs) h = omega arith

some_number : (w : List ℕ) → is_number w ≡ true → 0 < length w
some_number [] h = absurd (false≢true (sym is_number-nil ∙ h))
some_number (b ∷ bs) h = omega arith

some_signed : (w : List ℕ) → is_signed_number w ≡ true → 0 < length w
some_signed [] h = absurd (false≢true (sym signed-nil ∙ h))
some_signed (b ∷ bs) h = omega arith

some_string : (w : List ℕ) → IsString w → 0 < length w
some_string w s = omega (arith, ap length s.1)

pub some_name : (w : List ℕ) → IsName w → 0 < length w
some_name w is_name =
    ⊎_elim
    (λ (h : is_word w ≡ true). some_word w h)
    (λ (other : (is_number w ≡ true) ⊎ IsString w).
    ⊎_elim (λ (h : is_number w ≡ true). some_number w h) (λ (h : IsString w). some_string w h) other)
    is_name

some_tag : (w next : List ℕ) → IsTag w next → 0 < length w
some_tag w next tag =
    ⊎_elim (λ (h : is_word w ≡ true). some_word w h)
    (λ (h : (is_signed_number w ≡ true) × (_ ≡ _)). some_signed w h.0) tag

word_at : (more rest : List ℕ) → HasForm Word more rest → FormAt (more ++ rest) (length more) Word
unfolding HasForm
word_at more rest h = as_plain (as_word (some_word more h) (word_len-most more rest h))

colon_stops : goes_on_word 58 ≡ false
unfolding goes_on_word begins_word is_letter is_digit
colon_stops = refl

-- a name and a colon
pub label-begins : (name rest : List ℕ)
    → IsName name
    → (begins_label (name ++ (58 ∷ rest)) ≡ true) × (name_len (name ++ (58 ∷ rest)) ≡ length name)
unfolding begins_label
label-begins name rest is_name =
    let some = some_name name is_name in
    let is = name_len-whole name (58 ∷ rest) is_name colon_stops in
    let colon : get_or (name ++ (58 ∷ rest)) (length name) 0 ≡ 58 = get_or_at name 58 rest 0 (length name) refl in
    (rw is (and_from _ _ (lt-ltb _ _ some) (eq-eqb _ _ colon)), is)

label_at : (more rest : List ℕ) → HasForm Label more rest → FormAt (more ++ rest) (length more) Label
unfolding HasForm
label_at more rest (name, e, is_name) =
    let all : more ++ rest ≡ name ++ (58 ∷ rest) = ap (λ l. l ++ rest) e ∙ append_assoc name (58 ∷ []) rest in
    let size : length more ≡ length name + 1 = ap length e ∙ length-append name (58 ∷ []) in
    let begins = label-begins name rest is_name in
    rw (all, size) (as_plain (as_label begins.0 (ap (λ n. n + 1) (sym begins.1))))

numeral_at : (more rest : List ℕ) → HasForm Numeral more rest → FormAt (more ++ rest) (length more) Numeral
unfolding HasForm
numeral_at more rest (number, stops, fits) =
    let prefix : take (length more) (more ++ rest) ≡ more = take_at more rest (length more) refl in
    as_plain
    (as_numeral (some_signed more number) (sym (signed_len-whole more rest (record { number = number; stops = stops })))
    (ap fits_signed prefix ∙ (fits_signed-is more number).1 fits))

sigil_at : (sigil : ℕ) (more rest : List ℕ)
    → IsSigilName sigil more rest
    → (bs : List ℕ) × (more ++ rest ≡ sigil ∷ bs) × (1 < length more) × (length more ≤ suc (name_len bs))
sigil_at sigil more rest (name, e, is_name, whole) =
    let size = ap length e in
    let most = name_len-most name rest is_name whole in
    (name ++ rest, ap (λ l. l ++ rest) e, omega (arith, some_name name is_name), omega arith)

local_at : (more rest : List ℕ) → HasForm Local more rest → FormAt (more ++ rest) (length more) Local
unfolding HasForm
local_at more rest h = let at = sigil_at 37 more rest h in as_local at.0 at.1 at.2 at.3

global_at : (more rest : List ℕ) → HasForm Global more rest → FormAt (more ++ rest) (length more) Global
unfolding HasForm
global_at more rest h = let at = sigil_at 64 more rest h in as_global at.0 at.1 at.2 at.3

tag_at : (sigil : ℕ) (more rest : List ℕ)
    → IsTagged sigil more rest
    → (bs : List ℕ) × (more ++ rest ≡ sigil ∷ bs) × (1 < length more) × (length more ≤ suc (tag_len bs))
tag_at sigil more rest (name, e, tag) =
    let size = ap length e in
    let most = tag_len-most name rest tag in
    (name ++ rest, ap (λ l. l ++ rest) e, omega (arith, some_tag name rest tag), omega arith)

metadata_at : (more rest : List ℕ) → HasForm Metadata more rest → FormAt (more ++ rest) (length more) Metadata
unfolding HasForm
metadata_at more rest h =
    ⊎_elim
    (λ (alone : more ≡ 33 ∷ []). let size = ap length alone in
    as_metadata rest (ap (λ l. l ++ rest) alone) (omega arith) (omega arith))
    (λ (tagged : IsTagged 33 more rest). let at = tag_at 33 more rest tagged in
    as_metadata at.0 at.1 (omega (arith, at.2)) at.3)
    h

group_at : (more rest : List ℕ) → HasForm Group more rest → FormAt (more ++ rest) (length more) Group
unfolding HasForm
group_at more rest h = let at = tag_at 35 more rest h in as_group at.0 at.1 at.2 at.3

pub quoted_len-quote : (bs : List ℕ) → quoted_len (34 ∷ bs) ≡ string_len (34 ∷ bs)
unfolding quoted_len
quoted_len-quote bs = refl

pub quoted_len-c : (bs : List ℕ) → 0 < string_len bs → quoted_len (99 ∷ bs) ≡ suc (string_len bs)
unfolding quoted_len
quoted_len-c bs h = cond-false _ _ _ (ne_eqb (string_len bs) 0 (omega arith)) ∙ add-one (string_len bs)

string_form : (more rest : List ℕ) → IsString more → quoted_len (more ++ rest) ≡ length more
string_form more rest q =
    ap (λ t. quoted_len (t ++ rest)) q.1 ∙ quoted_len-quote _ ∙ ap (λ t. string_len (t ++ rest)) (sym q.1)
    ∙ string_len-whole more rest q

quoted_at : (more rest : List ℕ) → HasForm Quoted more rest → FormAt (more ++ rest) (length more) Quoted
unfolding HasForm
quoted_at more rest h =
    ⊎_elim
    (λ (q : IsString more). as_plain (as_quoted (some_string more q) (sym (string_form more rest q))))
    (λ (c : (string : List ℕ) × (more ≡ 99 ∷ string) × IsString string).
    let size = string_len-whole c.0 rest c.2 in
    let some = some_string c.0 c.2 in
    let is : quoted_len (99 ∷ (c.0 ++ rest)) ≡ suc (length c.0) =
    quoted_len-c (c.0 ++ rest) (omega arith) ∙ ap suc size in
    rw c.1 (as_plain (as_quoted (omega arith) (sym is))))
    h

sign_at : (b : ℕ) (more rest : List ℕ) → HasForm (Sign b) more rest → FormAt (more ++ rest) (length more) (Sign b)
unfolding HasForm
sign_at b more rest h = as_plain (as_sign rest (ap (λ l. l ++ rest) h.0) h.1 (ap length h.0))

dots_at : (more rest : List ℕ) → HasForm Dots more rest → FormAt (more ++ rest) (length more) Dots
unfolding HasForm
dots_at more rest h = as_plain (as_dots rest (ap (λ l. l ++ rest) h) (ap length h))

pub form_at : (kind : TokenKind) (more rest : List ℕ)
    → HasForm kind more rest
    → FormAt (more ++ rest) (length more) kind
form_at Word more rest h = word_at more rest h
form_at Label more rest h = label_at more rest h
form_at Numeral more rest h = numeral_at more rest h
form_at Local more rest h = local_at more rest h
form_at Global more rest h = global_at more rest h
form_at Metadata more rest h = metadata_at more rest h
form_at Group more rest h = group_at more rest h
form_at Quoted more rest h = quoted_at more rest h
form_at (Sign b) more rest h = sign_at b more rest h
form_at Dots more rest h = dots_at more rest h
