-- A text of a token's form, with a stop behind it, is a token there.
use Rattle.std.proofs.Common.{ℕ, suc, ◌≡◌, ◌+◌, ◌<◌, ◌≤◌, true, false, eqb, List, [], ◌∷◌, ◌++◌, length, get_or, refl, sym, ap, ◌∙◌, subst, ⊎_elim, ◌⊎◌, inl, inr, arith, append_assoc, length-append, add-zero, get_or-append-add, IsTrue}
use Rattle.std.proofs.lemmas.Bool.{false≢true, false_from_ne_true}
use Rattle.std.proofs.lemmas.Bool.Decides.{nat_tests}
use Rattle.std.specs.List.{list_all, prefix_len}
use Rattle.ir_text.specs.Bytes.{is_letter, is_digit, begins_word, goes_on_word}
use Rattle.ir_text.specs.Names.{dots, is_word, is_number, is_signed_number, IsString, IsName}
use Rattle.ir_text.specs.Tokens.{begins_with_digit, HasForm, IsTokenAt, NumberFits, IsTagged, IsSigilName}
use Rattle.ir_text.specs.declared.token.TokenKind.{TokenKind}
use Rattle.ir_text.specs.declared.token.TokenKind.TheVariants.{Word, Label, Numeral, Local, Global, Metadata, Group, Quoted, Sign, Dots}
use Rattle.ir_lex.specs.Lengths.{word_len, string_len, name_len, tag_len}
use Rattle.ir_lex.specs.FirstToken.{begins_label, begins_dots, quoted_len}
use Rattle.ir_lex.proofs.Runs.{head_passes, prefix_len-whole}
use Rattle.ir_lex.proofs.BytesApart.{IsNoSigil, begins_word-no_sigil, digit-no_sigil, digit-no_word, begins_word-no_digit, begins_word-no_minus}
use Rattle.ir_lex.proofs.LongestWord.{is_word-nil, word-parts, word_len-none, word_len-whole, word_len-le}
use Rattle.ir_lex.proofs.LongestNumber.{signed-nil, signed-cases, number-first, number_len-none, signed_len-nil, signed_len-plain, signed_len-whole}
use Rattle.ir_lex.proofs.LongestString.{string_len-whole, string_len-none}
use Rattle.ir_lex.proofs.LongestName.{name_len-whole, stop-digit, name_len-word}
use Rattle.ir_lex.proofs.LongestPlain.{IsBeaten, c_word_len, only_label, only_quoted, only_dots}
use Rattle.ir_lex.proofs.SigilForms.{only_plain, only_local, only_global, only_metadata, only_group, label-colon, heads, quoted_len-other}
use Rattle.ir_lex.proofs.Forms.{FormAt, form_at, some_name, label-begins, quoted_len-quote, quoted_len-c}
use Rattle.ir_lex.proofs.Plain.{is_stop, Stops, Word-token, Numeral-token, Sign-token}

-- ---- what a stop is not

stop_no_word : (b : ℕ) → is_stop b ≡ true → goes_on_word b ≡ false
unfolding goes_on_word begins_word is_letter is_digit
stop_no_word b h = grind (arith, nat_tests)

no_word_behind : (next : List ℕ) → Stops next → head_passes goes_on_word next ≡ false
no_word_behind [] stops = refl
no_word_behind (b ∷ bs) stops = stop_no_word b stops

pub no_digit_behind : (next : List ℕ) → Stops next → begins_with_digit next ≡ false
no_digit_behind next stops = stop-digit next (no_word_behind next stops)

no_colon_behind : (next : List ℕ) → Stops next → get_or next 0 0 ≡ 58 → ⊥
no_colon_behind [] stops e = omega arith
no_colon_behind (b ∷ bs) stops e = grind (arith, nat_tests)

stop-apart : (b : ℕ) → is_stop b ≡ true → (begins_word b ≡ false) × (eqb b 45 ≡ false) × (is_digit b ≡ false)
unfolding begins_word is_letter is_digit
stop-apart b h = (grind (arith, nat_tests), grind (arith, nat_tests), grind (arith, nat_tests))

-- ---- one token

-- No longer form stands there.
token_from : (kind : TokenKind) (text next : List ℕ)
    → HasForm kind text next
    → NumberFits kind text
    → ((m : ℕ) (other : TokenKind) → FormAt (text ++ next) m other → m ≤ length text)
    → IsTokenAt kind text next
token_from kind text next form fits only = record {
  form = form;
  longest = λ other more rest e has.
      only (length more) other (subst (λ l. FormAt l (length more) other) e (form_at other more rest has));
  fits = fits;
}

-- the whole name is the longest one
name_whole : (w next : List ℕ) → IsName w → Stops next → name_len (w ++ next) ≡ length w
name_whole w next name stops = name_len-whole w next name (no_word_behind next stops)

local_token : (text next w : List ℕ)
    → text ≡ 37 ∷ w
    → IsName w
    → HasForm Local text next
    → NumberFits Local text
    → Stops next
    → IsTokenAt Local text next
local_token text next w e name form fits stops =
    token_from Local text next form fits
    (λ m other at.
    let only = only_local (w ++ next) m other (subst (λ t. FormAt (t ++ next) m other) e at) in
    omega (arith, name_whole w next name stops, ap length e, only.2))

global_token : (text next w : List ℕ)
    → text ≡ 64 ∷ w
    → IsName w
    → HasForm Global text next
    → NumberFits Global text
    → Stops next
    → IsTokenAt Global text next
global_token text next w e name form fits stops =
    token_from Global text next form fits
    (λ m other at.
    let only = only_global (w ++ next) m other (subst (λ t. FormAt (t ++ next) m other) e at) in
    omega (arith, name_whole w next name stops, ap length e, only.2))

-- ---- tags

word_tag : (w next : List ℕ) → is_word w ≡ true → Stops next → tag_len (w ++ next) ≤ length w
unfolding tag_len
word_tag [] next h stops = absurd (false≢true (sym is_word-nil ∙ h))
word_tag (b ∷ bs) next h stops =
    let begins = (word-parts b bs h).begins in
    let whole = word_len-whole (b ∷ bs) next h (no_word_behind next stops) in
    let none = signed_len-plain b (bs ++ next) (begins_word-no_minus b begins) in
    let no_digits = number_len-none b (bs ++ next) (begins_word-no_digit b begins) in
    omega (arith, whole, none, no_digits)

minus_no_word : begins_word 45 ≡ false
unfolding begins_word is_letter
minus_no_word = refl

signed_no_word : (b : ℕ) (bs : List ℕ) → is_signed_number (b ∷ bs) ≡ true → begins_word b ≡ false
signed_no_word b bs h =
    ⊎_elim (λ (plain : is_number (b ∷ bs) ≡ true). digit-no_word b (number-first b bs plain))
    (λ (minus : (b ≡ 45) × (is_number bs ≡ true)). rw minus.0 minus_no_word) (signed-cases b bs h)

number_tag : (w next : List ℕ) → is_signed_number w ≡ true → Stops next → tag_len (w ++ next) ≤ length w
unfolding tag_len
number_tag [] next h stops = absurd (false≢true (sym signed-nil ∙ h))
number_tag (b ∷ bs) next h stops =
    let none = word_len-none b (bs ++ next) (signed_no_word b bs h) in
    let whole = signed_len-whole (b ∷ bs) next (record { number = h; stops = no_digit_behind next stops }) in
    omega (arith, none, whole)

tag_whole : (w next : List ℕ)
    → IsTrue (is_word w) ⊎ (IsTrue (is_signed_number w) × (begins_with_digit [] ≡ false))
    → Stops next
    → tag_len (w ++ next) ≤ length w
tag_whole w next tag stops =
    ⊎_elim (λ (h : is_word w ≡ true). word_tag w next h stops)
    (λ (h : (is_signed_number w ≡ true) × (begins_with_digit [] ≡ false)). number_tag w next h.0 stops) tag

-- nothing behind a `!` alone
bang_alone : (next : List ℕ) → Stops next → tag_len next ≤ 0
unfolding tag_len
bang_alone [] stops = omega (arith, word_len-le [], signed_len-nil)
bang_alone (b ∷ bs) stops =
    let is = stop-apart b stops in
    omega (arith, word_len-none b bs is.0, signed_len-plain b bs is.1, number_len-none b bs is.2)

untagged : (w next : List ℕ)
    → IsTrue (is_word w) ⊎ (IsTrue (is_signed_number w) × (begins_with_digit next ≡ false))
    → IsTrue (is_word w) ⊎ (IsTrue (is_signed_number w) × (begins_with_digit [] ≡ false))
untagged w next tag =
    ⊎_elim (λ (h : is_word w ≡ true). inl h)
    (λ (h : (is_signed_number w ≡ true) × (begins_with_digit next ≡ false)). inr (h.0, refl)) tag

tagged_again : (sigil : ℕ) (text next : List ℕ) → IsTagged sigil text [] → Stops next → IsTagged sigil text next
tagged_again sigil text next tagged stops = (
  tagged.0,
  tagged.1,
  ⊎_elim (λ (h : is_word tagged.0 ≡ true). inl h)
      (λ (h : (is_signed_number tagged.0 ≡ true) × (begins_with_digit [] ≡ false)).
      inr (h.0, no_digit_behind next stops)) tagged.2,
)

metadata_token : (text next w : List ℕ)
    → text ≡ 33 ∷ w
    → tag_len (w ++ next) ≤ length w
    → HasForm Metadata text next
    → NumberFits Metadata text
    → IsTokenAt Metadata text next
metadata_token text next w e whole form fits =
    token_from Metadata text next form fits
    (λ m other at.
    let only = only_metadata (w ++ next) m other (subst (λ t. FormAt (t ++ next) m other) e at) in
    omega (arith, whole, ap length e, only.1))

group_token : (text next w : List ℕ)
    → text ≡ 35 ∷ w
    → tag_len (w ++ next) ≤ length w
    → HasForm Group text next
    → NumberFits Group text
    → IsTokenAt Group text next
group_token text next w e whole form fits =
    token_from Group text next form fits
    (λ m other at.
    let only = only_group (w ++ next) m other (subst (λ t. FormAt (t ++ next) m other) e at) in
    omega (arith, whole, ap length e, only.2))

-- ---- plain tokens

at_most : (m n : ℕ) (other kind : TokenKind) → IsBeaten m other n kind → m ≤ n
at_most m n other kind beaten =
    ⊎_elim (λ (short : m < n). omega arith) (λ (same : (other ≡ kind) × (m ≡ n)). omega (arith, same.1)) beaten

-- the byte behind a prefix
behind : (w next : List ℕ) (n : ℕ) → n ≡ length w → get_or (w ++ next) n 0 ≡ get_or next 0 0
behind w next n is = ap (λ k. get_or (w ++ next) k 0) (is ∙ sym (add-zero (length w))) ∙ get_or-append-add w next 0 0

quote-no_sigil : IsNoSigil 34
quote-no_sigil = record {
  percent = λ e. omega arith;
  at_sign = λ e. omega arith;
  bang = λ e. omega arith;
  hash = λ e. omega arith;
}

name-no_sigil : (b : ℕ) (bs : List ℕ) → IsName (b ∷ bs) → IsNoSigil b
name-no_sigil b bs name =
    ⊎_elim
    (λ (h : is_word (b ∷ bs) ≡ true). begins_word-no_sigil b (word-parts b bs h).begins)
    (λ (other : (is_number (b ∷ bs) ≡ true) ⊎ IsString (b ∷ bs)).
    ⊎_elim (λ (h : is_number (b ∷ bs) ≡ true). digit-no_sigil b (number-first b bs h))
    (λ (h : IsString (b ∷ bs)). rw (heads _ _ _ _ h.1) quote-no_sigil) other)
    name

label_only : (name next : List ℕ)
    → IsName name
    → (m : ℕ) (other : TokenKind)
    → FormAt (name ++ (58 ∷ next)) m other
    → m ≤ length name + 1
label_only [] next is_name m other at = absurd (omega (arith, some_name [] is_name))
label_only (b ∷ bs) next is_name m other at =
    let s = b ∷ (bs ++ (58 ∷ next)) in
    let begins = label-begins (b ∷ bs) next is_name in
    let plain = only_plain b (bs ++ (58 ∷ next)) m other (name-no_sigil b bs is_name) at in
    omega (arith, begins.1, at_most m (name_len s + 1) other Label (only_label s begins.0 m other plain))

label_token : (text next name : List ℕ)
    → text ≡ name ++ 58 ∷ []
    → IsName name
    → HasForm Label text next
    → NumberFits Label text
    → IsTokenAt Label text next
label_token text next name e is_name form fits =
    let all : text ++ next ≡ name ++ (58 ∷ next) = ap (λ l. l ++ next) e ∙ append_assoc name (58 ∷ []) next in
    let size : length text ≡ length name + 1 = ap length e ∙ length-append name (58 ∷ []) in
    token_from Label text next form fits
    (λ m other at. omega (
      arith,
      size,
      label_only name next is_name m other (subst (λ l. FormAt l m other) all at),
    ))

-- strings
string_only : (bs next : List ℕ)
    → IsString (34 ∷ bs)
    → Stops next
    → (m : ℕ) (other : TokenKind)
    → FormAt (34 ∷ (bs ++ next)) m other
    → m ≤ suc (length bs)
string_only bs next string stops m other at =
    let s = 34 ∷ (bs ++ next) in
    let name : name_len s ≡ suc (length bs) = name_whole (34 ∷ bs) next (inr (inr string)) stops in
    let no_label : begins_label s ≡ false = false_from_ne_true _
    (λ label. no_colon_behind next stops
    (sym (behind (34 ∷ bs) next (name_len s) name) ∙ (label-colon s label).1)) in
    let size : quoted_len s ≡ suc (length bs) =
    quoted_len-quote (bs ++ next) ∙ string_len-whole (34 ∷ bs) next string in
    let plain = only_plain 34 (bs ++ next) m other quote-no_sigil at in
    omega (arith, size, at_most m (quoted_len s) other Quoted (only_quoted s no_label (omega arith) m other plain))

c_begins : begins_word 99 ≡ true
unfolding begins_word is_letter
c_begins = refl

byte_string_only : (bs next : List ℕ)
    → IsString (34 ∷ bs)
    → (m : ℕ) (other : TokenKind)
    → FormAt (99 ∷ 34 ∷ (bs ++ next)) m other
    → m ≤ suc (suc (length bs))
byte_string_only bs next string m other at =
    let s = 99 ∷ 34 ∷ (bs ++ next) in
    let whole : string_len (34 ∷ (bs ++ next)) ≡ suc (length bs) = string_len-whole (34 ∷ bs) next string in
    let name : name_len s ≡ 1 = name_len-word 99 (34 ∷ (bs ++ next)) c_begins ∙ c_word_len (bs ++ next) in
    let no_label : begins_label s ≡ false = false_from_ne_true _
    (λ label. let colon : 34 ≡ 58 = sym (ap (λ n. get_or s n 0) name) ∙ (label-colon s label).1 in omega arith) in
    let size : quoted_len s ≡ suc (string_len (34 ∷ (bs ++ next))) =
    quoted_len-c (34 ∷ (bs ++ next)) (omega arith) in
    let plain = only_plain 99 (34 ∷ (bs ++ next)) m other (begins_word-no_sigil 99 c_begins) at in
    omega (
      arith,
      size,
      whole,
      at_most m (quoted_len s) other Quoted (only_quoted s no_label (omega arith) m other plain),
    )

is_first_quote : (text : List ℕ) → IsString text → (bs : List ℕ) × (text ≡ 34 ∷ bs) × IsString (34 ∷ bs)
is_first_quote text string = (string.0 ++ 34 ∷ [], string.1, (string.0, refl, string.2))

quoted_token : (text next : List ℕ)
    → IsString text ⊎ ((string : List ℕ) × (text ≡ 99 ∷ string) × IsString string)
    → HasForm Quoted text next
    → NumberFits Quoted text
    → Stops next
    → IsTokenAt Quoted text next
quoted_token text next is form fits stops =
    ⊎_elim
    (λ (string : IsString text). let q = is_first_quote text string in
    token_from Quoted text next form fits
    (λ m other at. omega (
      arith,
      ap length q.1,
      string_only q.0 next q.2 stops m other (subst (λ t. FormAt (t ++ next) m other) q.1 at),
    )))
    (λ (c : (string : List ℕ) × (text ≡ 99 ∷ string) × IsString string). let q = is_first_quote c.0 c.2 in
    let all : text ≡ 99 ∷ 34 ∷ q.0 = c.1 ∙ ap (λ t. 99 ∷ t) q.1 in
    token_from Quoted text next form fits
    (λ m other at. omega (
      arith,
      ap length all,
      byte_string_only q.0 next q.2 m other (subst (λ t. FormAt (t ++ next) m other) all at),
    )))
    is

-- three dots
dots_run : list_all goes_on_word dots ≡ true
unfolding goes_on_word begins_word is_letter
dots_run = refl

dot_begins : begins_word 46 ≡ true
unfolding begins_word is_letter
dot_begins = refl

dots_word : (next : List ℕ) → Stops next → word_len (dots ++ next) ≡ 2
unfolding word_len
dots_word next stops =
    let begins : begins_word 46 ≡ true = dot_begins in
    let run : prefix_len goes_on_word (dots ++ next) ≡ 3 =
    prefix_len-whole goes_on_word dots next dots_run (no_word_behind next stops) in
    rw (begins, run) refl

dots_begin : (next : List ℕ) → word_len (dots ++ next) ≡ 2 → begins_dots (dots ++ next) ≡ true
unfolding begins_dots
dots_begin next two = rw two refl

dots_only : (next : List ℕ)
    → Stops next
    → (m : ℕ) (other : TokenKind)
    → FormAt (dots ++ next) m other
    → m ≤ 3
dots_only next stops m other at =
    let s = dots ++ next in
    let two = dots_word next stops in
    let name : name_len s ≡ 2 = name_len-word 46 (46 ∷ 46 ∷ next) dot_begins ∙ two in
    let no_label : begins_label s ≡ false = false_from_ne_true _
    (λ label. let colon : 46 ≡ 58 = sym (ap (λ n. get_or s n 0) name) ∙ (label-colon s label).1 in omega arith) in
    let no_quoted : quoted_len s ≡ 0 =
    quoted_len-other 46 (46 ∷ 46 ∷ next) refl ∙ string_len-none 46 (46 ∷ 46 ∷ next) refl in
    let plain = only_plain 46 (46 ∷ 46 ∷ next) m other (begins_word-no_sigil 46 dot_begins) at in
    at_most m 3 other Dots (only_dots s no_label no_quoted (dots_begin next two) m other plain)

-- ---- any token

-- The text of a token of a name is one where no digit follows.
sigil_again : (sigil : ℕ) (text next : List ℕ) → IsSigilName sigil text [] → Stops next → IsSigilName sigil text next
sigil_again sigil text next name stops = (name.0, name.1, name.2, λ number. no_digit_behind next stops)

-- What has the form of a token, with nothing behind it, is a token before a stop.
pub stands : (kind : TokenKind) (text next : List ℕ)
    → HasForm kind text []
    → NumberFits kind text
    → Stops next
    → IsTokenAt kind text next
unfolding HasForm
stands Word text next form fits stops = Word-token text next form stops
stands Label text next form fits stops = label_token text next form.0 form.1 form.2 form fits
stands Numeral text next form fits stops = Numeral-token text next form.0 form.2 stops
stands Local text next form fits stops =
    local_token text next form.0 form.1 form.2 (sigil_again 37 text next form stops) fits stops
stands Global text next form fits stops =
    global_token text next form.0 form.1 form.2 (sigil_again 64 text next form stops) fits stops
stands Metadata text next form fits stops =
    ⊎_elim
    (λ (alone : text ≡ 33 ∷ []).
    metadata_token text next [] alone (bang_alone next stops) (inl alone) fits)
    (λ (tagged : IsTagged 33 text []).
    metadata_token text next tagged.0 tagged.1 (tag_whole tagged.0 next tagged.2 stops)
    (inr (tagged_again 33 text next tagged stops)) fits)
    form
stands Group text next form fits stops =
    group_token text next form.0 form.1 (tag_whole form.0 next form.2 stops) (tagged_again 35 text next form stops) fits
stands Quoted text next form fits stops = quoted_token text next form form fits stops
stands (Sign b) text next form fits stops =
    subst (λ t. IsTokenAt (Sign b) t next) (sym form.0) (Sign-token b next form.1)
stands Dots text next form fits stops =
    token_from Dots text next form fits
    (λ m other at. omega (
      arith,
      ap length form,
      dots_only next stops m other (subst (λ t. FormAt (t ++ next) m other) form at),
    ))

-- A token has its form with nothing behind it too.
alone : (kind : TokenKind) (text next : List ℕ) → HasForm kind text next → HasForm kind text []
unfolding HasForm
alone Numeral text next form = (form.0, refl, form.2)
alone Local text next form = (form.0, form.1, form.2, λ number. refl)
alone Global text next form = (form.0, form.1, form.2, λ number. refl)
alone Metadata text next form =
    ⊎_elim (λ (alone : text ≡ 33 ∷ []). inl alone)
    (λ (tagged : IsTagged 33 text next). inr (tagged.0, tagged.1, untagged tagged.0 next tagged.2)) form
alone Group text next form = (form.0, form.1, untagged form.0 next form.2)
alone Word text next form = form
alone Label text next form = form
alone Quoted text next form = form
alone (Sign b) text next form = form
alone Dots text next form = form

-- A token stays a token before a stop.
pub token_stays : (kind : TokenKind) (text next rest : List ℕ)
    → IsTokenAt kind text next
    → Stops rest
    → IsTokenAt kind text rest
token_stays kind text next rest token stops = stands kind text rest (alone kind text next token.form) token.fits stops
