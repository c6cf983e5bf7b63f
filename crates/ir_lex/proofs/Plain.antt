-- A plain token with a stop behind it is the token that stands there.
use Rattle.std.proofs.Common.{ℕ, suc, ◌≡◌, ◌+◌, ◌<◌, ◌≤◌, Bool, true, false, eqb, List, [], ◌∷◌, ◌++◌, length, get_or, take, drop, refl, sym, ap, ◌∙◌, subst, ⊎_elim, inl, inr, arith, append_assoc, add-zero, length-append}
use Rattle.std.specs.Prelude.{IsTrue, ◌==◌, codes}
use Rattle.std.specs.List.{list_any}
use Rattle.std.specs.Str.Parse.{signed_digits_value}
use Rattle.std.proofs.lemmas.Bool.{cases_lt, false≢true, false_from_ne_true}
use Rattle.std.proofs.lemmas.Bool.Decides.{nat_tests}
use Rattle.std.proofs.lemmas.List.{take_at, drop_at, get_or-append-add, same_from_push}
use Rattle.ir_text.specs.Bytes.{is_letter, is_digit, begins_word, goes_on_word, is_sign}
use Rattle.ir_text.specs.Names.{is_word, is_number, is_signed_number}
use Rattle.ir_text.specs.Tokens.{IsTokenAt, NumberFits, FitsSigned128}
use Rattle.ir_text.specs.declared.token.TokenKind.{TokenKind}
use Rattle.ir_text.specs.declared.token.TokenKind.TheVariants.{Word, Label, Numeral, Local, Global, Sign}
use Rattle.ir_lex.specs.Lengths.{word_len, name_len, signed_len}
use Rattle.ir_lex.specs.FirstToken.{begins_label, begins_dots, quoted_len, fits_signed}
use Rattle.ir_lex.proofs.BytesApart.{IsNoSigil, begins_word-no_sigil, digit-no_sigil, sign-no_sigil, sign-alone, digit-no_word, digit-no_quote, no_word-no_c}
use Rattle.ir_lex.proofs.Runs.{head_passes}
use Rattle.ir_lex.proofs.LongestWord.{is_word-nil, word-parts, word_len-none, word_len-whole, word_len-le}
use Rattle.ir_lex.proofs.LongestNumber.{signed-nil, signed-cases, number-first, number_len-none, signed_len-plain, signed_len-whole, signed_len-le}
use Rattle.ir_lex.proofs.LongestString.{string_len-none}
use Rattle.ir_lex.proofs.LongestName.{word-no_number, name_len-none, name_len-word, name_len-le, name_len-whole, quote-no_word, stop-digit}
use Rattle.ir_lex.proofs.Fits.{fits_signed-is}
use Rattle.ir_lex.proofs.Forms.{some_word, label-begins}
use Rattle.ir_lex.proofs.SigilForms.{label-colon, quoted_len-other}
use Rattle.ir_lex.proofs.LongestPlain.{IsOther, IsQuotedOf, quote, behind_c, quoted-first, c_word_len, dots-parts, only_label, only_word, only_numeral, only_sign}
use Rattle.ir_lex.proofs.LongestForm.{IsToken, found}
use Rattle.ir_lex.proofs.SigilTokens.{local-form, local-only, global-form, global-fits, global-only}
use Rattle.ir_lex.proofs.FirstTokenIsRight.{all_plain, label-text, label-form, word-form, word-fits, numeral-form, numeral-fits, sign-form, sign-fits}

-- a blank, or one of `( ) , ] [ { } = < >`
abbrev pub is_stop : ℕ → Bool
is_stop b = list_any (λ c. c == b) (32 ∷ 9 ∷ 13 ∷ 10 ∷ codes "(),][{}=<>")

-- nothing, or a text that begins with a stop
abbrev pub Stops : List ℕ → Type 0
Stops [] = Unit {0}
Stops (b ∷ bs) = IsTrue (is_stop b)

-- what a stop is not
record EndsPlain (next : List ℕ) : Type 0 where
  no_word : head_passes goes_on_word next ≡ false
  no_colon : get_or next 0 0 ≡ 58 → ⊥
  no_quote : get_or next 0 0 ≡ 34 → ⊥
  no_dot : get_or next 0 0 ≡ 46 → ⊥

stop_no_word : (b : ℕ) → is_stop b ≡ true → goes_on_word b ≡ false
unfolding goes_on_word begins_word is_letter is_digit
stop_no_word b h = grind (arith, nat_tests)

ends_plain : (next : List ℕ) → Stops next → EndsPlain next
ends_plain [] stops =
    record { no_word = refl; no_colon = λ e. omega arith; no_quote = λ e. omega arith; no_dot = λ e. omega arith }
ends_plain (b ∷ bs) stops =
    record {
      no_word = stop_no_word b stops;
      no_colon = λ e. grind (arith, nat_tests);
      no_quote = λ e. grind (arith, nat_tests);
      no_dot = λ e. grind (arith, nat_tests);
    }

-- the byte behind a prefix
behind : (w next : List ℕ) (n : ℕ) → n ≡ length w → get_or (w ++ next) n 0 ≡ get_or next 0 0
behind w next n is = ap (λ k. get_or (w ++ next) k 0) (is ∙ sym (add-zero (length w))) ∙ get_or-append-add w next 0 0

-- the token at the start, as its text and the rest
at_start : (s : List ℕ) (kind : TokenKind) (n : ℕ) (w next : List ℕ)
    → s ≡ w ++ next
    → n ≡ length w
    → IsToken s kind n
    → IsTokenAt kind w next
at_start s kind n w next e is token =
    let text : take n s ≡ w = ap (λ l. take n l) e ∙ take_at w next n (sym is) in
    let rest : drop n s ≡ next = ap (λ l. drop n l) e ∙ drop_at w next n (sym is) in
    subst (λ l. IsTokenAt kind w l) rest (subst (λ l. IsTokenAt kind l (drop n s)) text token.token)

-- where a word ends, no label ends
word-no_label : (b : ℕ) (bs next : List ℕ)
    → is_word (b ∷ bs) ≡ true
    → EndsPlain next
    → begins_label (b ∷ (bs ++ next)) ≡ true
    → ⊥
word-no_label b bs next h ends label =
    let is : name_len (b ∷ (bs ++ next)) ≡ suc (length bs) =
    name_len-word b (bs ++ next) (word-parts b bs h).begins ∙ word_len-whole (b ∷ bs) next h ends.no_word in
    ends.no_colon
    (sym (behind (b ∷ bs) next (name_len (b ∷ (bs ++ next))) is) ∙ (label-colon (b ∷ (bs ++ next)) label).1)

-- nor does a string begin
word-no_string : (b : ℕ) (bs next : List ℕ)
    → is_word (b ∷ bs) ≡ true
    → EndsPlain next
    → IsQuotedOf (b ∷ (bs ++ next))
    → ⊥
word-no_string b bs next h ends (quote cs e is some) =
    let whole = word_len-whole (b ∷ bs) next h ends.no_word in
    omega (arith, ap word_len e, word_len-none 34 cs quote-no_word)
word-no_string b bs next h ends (behind_c cs e some) =
    let whole = word_len-whole (b ∷ bs) next h ends.no_word in
    let one : 1 ≡ suc (length bs) = omega (arith, ap word_len e, c_word_len cs) in
    ends.no_quote (sym (behind (b ∷ bs) next 1 one) ∙ ap (λ l. get_or l 1 0) e)

-- nor do three dots
word-no_dots : (b : ℕ) (bs next : List ℕ)
    → is_word (b ∷ bs) ≡ true
    → EndsPlain next
    → begins_dots (b ∷ (bs ++ next)) ≡ true
    → ⊥
word-no_dots b bs next h ends dotted =
    let whole = word_len-whole (b ∷ bs) next h ends.no_word in
    let parts = dots-parts (b ∷ (bs ++ next)) dotted in
    let two : 2 ≡ suc (length bs) = omega (arith, parts.0) in
    ends.no_dot (sym (behind (b ∷ bs) next 2 two) ∙ ap (λ l. get_or l 2 0) parts.1)

word_token : (b : ℕ) (bs next : List ℕ)
    → is_word (b ∷ bs) ≡ true
    → EndsPlain next
    → IsTokenAt Word (b ∷ bs) next
word_token b bs next h ends =
    let s = b ∷ (bs ++ next) in
    let sigil = begins_word-no_sigil b (word-parts b bs h).begins in
    let whole : word_len s ≡ suc (length bs) = word_len-whole (b ∷ bs) next h ends.no_word in
    let some : 0 < word_len s = omega arith in
    let no_label = false_from_ne_true _ (word-no_label b bs next h ends) in
    let no_dots = false_from_ne_true _ (word-no_dots b bs next h ends) in
    let no_quoted : quoted_len s ≡ 0 =
    ⊎_elim (λ (q : 0 < quoted_len s). absurd (word-no_string b bs next h ends (quoted-first s q)))
    (λ (q : quoted_len s ≤ 0). omega arith) (cases_lt 0 (quoted_len s)) in
    at_start s Word (word_len s) (b ∷ bs) next refl whole
    (found s Word (word_len s) (word_len-le s) (word-form s some) (word-fits _)
    (all_plain b (bs ++ next) sigil (word_len s) Word (only_word s no_label no_quoted no_dots some)))

pub Word-token : (w next : List ℕ)
    → IsTrue (is_word w)
    → Stops next
    → IsTokenAt Word w next
Word-token [] next h stops = absurd (false≢true (sym is_word-nil ∙ h))
Word-token (b ∷ bs) next h stops = word_token b bs next h (ends_plain next stops)

-- the word is the longest name
word_name : (w next : List ℕ)
    → is_word w ≡ true
    → Stops next
    → name_len (w ++ next) ≡ length w
word_name w next h stops = name_len-whole w next (inl h) (ends_plain next stops).no_word

local_fits : (w name : List ℕ)
    → is_word w ≡ true
    → name ≡ w
    → NumberFits Local (37 ∷ name)
unfolding NumberFits
local_fits w name h is other same number =
    absurd (word-no_number w h (rw (ap (λ l. drop 1 l) (sym same) ∙ is) at number))

pub Local-token : (w next : List ℕ)
    → IsTrue (is_word w)
    → Stops next
    → IsTokenAt Local (37 ∷ w) next
Local-token w next h stops =
    let bs = w ++ next in
    let is = word_name w next h stops in
    let some : 0 < name_len bs = omega (arith, some_word w h) in
    at_start (37 ∷ bs) Local (suc (name_len bs)) (37 ∷ w) next refl (ap suc is)
    (found (37 ∷ bs) Local (suc (name_len bs)) (omega (arith, name_len-le bs)) (local-form bs some)
    (local_fits w _ h (take_at w next (name_len bs) (sym is))) (local-only bs))

pub Global-token : (w next : List ℕ)
    → IsTrue (is_word w)
    → Stops next
    → IsTokenAt Global (64 ∷ w) next
Global-token w next h stops =
    let bs = w ++ next in
    let is = word_name w next h stops in
    let some : 0 < name_len bs = omega (arith, some_word w h) in
    at_start (64 ∷ bs) Global (suc (name_len bs)) (64 ∷ w) next refl (ap suc is)
    (found (64 ∷ bs) Global (suc (name_len bs)) (omega (arith, name_len-le bs)) (global-form bs some) (global-fits _)
    (global-only bs))

-- the first byte of a signed number, and that no label and no string begin there
record BeginsNumeral (b : ℕ) (s : List ℕ) : Type 0 where
  sigil : IsNoSigil b
  other : IsOther s

other_from : (b : ℕ) (bs : List ℕ)
    → begins_word b ≡ false
    → eqb b 34 ≡ false
    → (begins_label (b ∷ bs) ≡ true → ⊥)
    → IsOther (b ∷ bs)
other_from b bs no_word no_quote no_label = record {
  no_label = false_from_ne_true _ no_label;
  no_quoted = quoted_len-other b bs (no_word-no_c b no_word) ∙ string_len-none b bs no_quote;
  no_word = word_len-none b bs no_word;
}

-- where no name begins, no label does
no_name-no_label : (s : List ℕ)
    → name_len s ≡ 0
    → begins_label s ≡ true
    → ⊥
no_name-no_label s none label = omega (arith, (label-colon s label).0)

number-no_label : (b : ℕ) (bs next : List ℕ)
    → is_number (b ∷ bs) ≡ true
    → EndsPlain next
    → begins_label (b ∷ (bs ++ next)) ≡ true
    → ⊥
number-no_label b bs next h ends label =
    let is : name_len (b ∷ (bs ++ next)) ≡ suc (length bs) = name_len-whole (b ∷ bs) next (inr (inl h)) ends.no_word in
    ends.no_colon
    (sym (behind (b ∷ bs) next (name_len (b ∷ (bs ++ next))) is) ∙ (label-colon (b ∷ (bs ++ next)) label).1)

minus-no_name : (bs : List ℕ) → name_len (45 ∷ bs) ≡ 0
unfolding begins_word is_letter is_digit
minus-no_name bs = name_len-none 45 bs refl refl refl

minus-no_word : begins_word 45 ≡ false
unfolding begins_word is_letter
minus-no_word = refl

minus-no_sigil : IsNoSigil 45
minus-no_sigil = record {
  percent = λ e. omega arith;
  at_sign = λ e. omega arith;
  bang = λ e. omega arith;
  hash = λ e. omega arith;
}

minus_begins : (bs : List ℕ) → BeginsNumeral 45 (45 ∷ bs)
minus_begins bs = record {
  sigil = minus-no_sigil;
  other = other_from 45 bs minus-no_word refl (no_name-no_label (45 ∷ bs) (minus-no_name bs));
}

numeral_begins : (b : ℕ) (bs next : List ℕ)
    → is_signed_number (b ∷ bs) ≡ true
    → EndsPlain next
    → BeginsNumeral b (b ∷ (bs ++ next))
numeral_begins b bs next h ends =
    ⊎_elim
    (λ (plain : is_number (b ∷ bs) ≡ true).
    let digit = number-first b bs plain in
    record {
      sigil = digit-no_sigil b digit;
      other = other_from b (bs ++ next) (digit-no_word b digit) (digit-no_quote b digit)
          (number-no_label b bs next plain ends);
    })
    (λ (minus : (b ≡ 45) × (is_number bs ≡ true)). rw minus.0 (minus_begins (bs ++ next)))
    (signed-cases b bs h)

pub Numeral-token : (text next : List ℕ)
    → IsTrue (is_signed_number text)
    → FitsSigned128 (signed_digits_value 10 text)
    → Stops next
    → IsTokenAt Numeral text next
Numeral-token [] next h fits stops = absurd (false≢true (sym signed-nil ∙ h))
Numeral-token (b ∷ bs) next h fits stops =
    let s = b ∷ (bs ++ next) in
    let ends = ends_plain next stops in
    let begins = numeral_begins b bs next h ends in
    let whole : signed_len s ≡ suc (length bs) =
    signed_len-whole (b ∷ bs) next (record { number = h; stops = stop-digit next ends.no_word }) in
    let some : 0 < signed_len s = omega arith in
    let text : take (signed_len s) s ≡ b ∷ bs = take_at (b ∷ bs) next (signed_len s) (sym whole) in
    at_start s Numeral (signed_len s) (b ∷ bs) next refl whole
    (found s Numeral (signed_len s) (signed_len-le s)
    (numeral-form s some (ap fits_signed text ∙ (fits_signed-is (b ∷ bs) h).1 fits)) (numeral-fits _)
    (all_plain b (bs ++ next) begins.sigil (signed_len s) Numeral (only_numeral s begins.other some)))

label_fits : (w text : List ℕ)
    → is_word w ≡ true
    → text ≡ w ++ 58 ∷ []
    → NumberFits Label text
unfolding NumberFits
label_fits w text h is name same number =
    absurd (word-no_number w h (rw ((same_from_push name w 58 58 (sym same ∙ is)).0) at number))

pub Label-token : (w next : List ℕ) → IsTrue (is_word w) → IsTokenAt Label (w ++ 58 ∷ []) next
Label-token [] next h = absurd (false≢true (sym is_word-nil ∙ h))
Label-token (b ∷ bs) next h =
    let s = b ∷ (bs ++ (58 ∷ next)) in
    let sigil = begins_word-no_sigil b (word-parts b bs h).begins in
    let begins = label-begins (b ∷ bs) next (inl h) in
    let size : name_len s + 1 ≡ length ((b ∷ bs) ++ 58 ∷ []) =
    ap (λ n. n + 1) begins.1 ∙ sym (length-append (b ∷ bs) (58 ∷ [])) in
    let text : take (name_len s + 1) s ≡ (b ∷ bs) ++ 58 ∷ [] =
    (label-text s begins.0).1 ∙ ap (λ l. l ++ 58 ∷ []) (take_at (b ∷ bs) (58 ∷ next) (name_len s) (sym begins.1)) in
    at_start s Label (name_len s + 1) ((b ∷ bs) ++ 58 ∷ []) next (sym (append_assoc (b ∷ bs) (58 ∷ []) next)) size
    (found s Label (name_len s + 1) (omega (arith, (label-text s begins.0).0)) (label-form s begins.0)
    (label_fits (b ∷ bs) _ h text)
    (all_plain b (bs ++ (58 ∷ next)) sigil (name_len s + 1) Label (only_label s begins.0)))

pub Sign-token : (b : ℕ) (next : List ℕ) → IsTrue (is_sign b) → IsTokenAt (Sign b) (b ∷ []) next
Sign-token b next h =
    let s = b ∷ next in
    let alone = sign-alone b h in
    let other =
    other_from b next alone.word alone.quote
    (no_name-no_label s (name_len-none b next alone.word alone.digit alone.quote)) in
    let none = signed_len-plain b next alone.minus ∙ number_len-none b next alone.digit in
    at_start s (Sign b) 1 (b ∷ []) next refl refl
    (found s (Sign b) 1 (omega arith) (sign-form b next h) (sign-fits b _)
    (all_plain b next (sign-no_sigil b h) 1 (Sign b) (only_sign b next other none)))
