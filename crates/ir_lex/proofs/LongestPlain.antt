-- Which form is the longest where a text begins with no sigil: any other is shorter.
use Rattle.std.proofs.Common.{ℕ, ◌≡◌, ◌+◌, ◌<◌, ◌≤◌, true, false, eqb, List, [], ◌∷◌, ◌++◌, get_or, take, drop, refl, sym, ap, ◌∙◌, ⊎_elim, ◌⊎◌, inl, inr, arith, take-append-drop}
use Rattle.std.proofs.lemmas.Bool.{and_parts, and_from, cond-true, eqb-true, eq-eqb, cases_Bool, cases_lt, false≢true}
use Rattle.std.proofs.lemmas.Slice.Eq.{bytes_eq-Decides}
use Rattle.ir_text.specs.Bytes.{is_letter, is_digit, begins_word, goes_on_word, is_sign}
use Rattle.ir_text.specs.Names.{dots, is_word}
use Rattle.ir_text.specs.declared.token.TokenKind.{TokenKind}
use Rattle.ir_text.specs.declared.token.TokenKind.TheVariants.{Word, Label, Numeral, Quoted, Sign, Dots}
use Rattle.ir_lex.specs.Lengths.{word_len, string_len, name_len, signed_len}
use Rattle.ir_lex.specs.FirstToken.{begins_label, begins_dots, quoted_len, fits_signed}
use Rattle.ir_lex.proofs.BytesApart.{begins_word-no_digit, begins_word-no_minus, begins_word-no_sign, digit-no_sign}
use Rattle.ir_lex.proofs.LongestWord.{word_len-none, word_len-whole, word_len-dots}
use Rattle.ir_lex.proofs.LongestNumber.{number_len-none, signed_len-plain, signed_len-nil}
use Rattle.ir_lex.proofs.LongestString.{string_len-two}
use Rattle.ir_lex.proofs.LongestName.{name_len-parts, name_len-none, name_len-word, quote-no_digit, quote-no_word}
use Rattle.ir_lex.proofs.Forms.{PlainAt, as_word, as_label, as_numeral, as_quoted, as_sign, as_dots, quoted_len-c}
use Rattle.ir_lex.proofs.SigilForms.{dot_begins, heads, label-colon, quoted_len-other}

-- A form of n bytes is shorter than this one of N bytes, or has its kind and its length.
abbrev pub IsBeaten : ℕ → TokenKind → ℕ → TokenKind → Type 0
IsBeaten n kind N K = (n < N) ⊎ ((kind ≡ K) × (n ≡ N))

minus_no_name : (bs : List ℕ) → name_len (45 ∷ bs) ≡ 0
unfolding begins_word is_letter is_digit
minus_no_name bs = name_len-none 45 bs refl refl refl

-- where a name begins, a number has no sign
signed-name : (s : List ℕ) → 0 < name_len s → signed_len s ≤ name_len s
signed-name [] h = omega (arith, signed_len-nil)
signed-name (b ∷ bs) h =
    ⊎_elim
    (λ (e : eqb b 45 ≡ true).
    let none : name_len (b ∷ bs) ≡ 0 = rw (eqb-true b 45 e) (minus_no_name bs) in
    omega arith)
    (λ (e : eqb b 45 ≡ false). omega (arith, signed_len-plain b bs e, name_len-parts (b ∷ bs)))
    (cases_Bool (eqb b 45))

pub quoted_len-c_none : (bs : List ℕ) → string_len bs ≡ 0 → quoted_len (99 ∷ bs) ≡ 0
unfolding quoted_len
quoted_len-c_none bs h = cond-true _ _ _ (eq-eqb (string_len bs) 0 h)

pub quoted_len-nil : quoted_len [] ≡ 0
unfolding quoted_len
quoted_len-nil = refl

-- a quote, or a `c` and a quote
pub data IsQuotedOf (s : List ℕ) : Type 0 where
  quote : (bs : List ℕ)
      → s ≡ 34 ∷ bs
      → quoted_len s ≡ string_len s
      → 1 < quoted_len s
      → IsQuotedOf s
  behind_c : (bs : List ℕ)
      → s ≡ 99 ∷ 34 ∷ bs
      → 1 < quoted_len s
      → IsQuotedOf s

quoted_c : (bs : List ℕ) → 0 < quoted_len (99 ∷ bs) → IsQuotedOf (99 ∷ bs)
quoted_c bs h =
    ⊎_elim
    (λ (some : 0 < string_len bs).
    let two = string_len-two bs some in
    let is = quoted_len-c bs some in
    behind_c two.0 (ap (λ l. 99 ∷ l) two.1) (omega arith))
    (λ (none : string_len bs ≤ 0). absurd (omega (arith, quoted_len-c_none bs (omega arith))))
    (cases_lt 0 (string_len bs))

pub quoted-first : (s : List ℕ) → 0 < quoted_len s → IsQuotedOf s
quoted-first [] h = absurd (omega (arith, quoted_len-nil))
quoted-first (b ∷ bs) h =
    ⊎_elim
    (λ (e : eqb b 99 ≡ true). let c = eqb-true b 99 e in rw c (quoted_c bs (rw c at h)))
    (λ (e : eqb b 99 ≡ false).
    let is = quoted_len-other b bs e in
    let two = string_len-two (b ∷ bs) (omega arith) in
    quote two.0 two.1 is (omega arith))
    (cases_Bool (eqb b 99))

c_is_word : is_word (99 ∷ []) ≡ true
unfolding is_word begins_word is_letter goes_on_word
c_is_word = refl

c_begins : begins_word 99 ≡ true
unfolding begins_word is_letter
c_begins = refl

quote_stops : goes_on_word 34 ≡ false
unfolding goes_on_word begins_word is_letter is_digit
quote_stops = refl

-- before a quote, the word is `c` alone
pub c_word_len : (bs : List ℕ) → word_len (99 ∷ 34 ∷ bs) ≡ 1
c_word_len bs = word_len-whole (99 ∷ []) (34 ∷ bs) c_is_word quote_stops

quoted_label_by : (s : List ℕ)
    → begins_label s ≡ true
    → IsQuotedOf s
    → quoted_len s ≤ name_len s
quoted_label_by s h (quote bs e is some) = omega (arith, name_len-parts s)
quoted_label_by s h (behind_c bs e some) =
    let colon = label-colon s h in
    let one : name_len s ≡ 1 = rw e (name_len-word 99 (34 ∷ bs) c_begins ∙ c_word_len bs) in
    let next : get_or s 1 0 ≡ 34 = rw e refl in
    let found : get_or s 1 0 ≡ 58 = rw one at colon.1 in
    absurd (omega arith)

quoted-label : (s : List ℕ) → begins_label s ≡ true → quoted_len s ≤ name_len s
quoted-label s h =
    ⊎_elim
    (λ (some : 0 < quoted_len s). quoted_label_by s h (quoted-first s some))
    (λ (none : quoted_len s ≤ 0). omega arith)
    (cases_lt 0 (quoted_len s))

dots-label : (s rest : List ℕ)
    → begins_label s ≡ true
    → s ≡ dots ++ rest
    → 4 ≤ name_len s
dots-label s rest h e =
    let colon = label-colon s h in
    let is : name_len s ≡ word_len (dots ++ rest) = rw e (name_len-word 46 (46 ∷ 46 ∷ rest) dot_begins) in
    ⊎_elim
    (λ (two : word_len (dots ++ rest) ≡ 2).
    let third : get_or s 2 0 ≡ 46 = rw e refl in
    let size : name_len s ≡ 2 = is ∙ two in
    let found : get_or s 2 0 ≡ 58 = rw size at colon.1 in
    absurd (omega arith))
    (λ (long : 4 ≤ word_len (dots ++ rest)). omega arith)
    (word_len-dots rest)

pub only_label : (s : List ℕ)
    → begins_label s ≡ true
    → (n : ℕ) (kind : TokenKind)
    → PlainAt s n kind
    → IsBeaten n kind (name_len s + 1) Label
only_label s h n _ (as_word some le) = inl (omega (arith, name_len-parts s))
only_label s h n _ (as_label begins is) = inr (refl, is)
only_label s h n _ (as_numeral some is fits) = inl (omega (arith, signed-name s (label-colon s h).0))
only_label s h n _ (as_quoted some is) = inl (omega (arith, quoted-label s h))
only_label s h n _ (as_sign bs e is_sign_b one) = inl (omega (arith, (label-colon s h).0))
only_label s h n _ (as_dots rest e three) = inl (omega (arith, dots-label s rest h e))

both : (s : List ℕ)
    → begins_label s ≡ false
    → begins_label s ≡ true
    → ⊥
both s absent begins = false≢true (sym absent ∙ begins)

c-no_digit : is_digit 99 ≡ false
unfolding is_digit
c-no_digit = refl

quoted_by : (s : List ℕ)
    → begins_label s ≡ false
    → IsQuotedOf s
    → (n : ℕ) (kind : TokenKind)
    → PlainAt s n kind
    → IsBeaten n kind (quoted_len s) Quoted
quoted_by s no_label (quote bs e is some) n _ (as_word more le) =
    let none : word_len s ≡ 0 = rw e (word_len-none 34 bs quote-no_word) in inl (omega arith)
quoted_by s no_label (quote bs e is some) n _ (as_label begins long) = absurd (both s no_label begins)
quoted_by s no_label (quote bs e is some) n _ (as_numeral more long fits) =
    let none : signed_len s ≡ 0 = rw e (signed_len-plain 34 bs refl ∙ number_len-none 34 bs quote-no_digit) in
    inl (omega arith)
quoted_by s no_label (quote bs e is some) n _ (as_quoted more long) = inr (refl, long)
quoted_by s no_label (quote bs e is some) n _ (as_sign cs f is_sign_b one) = inl (omega arith)
quoted_by s no_label (quote bs e is some) n _ (as_dots rest f three) =
    absurd (let h = heads _ _ _ _ (sym e ∙ f) in omega arith)
quoted_by s no_label (behind_c bs e some) n _ (as_word more le) =
    let one : word_len s ≡ 1 = rw e (c_word_len bs) in inl (omega arith)
quoted_by s no_label (behind_c bs e some) n _ (as_label begins long) = absurd (both s no_label begins)
quoted_by s no_label (behind_c bs e some) n _ (as_numeral more long fits) =
    let none : signed_len s ≡ 0 = rw e (signed_len-plain 99 (34 ∷ bs) refl ∙ number_len-none 99 (34 ∷ bs) c-no_digit) in
    inl (omega arith)
quoted_by s no_label (behind_c bs e some) n _ (as_quoted more long) = inr (refl, long)
quoted_by s no_label (behind_c bs e some) n _ (as_sign cs f is_sign_b one) = inl (omega arith)
quoted_by s no_label (behind_c bs e some) n _ (as_dots rest f three) =
    absurd (let h = heads _ _ _ _ (sym e ∙ f) in omega arith)

pub only_quoted : (s : List ℕ)
    → begins_label s ≡ false
    → 0 < quoted_len s
    → (n : ℕ) (kind : TokenKind)
    → PlainAt s n kind
    → IsBeaten n kind (quoted_len s) Quoted
only_quoted s no_label h n kind p = quoted_by s no_label (quoted-first s h) n kind p

-- a word of two bytes, and three dots
pub dots-parts : (s : List ℕ) → begins_dots s ≡ true → (word_len s ≡ 2) × (s ≡ dots ++ drop 3 s)
unfolding begins_dots
dots-parts s h =
    let parts = and_parts _ _ h in
    let prefix : dots ≡ take 3 s = (bytes_eq-Decides dots (take 3 s)).0 parts.1 in
    (eqb-true _ _ parts.0, sym (take-append-drop 3 s) ∙ ap (λ l. l ++ drop 3 s) (sym prefix))

dots-from : (s rest : List ℕ)
    → s ≡ dots ++ rest
    → word_len s ≡ 2
    → begins_dots s ≡ true
unfolding begins_dots
dots-from s rest e two = and_from _ _ (eq-eqb _ _ two) (rw e refl)

-- where a word begins, its first byte begins it
pub word-first : (b : ℕ) (bs : List ℕ) → 0 < word_len (b ∷ bs) → begins_word b ≡ true
word-first b bs h =
    ⊎_elim (λ (e : begins_word b ≡ true). e)
    (λ (e : begins_word b ≡ false). absurd (omega (arith, word_len-none b bs e))) (cases_Bool (begins_word b))

word-no_numeral : (s : List ℕ) → 0 < word_len s → signed_len s ≡ 0
word-no_numeral [] h = signed_len-nil
word-no_numeral (b ∷ bs) h =
    let begins = word-first b bs h in
    signed_len-plain b bs (begins_word-no_minus b begins) ∙ number_len-none b bs (begins_word-no_digit b begins)

pub only_dots : (s : List ℕ)
    → begins_label s ≡ false
    → quoted_len s ≡ 0
    → begins_dots s ≡ true
    → (n : ℕ) (kind : TokenKind)
    → PlainAt s n kind
    → IsBeaten n kind 3 Dots
only_dots s no_label no_quoted h n _ (as_word some le) = let two = (dots-parts s h).0 in inl (omega arith)
only_dots s no_label no_quoted h n _ (as_label begins is) = absurd (both s no_label begins)
only_dots s no_label no_quoted h n _ (as_numeral some is fits) =
    let none = word-no_numeral s (omega (arith, (dots-parts s h).0)) in inl (omega arith)
only_dots s no_label no_quoted h n _ (as_quoted some is) = absurd (omega arith)
only_dots s no_label no_quoted h n _ (as_sign bs e is_sign_b one) = inl (omega arith)
only_dots s no_label no_quoted h n _ (as_dots rest e three) = inr (refl, three)

pub only_word : (s : List ℕ)
    → begins_label s ≡ false
    → quoted_len s ≡ 0
    → begins_dots s ≡ false
    → 0 < word_len s
    → (n : ℕ) (kind : TokenKind)
    → PlainAt s n kind
    → IsBeaten n kind (word_len s) Word
only_word s no_label no_quoted no_dots h n _ (as_word some le) =
    ⊎_elim (λ (short : n < word_len s). inl short) (λ (long : word_len s ≤ n). inr (refl, omega arith))
    (cases_lt n (word_len s))
only_word s no_label no_quoted no_dots h n _ (as_label begins is) = absurd (both s no_label begins)
only_word s no_label no_quoted no_dots h n _ (as_numeral some is fits) = absurd (omega (arith, word-no_numeral s h))
only_word s no_label no_quoted no_dots h n _ (as_quoted some is) = absurd (omega arith)
only_word s no_label no_quoted no_dots h n _ (as_sign {b} bs e is_sign_b one) =
    absurd (false≢true (sym (begins_word-no_sign b (word-first b bs (rw e at h))) ∙ is_sign_b))
only_word s no_label no_quoted no_dots h n _ (as_dots rest e three) =
    ⊎_elim
    (λ (two : word_len (dots ++ rest) ≡ 2). absurd
    (false≢true (sym no_dots ∙ dots-from s rest e (ap word_len e ∙ two))))
    (λ (long : 4 ≤ word_len (dots ++ rest)). inl (omega (arith, ap word_len e)))
    (word_len-dots rest)

-- what is left: no name, no string and no dots
pub record IsOther (s : List ℕ) : Type 0 where
  pub no_label : begins_label s ≡ false
  pub no_quoted : quoted_len s ≡ 0
  pub no_word : word_len s ≡ 0

dots-word : (s rest : List ℕ)
    → s ≡ dots ++ rest
    → word_len s ≡ 0
    → ⊥
dots-word s rest e none =
    let is = ap word_len e in
    ⊎_elim (λ (two : word_len (dots ++ rest) ≡ 2). omega arith) (λ (long : 4 ≤ word_len (dots ++ rest)). omega arith)
    (word_len-dots rest)

minus-no_sign : is_sign 45 ≡ false
unfolding is_sign
minus-no_sign = refl

-- no sign begins a numeral
signed-no_sign : (b : ℕ) (bs : List ℕ) → 0 < signed_len (b ∷ bs) → is_sign b ≡ false
signed-no_sign b bs h =
    ⊎_elim
    (λ (e : eqb b 45 ≡ true). rw (eqb-true b 45 e) minus-no_sign)
    (λ (e : eqb b 45 ≡ false).
    let is = signed_len-plain b bs e in
    ⊎_elim
    (λ (d : is_digit b ≡ true). digit-no_sign b d)
    (λ (d : is_digit b ≡ false). absurd (omega (arith, number_len-none b bs d)))
    (cases_Bool (is_digit b)))
    (cases_Bool (eqb b 45))

pub only_numeral : (s : List ℕ)
    → IsOther s
    → 0 < signed_len s
    → (n : ℕ) (kind : TokenKind)
    → PlainAt s n kind
    → IsBeaten n kind (signed_len s) Numeral
only_numeral s other h n _ (as_word some le) = absurd (omega (arith, other.no_word))
only_numeral s other h n _ (as_label begins is) = absurd (both s other.no_label begins)
only_numeral s other h n _ (as_numeral some is fits) = inr (refl, is)
only_numeral s other h n _ (as_quoted some is) = absurd (omega (arith, other.no_quoted))
only_numeral s other h n _ (as_sign {b} bs e is_sign_b one) =
    absurd (false≢true (sym (signed-no_sign b bs (rw e at h)) ∙ is_sign_b))
only_numeral s other h n _ (as_dots rest e three) = absurd (dots-word s rest e other.no_word)

pub only_unfit : (s : List ℕ)
    → IsOther s
    → 0 < signed_len s
    → fits_signed (take (signed_len s) s) ≡ false
    → (n : ℕ) (kind : TokenKind)
    → PlainAt s n kind
    → ⊥
only_unfit s other h unfit n _ (as_word some le) = omega (arith, other.no_word)
only_unfit s other h unfit n _ (as_label begins is) = both s other.no_label begins
only_unfit s other h unfit n _ (as_numeral some is fits) =
    false≢true (sym unfit ∙ ap (λ k. fits_signed (take k s)) (sym is) ∙ fits)
only_unfit s other h unfit n _ (as_quoted some is) = omega (arith, other.no_quoted)
only_unfit s other h unfit n _ (as_sign {b} bs e is_sign_b one) =
    false≢true (sym (signed-no_sign b bs (rw e at h)) ∙ is_sign_b)
only_unfit s other h unfit n _ (as_dots rest e three) = dots-word s rest e other.no_word

pub only_sign : (b : ℕ) (bs : List ℕ)
    → IsOther (b ∷ bs)
    → signed_len (b ∷ bs) ≡ 0
    → (n : ℕ) (kind : TokenKind)
    → PlainAt (b ∷ bs) n kind
    → IsBeaten n kind 1 (Sign b)
only_sign b bs other h n _ (as_word some le) = absurd (omega (arith, other.no_word))
only_sign b bs other h n _ (as_label begins is) = absurd (both (b ∷ bs) other.no_label begins)
only_sign b bs other h n _ (as_numeral some is fits) = absurd (omega arith)
only_sign b bs other h n _ (as_quoted some is) = absurd (omega (arith, other.no_quoted))
only_sign b bs other h n _ (as_sign cs e is_sign_b one) = inr (ap Sign (sym (heads _ _ _ _ e)), one)
only_sign b bs other h n _ (as_dots rest e three) = absurd (dots-word (b ∷ bs) rest e other.no_word)

pub only_none : (b : ℕ) (bs : List ℕ)
    → IsOther (b ∷ bs)
    → signed_len (b ∷ bs) ≡ 0
    → is_sign b ≡ false
    → (n : ℕ) (kind : TokenKind)
    → PlainAt (b ∷ bs) n kind
    → ⊥
only_none b bs other h no_sign n _ (as_word some le) = omega (arith, other.no_word)
only_none b bs other h no_sign n _ (as_label begins is) = both (b ∷ bs) other.no_label begins
only_none b bs other h no_sign n _ (as_numeral some is fits) = omega arith
only_none b bs other h no_sign n _ (as_quoted some is) = omega (arith, other.no_quoted)
only_none b bs other h no_sign n _ (as_sign cs e is_sign_c one) =
    false≢true (sym no_sign ∙ ap is_sign (heads _ _ _ _ e) ∙ is_sign_c)
only_none b bs other h no_sign n _ (as_dots rest e three) = dots-word (b ∷ bs) rest e other.no_word
