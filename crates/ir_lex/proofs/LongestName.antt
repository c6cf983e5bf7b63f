-- The longest name, and what may stand behind a `!` or a `#`, at the start of a text.
use Rattle.std.proofs.Common.{ℕ, ◌≡◌, ◌<◌, ◌≤◌, true, false, eqb, List, [], ◌∷◌, ◌++◌, length, take, drop, refl, sym, ap, ◌∙◌, ⊎_elim, ◌⊎◌, inl, inr, arith}
use Rattle.std.specs.Prelude.{IsTrue}
use Rattle.std.proofs.lemmas.Bool.{or_parts, cases_lt, false≢true}
use Rattle.ir_text.specs.Bytes.{is_letter, is_digit, begins_word, goes_on_word}
use Rattle.ir_text.specs.Names.{is_word, is_number, is_signed_number, IsString, IsName}
use Rattle.ir_text.specs.Tokens.{begins_with_digit, NoDigitFollows}
use Rattle.ir_lex.specs.Lengths.{word_len, number_len, string_len, name_len, signed_len, tag_len}
use Rattle.ir_lex.proofs.BytesApart.{begins_word-no_digit, begins_word-no_quote, digit-no_word, digit-no_quote}
use Rattle.ir_lex.proofs.Runs.{head_passes}
use Rattle.ir_lex.proofs.LongestWord.{word-parts, is_word-nil, word_len-none, word_len-le, word_len-is, word_len-most, word_len-whole}
use Rattle.ir_lex.proofs.LongestNumber.{is_number-nil, number-first, number_len-le, number_len-is, number_len-whole, number_len-none, signed_len-le, signed_len-is, signed_len-whole}
use Rattle.ir_lex.proofs.LongestString.{string_len-none, string_len-le, string_len-is, string_len-whole}

-- a word is no number
pub word-no_number : (w : List ℕ)
    → is_word w ≡ true
    → is_number w ≡ true
    → ⊥
word-no_number [] w n = false≢true (sym is_word-nil ∙ w)
word-no_number (b ∷ bs) w n = false≢true (sym (begins_word-no_digit b (word-parts b bs w).begins) ∙ number-first b bs n)

pub quote-no_digit : is_digit 34 ≡ false
unfolding is_digit
quote-no_digit = refl

pub quote-no_word : begins_word 34 ≡ false
unfolding begins_word is_letter
quote-no_word = refl

-- nor is a string
pub string-no_number : (w : List ℕ)
    → IsString w
    → is_number w ≡ true
    → ⊥
string-no_number w s n =
    let first : is_number (34 ∷ (s.0 ++ 34 ∷ [])) ≡ true = rw s.1 at n in
    false≢true (sym quote-no_digit ∙ number-first 34 _ first)

pub name_len-le : (s : List ℕ) → name_len s ≤ length s
unfolding name_len
name_len-le s = omega (arith, word_len-le s, number_len-le s, string_len-le s)

pub name_len-parts : (s : List ℕ)
    → (word_len s ≤ name_len s) × (number_len s ≤ name_len s) × (string_len s ≤ name_len s)
unfolding name_len
name_len-parts s = (omega arith, omega arith, omega arith)

-- the length is that of one of the three
data IsLengthOf (s : List ℕ) : Type 0 where
  word : name_len s ≡ word_len s → IsLengthOf s
  number : name_len s ≡ number_len s → IsLengthOf s
  string : name_len s ≡ string_len s → IsLengthOf s

length_of : (s : List ℕ) → IsLengthOf s
unfolding name_len
length_of s =
    ⊎_elim
    (λ (h : word_len s < number_len s).
    ⊎_elim
    (λ (k : number_len s < string_len s). string (omega arith))
    (λ (k : string_len s ≤ number_len s). number (omega arith))
    (cases_lt (number_len s) (string_len s)))
    (λ (h : number_len s ≤ word_len s).
    ⊎_elim
    (λ (k : word_len s < string_len s). string (omega arith))
    (λ (k : string_len s ≤ word_len s). word (omega arith))
    (cases_lt (word_len s) (string_len s)))
    (cases_lt (word_len s) (number_len s))

-- a name, which is whole
pub record IsWholeName (name next : List ℕ) : Type 0 where
  pub is_name : IsName name
  pub whole : NoDigitFollows name next

name_by : (s : List ℕ)
    → IsLengthOf s
    → 0 < name_len s
    → IsWholeName (take (name_len s) s) (drop (name_len s) s)
name_by s (word is) h =
    let w = word_len-is s (omega arith) in
    rw is (record { is_name = inl w; whole = λ n. absurd (word-no_number _ w n) })
name_by s (number is) h =
    let n = number_len-is s (omega arith) in
    rw is (record { is_name = inr (inl n.number); whole = λ _. n.stops })
name_by s (string is) h =
    let q = string_len-is s (omega arith) in
    rw is (record { is_name = inr (inr q); whole = λ n. absurd (string-no_number _ q n) })

pub name_len-is : (s : List ℕ) → 0 < name_len s → IsWholeName (take (name_len s) s) (drop (name_len s) s)
name_len-is s h = name_by s (length_of s) h

pub name_len-most : (name next : List ℕ)
    → IsName name
    → NoDigitFollows name next
    → length name ≤ name_len (name ++ next)
name_len-most name next is_name whole =
    let parts = name_len-parts (name ++ next) in
    ⊎_elim
    (λ (w : is_word name ≡ true). omega (arith, word_len-most name next w))
    (λ (other : (is_number name ≡ true) ⊎ IsString name).
    ⊎_elim
    (λ (n : is_number name ≡ true). omega (arith, number_len-whole name next (record { number = n; stops = whole n })))
    (λ (q : IsString name). omega (arith, string_len-whole name next q))
    other)
    is_name

pub name_len-word : (b : ℕ) (bs : List ℕ) → begins_word b ≡ true → name_len (b ∷ bs) ≡ word_len (b ∷ bs)
unfolding name_len
name_len-word b bs h =
    omega (arith, number_len-none b bs (begins_word-no_digit b h), string_len-none b bs (begins_word-no_quote b h))

pub name_len-digit : (b : ℕ) (bs : List ℕ) → is_digit b ≡ true → name_len (b ∷ bs) ≡ number_len (b ∷ bs)
unfolding name_len
name_len-digit b bs h = omega (arith, word_len-none b bs (digit-no_word b h), string_len-none b bs (digit-no_quote b h))

pub name_len-quote : (bs : List ℕ) → name_len (34 ∷ bs) ≡ string_len (34 ∷ bs)
unfolding name_len
name_len-quote bs = omega (arith, word_len-none 34 bs quote-no_word, number_len-none 34 bs quote-no_digit)

pub name_len-none : (b : ℕ) (bs : List ℕ)
    → begins_word b ≡ false
    → is_digit b ≡ false
    → eqb b 34 ≡ false
    → name_len (b ∷ bs) ≡ 0
unfolding name_len
name_len-none b bs w d q = omega (arith, word_len-none b bs w, number_len-none b bs d, string_len-none b bs q)

-- what ends a word ends digits
pub stop-digit : (next : List ℕ) → head_passes goes_on_word next ≡ false → begins_with_digit next ≡ false
unfolding goes_on_word
stop-digit [] h = refl
stop-digit (b ∷ bs) h = (or_parts _ _ (or_parts _ _ h).0).1

whole_word : (w next : List ℕ)
    → is_word w ≡ true
    → head_passes goes_on_word next ≡ false
    → name_len (w ++ next) ≡ length w
whole_word [] next h stop = absurd (false≢true (sym is_word-nil ∙ h))
whole_word (b ∷ bs) next h stop =
    name_len-word b (bs ++ next) (word-parts b bs h).begins ∙ word_len-whole (b ∷ bs) next h stop

whole_number : (n next : List ℕ)
    → is_number n ≡ true
    → head_passes goes_on_word next ≡ false
    → name_len (n ++ next) ≡ length n
whole_number [] next h stop = absurd (false≢true (sym is_number-nil ∙ h))
whole_number (b ∷ bs) next h stop =
    name_len-digit b (bs ++ next) (number-first b bs h)
    ∙ number_len-whole (b ∷ bs) next (record { number = h; stops = stop-digit next stop })

whole_string : (name next : List ℕ) → IsString name → name_len (name ++ next) ≡ length name
whole_string name next q =
    ap (λ t. name_len (t ++ next)) q.1 ∙ name_len-quote _ ∙ ap (λ t. string_len (t ++ next)) (sym q.1)
    ∙ string_len-whole name next q

pub name_len-whole : (name next : List ℕ)
    → IsName name
    → head_passes goes_on_word next ≡ false
    → name_len (name ++ next) ≡ length name
name_len-whole name next is_name stop =
    ⊎_elim
    (λ (w : is_word name ≡ true). whole_word name next w stop)
    (λ (other : (is_number name ≡ true) ⊎ IsString name).
    ⊎_elim (λ (n : is_number name ≡ true). whole_number name next n stop)
    (λ (q : IsString name). whole_string name next q) other)
    is_name

-- a word, or a signed number with no digit behind it
abbrev pub IsTag : List ℕ → List ℕ → Type 0
IsTag name next = IsTrue (is_word name) ⊎ (IsTrue (is_signed_number name) × (begins_with_digit next ≡ false))

pub tag_len-le : (s : List ℕ) → tag_len s ≤ length s
unfolding tag_len
tag_len-le s = omega (arith, word_len-le s, signed_len-le s)

tag_len-cases : (s : List ℕ) → (tag_len s ≡ word_len s) ⊎ (tag_len s ≡ signed_len s)
unfolding tag_len
tag_len-cases s =
    ⊎_elim (λ (h : word_len s < signed_len s). inr (omega arith)) (λ (h : signed_len s ≤ word_len s). inl (omega arith))
    (cases_lt (word_len s) (signed_len s))

pub tag_len-is : (s : List ℕ) → 0 < tag_len s → IsTag (take (tag_len s) s) (drop (tag_len s) s)
tag_len-is s h =
    ⊎_elim
    (λ (is : tag_len s ≡ word_len s). rw is (inl (word_len-is s (omega arith))))
    (λ (is : tag_len s ≡ signed_len s). let n = signed_len-is s (omega arith) in rw is (inr (n.number, n.stops)))
    (tag_len-cases s)

tag_len-parts : (s : List ℕ) → (word_len s ≤ tag_len s) × (signed_len s ≤ tag_len s)
unfolding tag_len
tag_len-parts s = (omega arith, omega arith)

pub tag_len-most : (name next : List ℕ) → IsTag name next → length name ≤ tag_len (name ++ next)
tag_len-most name next tag =
    let parts = tag_len-parts (name ++ next) in
    ⊎_elim
    (λ (w : is_word name ≡ true). omega (arith, word_len-most name next w))
    (λ (n : (is_signed_number name ≡ true) × (begins_with_digit next ≡ false)). omega
    (arith, signed_len-whole name next (record { number = n.0; stops = n.1 })))
    tag
