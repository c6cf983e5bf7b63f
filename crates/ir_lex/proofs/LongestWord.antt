-- The longest word at the start of a text.
use Rattle.std.proofs.Common.{ℕ, suc, ◌≡◌, ◌+◌, ◌<◌, ◌≤◌, true, false, cond, List, [], ◌∷◌, ◌++◌, length, take, drop, refl, sym, ap, ◌∙◌, subst, ⊎_elim, ◌⊎◌, inl, inr, one-add, arith, length-take-le, take-append-drop}
use Rattle.std.specs.List.{list_all, prefix_len}
use Rattle.std.specs.Str.{bytes_eq}
use Rattle.std.proofs.lemmas.Bool.{and_parts, and_from, cond-true, cond-false, cases_Bool, cases_lt, not-true, not_from_false, false≢true}
use Rattle.std.proofs.lemmas.List.{take_at}
use Rattle.std.proofs.lemmas.List.Sums.{prefix_len-le-length}
use Rattle.std.proofs.lemmas.Slice.Eq.{bytes_eq-Decides}
use Rattle.ir_text.specs.Bytes.{is_letter, begins_word, goes_on_word}
use Rattle.ir_text.specs.Names.{is_word, dots}
use Rattle.ir_lex.specs.Lengths.{word_len}
use Rattle.ir_lex.proofs.BytesApart.{begins_word-goes_on}
use Rattle.ir_lex.proofs.Runs.{head_passes, prefix_len-pass, prefix_len-whole, list_all-prefix}

-- what a word is
pub record IsWordOf (b : ℕ) (bs : List ℕ) : Type 0 where
  pub begins : begins_word b ≡ true
  pub goes_on : list_all goes_on_word bs ≡ true
  pub no_dots : bytes_eq (b ∷ bs) dots ≡ false

pub word-parts : (b : ℕ) (bs : List ℕ) → is_word (b ∷ bs) ≡ true → IsWordOf b bs
unfolding is_word
word-parts b bs h =
    let outer = and_parts _ _ h in
    let inner = and_parts _ _ outer.0 in
    record { begins = inner.0; goes_on = inner.1; no_dots = not-true _ outer.1 }

pub word-from : (b : ℕ) (bs : List ℕ) → IsWordOf b bs → is_word (b ∷ bs) ≡ true
unfolding is_word
word-from b bs w = and_from _ _ (and_from _ _ w.begins w.goes_on) (not_from_false _ w.no_dots)

pub word_len-none : (b : ℕ) (bs : List ℕ) → begins_word b ≡ false → word_len (b ∷ bs) ≡ 0
unfolding word_len
word_len-none b bs h = cond-false _ _ _ h

-- the length, by what follows the first byte
word_len-begun : (b : ℕ) (bs : List ℕ)
    → begins_word b ≡ true
    → word_len (b ∷ bs) ≡ cond (bytes_eq (b ∷ take (prefix_len goes_on_word bs) bs) dots) 2
    (suc (prefix_len goes_on_word bs))
unfolding word_len
word_len-begun b bs h =
    let run : prefix_len goes_on_word (b ∷ bs) ≡ suc (prefix_len goes_on_word bs) =
    cond-true (goes_on_word b) (1 + prefix_len goes_on_word bs) 0 (begins_word-goes_on b h)
    ∙ one-add (prefix_len goes_on_word bs) in
    cond-true _ _ _ h ∙ ap (λ n. cond (bytes_eq (take n (b ∷ bs)) dots) 2 n) run

-- either a run that is no three dots, or two of three dots
data IsRunOf (b : ℕ) (bs : List ℕ) : Type 0 where
  run : bytes_eq (b ∷ take (prefix_len goes_on_word bs) bs) dots ≡ false
      → word_len (b ∷ bs) ≡ suc (prefix_len goes_on_word bs)
      → IsRunOf b bs
  two : b ∷ take (prefix_len goes_on_word bs) bs ≡ dots
      → word_len (b ∷ bs) ≡ 2
      → IsRunOf b bs

run_of : (b : ℕ) (bs : List ℕ) → begins_word b ≡ true → IsRunOf b bs
run_of b bs h =
    let all = b ∷ take (prefix_len goes_on_word bs) bs in
    ⊎_elim
    (λ (e : bytes_eq all dots ≡ true). two ((bytes_eq-Decides all dots).0 e)
    (word_len-begun b bs h ∙ cond-true _ _ _ e))
    (λ (e : bytes_eq all dots ≡ false). run e (word_len-begun b bs h ∙ cond-false _ _ _ e))
    (cases_Bool (bytes_eq all dots))

-- three dots have three bytes
length-two : (b m : ℕ) (bs : List ℕ)
    → m ≤ length bs
    → b ∷ take m bs ≡ dots
    → m ≡ 2
length-two b m bs le e = omega (arith, ap length e, length-take-le m bs le)

word_len-nil : word_len [] ≡ 0
unfolding word_len
word_len-nil = refl

pub is_word-nil : is_word [] ≡ false
unfolding is_word
is_word-nil = refl

le_begun : (b : ℕ) (bs : List ℕ) → IsRunOf b bs → word_len (b ∷ bs) ≤ suc (length bs)
le_begun b bs (run apart is) = omega (arith, prefix_len-le-length goes_on_word bs)
le_begun b bs (two all is) =
    omega (arith, prefix_len-le-length goes_on_word bs, length-two b _ bs (prefix_len-le-length goes_on_word bs) all)

pub word_len-le : (s : List ℕ) → word_len s ≤ length s
word_len-le [] = omega (arith, word_len-nil)
word_len-le (b ∷ bs) =
    ⊎_elim
    (λ (e : begins_word b ≡ true). le_begun b bs (run_of b bs e))
    (λ (e : begins_word b ≡ false). omega (arith, word_len-none b bs e))
    (cases_Bool (begins_word b))

two_dots : is_word (46 ∷ 46 ∷ []) ≡ true
unfolding is_word begins_word goes_on_word is_letter
two_dots = refl

is_begun : (b : ℕ) (bs : List ℕ)
    → begins_word b ≡ true
    → IsRunOf b bs
    → is_word (take (word_len (b ∷ bs)) (b ∷ bs)) ≡ true
is_begun b bs begins (run apart is) =
    rw is (word-from b (take (prefix_len goes_on_word bs) bs)
    (record { begins = begins; goes_on = list_all-prefix goes_on_word bs; no_dots = apart }))
is_begun b bs begins (two all is) =
    let n = prefix_len goes_on_word bs in
    let parts : b ∷ bs ≡ dots ++ drop n bs =
    ap (λ l. b ∷ l) (sym (take-append-drop n bs)) ∙ ap (λ l. l ++ drop n bs) all in
    rw is (subst (λ l. is_word (take 2 l) ≡ true) (sym parts) two_dots)

pub word_len-is : (s : List ℕ) → 0 < word_len s → is_word (take (word_len s) s) ≡ true
word_len-is [] h = absurd (omega (arith, word_len-nil))
word_len-is (b ∷ bs) h =
    ⊎_elim
    (λ (e : begins_word b ≡ true). is_begun b bs e (run_of b bs e))
    (λ (e : begins_word b ≡ false). absurd (omega (arith, word_len-none b bs e)))
    (cases_Bool (begins_word b))

-- a word is no three dots
no_dots_word : (b : ℕ) (bs rest : List ℕ) (n : ℕ)
    → IsWordOf b bs
    → length bs ≡ n
    → b ∷ take n (bs ++ rest) ≡ dots
    → ⊥
no_dots_word b bs rest n w is all =
    let same : b ∷ bs ≡ dots = ap (λ l. b ∷ l) (sym (take_at bs rest n is)) ∙ all in
    false≢true (sym w.no_dots ∙ (bytes_eq-Decides (b ∷ bs) dots).1 same)

most_begun : (b : ℕ) (bs rest : List ℕ)
    → IsWordOf b bs
    → IsRunOf b (bs ++ rest)
    → suc (length bs) ≤ word_len (b ∷ (bs ++ rest))
most_begun b bs rest w (run apart is) = omega (arith, prefix_len-pass goes_on_word bs rest w.goes_on)
most_begun b bs rest w (two all is) =
    let run = prefix_len-pass goes_on_word bs rest w.goes_on in
    let fits : prefix_len goes_on_word (bs ++ rest) ≤ length (bs ++ rest) =
    prefix_len-le-length goes_on_word (bs ++ rest) in
    let three = length-two b _ (bs ++ rest) fits all in
    ⊎_elim
    (λ (short : length bs < 2). omega arith)
    (λ (long : 2 ≤ length bs). absurd (no_dots_word b bs rest _ w (omega arith) all))
    (cases_lt (length bs) 2)

pub word_len-most : (w rest : List ℕ) → is_word w ≡ true → length w ≤ word_len (w ++ rest)
word_len-most [] rest h = omega arith
word_len-most (b ∷ bs) rest h =
    let w = word-parts b bs h in
    most_begun b bs rest w (run_of b (bs ++ rest) w.begins)

whole_begun : (b : ℕ) (bs rest : List ℕ)
    → IsWordOf b bs
    → head_passes goes_on_word rest ≡ false
    → IsRunOf b (bs ++ rest)
    → word_len (b ∷ (bs ++ rest)) ≡ suc (length bs)
whole_begun b bs rest w stop (run apart is) = omega (arith, prefix_len-whole goes_on_word bs rest w.goes_on stop)
whole_begun b bs rest w stop (two all is) =
    absurd (no_dots_word b bs rest _ w (sym (prefix_len-whole goes_on_word bs rest w.goes_on stop)) all)

pub word_len-whole : (w rest : List ℕ)
    → is_word w ≡ true
    → head_passes goes_on_word rest ≡ false
    → word_len (w ++ rest) ≡ length w
word_len-whole [] rest h stop = absurd (false≢true (sym is_word-nil ∙ h))
word_len-whole (b ∷ bs) rest h stop =
    let w = word-parts b bs h in
    whole_begun b bs rest w stop (run_of b (bs ++ rest) w.begins)

dot_begins : begins_word 46 ≡ true
unfolding begins_word is_letter
dot_begins = refl

dot_dot : list_all goes_on_word (46 ∷ 46 ∷ []) ≡ true
unfolding goes_on_word begins_word is_letter
dot_dot = refl

of_dots : (rest : List ℕ) → IsRunOf 46 (46 ∷ 46 ∷ rest) → (word_len (dots ++ rest) ≡ 2) ⊎ (4 ≤ word_len (dots ++ rest))
of_dots rest (two all is) = inl is
of_dots rest (run apart is) =
    let two_more = prefix_len-pass goes_on_word (46 ∷ 46 ∷ []) rest dot_dot in
    ⊎_elim
    (λ (short : prefix_len goes_on_word (46 ∷ 46 ∷ rest) < 3).
    let exact : prefix_len goes_on_word (46 ∷ 46 ∷ rest) ≡ 2 = omega arith in
    absurd (false≢true (sym (rw exact at apart))))
    (λ (long : 3 ≤ prefix_len goes_on_word (46 ∷ 46 ∷ rest)). inr (omega arith))
    (cases_lt (prefix_len goes_on_word (46 ∷ 46 ∷ rest)) 3)

-- three dots begin a longer word, or two of them are the longest
pub word_len-dots : (rest : List ℕ) → (word_len (dots ++ rest) ≡ 2) ⊎ (4 ≤ word_len (dots ++ rest))
word_len-dots rest = of_dots rest (run_of 46 (46 ∷ 46 ∷ rest) dot_begins)
