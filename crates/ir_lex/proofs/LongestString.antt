-- The string at the start of a text.
use Rattle.std.proofs.Common.{ℕ, suc, ◌≡◌, ◌+◌, ◌<◌, ◌≤◌, true, false, eqb, List, [], ◌∷◌, ◌++◌, length, get_or, take, refl, sym, ap, ◌∙◌, subst, ⊎_elim, arith, length-append, append_assoc}
use Rattle.std.specs.List.{prefix_len}
use Rattle.std.proofs.lemmas.Bool.{cond-true, cond-false, cases_Bool, cases_lt, lt-ltb, le-ltb, eqb-true, not-false}
use Rattle.std.proofs.lemmas.List.{take_more}
use Rattle.std.proofs.lemmas.List.Sums.{prefix_len_stops}
use Rattle.ir_text.specs.Bytes.{is_no_quote}
use Rattle.ir_text.specs.Names.{IsString}
use Rattle.ir_lex.specs.Lengths.{string_len}
use Rattle.ir_lex.proofs.Runs.{prefix_len-whole, list_all-prefix}

pub string_len-nil : string_len [] ≡ 0
unfolding string_len
string_len-nil = refl

pub string_len-none : (b : ℕ) (bs : List ℕ) → eqb b 34 ≡ false → string_len (b ∷ bs) ≡ 0
unfolding string_len
string_len-none b bs h = cond-false _ _ _ h

string_len-closed : (bs : List ℕ)
    → prefix_len is_no_quote bs < length bs
    → string_len (34 ∷ bs) ≡ prefix_len is_no_quote bs + 2
unfolding string_len
string_len-closed bs h = cond-true _ _ _ (lt-ltb _ _ h)

string_len-open : (bs : List ℕ) → length bs ≤ prefix_len is_no_quote bs → string_len (34 ∷ bs) ≡ 0
unfolding string_len
string_len-open bs h = cond-false _ _ _ (le-ltb _ _ h)

-- a quote or another byte, and the string is closed or open
by_quote : (P : List ℕ → Type 0)
    → ((b : ℕ) (bs : List ℕ) → eqb b 34 ≡ false → P (b ∷ bs))
    → ((bs : List ℕ) → prefix_len is_no_quote bs < length bs → P (34 ∷ bs))
    → ((bs : List ℕ) → length bs ≤ prefix_len is_no_quote bs → P (34 ∷ bs))
    → (b : ℕ) (bs : List ℕ)
    → P (b ∷ bs)
by_quote P other closed unclosed b bs =
    ⊎_elim
    (λ (e : eqb b 34 ≡ true).
    subst (λ c. P (c ∷ bs)) (sym (eqb-true b 34 e))
    (⊎_elim (λ (h : prefix_len is_no_quote bs < length bs). closed bs h)
    (λ (h : length bs ≤ prefix_len is_no_quote bs). unclosed bs h)
    (cases_lt (prefix_len is_no_quote bs) (length bs))))
    (λ (e : eqb b 34 ≡ false). other b bs e)
    (cases_Bool (eqb b 34))

pub string_len-le : (s : List ℕ) → string_len s ≤ length s
string_len-le [] = omega (arith, string_len-nil)
string_len-le (b ∷ bs) =
    by_quote (λ s. string_len s ≤ length s)
    (λ b bs e. omega (arith, string_len-none b bs e))
    (λ bs h. omega (arith, string_len-closed bs h))
    (λ bs h. omega (arith, string_len-open bs h))
    b bs

is_quote : (b : ℕ) → is_no_quote b ≡ false → b ≡ 34
unfolding is_no_quote
is_quote b h = eqb-true b 34 (not-false _ h)

quote_stops : is_no_quote 34 ≡ false
unfolding is_no_quote
quote_stops = refl

is_closed : (bs : List ℕ) → prefix_len is_no_quote bs < length bs → IsString (take (string_len (34 ∷ bs)) (34 ∷ bs))
is_closed bs h =
    let n = prefix_len is_no_quote bs in
    let at_end : get_or bs n 0 ≡ 34 = is_quote _ (prefix_len_stops is_no_quote bs 0 h) in
    let two : n + 2 ≡ suc (n + 1) = omega arith in
    rw (string_len-closed bs h, two) (
      take n bs,
      ap (λ l. 34 ∷ l) (take_more bs n 0 h ∙ ap (λ c. take n bs ++ c ∷ []) at_end),
      list_all-prefix is_no_quote bs,
    )

pub string_len-is : (s : List ℕ) → 0 < string_len s → IsString (take (string_len s) s)
string_len-is [] h = absurd (omega (arith, string_len-nil))
string_len-is (b ∷ bs) h =
    by_quote (λ s. 0 < string_len s → IsString (take (string_len s) s))
    (λ b bs e h. absurd (omega (arith, string_len-none b bs e)))
    (λ bs closed h. is_closed bs closed)
    (λ bs unclosed h. absurd (omega (arith, string_len-open bs unclosed)))
    b bs h

pub string_len-whole : (text next : List ℕ) → IsString text → string_len (text ++ next) ≡ length text
string_len-whole text next s =
    let inner = s.0 in
    let run : prefix_len is_no_quote (inner ++ (34 ∷ next)) ≡ length inner =
    prefix_len-whole is_no_quote inner (34 ∷ next) s.2 quote_stops in
    let long = length-append inner (34 ∷ next) in
    let all : text ++ next ≡ 34 ∷ (inner ++ (34 ∷ next)) =
    ap (λ t. t ++ next) s.1 ∙ ap (λ l. 34 ∷ l) (append_assoc inner (34 ∷ []) next) in
    let size : length text ≡ suc (length inner + 1) = ap length s.1 ∙ ap suc (length-append inner (34 ∷ [])) in
    ap string_len all ∙ string_len-closed (inner ++ (34 ∷ next)) (omega arith) ∙ omega arith

-- a string has two quotes
pub string_len-two : (s : List ℕ) → 0 < string_len s → (bs : List ℕ) × (s ≡ 34 ∷ bs) × (1 < string_len s)
string_len-two [] h = absurd (omega (arith, string_len-nil))
string_len-two (b ∷ bs) h =
    by_quote (λ s. 0 < string_len s → (cs : List ℕ) × (s ≡ 34 ∷ cs) × (1 < string_len s))
    (λ b bs e h. absurd (omega (arith, string_len-none b bs e)))
    (λ bs closed h. (bs, refl, omega (arith, string_len-closed bs closed)))
    (λ bs unclosed h. absurd (omega (arith, string_len-open bs unclosed)))
    b bs h
