-- The number at the start of a text, with or without a sign.
use Rattle.std.proofs.Common.{ℕ, suc, ◌≡◌, ◌<◌, ◌≤◌, true, false, eqb, List, [], ◌∷◌, ◌++◌, length, take, drop, refl, sym, ap, ◌∙◌, subst, ⊎_elim, ◌⊎◌, inl, inr, add-one, arith, length-take-le}
use Rattle.std.specs.List.{list_all, prefix_len}
use Rattle.std.proofs.lemmas.Bool.{and_parts, and_from, or_cases, or_left, or_right, cond-true, cond-false, cases_Bool, cases_lt, leb-true, le-leb, lt-leb, ltb-true, lt-ltb, eq-eqb, ne_eqb, eqb-true, false≢true}
use Rattle.std.proofs.lemmas.List.Sums.{prefix_len-le-length}
use Rattle.ir_text.specs.Bytes.{is_digit}
use Rattle.ir_text.specs.Names.{is_number, is_signed_number}
use Rattle.ir_text.specs.Tokens.{begins_with_digit}
use Rattle.ir_lex.specs.Lengths.{number_len, signed_len}
use Rattle.ir_lex.proofs.BytesApart.{digit-no_minus}
use Rattle.ir_lex.proofs.Runs.{head_passes, prefix_len-whole, prefix_len-stop, list_all-prefix, head_passes-drop}

-- what a number is
pub record IsNumberOf (bs : List ℕ) : Type 0 where
  pub some : 0 < length bs
  pub most : length bs ≤ 39
  pub digits : list_all is_digit bs ≡ true

pub number-parts : (bs : List ℕ) → is_number bs ≡ true → IsNumberOf bs
unfolding is_number
number-parts bs h =
    let outer = and_parts _ _ h in
    let inner = and_parts _ _ outer.0 in
    record { some = ltb-true _ _ inner.0; most = leb-true _ _ inner.1; digits = outer.1 }

pub number-from : (bs : List ℕ) → IsNumberOf bs → is_number bs ≡ true
unfolding is_number
number-from bs n = and_from _ _ (and_from _ _ (lt-ltb _ _ n.some) (le-leb _ _ n.most)) n.digits

pub begins_with_digit-is : (s : List ℕ) → begins_with_digit s ≡ head_passes is_digit s
begins_with_digit-is [] = refl
begins_with_digit-is (b ∷ bs) = refl

number_len-few : (s : List ℕ) → prefix_len is_digit s ≤ 39 → number_len s ≡ prefix_len is_digit s
unfolding number_len
number_len-few s h = cond-true _ _ _ (le-leb _ _ h)

number_len-many : (s : List ℕ) → 39 < prefix_len is_digit s → number_len s ≡ 0
unfolding number_len
number_len-many s h = cond-false _ _ _ (lt-leb _ _ h)

pub number_len-le : (s : List ℕ) → number_len s ≤ length s
number_len-le s =
    let fits = prefix_len-le-length is_digit s in
    ⊎_elim
    (λ (many : 39 < prefix_len is_digit s). omega (arith, number_len-many s many))
    (λ (few : prefix_len is_digit s ≤ 39). omega (arith, number_len-few s few))
    (cases_lt 39 (prefix_len is_digit s))

-- a number with no digit behind it
pub record IsWholeNumber (name next : List ℕ) : Type 0 where
  pub number : is_number name ≡ true
  pub stops : begins_with_digit next ≡ false

pub number_len-is : (s : List ℕ) → 0 < number_len s → IsWholeNumber (take (number_len s) s) (drop (number_len s) s)
number_len-is s h =
    let fits = prefix_len-le-length is_digit s in
    ⊎_elim
    (λ (many : 39 < prefix_len is_digit s). absurd (omega (arith, number_len-many s many)))
    (λ (few : prefix_len is_digit s ≤ 39).
    let is = number_len-few s few in
    let n = prefix_len is_digit s in
    let long : length (take n s) ≡ n = length-take-le n s fits in
    rw is (record {
      number = number-from (take n s) (record {
        some = omega arith;
        most = omega arith;
        digits = list_all-prefix is_digit s;
      });
      stops = begins_with_digit-is (drop n s) ∙ head_passes-drop is_digit s;
    }))
    (cases_lt 39 (prefix_len is_digit s))

pub number_len-whole : (name next : List ℕ) → IsWholeNumber name next → number_len (name ++ next) ≡ length name
number_len-whole name next w =
    let parts = number-parts name w.number in
    let run = prefix_len-whole is_digit name next parts.digits (sym (begins_with_digit-is next) ∙ w.stops) in
    number_len-few (name ++ next) (omega arith) ∙ run

pub number_len-none : (b : ℕ) (bs : List ℕ) → is_digit b ≡ false → number_len (b ∷ bs) ≡ 0
number_len-none b bs h =
    let run = prefix_len-stop is_digit (b ∷ bs) h in
    number_len-few (b ∷ bs) (omega arith) ∙ run

pub is_number-nil : is_number [] ≡ false
unfolding is_number
is_number-nil = refl

-- a number begins with a digit
pub number-first : (b : ℕ) (bs : List ℕ) → is_number (b ∷ bs) ≡ true → is_digit b ≡ true
number-first b bs h = (and_parts _ _ (number-parts (b ∷ bs) h).digits).0

-- a signed number with no digit behind it
pub record IsWholeSigned (name next : List ℕ) : Type 0 where
  pub number : is_signed_number name ≡ true
  pub stops : begins_with_digit next ≡ false

-- digits, or `-` and digits
pub signed-cases : (b : ℕ) (bs : List ℕ)
    → is_signed_number (b ∷ bs) ≡ true
    → (is_number (b ∷ bs) ≡ true) ⊎ ((b ≡ 45) × (is_number bs ≡ true))
unfolding is_signed_number
signed-cases b bs h =
    ⊎_elim
    (λ (plain : is_number (b ∷ bs) ≡ true). inl plain)
    (λ (minus : _). let parts = and_parts _ _ minus in inr (eqb-true b 45 parts.0, parts.1))
    (or_cases (is_number (b ∷ bs)) _ h)

signed-plain : (b : ℕ) (bs : List ℕ) → is_number (b ∷ bs) ≡ true → is_signed_number (b ∷ bs) ≡ true
unfolding is_signed_number
signed-plain b bs h = or_left _ _ h

signed-minus : (bs : List ℕ) → is_number bs ≡ true → is_signed_number (45 ∷ bs) ≡ true
unfolding is_signed_number
signed-minus bs h = or_right _ _ h

pub signed-nil : is_signed_number [] ≡ false
unfolding is_signed_number
signed-nil = refl

pub signed_len-nil : signed_len [] ≡ 0
unfolding signed_len
signed_len-nil = refl

pub signed_len-plain : (b : ℕ) (bs : List ℕ) → eqb b 45 ≡ false → signed_len (b ∷ bs) ≡ number_len (b ∷ bs)
unfolding signed_len
signed_len-plain b bs h = cond-false _ _ _ h

signed_len-minus : (bs : List ℕ) → 0 < number_len bs → signed_len (45 ∷ bs) ≡ suc (number_len bs)
unfolding signed_len
signed_len-minus bs h = cond-false _ _ _ (ne_eqb (number_len bs) 0 (omega arith)) ∙ add-one (number_len bs)

signed_len-minus_none : (bs : List ℕ) → number_len bs ≡ 0 → signed_len (45 ∷ bs) ≡ 0
unfolding signed_len
signed_len-minus_none bs h = cond-true _ _ _ (eq-eqb (number_len bs) 0 h)

pub signed_len-whole : (name next : List ℕ) → IsWholeSigned name next → signed_len (name ++ next) ≡ length name
signed_len-whole [] next w = absurd (false≢true (sym signed-nil ∙ w.number))
signed_len-whole (b ∷ bs) next w =
    ⊎_elim
    (λ (plain : is_number (b ∷ bs) ≡ true).
    signed_len-plain b (bs ++ next) (digit-no_minus b (number-first b bs plain))
    ∙ number_len-whole (b ∷ bs) next (record { number = plain; stops = w.stops }))
    (λ (minus : (b ≡ 45) × (is_number bs ≡ true)).
    let run = number_len-whole bs next (record { number = minus.1; stops = w.stops }) in
    let some = (number-parts bs minus.1).some in
    rw minus.0 (signed_len-minus (bs ++ next) (omega arith) ∙ ap suc run))
    (signed-cases b bs w.number)

-- the two ways to begin
by_sign : (P : List ℕ → Type 0)
    → ((b : ℕ) (bs : List ℕ) → eqb b 45 ≡ false → P (b ∷ bs))
    → ((bs : List ℕ) → P (45 ∷ bs))
    → (b : ℕ) (bs : List ℕ)
    → P (b ∷ bs)
by_sign P other minus b bs =
    ⊎_elim
    (λ (e : eqb b 45 ≡ true). subst (λ c. P (c ∷ bs)) (sym (eqb-true b 45 e)) (minus bs))
    (λ (e : eqb b 45 ≡ false). other b bs e)
    (cases_Bool (eqb b 45))

minus_cases : (bs : List ℕ) → (0 < number_len bs) ⊎ (number_len bs ≡ 0)
minus_cases bs =
    ⊎_elim (λ (some : 0 < number_len bs). inl some) (λ (none : number_len bs ≤ 0). inr (omega arith))
    (cases_lt 0 (number_len bs))

pub signed_len-le : (s : List ℕ) → signed_len s ≤ length s
signed_len-le [] = omega (arith, signed_len-nil)
signed_len-le (b ∷ bs) =
    by_sign (λ s. signed_len s ≤ length s)
    (λ b bs e. omega (arith, signed_len-plain b bs e, number_len-le (b ∷ bs)))
    (λ bs. ⊎_elim
    (λ (some : 0 < number_len bs). omega (arith, signed_len-minus bs some, number_len-le bs))
    (λ (none : number_len bs ≡ 0). omega (arith, signed_len-minus_none bs none))
    (minus_cases bs))
    b bs

to_signed : (s next : List ℕ) → IsWholeNumber s next → IsWholeSigned s next
to_signed [] next w = absurd (false≢true (sym is_number-nil ∙ w.number))
to_signed (b ∷ bs) next w = record { number = signed-plain b bs w.number; stops = w.stops }

is_plain : (b : ℕ) (bs : List ℕ)
    → eqb b 45 ≡ false
    → 0 < signed_len (b ∷ bs)
    → IsWholeSigned (take (signed_len (b ∷ bs)) (b ∷ bs)) (drop (signed_len (b ∷ bs)) (b ∷ bs))
is_plain b bs e h =
    let is = signed_len-plain b bs e in
    rw is (to_signed _ _ (number_len-is (b ∷ bs) (omega arith)))

pub signed_len-is : (s : List ℕ) → 0 < signed_len s → IsWholeSigned (take (signed_len s) s) (drop (signed_len s) s)
signed_len-is [] h = absurd (omega (arith, signed_len-nil))
signed_len-is (b ∷ bs) h =
    by_sign (λ s. 0 < signed_len s → IsWholeSigned (take (signed_len s) s) (drop (signed_len s) s))
    (λ b bs e h. is_plain b bs e h)
    (λ bs h. ⊎_elim
    (λ (some : 0 < number_len bs).
    let whole = number_len-is bs some in
    rw (signed_len-minus bs some) (record { number = signed-minus _ whole.number; stops = whole.stops }))
    (λ (none : number_len bs ≡ 0). absurd (omega (arith, signed_len-minus_none bs none)))
    (minus_cases bs))
    b bs h
