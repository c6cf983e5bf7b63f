-- A text that begins at one place has one list of tokens, and one place where they end.
use Rattle.std.proofs.Common.{ℕ, ◌≡◌, ◌+◌, ◌<◌, false, List, ◌∷◌, ◌++◌, length, take, drop, refl, sym, ap, ◌∙◌, subst, ⊎_elim, arith, length-append, length-take-le, take-append-drop, Option, Some, None}
use Rattle.std.proofs.lemmas.Bool.{ne_eqb}
use Rattle.std.proofs.lemmas.List.{take_at, drop_at}
use Rattle.ir_text.specs.Tokens.{Placed, IsTokenAt, IsGap, IsEnd, IsBadByte, Lexed, ends_whole, ends_bad, goes_on}
use Rattle.ir_text.specs.declared.token.TokenKind.{TokenKind}
use Rattle.ir_lex.specs.FirstToken.{first_token}
use Rattle.ir_lex.specs.Gap.{gap_len}
use Rattle.ir_lex.proofs.Forms.{form_at}
use Rattle.ir_lex.proofs.LongestForm.{IsFirstToken}
use Rattle.ir_lex.proofs.FirstTokenIsRight.{first_token_is_right}
use Rattle.ir_lex.proofs.Gaps.{gap_len-append, gap_len-end, gap_len-stop, form-gap_len, form-some}

-- what is computed for a token's text is the token
complete_by : (kind : TokenKind) (text next : List ℕ)
    → IsTokenAt kind text next
    → (found : Option (TokenKind × ℕ))
    → IsFirstToken (text ++ next) found
    → found ≡ Some (kind, length text)
complete_by kind text next token None h = absurd (h kind text next refl token)
complete_by kind text next token (Some (k, n)) h =
    let s = text ++ next in
    ⊎_elim
    (λ (short : length text < n).
    let size = length-take-le n s h.within in
    let long = token.longest k (take n s) (drop n s) (take-append-drop n s) h.token.form in
    absurd (omega arith))
    (λ (same : (kind ≡ k) × (length text ≡ n)).
    ap (λ j. Some (j, n)) (sym same.0) ∙ ap (λ m. Some (kind, m)) (sym same.1))
    (h.only (length text) kind (form_at kind text next token.form))

-- a token that stands at the start is the one that is computed
pub first_token_found : (kind : TokenKind) (text next : List ℕ)
    → IsTokenAt kind text next
    → first_token (text ++ next) ≡ Some (kind, length text)
first_token_found kind text next token =
    complete_by kind text next token (first_token (text ++ next)) (first_token_is_right (text ++ next))

-- The bytes begin with a gap, and then there is the rest.
record IsBehindGap (bytes gap rest : List ℕ) : Type 0 where
  split : bytes ≡ gap ++ rest
  is_gap : IsGap gap

behind : {bytes gap rest : List ℕ} → bytes ≡ gap ++ rest → IsGap gap → IsBehindGap bytes gap rest
behind split is_gap = record { split = split; is_gap = is_gap }

-- a gap before something that is none has one length
module _ {bytes gap rest other other_rest : List ℕ} where
  same_gap : IsBehindGap bytes gap rest
      → gap_len false rest ≡ 0
      → IsBehindGap bytes other other_rest
      → gap_len false other_rest ≡ 0
      → (length gap ≡ length other) × (rest ≡ other_rest)
  same_gap one stops two other_stops =
      let long : gap_len false bytes ≡ length gap = rw one.split (omega (arith, gap_len-append rest one.is_gap)) in
      let other_long : gap_len false bytes ≡ length other =
      rw two.split (omega (arith, gap_len-append other_rest two.is_gap)) in
      let size : length gap ≡ length other = omega arith in
      let n = length gap in
      let rests : drop n (gap ++ rest) ≡ drop n (other ++ other_rest) =
      ap (λ l. drop n l) (sym one.split ∙ two.split) in
      (size, sym (drop_at gap rest n refl) ∙ rests ∙ drop_at other other_rest n (sym size))

  -- behind the end there is nothing else
  no_more : IsBehindGap bytes gap rest
      → IsEnd rest
      → IsBehindGap bytes other other_rest
      → gap_len false other_rest ≡ 0
      → 0 < length other_rest
      → ⊥
  no_more one is_end two stops some =
      let all : gap_len false bytes ≡ length bytes =
      rw one.split (omega (arith, gap_len-append rest one.is_gap, gap_len-end rest is_end, length-append gap rest)) in
      let long : gap_len false bytes ≡ length other =
      rw two.split (omega (arith, gap_len-append other_rest two.is_gap)) in
      omega (arith, ap length two.split, length-append other other_rest)

-- a token is no gap, and not empty
token_stops : (kind : TokenKind) (text next : List ℕ)
    → IsTokenAt kind text next
    → (gap_len false (text ++ next) ≡ 0) × (0 < length text)
token_stops kind text next token =
    let form = form_at kind text next token.form in
    (form-gap_len (text ++ next) (length text) kind form, form-some (text ++ next) (length text) kind form)

-- nor is a bad byte
bad_stops : (bad : List ℕ) → IsBadByte bad → (gap_len false bad ≡ 0) × (0 < length bad)
bad_stops bad is =
    let stops = gap_len-stop is.first is.others (ne_eqb is.first 59 is.no_comment) is.no_blank in
    (rw is.bytes_are stops, omega (arith, ap length is.bytes_are))

-- so none of them is behind the end
no_token_more : {bytes gap rest other text next : List ℕ} {kind : TokenKind}
    → IsBehindGap bytes gap rest
    → IsEnd rest
    → IsBehindGap bytes other (text ++ next)
    → IsTokenAt kind text next
    → ⊥
no_token_more {text = text} {next = next} {kind = kind} one is_end two token =
    let stops = token_stops kind text next token in
    no_more one is_end two stops.0 (omega (arith, stops.1, length-append text next))

no_bad_more : {bytes gap rest other bad : List ℕ}
    → IsBehindGap bytes gap rest
    → IsEnd rest
    → IsBehindGap bytes other bad
    → IsBadByte bad
    → ⊥
no_bad_more {bad = bad} one is_end two is_bad =
    let stops = bad_stops bad is_bad in
    no_more one is_end two stops.0 stops.1

-- nor a token where a bad byte is
no_token_at_bad : {bytes gap bad other text next : List ℕ} {kind : TokenKind}
    → IsBehindGap bytes gap bad
    → IsBadByte bad
    → IsBehindGap bytes other (text ++ next)
    → IsTokenAt kind text next
    → ⊥
no_token_at_bad {bad = bad} {text = text} {next = next} {kind = kind} one is_bad two token =
    let gaps = same_gap one (bad_stops bad is_bad).0 two (token_stops kind text next token).0 in
    is_bad.no_token kind text next (sym gaps.1) token

-- the first bad byte has one place
same_bad : {bytes gap bad other other_bad : List ℕ}
    → IsBehindGap bytes gap bad
    → IsBadByte bad
    → IsBehindGap bytes other other_bad
    → IsBadByte other_bad
    → length gap ≡ length other
same_bad {bad = bad} {other_bad = other_bad} one is_bad two is_other_bad =
    (same_gap one (bad_stops bad is_bad).0 two (bad_stops other_bad is_other_bad).0).0

-- Two tokens behind gaps are one, and the rest behind them is one.
record IsSameToken (kind other : TokenKind) (gap text next other_gap other_text other_next : List ℕ) : Type 0 where
  gaps : length gap ≡ length other_gap
  kinds : kind ≡ other
  texts : text ≡ other_text
  nexts : next ≡ other_next

same_pair : (k j : TokenKind) (n m : ℕ)
    → ◌≡◌ {A = Option (TokenKind × ℕ)} (Some (k, n)) (Some (j, m))
    → (k ≡ j) × (n ≡ m)
same_pair k j n m e = let pair : ◌≡◌ {A = TokenKind × ℕ} (k, n) (j, m) = cc in (ap (λ p. p.0) pair, ap (λ p. p.1) pair)

module _ {bytes gap text next other_gap other_text other_next : List ℕ} {kind other : TokenKind} where
  same_token : IsBehindGap bytes gap (text ++ next)
      → IsTokenAt kind text next
      → IsBehindGap bytes other_gap (other_text ++ other_next)
      → IsTokenAt other other_text other_next
      → IsSameToken kind other gap text next other_gap other_text other_next
  same_token one token two twin =
      let stops = (token_stops kind text next token).0 in
      let gaps = same_gap one stops two (token_stops other other_text other_next twin).0 in
      let found = first_token_found kind text next token in
      let twin_found = first_token_found other other_text other_next twin in
      let n = length text in
      let same = same_pair kind other n (length other_text) (sym found ∙ ap first_token gaps.1 ∙ twin_found) in
      let texts = ap (λ l. take n l) gaps.1 ∙ take_at other_text other_next n (sym same.1) in
      let nexts = ap (λ l. drop n l) gaps.1 ∙ drop_at other_text other_next n (sym same.1) in
      record {
        gaps = gaps.0;
        kinds = same.0;
        texts = sym (take_at text next n refl) ∙ texts;
        nexts = sym (drop_at text next n refl) ∙ nexts;
      }

-- equal parts, equal lists
same_placed : (k j : TokenKind) (a b : List ℕ) (m n : ℕ) (xs ys : List Placed)
    → k ≡ j
    → a ≡ b
    → m ≡ n
    → xs ≡ ys
    → record { lexeme = record { kind = k; text = a }; from = m } ∷ xs
    ≡ record { lexeme = record { kind = j; text = b }; from = n } ∷ ys
same_placed k j a b m n xs ys p q r s = cc

-- the place behind one token
same_start : (at : ℕ) (gap other text other_text : List ℕ)
    → length gap ≡ length other
    → text ≡ other_text
    → at + (length other + length other_text) ≡ at + (length gap + length text)
same_start at gap other text other_text gaps texts = omega (arith, gaps, ap length texts)

-- the same tokens, from an equal place of an equal text
moved : {at from end : ℕ} {bytes rest : List ℕ} {placed : List Placed}
    → at ≡ from
    → bytes ≡ rest
    → Lexed at bytes placed end
    → Lexed from rest placed end
moved {at} {from} {end} {bytes} {rest} {placed} starts texts lexed =
    subst (λ l. Lexed from l placed end) texts (subst (λ n. Lexed n bytes placed end) starts lexed)

-- Any two lexings of a text from one place are the same.
pub one_lexing : {at end other_end : ℕ} {bytes : List ℕ} {a b : List Placed}
    → Lexed at bytes a end
    → Lexed at bytes b other_end
    → (a ≡ b) × (end ≡ other_end)
one_lexing (ends_whole gap rest e is_gap is_end) (ends_whole other tail f is_other is_other_end) = (refl, refl)
one_lexing (ends_whole gap rest e is_gap is_end) (ends_bad other bad f is_other is_bad) =
    absurd (no_bad_more (behind e is_gap) is_end (behind f is_other) is_bad)
one_lexing (ends_whole gap rest e is_gap is_end) (goes_on kind other text next f is_other token others) =
    absurd (no_token_more (behind e is_gap) is_end (behind f is_other) token)
one_lexing (ends_bad gap bad e is_gap is_bad) (ends_whole other rest f is_other is_end) =
    absurd (no_bad_more (behind f is_other) is_end (behind e is_gap) is_bad)
one_lexing (ends_bad {at} gap bad e is_gap is_bad) (ends_bad other tail f is_other is_other_bad) =
    (refl, ap (λ n. at + n) (same_bad (behind e is_gap) is_bad (behind f is_other) is_other_bad))
one_lexing (ends_bad gap bad e is_gap is_bad) (goes_on kind other text next f is_other token others) =
    absurd (no_token_at_bad (behind e is_gap) is_bad (behind f is_other) token)
one_lexing (goes_on kind gap text next e is_gap token more) (ends_whole other rest f is_other is_end) =
    absurd (no_token_more (behind f is_other) is_end (behind e is_gap) token)
one_lexing (goes_on kind gap text next e is_gap token more) (ends_bad other bad f is_other is_bad) =
    absurd (no_token_at_bad (behind f is_other) is_bad (behind e is_gap) token)
one_lexing (goes_on {at} k gap text next e is_gap token more) (goes_on j other v rest f is_other twin others) =
    let same = same_token (behind e is_gap) token (behind f is_other) twin in
    let starts = same_start at gap other text v same.gaps same.texts in
    let tails = one_lexing more (moved starts (sym same.nexts) others) in
    let places = ap (λ n. at + n) same.gaps in
    (same_placed k j text v (at + length gap) (at + length other) _ _ same.kinds same.texts places tails.0, tails.1)
