-- The blanks and comments at the start of a text.
use Rattle.std.proofs.Common.{ℕ, suc, ◌≡◌, ◌+◌, ◌<◌, ◌≤◌, Bool, true, false, not, eqb, List, [], ◌∷◌, ◌++◌, length, get_or, drop, refl, sym, ap, ◌∙◌, ⊎_elim, inl, inr, arith, length-append, append_assoc}
use Rattle.std.specs.List.{list_all}
use Rattle.std.proofs.lemmas.Bool.{and_parts, and_from, cond-true, cond-false, cases_Bool, eqb-true, ne_eqb, not-false}
use Rattle.std.proofs.lemmas.Bool.Decides.{nat_tests}
use Rattle.std.proofs.lemmas.List.{at_drop_more, at_drop_all}
use Rattle.ir_text.specs.Bytes.{is_blank, is_letter, is_digit, begins_word, is_sign, is_no_line_feed}
use Rattle.ir_text.specs.Tokens.{IsGap, none, blank, comment, IsEnd}
use Rattle.ir_text.specs.declared.token.TokenKind.{TokenKind}
use Rattle.ir_lex.specs.Gap.{gap_len}
use Rattle.ir_lex.proofs.Forms.{PlainAt, as_word, as_label, as_numeral, as_quoted, as_sign, as_dots, FormAt, as_plain, as_local, as_global, as_metadata, as_group}
use Rattle.ir_lex.proofs.BytesApart.{IsNoSigil, blank-no_sigil}
use Rattle.ir_lex.proofs.SigilForms.{BeginsNoPlain, no_plain, only_plain}

pub gap_len-nil : (commented : Bool) → gap_len commented [] ≡ 0
unfolding gap_len
gap_len-nil commented = refl

pub gap_len-inside : (b : ℕ) (bs : List ℕ) → gap_len true (b ∷ bs) ≡ suc (gap_len (is_no_line_feed b) bs)
unfolding gap_len
gap_len-inside b bs = refl

pub gap_len-comment : (bs : List ℕ) → gap_len false (59 ∷ bs) ≡ suc (gap_len true bs)
unfolding gap_len
gap_len-comment bs = refl

pub gap_len-blank : (b : ℕ) (bs : List ℕ)
    → eqb b 59 ≡ false
    → is_blank b ≡ true
    → gap_len false (b ∷ bs) ≡ suc (gap_len false bs)
unfolding gap_len
gap_len-blank b bs other h = cond-false _ _ _ other ∙ cond-true _ _ _ h

pub gap_len-stop : (b : ℕ) (bs : List ℕ)
    → eqb b 59 ≡ false
    → is_blank b ≡ false
    → gap_len false (b ∷ bs) ≡ 0
unfolding gap_len
gap_len-stop b bs other h = cond-false _ _ _ other ∙ cond-false _ _ _ h

blank-no_comment : (b : ℕ) → is_blank b ≡ true → eqb b 59 ≡ false
unfolding is_blank
blank-no_comment b h = grind (arith, nat_tests)

line_feed : is_no_line_feed 10 ≡ false
unfolding is_no_line_feed
line_feed = refl

-- a comment is counted to its end
inside-append : (text rest : List ℕ)
    → list_all is_no_line_feed text ≡ true
    → gap_len true (text ++ rest) ≡ length text + gap_len true rest
inside-append [] rest h = omega arith
inside-append (b ∷ bs) rest h =
    let parts = and_parts _ _ h in
    gap_len-inside b (bs ++ rest) ∙ ap (λ c. suc (gap_len c (bs ++ rest))) parts.0
    ∙ omega (arith, inside-append bs rest parts.1)

inside-closed : (text rest : List ℕ)
    → list_all is_no_line_feed text ≡ true
    → gap_len true (text ++ (10 ∷ rest)) ≡ length text + suc (gap_len false rest)
inside-closed text rest h =
    inside-append text (10 ∷ rest) h
    ∙ ap (λ n. length text + n) (gap_len-inside 10 rest ∙ ap (λ c. suc (gap_len c rest)) line_feed)

-- what stands behind blanks and comments is counted from there
pub gap_len-append : {gap : List ℕ} (rest : List ℕ)
    → IsGap gap
    → gap_len false (gap ++ rest) ≡ length gap + gap_len false rest
gap_len-append rest none = omega arith
gap_len-append rest (blank {b} {bytes} h more) =
    gap_len-blank b (bytes ++ rest) (blank-no_comment b h) h ∙ omega (arith, gap_len-append rest more)
gap_len-append rest (comment {bytes} text after e h more) =
    let all : bytes ++ rest ≡ 59 ∷ (text ++ (10 ∷ (after ++ rest))) =
    ap (λ l. l ++ rest) e ∙ ap (λ l. 59 ∷ l) (append_assoc text (10 ∷ after) rest) in
    let size : length bytes ≡ suc (length text + suc (length after)) =
    ap length e ∙ ap suc (length-append text (10 ∷ after)) in
    ap (gap_len false) all ∙ gap_len-comment (text ++ (10 ∷ (after ++ rest)))
    ∙ ap suc (inside-closed text (after ++ rest) h) ∙ omega (arith, gap_len-append rest more)

inside-open : (text : List ℕ) → list_all is_no_line_feed text ≡ true → gap_len true text ≡ length text
inside-open [] h = gap_len-nil true
inside-open (b ∷ bs) h =
    let parts = and_parts _ _ h in
    gap_len-inside b bs ∙ ap (λ c. suc (gap_len c bs)) parts.0 ∙ ap suc (inside-open bs parts.1)

-- the end is counted whole
pub gap_len-end : (rest : List ℕ) → IsEnd rest → gap_len false rest ≡ length rest
gap_len-end rest ended =
    ⊎_elim
    (λ (e : rest ≡ []). ap (gap_len false) e ∙ gap_len-nil false ∙ ap length (sym e))
    (λ (open_comment : (text : List ℕ) × (rest ≡ 59 ∷ text) × (list_all is_no_line_feed text ≡ true)).
    ap (gap_len false) open_comment.1 ∙ gap_len-comment open_comment.0
    ∙ ap suc (inside-open open_comment.0 open_comment.2) ∙ ap length (sym open_comment.1))
    ended

-- how the count ends: with the text, or before a byte that is no blank and begins no comment
pub data IsGapOf (s : List ℕ) : Type 0 where
  ended : (gap rest : List ℕ)
      → s ≡ gap ++ rest
      → IsGap gap
      → IsEnd rest
      → gap_len false s ≡ length s
      → IsGapOf s
  stopped : (gap : List ℕ) (b : ℕ) (bs : List ℕ)
      → s ≡ gap ++ (b ∷ bs)
      → IsGap gap
      → is_blank b ≡ false
      → eqb b 59 ≡ false
      → gap_len false s ≡ length gap
      → IsGapOf s

-- the same inside a comment: it never ends, or ends before a text
data IsCommentOf (s : List ℕ) : Type 0 where
  unclosed : list_all is_no_line_feed s ≡ true
      → gap_len true s ≡ length s
      → IsCommentOf s
  closed : (text rest : List ℕ)
      → s ≡ text ++ (10 ∷ rest)
      → list_all is_no_line_feed text ≡ true
      → gap_len true s ≡ length text + suc (gap_len false rest)
      → IsGapOf rest
      → IsCommentOf s

no_line_feed-false : (b : ℕ) → is_no_line_feed b ≡ false → b ≡ 10
unfolding is_no_line_feed
no_line_feed-false b h = eqb-true b 10 (not-false _ h)

-- one more gap at the start
gap_more : (prefix s : List ℕ)
    → ((gap : List ℕ) → IsGap gap → IsGap (prefix ++ gap))
    → gap_len false (prefix ++ s) ≡ length prefix + gap_len false s
    → IsGapOf s
    → IsGapOf (prefix ++ s)
gap_more prefix s join size (ended gap rest e is_gap is_end all) =
    ended (prefix ++ gap) rest (ap (λ l. prefix ++ l) e ∙ sym (append_assoc prefix gap rest)) (join gap is_gap) is_end
    (omega (arith, length-append prefix s))
gap_more prefix s join size (stopped gap b bs e is_gap no_blank no_comment all) =
    stopped (prefix ++ gap) b bs (ap (λ l. prefix ++ l) e ∙ sym (append_assoc prefix gap (b ∷ bs)))
    (join gap is_gap) no_blank no_comment (omega (arith, length-append prefix gap))

comment_more : (b : ℕ) (bs : List ℕ)
    → is_no_line_feed b ≡ true
    → IsCommentOf bs
    → IsCommentOf (b ∷ bs)
comment_more b bs e (unclosed all size) =
    unclosed (and_from _ _ e all) (gap_len-inside b bs ∙ ap (λ c. suc (gap_len c bs)) e ∙ ap suc size)
comment_more b bs e (closed text rest split all size gap) =
    closed (b ∷ text) rest (ap (λ l. b ∷ l) split) (and_from _ _ e all)
    (gap_len-inside b bs ∙ ap (λ c. suc (gap_len c bs)) e ∙ omega arith) gap

comment_step : (b : ℕ) (bs : List ℕ)
    → IsGapOf bs
    → IsCommentOf bs
    → IsCommentOf (b ∷ bs)
comment_step b bs gap inside =
    ⊎_elim
    (λ (e : is_no_line_feed b ≡ true). comment_more b bs e inside)
    (λ (e : is_no_line_feed b ≡ false).
    closed [] bs (ap (λ c. c ∷ bs) (no_line_feed-false b e)) refl
    (gap_len-inside b bs ∙ ap (λ c. suc (gap_len c bs)) e ∙ omega arith) gap)
    (cases_Bool (is_no_line_feed b))

gap_comment : (bs : List ℕ) → IsCommentOf bs → IsGapOf (59 ∷ bs)
gap_comment bs (unclosed all size) =
    ended [] (59 ∷ bs) refl none (inr (bs, refl, all)) (gap_len-comment bs ∙ ap suc size)
gap_comment bs (closed text rest e all size gap) =
    let prefix = 59 ∷ (text ++ 10 ∷ []) in
    let split : 59 ∷ bs ≡ prefix ++ rest = ap (λ l. 59 ∷ l) (e ∙ sym (append_assoc text (10 ∷ []) rest)) in
    let long : length prefix ≡ suc (length text + 1) = ap suc (length-append text (10 ∷ [])) in
    rw split
    (gap_more prefix rest
    (λ more is_gap. comment text more (ap (λ l. 59 ∷ l) (append_assoc text (10 ∷ []) more)) all is_gap)
    (ap (gap_len false) (sym split) ∙ gap_len-comment bs ∙ omega arith)
    gap)

gap_step : (b : ℕ) (bs : List ℕ)
    → IsGapOf bs
    → IsCommentOf bs
    → IsGapOf (b ∷ bs)
gap_step b bs gap inside =
    ⊎_elim
    (λ (e : eqb b 59 ≡ true). let c = eqb-true b 59 e in rw c (gap_comment bs inside))
    (λ (other : eqb b 59 ≡ false).
    ⊎_elim
    (λ (e : is_blank b ≡ true). gap_more (b ∷ []) bs (λ more is_gap. blank e is_gap)
    (gap_len-blank b bs other e ∙ omega arith) gap)
    (λ (e : is_blank b ≡ false). stopped [] b bs refl none e other (gap_len-stop b bs other e))
    (cases_Bool (is_blank b)))
    (cases_Bool (eqb b 59))

-- both ways to stand before a text
record IsBoth (s : List ℕ) : Type 0 where
  gap : IsGapOf s
  inside : IsCommentOf s

both_of : (s : List ℕ) → IsBoth s
both_of [] =
    record { gap = ended [] [] refl none (inl refl) (gap_len-nil false); inside = unclosed refl (gap_len-nil true) }
both_of (b ∷ bs) =
    let more = both_of bs in
    record { gap = gap_step b bs more.gap more.inside; inside = comment_step b bs more.gap more.inside }

pub gap_of : (s : List ℕ) → IsGapOf s
gap_of s = (both_of s).gap

blank-no_plain : (b : ℕ) → is_blank b ≡ true → BeginsNoPlain b
unfolding is_blank begins_word is_letter is_digit is_sign
blank-no_plain b h =
    record {
      word = grind (arith, nat_tests);
      digit = grind (arith, nat_tests);
      quote = grind (arith, nat_tests);
      minus = grind (arith, nat_tests);
      sign = grind (arith, nat_tests);
    }

comment-no_plain : BeginsNoPlain 59
unfolding begins_word is_letter is_digit is_sign
comment-no_plain = record { word = refl; digit = refl; quote = refl; minus = refl; sign = refl }

comment-no_sigil : IsNoSigil 59
comment-no_sigil = record {
  percent = λ e. omega arith;
  at_sign = λ e. omega arith;
  bang = λ e. omega arith;
  hash = λ e. omega arith;
}

no_form_at : (b : ℕ) (bs : List ℕ) (n : ℕ) (kind : TokenKind)
    → BeginsNoPlain b
    → IsNoSigil b
    → FormAt (b ∷ bs) n kind
    → ⊥
no_form_at b bs n kind plain sigil form = no_plain b bs n kind plain (only_plain b bs n kind sigil form)

-- no token begins with a blank or a comment
pub form-gap_len : (s : List ℕ) (n : ℕ) (kind : TokenKind) → FormAt s n kind → gap_len false s ≡ 0
form-gap_len [] n kind form = gap_len-nil false
form-gap_len (b ∷ bs) n kind form =
    ⊎_elim
    (λ (e : eqb b 59 ≡ true).
    let c = eqb-true b 59 e in
    absurd (no_form_at 59 bs n kind comment-no_plain comment-no_sigil (rw c at form)))
    (λ (other : eqb b 59 ≡ false).
    ⊎_elim
    (λ (e : is_blank b ≡ true). absurd (no_form_at b bs n kind (blank-no_plain b e) (blank-no_sigil b e) form))
    (λ (e : is_blank b ≡ false). gap_len-stop b bs other e)
    (cases_Bool (is_blank b)))
    (cases_Bool (eqb b 59))

plain-some : (s : List ℕ) (n : ℕ) (kind : TokenKind) → PlainAt s n kind → 0 < n
plain-some s n _ (as_word some le) = some
plain-some s n _ (as_label begins is) = omega arith
plain-some s n _ (as_numeral some is fits) = some
plain-some s n _ (as_quoted some is) = some
plain-some s n _ (as_sign bs e is_sign_b one) = omega arith
plain-some s n _ (as_dots rest e three) = omega arith

-- nor is it empty
pub form-some : (s : List ℕ) (n : ℕ) (kind : TokenKind) → FormAt s n kind → 0 < n
form-some s n _ (as_plain p) = plain-some s n _ p
form-some s n _ (as_local bs e some le) = omega arith
form-some s n _ (as_global bs e some le) = omega arith
form-some s n _ (as_metadata bs e some le) = some
form-some s n _ (as_group bs e some le) = omega arith

-- one byte on, by what it is: n is the whole count
module _ (s : List ℕ) (i n : ℕ) (within : i < length s) where
  pub turn-inside : (c d : Bool)
      → c ≡ true
      → d ≡ is_no_line_feed (get_or s i 0)
      → i + gap_len c (drop i s) ≡ n
      → i + 1 + gap_len d (drop (i + 1) s) ≡ n
  turn-inside c d is_c is_d h =
      let step =
      ap (λ k. gap_len k (drop i s)) is_c ∙ at_drop_more (gap_len true) s i 0 within
      ∙ gap_len-inside (get_or s i 0) (drop (i + 1) s) ∙ ap (λ k. suc (gap_len k (drop (i + 1) s))) (sym is_d) in
      omega arith

  pub turn-comment : (c d : Bool)
      → c ≡ false
      → d ≡ true
      → get_or s i 0 ≡ 59
      → i + gap_len c (drop i s) ≡ n
      → i + 1 + gap_len d (drop (i + 1) s) ≡ n
  turn-comment c d is_c is_d semicolon h =
      let step =
      ap (λ k. gap_len k (drop i s)) is_c ∙ at_drop_more (gap_len false) s i 0 within
      ∙ ap (λ b. gap_len false (b ∷ drop (i + 1) s)) semicolon ∙ gap_len-comment (drop (i + 1) s)
      ∙ ap (λ k. suc (gap_len k (drop (i + 1) s))) (sym is_d) in
      omega arith

  pub turn-blank : (c d : Bool)
      → c ≡ false
      → d ≡ false
      → is_blank (get_or s i 0) ≡ true
      → i + gap_len c (drop i s) ≡ n
      → i + 1 + gap_len d (drop (i + 1) s) ≡ n
  turn-blank c d is_c is_d is_b h =
      let step =
      ap (λ k. gap_len k (drop i s)) is_c ∙ at_drop_more (gap_len false) s i 0 within
      ∙ gap_len-blank (get_or s i 0) (drop (i + 1) s) (blank-no_comment _ is_b) is_b
      ∙ ap (λ k. suc (gap_len k (drop (i + 1) s))) (sym is_d) in
      omega arith

  pub turn-stop : (c : Bool)
      → c ≡ false
      → (get_or s i 0 ≡ 59 → ⊥)
      → is_blank (get_or s i 0) ≡ false
      → i + gap_len c (drop i s) ≡ n
      → i ≡ n
  turn-stop c is_c other no_blank h =
      let step =
      ap (λ k. gap_len k (drop i s)) is_c ∙ at_drop_more (gap_len false) s i 0 within
      ∙ gap_len-stop (get_or s i 0) (drop (i + 1) s) (ne_eqb _ 59 other) no_blank in
      omega arith

pub turn-end : (s : List ℕ) (i : ℕ) (c : Bool) (n : ℕ)
    → length s ≤ i
    → i + gap_len c (drop i s) ≡ n
    → i ≡ n
turn-end s i c n past h = omega (arith, at_drop_all (gap_len c) s i past, gap_len-nil c)

pub no_line_feed-is : (b : ℕ) → not (eqb b 10) ≡ is_no_line_feed b
unfolding is_no_line_feed
no_line_feed-is b = refl
