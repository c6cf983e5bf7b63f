-- The tokens of a text, found one after another.
use Rattle.std.proofs.Common.{ℕ, ◌≡◌, ◌+◌, ◌-◌, ◌<◌, ◌≤◌, false, List, [], ◌∷◌, ◌++◌, length, take, drop, map, refl, sym, ap, ◌∙◌, subst, arith, append_assoc, length-append, length-drop, length-take-le, take-append-drop, Some, None}
use Rattle.std.specs.List.{slice_range, AllByRecursion}
use Rattle.std.proofs.lemmas.Bool.{eqb-false}
use Rattle.std.proofs.lemmas.List.{append-nil, map-append, drop-drop, take_at, drop_at}
use Rattle.ir_text.specs.Bytes.{is_blank}
use Rattle.ir_text.specs.Tokens.{IsTokenAt, IsGap, IsBadByte, Placed, Lexed, ends_whole, ends_bad, goes_on}
use Rattle.ir_text.specs.declared.token.Token.{Token}
use Rattle.ir_text.specs.declared.token.TokenKind.{TokenKind}
use Rattle.ir_lex.specs.FirstToken.{first_token}
use Rattle.ir_lex.specs.Gap.{gap_len}
use Rattle.ir_lex.specs.InOrder.{AreInOrder}
use Rattle.ir_lex.specs.Tokenized.{lexeme_of, placed_of, IsWithin}
use Rattle.ir_lex.proofs.LongestForm.{IsToken, HasNoToken, IsFirstToken}
use Rattle.ir_lex.proofs.FirstTokenIsRight.{first_token_is_right}
use Rattle.ir_lex.proofs.Gaps.{IsGapOf, ended, stopped, gap_of}

-- The tokens were found up to `at`: what is found of the rest is found of the whole.
pub record AreFound (input : List ℕ) (tokens : List Token) (at : ℕ) : Type 0 where
  pub within : at ≤ length input
  pub each_within : AllByRecursion (IsWithin input) tokens
  pub lexed : (rest : List Placed) (stop : ℕ)
      → Lexed at (drop at input) rest stop
      → Lexed 0 input (map (placed_of input) tokens ++ rest) stop
  pub in_order : (rest : List Token) → AreInOrder input at rest → AreInOrder input 0 (tokens ++ rest)

pub none_found : (input : List ℕ) → AreFound input [] 0
none_found input = record {
  within = omega arith;
  each_within = tt;
  lexed = λ rest stop h. h;
  in_order = λ rest h. h;
}

-- the gap from one place to another, where something else begins
pub record IsGapTo (input : List ℕ) (at from : ℕ) : Type 0 where
  pub after : at ≤ from
  pub within : from < length input
  pub gap : IsGap (slice_range input at from)
  pub split : drop at input ≡ slice_range input at from ++ drop from input
  pub size : length (slice_range input at from) ≡ from - at
  pub first : ℕ
  pub others : List ℕ
  pub bytes_are : drop from input ≡ first ∷ others
  pub no_blank : is_blank first ≡ false
  pub no_comment : first ≡ 59 → ⊥

-- where a gap stops before the end, something else begins
gap_by : (input : List ℕ) (at : ℕ)
    → at ≤ length input
    → (from : ℕ)
    → from ≡ at + gap_len false (drop at input)
    → (from ≡ length input → ⊥)
    → IsGapOf (drop at input)
    → IsGapTo input at from
gap_by input at within from is not_end (ended gap rest e is_gap is_end all) =
    absurd (not_end (omega (arith, length-drop at input)))
gap_by input at within from is not_end (stopped gap b bs e is_gap no_blank no_comment long) =
    let size : from - at ≡ length gap = omega arith in
    let part : slice_range input at from ≡ gap =
    ap (λ n. take n (drop at input)) size ∙ ap (λ l. take (length gap) l) e ∙ take_at gap (b ∷ bs) (length gap) refl in
    let rest : drop from input ≡ b ∷ bs =
    ap (λ n. drop n input) (is ∙ ap (λ n. at + n) long) ∙ sym (drop-drop (length gap) at input)
    ∙ ap (λ l. drop (length gap) l) e ∙ drop_at gap (b ∷ bs) (length gap) refl in
    record {
      after = omega arith;
      within = omega (arith, length-drop at input, ap length e, length-append gap (b ∷ bs));
      gap = subst IsGap (sym part) is_gap;
      split = e ∙ (λ i. sym part i ++ sym rest i);
      size = ap length part ∙ sym size;
      first = b;
      others = bs;
      bytes_are = rest;
      no_blank = no_blank;
      no_comment = eqb-false b 59 no_comment;
    }

pub gap_to : (input : List ℕ) (at from : ℕ)
    → at ≤ length input
    → from ≡ at + gap_len false (drop at input)
    → (from ≡ length input → ⊥)
    → IsGapTo input at from
gap_to input at from within is not_end = gap_by input at within from is not_end (gap_of (drop at input))

-- where a gap goes on to the end, there are no more tokens
end_by : (input : List ℕ) (at : ℕ)
    → at ≤ length input
    → at + gap_len false (drop at input) ≡ length input
    → IsGapOf (drop at input)
    → Lexed at (drop at input) [] (length input)
end_by input at within is (ended gap rest e is_gap is_end all) =
    let size : at + length (drop at input) ≡ length input = omega (arith, length-drop at input) in
    subst (λ n. Lexed at (drop at input) [] n) size (ends_whole gap rest e is_gap is_end)
end_by input at within is (stopped gap b bs e is_gap no_blank no_comment long) =
    absurd (omega (arith, length-drop at input, ap length e, length-append gap (b ∷ bs)))

-- one token more within the input
each_push : (input : List ℕ) (tokens : List Token) (t : Token)
    → AllByRecursion (IsWithin input) tokens
    → IsWithin input t
    → AllByRecursion (IsWithin input) (tokens ++ t ∷ [])
each_push input [] t h within = (within, tt)
each_push input (x ∷ xs) t h within = (h.0, each_push input xs t h.1 within)

-- one token more, behind the others
one_behind : (input : List ℕ) (tokens : List Token) (rest : List Placed) (t : Token)
    → map (placed_of input) tokens ++ (placed_of input t ∷ rest) ≡ map (placed_of input) (tokens ++ t ∷ []) ++ rest
one_behind input tokens rest t =
    sym (ap (λ l. l ++ rest) (map-append (placed_of input) tokens (t ∷ []))
    ∙ append_assoc (map (placed_of input) tokens) (placed_of input t ∷ []) rest)

-- The tokens are those of the input up to a place, and stand in order.
pub record AreAll (input : List ℕ) (tokens : List Token) (stop : ℕ) : Type 0 where
  pub lexed : Lexed 0 input (map (placed_of input) tokens) stop
  pub in_order : AreInOrder input 0 tokens

-- with nothing more to be found, what was found is all
done : (input : List ℕ) (tokens : List Token) (at stop : ℕ)
    → AreFound input tokens at
    → Lexed at (drop at input) [] stop
    → AreAll input tokens stop
done input tokens at stop found ends = record {
  lexed = subst (λ l. Lexed 0 input l stop) (append-nil (map (placed_of input) tokens)) (found.lexed [] stop ends);
  in_order = subst (AreInOrder input 0) (append-nil tokens) (found.in_order [] tt);
}

module _ (input : List ℕ) (tokens : List Token) (at from : ℕ) (found : AreFound input tokens at)
    (is : from ≡ at + gap_len false (drop at input)) where
  -- at the end, they are all
  pub all_found : from ≡ length input → AreAll input tokens (length input)
  all_found at_end =
      done input tokens at (length input) found
      (end_by input at found.within (sym is ∙ at_end) (gap_of (drop at input)))

  -- and where no token begins, which is at the first bad byte
  pub bad_found : (from ≡ length input → ⊥)
      → first_token (drop from input) ≡ None
      → AreAll input tokens from
  bad_found not_end none =
      let gap = gap_to input at from found.within is not_end in
      let no_token : HasNoToken (drop from input) =
      subst (IsFirstToken (drop from input)) none (first_token_is_right (drop from input)) in
      let byte : IsBadByte (drop from input) =
      record {
        first = gap.first;
        others = gap.others;
        bytes_are = gap.bytes_are;
        no_blank = gap.no_blank;
        no_comment = gap.no_comment;
        no_token = no_token;
      } in
      let total : at + length (slice_range input at from) ≡ from = omega (arith, gap.size, gap.after) in
      done input tokens at from found
      (subst (λ n. Lexed at (drop at input) [] n) total
      (ends_bad (slice_range input at from) (drop from input) gap.split gap.gap byte))

  -- one token more
  pub one_more : (from ≡ length input → ⊥)
      → (kind : TokenKind) (n to : ℕ)
      → first_token (drop from input) ≡ Some (kind, n)
      → 0 < n
      → to ≡ from + n
      → AreFound input (tokens ++ record { kind = kind; from = from; to = to } ∷ []) to
  one_more not_end kind n to some positive to_is =
      let gap = gap_to input at from found.within is not_end in
      let there : IsToken (drop from input) kind n =
      subst (IsFirstToken (drop from input)) some (first_token_is_right (drop from input)) in
      let fits : to ≤ length input = omega (arith, length-drop from input, there.within, gap.within) in
      let size : to - from ≡ n = omega arith in
      let text_is : slice_range input from to ≡ take n (drop from input) = ap (λ k. take k (drop from input)) size in
      let rest_is : drop to input ≡ drop n (drop from input) =
      ap (λ k. drop k input) to_is ∙ sym (drop-drop n from input) in
      let token : IsTokenAt kind (slice_range input from to) (drop to input) =
      subst (λ l. IsTokenAt kind (slice_range input from to) l) (sym rest_is)
      (subst (λ l. IsTokenAt kind l (drop n (drop from input))) (sym text_is) there.token) in
      let split : drop at input ≡ slice_range input at from ++ (slice_range input from to ++ drop to input) =
      gap.split
      ∙ ap (λ l. slice_range input at from ++ l)
      (sym (take-append-drop n (drop from input)) ∙ (λ i. sym text_is i ++ sym rest_is i)) in
      let long : length (slice_range input from to) ≡ n =
      ap length text_is ∙ length-take-le n (drop from input) there.within in
      let here : at + length (slice_range input at from) ≡ from = omega (arith, gap.size, gap.after) in
      let next : to ≡ at + (length (slice_range input at from) + length (slice_range input from to)) =
      omega (arith, gap.size, gap.after, long, to_is) in
      let t : Token = record { kind = kind; from = from; to = to } in
      let begun : (rest : List Placed) (stop : ℕ)
      → Lexed to (drop to input) rest stop
      → Lexed at (drop at input) (placed_of input t ∷ rest) stop =
      λ rest stop h.
      let others = subst (λ n. Lexed n (drop to input) rest stop) next h in
      let lexed = goes_on kind (slice_range input at from) (slice_range input from to) (drop to input) in
      subst (λ n. Lexed at (drop at input) (record { lexeme = lexeme_of input t; from = n } ∷ rest) stop) here
      (lexed split gap.gap token others) in
      record {
        within = fits;
        each_within = each_push input tokens _ found.each_within (omega arith, fits);
        lexed = λ rest stop h. subst (λ l. Lexed 0 input l stop) (one_behind input tokens rest _)
            (found.lexed _ stop (begun rest stop h));
        in_order =
            λ rest h. subst (AreInOrder input 0) (sym (append_assoc tokens _ rest))
            (found.in_order _ (gap.after, omega arith, fits, gap.gap, h));
      }
