-- What stands first among some words.
use Rattle.std.proofs.Common.{◌≡◌, ℕ, ◌+◌, suc, Bool, true, false, ◌||◌, if◌then◌else◌, List, [], ◌∷◌, length, drop, Result, Ok, Err, inl, inr, refl, sym, ap, ◌∙◌, codes}
use Rattle.std.specs.Str.{bytes_eq}
use Rattle.std.proofs.lemmas.Slice.Eq.{bytes_eq-Decides}
use Rattle.ir_text.specs.Tokens.{Lexeme}
use Rattle.ir_text.specs.Listed.{word}
use Rattle.ir_text.specs.PassedOn.{is_among}
use Rattle.ir_lex.specs.Tokenized.{Tokenized}
use Rattle.ir_parts.specs.Reading.{go_on, pure, token_at, begins, is_keyword, keyword_at, left_from, ◌>>=◌}
use Rattle.ir_parts.proofs.Places.{left_behind}
use Rattle.ir_parts.proofs.Readers.{both_read, same_read, either, chosen_first, chosen_other}
use Rattle.ir_parts.proofs.SingleTokens.{is_word}
use Rattle.ir_body.specs.FlagWords.{without, words_at}
use Rattle.ir_body.specs.Flags.{flag_at, pair_at, gep_words, gep_flags_at}
use Rattle.ir_body.proofs.FlagWords.{one_more, no_more, none_begin}

-- one of the words stands first
taken_first : (most : ℕ) (ws : List (List ℕ)) (text : List ℕ) (ts : List Lexeme) → begins (is_keyword text) ts ≡ true
    → is_among ws text ≡ true
    → words_at (suc most) ws ts ≡ go_on (words_at most (without ws text) (drop 1 ts)) (λ found. pure (text ∷ found))
taken_first most ws text [] passes open_so = absurd cc
taken_first most ws text (t ∷ ts) passes open_so =
    ap (λ (t : Lexeme). words_at (suc most) ws (t ∷ ts)) (is_word text t passes)
    ∙ one_more most ws (word text) ts open_so

pub word_taken : (t : Tokenized) (at most : ℕ) (ws : List (List ℕ)) (text : List ℕ)
    → begins (is_keyword text) (left_from t at) ≡ true → is_among ws text ≡ true
    → words_at (suc most) ws (left_from t at)
    ≡ go_on (words_at most (without ws text) (left_from t (at + 1))) (λ found. pure (text ∷ found))
word_taken t at most ws text passes open_so =
    taken_first most ws text (left_from t at) passes open_so
    ∙ ap (λ (ts : List Lexeme). go_on (words_at most (without ws text) ts) (λ found. pure (text ∷ found)))
    (left_behind t at)

-- ---- one word and two

itself : (x : List ℕ) → bytes_eq x x ≡ true
itself x = (bytes_eq-Decides x x).1 refl

swapped : (x y : List ℕ) → bytes_eq x y ≡ false → bytes_eq y x ≡ false
swapped x y e = elim (either (bytes_eq y x)) [
  | inl same ↦ absurd (let back = (bytes_eq-Decides x y).1 (sym ((bytes_eq-Decides y x).0 same)) in cc)
  | inr other ↦ other
]

abbrev where_set : Bool → List ℕ → List (List ℕ)
where_set true text = text ∷ []
where_set false text = []

-- a flag, as one word
one_word : (text : List ℕ) (ts rest : List Lexeme) (set : Bool) → flag_at text ts ≡ Ok (set, rest)
    → words_at 1 (text ∷ []) ts ≡ Ok (where_set set text, rest)
unfolding flag_at token_at words_at
one_word text ts rest set e = elim (either (begins (is_keyword text) ts)) [
  | inl passed ↦
      taken_first 0 (text ∷ []) text ts passed (ap (λ (b : Bool). b || false) (itself text))
      ∙ of_set set (sym (chosen_first (is_keyword text) (keyword_at text >>= λ _. pure true) (pure false) ts passed
      ∙ ap (λ (b : Bool). go_on (if b then Ok (tt, drop 1 ts) else Err (length ts)) (λ _. pure true)) passed) ∙ e)
  | inr failed ↦
      no_more 1 (text ∷ []) ts (none_begin (text ∷ []) ts (failed, tt))
      ∙ of_none set (sym (chosen_other (is_keyword text) (keyword_at text >>= λ _. pure true) (pure false) ts failed)
      ∙ e)
]
  where
    of_set : (set : Bool) → ◌≡◌ {A = Result (Bool × List Lexeme) ℕ} (Ok (true, drop 1 ts)) (Ok (set, rest))
        → ◌≡◌ {A = Result (List (List ℕ) × List Lexeme) ℕ} (Ok (text ∷ [], drop 1 ts)) (Ok (where_set set text, rest))
    of_set set e =
        let same = same_read (true, drop 1 ts) (set, rest) e in
        ap (λ (read : Bool × List Lexeme). Ok (where_set read.0 text, read.1)) same

    of_none : (set : Bool) → ◌≡◌ {A = Result (Bool × List Lexeme) ℕ} (Ok (false, ts)) (Ok (set, rest))
        → ◌≡◌ {A = Result (List (List ℕ) × List Lexeme) ℕ} (Ok ([], ts)) (Ok (where_set set text, rest))
    of_none set e =
        let same = same_read (false, ts) (set, rest) e in
        ap (λ (read : Bool × List Lexeme). Ok (where_set read.0 text, read.1)) same

both_words : {A : Type 0} (keep : List (List ℕ) → A) (text : List ℕ) (rest : List Lexeme)
    (found : List (List ℕ)) (x : A) (r : Result (List (List ℕ) × List Lexeme) ℕ) → r ≡ Ok (found, rest)
    → keep (text ∷ found) ≡ x
    → go_on (go_on r (λ found. pure (text ∷ found))) (λ found. pure (keep found)) ≡ Ok (x, rest)
both_words keep text rest found x r e is =
    ap (λ r. go_on (go_on r (λ found. pure (text ∷ found))) (λ found. pure (keep found))) e
    ∙ ap (λ x. Ok (x, rest)) is

-- the pair of flags, by which word stands first
module _ (t : Tokenized) (at : ℕ) (one other : List ℕ) (apart : bytes_eq one other ≡ false) where
  pub one_first : (set : Bool) (rest : List Lexeme) → begins (is_keyword one) (left_from t at) ≡ true
      → flag_at other (left_from t (at + 1)) ≡ Ok (set, rest)
      → pair_at one other (left_from t at) ≡ Ok ((true, set), rest)
  unfolding pair_at
  one_first set rest passes read =
      ap (λ r. go_on r (λ found. pure (is_among found one, is_among found other)))
      (word_taken t at 1 (one ∷ other ∷ []) one passes
      (ap (λ (b : Bool). b || (bytes_eq other one || false)) (itself one)))
      ∙ both_words (λ found. (is_among found one, is_among found other)) one rest (where_set set other) (true, set)
      (words_at 1 (without (one ∷ other ∷ []) one) (left_from t (at + 1)))
      (ap (λ (ws : List (List ℕ)). words_at 1 ws (left_from t (at + 1))) left
      ∙ one_word other (left_from t (at + 1)) rest set read)
      (values set)
    where
      left : without (one ∷ other ∷ []) one ≡ other ∷ []
      left = rw (itself one, swapped one other apart) refl

      values : (set : Bool) → ◌≡◌ {A = Bool × Bool} (
        is_among (one ∷ where_set set other) one,
        is_among
            (one ∷ where_set set other) other,
      ) (true, set)
      values true = rw (itself one, apart, itself other) refl
      values false = rw (itself one, apart) refl

  pub other_first : (set : Bool) (rest : List Lexeme) → begins (is_keyword other) (left_from t at) ≡ true
      → flag_at one (left_from t (at + 1)) ≡ Ok (set, rest)
      → pair_at one other (left_from t at) ≡ Ok ((set, true), rest)
  unfolding pair_at
  other_first set rest passes read =
      ap (λ r. go_on r (λ found. pure (is_among found one, is_among found other)))
      (word_taken t at 1 (one ∷ other ∷ []) other passes (rw (apart, itself other) refl))
      ∙ both_words (λ found. (is_among found one, is_among found other)) other rest (where_set set one) (set, true)
      (words_at 1 (without (one ∷ other ∷ []) other) (left_from t (at + 1)))
      (ap (λ (ws : List (List ℕ)). words_at 1 ws (left_from t (at + 1))) left
      ∙ one_word one (left_from t (at + 1)) rest set read)
      (values set)
    where
      left : without (one ∷ other ∷ []) other ≡ one ∷ []
      left = rw (apart, itself other) refl

      values : (set : Bool) → ◌≡◌ {A = Bool × Bool} (
        is_among (other ∷ where_set set one) one,
        is_among
            (other ∷ where_set set one) other,
      ) (set, true)
      values true = rw (swapped one other apart, itself one, itself other) refl
      values false = rw (swapped one other apart, itself other) refl

  pub neither_first : begins (is_keyword one) (left_from t at) ≡ false → begins (is_keyword other) (left_from t at)
      ≡ false
      → pair_at one other (left_from t at) ≡ Ok ((false, false), left_from t at)
  unfolding pair_at
  neither_first a b =
      ap (λ r. go_on r (λ found. pure (is_among found one, is_among found other)))
      (no_more 2 (one ∷ other ∷ []) (left_from t at) (none_begin (one ∷ other ∷ []) (left_from t at) (a, (b, tt))))

-- The flags of `getelementptr`, one of which stands first, before a pair.
pub gep_first : (t : Tokenized) (at : ℕ) (text one other : List ℕ) (set : Bool × Bool) (rest : List Lexeme) (x : Bool)
    → without gep_words text ≡ one ∷ other ∷ []
    → is_among gep_words text ≡ true
    → ((found : List (List ℕ)) → is_among found one ≡ set.0 → is_among (text ∷ found) (codes "inbounds") ≡ x)
    → begins (is_keyword text) (left_from t at) ≡ true
    → pair_at one other (left_from t (at + 1)) ≡ Ok (set, rest)
    → gep_flags_at (left_from t at) ≡ Ok (x, rest)
unfolding pair_at gep_flags_at
gep_first t at text one other set rest x left among keeps passes read =
    let b = both_read (words_at 2 (one ∷ other ∷ []) (left_from t (at + 1)))
    (λ found. pure (is_among found one, is_among found other)) (set, rest) read in
    let same = same_read ((is_among b.value one, is_among b.value other), b.middle) (set, rest) b.second in
    ap (λ r. go_on r (λ found. pure (is_among found (codes "inbounds"))))
    (word_taken t at 2 gep_words text passes among)
    ∙ (both_words (λ found. is_among found (codes "inbounds")) text b.middle b.value x
    (words_at 2 (without gep_words text) (left_from t (at + 1)))
    (ap (λ (ws : List (List ℕ)). words_at 2 ws (left_from t (at + 1))) left ∙ b.first)
    (keeps b.value (ap (λ (p : (Bool × Bool) × List Lexeme). p.0.0) same))
    ∙ ap (λ (p : (Bool × Bool) × List Lexeme). Ok (x, p.1)) same)

pub no_gep_first : (t : Tokenized) (at : ℕ) → begins (is_keyword (codes "inbounds")) (left_from t at) ≡ false
    → begins (is_keyword (codes "nuw")) (left_from t at) ≡ false
    → begins (is_keyword (codes "nusw")) (left_from t at) ≡ false
    → gep_flags_at (left_from t at) ≡ Ok (false, left_from t at)
unfolding gep_flags_at
no_gep_first t at a b c = ap (λ r. go_on r (λ found. pure (is_among found (codes "inbounds"))))
    (no_more 3 gep_words (left_from t at) (none_begin gep_words (left_from t at) (a, (b, (c, tt)))))
