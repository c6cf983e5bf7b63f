-- Lists are read: things with commas between them, and any number of them before a closing sign.
use Rattle.std.proofs.Common.{◌≡◌, ℕ, suc, true, false, List, [], ◌∷◌, ◌++◌, length, Err, ◌⊎◌, inl, inr, refl, sym, ap, subst, ◌∙◌, append_assoc}
use Rattle.std.proofs.lemmas.List.{append-nil}
use Rattle.ir_text.specs.Tokens.{Lexeme}
use Rattle.ir_text.specs.Listed.{InSequence, SeparatedByCommas, sign}
use Rattle.ir_text.specs.Language.{Language, ◌·◌, nothing, comma, punctuation}
use Rattle.ir_parts.specs.Reading.{Read, pure, ◌▷◌, ◌◁◌, begins, is_punctuation, punctuation_at}
use Rattle.ir_parts.specs.ListReading.{with_commas_at, listed_at}
use Rattle.ir_parts.proofs.Readers.{StopsAt, IsReader, Anything, of_language, mapped, chosen, stops_also}
use Rattle.ir_parts.proofs.Combined.{pure_reads, behind_token, stands_for, before_stopping, not_at_first}
use Rattle.ir_parts.proofs.Together.{both_until}
use Rattle.ir_parts.proofs.Repeated.{BehindLast, behind_later, repeated_by_last, stops_with_more, next_stops}
use Rattle.ir_parts.proofs.SingleTokens.{sign_reads, is_sign_itself}

-- The token is no comma, and doesn't continue the last thing.
abbrev pub StopLast : {X : Type 0} → (X → Lexeme → Type 0) → List X → Lexeme → Type 0
StopLast Stop = BehindLast (is_punctuation 44) Stop

-- ---- what stands between commas, and behind them

-- the first thing, and others each behind a comma, are things with commas between them
separated : {X : Type 0} (L : X → Language) (x : X) (xs : List X) (ts : List Lexeme)
    → (L x · InSequence (λ x. comma · L x) xs) ts → SeparatedByCommas L (x ∷ xs) ts
separated L x [] ts l =
    subst (λ (ts : List Lexeme). L x ts)
    (sym (l.2 ∙ (ap (λ (vs : List Lexeme). l.0 ++ vs) l.4 ∙ append-nil l.0))) l.3
separated L x (y ∷ ys) ts l =
    let behind = l.4 in
    let part = behind.3 in
    let inner : List Lexeme = part.1 ++ behind.1 in
    let all : l.1 ≡ sign 44 ∷ inner =
    behind.2 ∙ ap (λ (us : List Lexeme). us ++ behind.1) (part.2 ∙ ap (λ (us : List Lexeme). us ++ part.1) part.3) in (
      l.0,
      inner,
      l.2 ∙ ap (λ (vs : List Lexeme). l.0 ++ vs) all,
      l.3,
      separated L y ys inner (part.1, behind.1, refl, part.4, behind.4),
    )

-- and the other way round
in_sequence : {X : Type 0} (L : X → Language) (x : X) (xs : List X) (ts : List Lexeme)
    → SeparatedByCommas L (x ∷ xs) ts → (L x · InSequence (λ x. comma · L x) xs) ts
in_sequence L x [] ts l = (ts, [], sym (append-nil ts), l, refl)
in_sequence L x (y ∷ ys) ts l =
    let others = in_sequence L y ys l.1 l.4 in (
      l.0,
      sign 44 ∷ l.1,
      l.2,
      l.3,
      (
        sign 44 ∷ others.0,
        others.1,
        ap (λ (us : List Lexeme). sign 44 ∷ us) others.2,
        (sign 44 ∷ [], others.0, refl, refl, others.3),
        others.4,
      ),
    )

-- ---- things with commas between them

module _ {X : Type 0} {item : Read X} {L : X → Language} {Stop : X → Lexeme → Type 0}
    (item_reads : IsReader item L Stop)
    (comma_stops : (x : X) (t : Lexeme) → is_punctuation 44 t ≡ true → Stop x t) where
  -- one thing behind its comma
  behind_comma : IsReader (punctuation_at 44 ▷ item) (λ x. comma · L x) Stop
  behind_comma = behind_token (sign_reads 44) item_reads

  -- it begins with the comma, which is taken
  begins_comma : (x : X) (ts : List Lexeme) → (comma · L x) ts → begins (is_punctuation 44) ts ≡ true
  begins_comma x ts l = rw (l.2, l.3) (is_sign_itself 44)

  comma_taken : (t : Lexeme) (ts : List Lexeme) → is_punctuation 44 t ≡ true
      → (punctuation_at 44 ▷ item) (t ∷ ts) ≡ Err (suc (length ts)) → ⊥
  comma_taken t ts passed e = not_at_first (is_punctuation 44) item_reads t ts passed e

  -- the first of them, and those behind commas
  made_of : List X → Language
  made_of xs ts = (p : X × List X) × (xs ≡ p.0 ∷ p.1) × (L p.0 · InSequence (λ x. comma · L x) p.1) ts

  -- which are things with commas between them
  all_separated : (xs : List X) (ts : List Lexeme) → made_of xs ts → SeparatedByCommas L xs ts
  unfolding made_of
  all_separated xs ts l = rw l.1 (separated L l.0.0 l.0.1 ts l.2)

  all_in_sequence : (xs : List X) (ts : List Lexeme) → SeparatedByCommas L xs ts → made_of xs ts
  unfolding made_of
  all_in_sequence [] ts l = absurd l
  all_in_sequence (x ∷ xs) ts l = ((x, xs), refl, in_sequence L x xs ts l)

  -- Things with commas between them are read up to what is no comma and doesn't continue the last.
  pub with_commas_read : IsReader (with_commas_at item) (λ xs. SeparatedByCommas L xs) (StopLast Stop)
  unfolding with_commas_at made_of
  with_commas_read =
      of_language (λ xs. SeparatedByCommas L xs) all_separated all_in_sequence
      (mapped (λ (p : X × List X). p.0 ∷ p.1) (StopLast Stop) (λ p t stop. stop) (λ p t stop. stop)
      (both_until (λ p. StopLast Stop (p.0 ∷ p.1)) item_reads
      (repeated_by_last (is_punctuation 44) Stop behind_comma begins_comma comma_stops comma_taken)
      (λ x xs taken rest l stops behind.
      stops_with_more (is_punctuation 44) Stop behind_comma begins_comma comma_stops comma_taken x xs taken rest l
      stops behind)
      (λ x xs taken rest l stops. (
        next_stops (is_punctuation 44) Stop behind_comma begins_comma comma_stops comma_taken x xs taken rest l stops,
        stops_also rest (behind_later (is_punctuation 44) Stop x xs) stops,
      ))))

-- ---- any number of them, and a closing sign

-- things with commas between them, any number
abbrev pub AnyWithCommas : {X : Type 0} → (X → Language) → List X → Language
AnyWithCommas L [] = nothing
AnyWithCommas L (x ∷ xs) = SeparatedByCommas L (x ∷ xs)

module _ {X : Type 0} {item : Read X} {L : X → Language} {Stop : X → Lexeme → Type 0} (closing : ℕ)
    (item_reads : IsReader item L Stop)
    (comma_stops : (x : X) (t : Lexeme) → is_punctuation 44 t ≡ true → Stop x t)
    (closing_stops : (x : X) (t : Lexeme) → is_punctuation closing t ≡ true → Stop x t)
    (closing_apart : is_punctuation 44 (sign closing) ≡ false)
    (never_closing : (x : X) (ts rest : List Lexeme) → L x ts → begins (is_punctuation closing) (ts ++ rest) ≡ false)
  where
    -- the closing sign alone
    none_closed : IsReader (punctuation_at closing ▷ pure []) (λ (xs : List X) ts. (xs ≡ []) × punctuation closing ts)
        Anything
    none_closed = stands_for [] (sign_reads closing)

    -- the closing sign stops the last thing
    closing_stops_last : (xs : List X) → StopLast Stop xs (sign closing)
    closing_stops_last [] = closing_apart
    closing_stops_last (x ∷ []) = (closing_apart, closing_stops x (sign closing) (is_sign_itself closing))
    closing_stops_last (x ∷ y ∷ xs) = closing_stops_last (y ∷ xs)

    closed_there : (xs : List X) (taken rest : List Lexeme) → punctuation closing taken
        → StopsAt (StopLast Stop xs) (taken ++ rest)
    closed_there xs taken rest l =
        subst (λ (ts : List Lexeme). StopsAt (StopLast Stop xs) (ts ++ rest)) (sym l) (closing_stops_last xs)

    -- one thing or more, and the closing sign
    some_closed : IsReader (with_commas_at item ◁ punctuation_at closing)
        (λ xs. SeparatedByCommas L xs · punctuation closing) Anything
    some_closed = before_stopping (with_commas_read item_reads comma_stops) (sign_reads closing) closed_there

    -- things never begin with the closing sign
    never_first : (xs : List X) (taken rest : List Lexeme) → SeparatedByCommas L xs taken
        → begins (is_punctuation closing) (taken ++ rest) ≡ false
    never_first [] taken rest l = absurd l
    never_first (x ∷ []) taken rest l = never_closing x taken rest l
    never_first (x ∷ y ∷ ys) taken rest l =
        ap (begins (is_punctuation closing))
        (ap (λ (ts : List Lexeme). ts ++ rest) l.2 ∙ append_assoc l.0 (sign 44 ∷ l.1) rest)
        ∙ never_closing x l.0 (sign 44 ∷ (l.1 ++ rest)) l.3

    never_first_closed : (xs : List X) (taken rest : List Lexeme) → (SeparatedByCommas L xs · punctuation closing) taken
        → begins (is_punctuation closing) (taken ++ rest) ≡ false
    never_first_closed xs taken rest l =
        ap (begins (is_punctuation closing))
        (ap (λ (ts : List Lexeme). ts ++ rest) l.2 ∙ append_assoc l.0 l.1 rest)
        ∙ never_first xs l.0 (l.1 ++ rest) l.3

    -- where there are none, it stands first
    closed_first : (xs : List X) (ts : List Lexeme) → (xs ≡ []) × punctuation closing ts
        → begins (is_punctuation closing) ts ≡ true
    closed_first xs ts l = rw l.1 (is_sign_itself closing)

    -- the two cases are one language
    there : (xs : List X) (ts : List Lexeme)
        → (((xs ≡ []) × punctuation closing ts) ⊎ (SeparatedByCommas L xs · punctuation closing) ts)
        → (AnyWithCommas L xs · punctuation closing) ts
    there xs ts (inl l) = rw l.0 ([], ts, refl, refl, l.1)
    there [] ts (inr l) = absurd l.3
    there (x ∷ xs) ts (inr l) = l

    back : (xs : List X) (ts : List Lexeme) → (AnyWithCommas L xs · punctuation closing) ts
        → (((xs ≡ []) × punctuation closing ts) ⊎ (SeparatedByCommas L xs · punctuation closing) ts)
    back [] ts l =
        inl (refl, l.2 ∙ ap (λ (us : List Lexeme). us ++ l.1) l.3 ∙ l.4)
    back (x ∷ xs) ts l = inr l

    -- Any number of things with commas between them is read up to the closing sign, which nothing continues.
    pub listed_reads : IsReader (listed_at item closing) (λ xs. AnyWithCommas L xs · punctuation closing) Anything
    unfolding listed_at
    listed_reads =
        of_language (λ xs. AnyWithCommas L xs · punctuation closing) there back
        (chosen (is_punctuation closing) none_closed some_closed closed_first
        (λ xs taken rest l stops. never_first_closed xs taken rest l)
        (λ t ts passed e. not_at_first (is_punctuation closing) (pure_reads []) t ts passed e))
