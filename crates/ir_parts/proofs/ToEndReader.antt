-- Things one after another to the end of the tokens, where each stops the one before it.
use Rattle.std.proofs.Common.{◌≡◌, ℕ, zero, suc, ◌<◌, ◌≤◌, Bool, true, false, List, [], ◌∷◌, ◌++◌, length, Ok, Err, inl, inr, refl, sym, ap, subst, ◌∙◌, append_assoc, arith}
use Rattle.std.proofs.lemmas.List.{append-nil, length-append}
use Rattle.ir_text.specs.Tokens.{Lexeme}
use Rattle.ir_text.specs.Language.{Language}
use Rattle.ir_parts.specs.Reading.{Read, go_on, ◌>>=◌, pure, made, begins, choose, refuse}
use Rattle.ir_parts.specs.ListReading.{to_end_at}
use Rattle.ir_parts.proofs.Readers.{StopsAt, Taken, IsReader, stops_instead, in_two_parts, both_read, one_refused, same_read, chosen_first, chosen_other, either}

-- a token that doesn't continue a thing, and isn't barred behind it
abbrev pub StopsUnbarred : {A : Type 0} → (A → Lexeme → Bool) → (A → Lexeme → Type 0) → A → Lexeme → Type 0
StopsUnbarred barred Stop x t = Stop x t × (barred x t ≡ false)

-- Sentences one after another, each stopped by what stands behind it.
abbrev pub InTurn : {A : Type 0} → (A → Language) → (A → Lexeme → Type 0) → List A → Language
InTurn L Stop [] ts = ts ≡ []
InTurn L Stop (x ∷ xs) ts = (us vs : List Lexeme) × (ts ≡ us ++ vs) × L x us × StopsAt (Stop x) vs × InTurn L Stop xs vs

-- The tokens before a refusal begin such sentences; with the token at which it comes, the refusal stays.
pub record RefusedToEnd {A : Type 0} (barred : A → Lexeme → Bool) (item : Read A) (L : A → List Lexeme → Type 0)
    (Stop : A → Lexeme → Type 0) (ts : List Lexeme) (left : ℕ) : Type 0 where
  pub before : List Lexeme
  pub after : List Lexeme
  pub parts : ts ≡ before ++ after
  pub so_many : length after ≡ left
  pub whole : List A
  pub others : List Lexeme
  pub begun : InTurn L (StopsUnbarred barred Stop) whole (before ++ others)
  pub stays : (most : ℕ) (t : Lexeme) (behind instead : List Lexeme) → after ≡ t ∷ behind
      → length (before ++ t ∷ instead) ≤ most
      → to_end_at barred item most (before ++ t ∷ instead) ≡ Err (suc (length instead))

module _ {X : Type 0} (barred : X → Lexeme → Bool) {item : Read X} {L : X → List Lexeme → Type 0}
    {Stop : X → Lexeme → Type 0}
    (item_reads : IsReader item L Stop)
    (some_tokens : (x : X) → L x [] → ⊥) where
  -- what stops a thing
  abbrev pub Stops : X → Lexeme → Type 0
  Stops = StopsUnbarred barred Stop

  -- what is read behind a thing
  more_of : ℕ → X → Read (List X)
  more_of most x = choose (barred x) refuse (made (λ xs. x ∷ xs) (to_end_at barred item most))

  goes_on : (most : ℕ) (x : X) (ts : List Lexeme) → begins (barred x) ts ≡ false
      → more_of most x ts ≡ go_on (to_end_at barred item most ts) (λ xs. pure (x ∷ xs))
  unfolding more_of
  goes_on most x ts e = chosen_other (barred x) refuse (made (λ xs. x ∷ xs) (to_end_at barred item most)) ts e

  refused_at : (most : ℕ) (x : X) (ts : List Lexeme) → begins (barred x) ts ≡ true → more_of most x ts ≡ Err (length ts)
  unfolding more_of
  refused_at most x ts e = chosen_first (barred x) refuse (made (λ xs. x ∷ xs) (to_end_at barred item most)) ts e

  stops_both : (x : X) (ts : List Lexeme) → StopsAt (Stop x) ts → begins (barred x) ts ≡ false → StopsAt (Stops x) ts
  stops_both x [] stops e = tt
  stops_both x (t ∷ ts) stops e = (stops, e)

  stops_alone : (x : X) (ts : List Lexeme) → StopsAt (Stops x) ts → StopsAt (Stop x) ts
  stops_alone x [] stops = tt
  stops_alone x (t ∷ ts) stops = stops.0

  unbarred : (x : X) (ts : List Lexeme) → StopsAt (Stops x) ts → begins (barred x) ts ≡ false
  unbarred x [] stops = refl
  unbarred x (t ∷ ts) stops = stops.1

  no_more : (most : ℕ) → to_end_at barred item most [] ≡ Ok ([], [])
  unfolding to_end_at
  no_more zero = refl
  no_more (suc most) = refl

  too_many : (t : Lexeme) (ts : List Lexeme) → to_end_at barred item zero (t ∷ ts) ≡ Err (suc (length ts))
  unfolding to_end_at
  too_many t ts = refl

  one_more : (most : ℕ) (ts : List Lexeme) → 0 < length ts
      → to_end_at barred item (suc most) ts ≡ (item >>= more_of most) ts
  unfolding to_end_at more_of
  one_more most [] h = absurd (omega arith)
  one_more most (t ∷ ts) h = refl

  longer : (x : X) (taken rest : List Lexeme) → L x taken → length rest < length (taken ++ rest)
  longer x [] rest l = absurd (some_tokens x l)
  longer x (t ∷ taken) rest l = omega (arith, length-append taken rest)

  -- ---- what was taken

  pub end_taken : (most : ℕ) (ts rest : List Lexeme) (xs : List X) → to_end_at barred item most ts ≡ Ok (xs, rest)
      → InTurn L Stops xs ts × (rest ≡ [])
  unfolding more_of
  end_taken most [] rest xs e =
      let same = same_read ([], []) (xs, rest) (sym (no_more most) ∙ e) in (
        subst (λ (xs : List X). InTurn L Stops xs []) (ap (λ (read : List X × List Lexeme). read.0) same) refl,
        sym (ap (λ (read : List X × List Lexeme). read.1) same),
      )
  end_taken zero (t ∷ ts) rest xs e = absurd (let e = sym (too_many t ts) ∙ e in cc)
  end_taken (suc most) (t ∷ ts) rest xs e =
      let b = both_read (item (t ∷ ts)) (more_of most) (xs, rest) (sym (one_more most (t ∷ ts) (omega arith)) ∙ e) in
      let k = item_reads.takes (t ∷ ts) b.middle b.value b.first in
      elim (either (begins (barred b.value) b.middle)) [
        | inl passed ↦ absurd (let e = sym (refused_at most b.value b.middle passed) ∙ b.second in cc)
        | inr failed ↦
            let d = both_read (to_end_at barred item most b.middle) (λ xs. pure (b.value ∷ xs)) (xs, rest)
            (sym (goes_on most b.value b.middle failed) ∙ b.second) in
            let u = end_taken most b.middle d.middle d.value d.first in
            let same = same_read (b.value ∷ d.value, d.middle) (xs, rest) d.second in (
              subst (λ (xs : List X). InTurn L Stops xs (t ∷ ts)) (ap (λ (read : List X × List Lexeme). read.0) same)
                  (k.taken, b.middle, k.parts, k.spelled, stops_both b.value b.middle k.stops failed, u.0),
              sym (ap (λ (read : List X × List Lexeme). read.1) same) ∙ u.1,
            )
      ]

  -- ---- what is read

  behind_read : (most : ℕ) (x : X) (taken ts : List Lexeme) → L x taken → StopsAt (Stop x) ts
      → to_end_at barred item (suc most) (taken ++ ts) ≡ more_of most x ts
  behind_read most x taken ts l stops =
      one_more most (taken ++ ts) (omega (arith, longer x taken ts l))
      ∙ ap (λ r. go_on r (more_of most)) (item_reads.reads x taken ts l stops)

  pub end_read : (xs : List X) (most : ℕ) (ts : List Lexeme) → InTurn L Stops xs ts → length ts ≤ most
      → to_end_at barred item most ts ≡ Ok (xs, [])
  unfolding more_of
  end_read [] most ts l h = ap (to_end_at barred item most) l ∙ no_more most
  end_read (x ∷ xs) zero ts l h = absurd (omega (arith, longer x l.0 l.1 l.3, ap length l.2))
  end_read (x ∷ xs) (suc most) ts l h =
      ap (to_end_at barred item (suc most)) l.2
      ∙ (behind_read most x l.0 l.1 l.3 (stops_alone x l.1 l.4)
      ∙ (goes_on most x l.1 (unbarred x l.1 l.4)
      ∙ ap (λ r. go_on r (λ xs. pure (x ∷ xs)))
      (end_read xs most l.1 l.5 (omega (arith, longer x l.0 l.1 l.3, ap length l.2, h)))))

  -- ---- what is refused

  later_refuses : (most : ℕ) (x : X) (taken ts : List Lexeme) (left : ℕ) → L x taken → StopsAt (Stops x) ts
      → ((most : ℕ) → length ts ≤ most → to_end_at barred item most ts ≡ Err left)
      → length (taken ++ ts) ≤ most → to_end_at barred item most (taken ++ ts) ≡ Err left
  unfolding more_of
  later_refuses zero x taken ts left l stops each h = absurd (omega (arith, longer x taken ts l))
  later_refuses (suc most) x taken ts left l stops each h =
      behind_read most x taken ts l (stops_alone x ts stops)
      ∙ (goes_on most x ts (unbarred x ts stops)
      ∙ ap (λ r. go_on r (λ xs. pure (x ∷ xs))) (each most (omega (arith, longer x taken ts l, h))))

  first_refuses : (most : ℕ) (t : Lexeme) (before behind : List Lexeme) (left : ℕ)
      → item (before ++ t ∷ behind) ≡ Err left → length (before ++ t ∷ behind) ≤ most
      → to_end_at barred item most (before ++ t ∷ behind) ≡ Err left
  first_refuses zero t before behind left e h = absurd (omega (arith, length-append before (t ∷ behind)))
  first_refuses (suc most) t before behind left e h =
      one_more most (before ++ t ∷ behind) (omega (arith, length-append before (t ∷ behind)))
      ∙ ap (λ r. go_on r (more_of most)) e

  item_refused : (ts : List Lexeme) (left : ℕ) → item ts ≡ Err left → RefusedToEnd barred item L Stop ts left
  item_refused ts left e =
      let r = item_reads.refuses ts left e in
      record {
        before = r.before;
        after = r.after;
        parts = r.parts;
        so_many = r.so_many;
        whole = r.whole ∷ [];
        others = r.others;
        begun = (r.before ++ r.others, [], sym (append-nil (r.before ++ r.others)), r.begun, tt, refl);
        stays = λ most t behind instead e h.
            first_refuses most t r.before instead (suc (length instead)) (r.stays t behind instead e) h;
      }

  -- What was taken and what begins behind it are begun: where nothing does, what was taken alone.
  record BegunBehind (x : X) (taken before : List Lexeme) : Type 0 where
    whole : List X
    others : List Lexeme
    is_begun : InTurn L Stops whole ((taken ++ before) ++ others)

  begun_behind : (x : X) (taken before after others : List Lexeme) (whole : List X) → L x taken
      → StopsAt (Stops x) (before ++ after) → InTurn L Stops whole (before ++ others) → BegunBehind x taken before
  begun_behind x taken [] after others whole l stops begun = record {
    whole = x ∷ [];
    others = [];
    is_begun = (taken, [], append-nil (taken ++ []), l, tt, refl);
  }
  begun_behind x taken (t ∷ before) after others whole l stops begun = record {
    whole = x ∷ whole;
    others = others;
    is_begun = (taken, (t ∷ before) ++ others, append_assoc taken (t ∷ before) others, l, stops, begun);
  }

  later_refused : (ts middle : List Lexeme) (left : ℕ) (x : X) → Taken L Stop ts x middle
      → begins (barred x) middle ≡ false → RefusedToEnd barred item L Stop middle left
      → RefusedToEnd barred item L Stop ts left
  later_refused ts middle left x t free r =
      let stops : StopsAt (Stops x) (r.before ++ r.after) =
      subst (λ (ts : List Lexeme). StopsAt (Stops x) ts) r.parts (stops_both x middle t.stops free) in
      let b = begun_behind x t.taken r.before r.after r.others r.whole t.spelled stops r.begun in
      record {
        before = t.taken ++ r.before;
        after = r.after;
        parts = in_two_parts ts t.taken r.before middle r.after t.parts r.parts;
        so_many = r.so_many;
        whole = b.whole;
        others = b.others;
        begun = b.is_begun;
        stays = λ most u behind instead e h.
            let all : (t.taken ++ r.before) ++ u ∷ instead ≡ t.taken ++ (r.before ++ u ∷ instead) =
            append_assoc t.taken r.before (u ∷ instead) in
            ap (to_end_at barred item most) all
            ∙ later_refuses most x t.taken (r.before ++ u ∷ instead) (suc (length instead)) t.spelled
            (stops_instead (Stops x) r.before u behind instead
            (subst (λ (after : List Lexeme). StopsAt (Stops x) (r.before ++ after)) e stops))
            (λ most h. r.stays most u behind instead e h) (omega (arith, ap length all, h));
      }

  -- a token that is barred behind a thing
  barred_there : (ts middle : List Lexeme) (left : ℕ) (x : X) → Taken L Stop ts x middle
      → begins (barred x) middle ≡ true → length middle ≡ left → RefusedToEnd barred item L Stop ts left
  barred_there ts middle left x t passed so = record {
    before = t.taken;
    after = middle;
    parts = t.parts;
    so_many = so;
    whole = x ∷ [];
    others = [];
    begun = (t.taken, [], refl, t.spelled, tt, refl);
    stays = λ most u behind instead e h. there most u behind instead e h;
  }
    where
      there : (most : ℕ) (u : Lexeme) (behind instead : List Lexeme) → middle ≡ u ∷ behind
          → length (t.taken ++ u ∷ instead) ≤ most
          → to_end_at barred item most (t.taken ++ u ∷ instead) ≡ Err (suc (length instead))
      there zero u behind instead e h = absurd (omega (arith, length-append t.taken (u ∷ instead)))
      there (suc most) u behind instead e h =
          behind_read most x t.taken (u ∷ instead) t.spelled
          (stops_instead (Stop x) [] u behind instead (subst (λ (ts : List Lexeme). StopsAt (Stop x) ts) e t.stops))
          ∙ refused_at most x (u ∷ instead) (sym (ap (begins (barred x)) e) ∙ passed)

  pub end_refused : (most : ℕ) (ts : List Lexeme) (left : ℕ) → length ts ≤ most
      → to_end_at barred item most ts ≡ Err left → RefusedToEnd barred item L Stop ts left
  end_refused most [] left h e = absurd (let e = sym (no_more most) ∙ e in cc)
  end_refused zero (t ∷ ts) left h e = absurd (omega arith)
  end_refused (suc most) (t ∷ ts) left h e = elim (one_refused (item (t ∷ ts)) (more_of most) left
      (sym (one_more most (t ∷ ts) (omega arith)) ∙ e)) [
        | inl refused ↦ item_refused (t ∷ ts) left refused
        | inr b ↦
            let k = item_reads.takes (t ∷ ts) b.middle b.value b.first in
            elim (either (begins (barred b.value) b.middle)) [
              | inl passed ↦
                  barred_there (t ∷ ts) b.middle left b.value k passed
                  (let e = sym (refused_at most b.value b.middle passed) ∙ b.second in cc)
              | inr failed ↦
                  elim (one_refused (to_end_at barred item most b.middle) (λ xs. pure (b.value ∷ xs)) left
                  (sym (goes_on most b.value b.middle failed) ∙ b.second)) [
                    | inl refused ↦
                        later_refused (t ∷ ts) b.middle left b.value k failed
                        (end_refused most b.middle left
                        (omega (arith, longer b.value k.taken b.middle k.spelled, ap length k.parts, h)) refused)
                    | inr d ↦ absurd (let e = d.second in cc)
                  ]
            ]
      ]
