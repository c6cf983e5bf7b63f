-- Any number of things that begin with a token, one after another: the reading that takes them while that token stands
-- next is a reading of their language.
use Rattle.std.proofs.Common.{◌≡◌, ℕ, zero, suc, ◌<◌, ◌≤◌, Bool, true, false, List, [], ◌∷◌, ◌++◌, length, Ok, Err, inl, inr, refl, sym, ap, subst, ◌∙◌, append_assoc, arith}
use Rattle.std.proofs.lemmas.List.{append-nil, length-append}
use Rattle.ir_text.specs.Tokens.{Lexeme}
use Rattle.ir_text.specs.Listed.{InSequence}
use Rattle.ir_parts.specs.Reading.{Read, go_on, ◌>>=◌, pure, begins, repeat_at, repeated_at}
use Rattle.ir_parts.proofs.Readers.{StopsAt, Taken, IsReader, stops_also, stops_before, stops_instead, in_two_parts, both_read, one_refused, same_read, begins_still, begins_before, chosen_first, chosen_other, either, of_stop}

-- What stands behind the last thing doesn't continue it, and begins no other one.
abbrev pub Behind : {X : Type 0} → (Lexeme → Bool) → (Lexeme → Type 0) → List X → Lexeme → Type 0
Behind test Stop [] t = test t ≡ false
Behind test Stop (x ∷ xs) t = (test t ≡ false) × Stop t

-- what a list of tokens without any is
pub none_left : (ts : List Lexeme) → length ts ≤ 0 → ts ≡ []
none_left [] h = refl
none_left (t ∷ ts) h = absurd (omega arith)

-- what stands behind the last thing
abbrev pub BehindLast : {X : Type 0} → (Lexeme → Bool) → (X → Lexeme → Type 0) → List X → Lexeme → Type 0
BehindLast test Stop [] t = test t ≡ false
BehindLast test Stop (x ∷ []) t = (test t ≡ false) × Stop x t
BehindLast test Stop (x ∷ y ∷ xs) t = BehindLast test Stop (y ∷ xs) t

pub behind_later : {X : Type 0} (test : Lexeme → Bool) (Stop : X → Lexeme → Type 0) (x : X) (xs : List X) (t : Lexeme)
    → BehindLast test Stop (x ∷ xs) t → BehindLast test Stop xs t
behind_later test Stop x [] t h = h.0
behind_later test Stop x (y ∷ xs) t h = h

-- Some tokens stand behind where at most so many more do.
longer : (taken rest : List Lexeme) (test : Lexeme → Bool) → begins test taken ≡ true
    → length rest < length (taken ++ rest)
longer [] rest test e = absurd cc
longer (t ∷ taken) rest test e = omega (arith, length-append taken rest)

module _ {X : Type 0} (test : Lexeme → Bool) {item : Read X} {L : X → List Lexeme → Type 0} (Stop : X → Lexeme → Type 0)
    (item_reads : IsReader item L Stop)
    (starts : (x : X) (ts : List Lexeme) → L x ts → begins test ts ≡ true)
    (goes_on : (x : X) (t : Lexeme) → test t ≡ true → Stop x t)
    (begun : (t : Lexeme) (ts : List Lexeme) → test t ≡ true → item (t ∷ ts) ≡ Err (suc (length ts)) → ⊥) where
  -- one more of the things, and then at most so many
  next_item : ℕ → Read (List X)
  next_item most = item >>= λ x. repeat_at test item most >>= λ xs. pure (x ∷ xs)

  one_more : (most : ℕ) (ts : List Lexeme) → begins test ts ≡ true
      → repeat_at test item (suc most) ts ≡ next_item most ts
  unfolding repeat_at next_item
  one_more most ts e = chosen_first test (item >>= λ x. repeat_at test item most >>= λ xs. pure (x ∷ xs)) (pure []) ts e

  no_more : (most : ℕ) (ts : List Lexeme) → begins test ts ≡ false → repeat_at test item most ts ≡ Ok ([], ts)
  unfolding repeat_at
  no_more zero ts e = refl
  no_more (suc most) ts e =
      chosen_other test (item >>= λ x. repeat_at test item most >>= λ xs. pure (x ∷ xs)) (pure []) ts e

  -- what is made of a thing and those behind it
  with_more : ℕ → X → Read (List X)
  with_more most x = repeat_at test item most >>= λ xs. pure (x ∷ xs)

  not_if_stops : (ts : List Lexeme) → StopsAt (λ t. test t ≡ false) ts → begins test ts ≡ false
  not_if_stops [] stops = refl
  not_if_stops (t ∷ ts) stops = stops

  stops_if_not : (ts : List Lexeme) → begins test ts ≡ false → StopsAt (λ t. test t ≡ false) ts
  stops_if_not [] e = tt
  stops_if_not (t ∷ ts) e = e

  stops_if_begins : (x : X) (ts : List Lexeme) → begins test ts ≡ true → StopsAt (Stop x) ts
  stops_if_begins x [] e = tt
  stops_if_begins x (t ∷ ts) e = goes_on x t e

  both_stop : (x : X) (ts : List Lexeme) → StopsAt (λ t. test t ≡ false) ts → StopsAt (Stop x) ts
      → StopsAt (λ t. (test t ≡ false) × Stop x t) ts
  both_stop x [] not stops = tt
  both_stop x (t ∷ ts) not stops = (not, stops)

  -- the thing before others, and those behind it, are stopped where all of them are
  pub stops_with_more : (x : X) (xs : List X) (taken rest : List Lexeme) → InSequence L xs taken
      → StopsAt (Stop x) (taken ++ rest)
      → StopsAt (BehindLast test Stop xs) rest → StopsAt (BehindLast test Stop (x ∷ xs)) rest
  stops_with_more x [] taken rest l stops behind =
      both_stop x rest behind (subst (λ (ts : List Lexeme). StopsAt (Stop x) (ts ++ rest)) l stops)
  stops_with_more x (y ∷ xs) taken rest l stops behind = behind

  pub next_stops : (x : X) (xs : List X) (taken rest : List Lexeme) → InSequence L xs taken
      → StopsAt (BehindLast test Stop (x ∷ xs)) rest → StopsAt (Stop x) (taken ++ rest)
  next_stops x [] taken rest l stops =
      subst (λ (ts : List Lexeme). StopsAt (Stop x) (ts ++ rest)) (sym l) (stops_also rest (λ t h. h.1) stops)
  next_stops x (y ∷ xs) taken rest l stops =
      stops_if_begins x (taken ++ rest)
      (subst (λ (ts : List Lexeme). begins test (ts ++ rest) ≡ true) (sym l.2)
      (begins_still test (l.0 ++ l.1) rest (begins_still test l.0 l.1 (starts y l.0 l.3))))

  fewer_left : (most : ℕ) (x : X) (ts taken rest : List Lexeme) → L x taken → ts ≡ taken ++ rest → length ts ≤ suc most
      → length rest ≤ most
  fewer_left most x ts taken rest l e h = omega (arith, longer taken rest test (starts x taken l), ap length e)

  takes_none : (most : ℕ) (ts rest : List Lexeme) (xs : List X) → begins test ts ≡ false
      → repeat_at test item most ts ≡ Ok (xs, rest) → Taken (InSequence L) (BehindLast test Stop) ts xs rest
  takes_none most ts rest xs not e =
      subst (λ (read : List X × List Lexeme). Taken (InSequence L) (BehindLast test Stop) ts read.0 read.1)
      (same_read ([], ts) (xs, rest) (sym (no_more most ts not) ∙ e))
      (record { taken = []; parts = refl; spelled = refl; stops = stops_if_not ts not })

  takes_most : (most : ℕ) (ts rest : List Lexeme) (xs : List X) → length ts ≤ most
      → repeat_at test item most ts ≡ Ok (xs, rest) → Taken (InSequence L) (BehindLast test Stop) ts xs rest
  unfolding next_item with_more
  takes_most zero ts rest xs h e = takes_none zero ts rest xs (ap (begins test) (none_left ts h)) e
  takes_most (suc most) ts rest xs h e = elim (either (begins test ts)) [
    | inr failed ↦ takes_none (suc most) ts rest xs failed e
    | inl passed ↦
        let b = both_read (item ts) (with_more most) (xs, rest) (sym (one_more most ts passed) ∙ e) in
        let d = both_read (repeat_at test item most b.middle) (λ xs. pure (b.value ∷ xs)) (xs, rest) b.second in
        let t = item_reads.takes ts b.middle b.value b.first in
        let u = takes_most most b.middle d.middle d.value
        (fewer_left most b.value ts t.taken b.middle t.spelled t.parts h) d.first in
        let found : Taken (InSequence L) (BehindLast test Stop) ts (b.value ∷ d.value) d.middle = record {
          taken = t.taken ++ u.taken;
          parts = in_two_parts ts t.taken u.taken b.middle d.middle t.parts u.parts;
          spelled = (t.taken, u.taken, refl, t.spelled, u.spelled);
          stops = stops_with_more b.value d.value u.taken d.middle u.spelled
              (subst (λ (ts : List Lexeme). StopsAt (Stop b.value) ts) u.parts t.stops) u.stops;
        } in
        subst (λ (read : List X × List Lexeme). Taken (InSequence L) (BehindLast test Stop) ts read.0 read.1)
        (same_read (b.value ∷ d.value, d.middle) (xs, rest) d.second) found
  ]

  reads_most : (xs : List X) (most : ℕ) (taken rest : List Lexeme) → InSequence L xs taken
      → StopsAt (BehindLast test Stop xs) rest → length (taken ++ rest) ≤ most
      → repeat_at test item most (taken ++ rest) ≡ Ok (xs, rest)
  unfolding next_item with_more
  reads_most [] most taken rest l stops h =
      subst (λ (ts : List Lexeme). repeat_at test item most (ts ++ rest) ≡ Ok ([], rest)) (sym l)
      (no_more most rest (not_if_stops rest stops))
  reads_most (x ∷ xs) zero taken rest l stops h =
      let all : taken ++ rest ≡ l.0 ++ (l.1 ++ rest) =
      ap (λ (ts : List Lexeme). ts ++ rest) l.2 ∙ append_assoc l.0 l.1 rest in
      absurd (omega (arith, longer l.0 (l.1 ++ rest) test (starts x l.0 l.3), ap length all))
  reads_most (x ∷ xs) (suc most) taken rest l stops h =
      let all : taken ++ rest ≡ l.0 ++ (l.1 ++ rest) =
      ap (λ (ts : List Lexeme). ts ++ rest) l.2 ∙ append_assoc l.0 l.1 rest in
      ap (repeat_at test item (suc most)) all
      ∙ (one_more most (l.0 ++ (l.1 ++ rest)) (begins_still test l.0 (l.1 ++ rest) (starts x l.0 l.3))
      ∙ (ap (λ r. go_on r (with_more most))
      (item_reads.reads x l.0 (l.1 ++ rest) l.3 (next_stops x xs l.1 rest l.4 stops))
      ∙ ap (λ r. go_on r (λ xs. pure (x ∷ xs)))
      (reads_most xs most l.1 rest l.4 (stops_also rest (behind_later test Stop x xs) stops)
      (fewer_left most x (taken ++ rest) l.0 (l.1 ++ rest) l.3 all h))))

  -- a refusal, whatever the most is
  record RefusedAtMost (ts : List Lexeme) (left : ℕ) : Type 0 where
    before : List Lexeme
    after : List Lexeme
    parts : ts ≡ before ++ after
    so_many : length after ≡ left
    whole : List X
    others : List Lexeme
    is_begun : InSequence L whole (before ++ others)
    at_end : (most : ℕ) → length before ≤ most → repeat_at test item most before ≡ Err 0
    stays : (most : ℕ) (t : Lexeme) (behind instead : List Lexeme) → after ≡ t ∷ behind
        → length (before ++ t ∷ instead) ≤ most → repeat_at test item most (before ++ t ∷ instead) ≡ Err (suc (length
        instead))

  -- where the first thing refuses, and where those behind it do
  first_refuses : (most : ℕ) (ts : List Lexeme) (left : ℕ) → begins test ts ≡ true → item ts ≡ Err left
      → length ts ≤ most
      → repeat_at test item most ts ≡ Err left
  unfolding next_item with_more
  first_refuses zero ts left passed e h =
      absurd (let failed : begins test ts ≡ false = ap (begins test) (none_left ts h) in cc)
  first_refuses (suc most) ts left passed e h = one_more most ts passed ∙ ap (λ r. go_on r (with_more most)) e

  later_refuses : (most : ℕ) (x : X) (taken ts : List Lexeme) (left : ℕ) → L x taken → StopsAt (Stop x) ts
      → ((most : ℕ) → length ts ≤ most → repeat_at test item most ts ≡ Err left)
      → length (taken ++ ts) ≤ most → repeat_at test item most (taken ++ ts) ≡ Err left
  unfolding next_item with_more
  later_refuses zero x taken ts left l stops each h = absurd (omega (arith, longer taken ts test (starts x taken l)))
  later_refuses (suc most) x taken ts left l stops each h =
      one_more most (taken ++ ts) (begins_still test taken ts (starts x taken l))
      ∙ (ap (λ r. go_on r (with_more most)) (item_reads.reads x taken ts l stops)
      ∙ ap (λ r. go_on r (λ xs. pure (x ∷ xs))) (each most (fewer_left most x (taken ++ ts) taken ts l refl h)))

  item_refused : (ts : List Lexeme) (left : ℕ) → begins test ts ≡ true → item ts ≡ Err left → RefusedAtMost ts left
  item_refused ts left passed e =
      let r = item_reads.refuses ts left e in
      let begins_so : begins test r.before ≡ true = begins_before test ts r.before r.after r.parts passed
      (λ t us is so. begun t us (subst (λ (ts : List Lexeme). begins test ts ≡ true) is passed)
      (ap item (sym is) ∙ (e ∙ ap (λ (n : ℕ). Err n) (sym r.so_many ∙ so)))) in
      record {
        before = r.before;
        after = r.after;
        parts = r.parts;
        so_many = r.so_many;
        whole = r.whole ∷ [];
        others = r.others;
        is_begun = (r.before ++ r.others, [], sym (append-nil (r.before ++ r.others)), r.begun, refl);
        at_end = λ most h. first_refuses most r.before 0 begins_so r.at_end h;
        stays = λ most t behind instead e h.
            first_refuses most (r.before ++ t ∷ instead) (suc (length instead))
            (begins_still test r.before (t ∷ instead) begins_so) (r.stays t behind instead e) h;
      }

  later_refused : (ts middle : List Lexeme) (left : ℕ) (x : X) → Taken L Stop ts x middle → RefusedAtMost middle left
      → RefusedAtMost ts left
  later_refused ts middle left x t r =
      let stops : StopsAt (Stop x) (r.before ++ r.after) = subst (λ (ts : List Lexeme). StopsAt (Stop x) ts) r.parts
      t.stops in
      record {
        before = t.taken ++ r.before;
        after = r.after;
        parts = in_two_parts ts t.taken r.before middle r.after t.parts r.parts;
        so_many = r.so_many;
        whole = x ∷ r.whole;
        others = r.others;
        is_begun = (t.taken, r.before ++ r.others, append_assoc t.taken r.before r.others, t.spelled, r.is_begun);
        at_end = λ most h.
            later_refuses most x t.taken r.before 0 t.spelled (stops_before (Stop x) r.before r.after stops) r.at_end h;
        stays = λ most u behind instead e h.
            let all : (t.taken ++ r.before) ++ u ∷ instead ≡ t.taken ++ (r.before ++ u ∷ instead) =
            append_assoc t.taken r.before (u ∷ instead) in
            ap (repeat_at test item most) all
            ∙ later_refuses most x t.taken (r.before ++ u ∷ instead) (suc (length instead)) t.spelled
            (stops_instead (Stop x) r.before u behind instead
            (subst (λ (after : List Lexeme). StopsAt (Stop x) (r.before ++ after)) e stops))
            (λ most h. r.stays most u behind instead e h) (omega (arith, ap length all, h));
      }

  refuses_most : (most : ℕ) (ts : List Lexeme) (left : ℕ) → length ts ≤ most
      → repeat_at test item most ts ≡ Err left → RefusedAtMost ts left
  unfolding next_item with_more
  refuses_most zero ts left h e =
      absurd (let read = sym (no_more zero ts (ap (begins test) (none_left ts h))) ∙ e in cc)
  refuses_most (suc most) ts left h e = elim (either (begins test ts)) [
    | inr failed ↦ absurd (let read = sym (no_more (suc most) ts failed) ∙ e in cc)
    | inl passed ↦ elim (one_refused (item ts) (with_more most) left (sym (one_more most ts passed) ∙ e)) [
      | inl refused ↦ item_refused ts left passed refused
      | inr b ↦
          let t = item_reads.takes ts b.middle b.value b.first in
          elim (one_refused (repeat_at test item most b.middle) (λ xs. pure (b.value ∷ xs)) left b.second) [
            | inl refused ↦
                later_refused ts b.middle left b.value t
                (refuses_most most b.middle left (fewer_left most b.value ts t.taken b.middle t.spelled t.parts h)
                refused)
            | inr d ↦ absurd (let read = d.second in cc)
          ]
    ]
  ]

-- The next token may continue the last of the things, and none before it.
pub repeated_by_last : {X : Type 0} (test : Lexeme → Bool) {item : Read X} {L : X → List Lexeme → Type 0} (Stop : X
    → Lexeme → Type 0)
    → IsReader item L Stop
    → ((x : X) (ts : List Lexeme) → L x ts → begins test ts ≡ true)
    → ((x : X) (t : Lexeme) → test t ≡ true → Stop x t)
    → ((t : Lexeme) (ts : List Lexeme) → test t ≡ true → item (t ∷ ts) ≡ Err (suc (length ts)) → ⊥)
    → IsReader (repeated_at test item) (InSequence L) (BehindLast test Stop)
repeated_by_last test Stop item_reads starts goes_on begun = record {
  takes = λ ts rest xs e. takes_most test Stop item_reads starts goes_on begun (length ts) ts rest xs (omega arith) e;
  reads = λ xs taken rest l stops.
      reads_most test Stop item_reads starts goes_on begun xs (length (taken ++ rest)) taken rest l stops (omega arith);
  refuses = λ ts left e.
      let r = refuses_most test Stop item_reads starts goes_on begun (length ts) ts left (omega arith) e in
      record {
        before = r.before;
        after = r.after;
        parts = r.parts;
        so_many = r.so_many;
        whole = r.whole;
        others = r.others;
        begun = r.is_begun;
        at_end = r.at_end (length r.before) (omega arith);
        stays = λ t behind instead e.
            r.stays (length (r.before ++ t ∷ instead)) t behind instead e (omega arith);
      };
  some = [];
  sentence = [];
  sample = refl;
}

-- the same where one kind of tokens continues none
pub repeated : {X : Type 0} (test : Lexeme → Bool) {item : Read X} {L : X → List Lexeme → Type 0} (Stop : Lexeme
    → Type 0)
    → IsReader item L (λ x. Stop)
    → ((x : X) (ts : List Lexeme) → L x ts → begins test ts ≡ true)
    → ((t : Lexeme) → test t ≡ true → Stop t)
    → ((t : Lexeme) (ts : List Lexeme) → test t ≡ true → item (t ∷ ts) ≡ Err (suc (length ts)) → ⊥)
    → IsReader (repeated_at test item) (InSequence L) (Behind test Stop)
repeated {X} test Stop item_reads starts goes_on begun =
    of_stop (Behind test Stop) by_all by_last
    (repeated_by_last test (λ (x : X). Stop) item_reads starts (λ x t e. goes_on t e) begun)
  where
    by_all : (xs : List X) (t : Lexeme) → BehindLast test (λ (x : X). Stop) xs t → Behind test Stop xs t
    by_all [] t h = h
    by_all (x ∷ []) t h = h
    by_all (x ∷ y ∷ xs) t h = by_all (y ∷ xs) t h

    by_last : (xs : List X) (t : Lexeme) → Behind test Stop xs t → BehindLast test (λ (x : X). Stop) xs t
    by_last [] t h = h
    by_last (x ∷ []) t h = h
    by_last (x ∷ y ∷ xs) t h = by_last (y ∷ xs) t h
