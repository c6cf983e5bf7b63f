-- Things one after another, to the first that is a last one: the reading of them is a reading of their language.
use Rattle.std.proofs.Common.{◌≡◌, ℕ, zero, suc, ◌<◌, Bool, true, false, if◌then◌else◌, List, [], ◌∷◌, ◌++◌, length, Ok, Err, inl, inr, refl, sym, ap, subst, ◌∙◌, append_assoc, arith}
use Rattle.std.proofs.lemmas.List.{append-nil, length-append}
use Rattle.ir_text.specs.Tokens.{Lexeme}
use Rattle.ir_text.specs.Language.{Language, ◌·◌}
use Rattle.ir_parts.specs.Reading.{Read, go_on, ◌>>=◌, pure, made}
use Rattle.ir_parts.specs.ListReading.{until_at, all_until_at}
use Rattle.ir_parts.proofs.Readers.{StopsAt, Taken, IsReader, stops_also, stops_before, stops_instead, in_two_parts, both_read, one_refused, same_read, either}

-- Sentences one after another, of which the last is of a last thing, and none before it.
abbrev pub UntilLast : {A : Type 0} → (A → Bool) → (A → Language) → List A → Language
UntilLast last L [] ts = ⊥
UntilLast last L (x ∷ []) ts = (last x ≡ true) × L x ts
UntilLast last L (x ∷ y ∷ ys) ts = (last x ≡ false) × (L x · UntilLast last L (y ∷ ys)) ts

-- what doesn't continue the last of them
abbrev pub StopsLast : {A : Type 0} → (A → Bool) → (A → Lexeme → Type 0) → List A → Lexeme → Type 0
StopsLast last Stop [] t = Unit {0}
StopsLast last Stop (x ∷ []) t = last x ≡ true → Stop x t
StopsLast last Stop (x ∷ y ∷ ys) t = StopsLast last Stop (y ∷ ys) t

stops_later : {A : Type 0} (last : A → Bool) (Stop : A → Lexeme → Type 0) (x : A) (xs : List A) (ts : List Lexeme)
    → (xs ≡ [] → ⊥) → StopsAt (StopsLast last Stop xs) ts → StopsAt (StopsLast last Stop (x ∷ xs)) ts
stops_later last Stop x [] ts some stops = absurd (some refl)
stops_later last Stop x (y ∷ ys) ts some stops = stops

until_later : {A : Type 0} (last : A → Bool) (L : A → Language) (x : A) (xs : List A) (ts us vs : List Lexeme)
    → ts ≡ us ++ vs → last x ≡ false → L x us → UntilLast last L xs vs → UntilLast last L (x ∷ xs) ts
until_later last L x [] ts us vs parts e l more = absurd more
until_later last L x (y ∷ ys) ts us vs parts e l more = (e, (us, vs, parts, l, more))

some_read : {A : Type 0} (last : A → Bool) (L : A → Language) (xs : List A) (ts : List Lexeme)
    → UntilLast last L xs ts → xs ≡ [] → ⊥
some_read last L [] ts l e = l
some_read last L (x ∷ xs) ts l e = absurd cc

module _ {X : Type 0} (last : X → Bool) {item : Read X} {L : X → List Lexeme → Type 0} (Stop : X → Lexeme → Type 0)
    (item_reads : IsReader item L Stop)
    (some_tokens : (x : X) → L x [] → ⊥)
    (ends : (x y : X) (taken rest : List Lexeme) → last x ≡ false → L y taken → StopsAt (Stop x) (taken ++ rest))
    (end : X) (sentence : List Lexeme) (is_last : last end ≡ true) (sample : L end sentence) where
  -- what is read behind a thing
  more_of : ℕ → X → Read (List X)
  more_of most x = if last x then pure (x ∷ []) else made (λ xs. x ∷ xs) (until_at last item most)

  one_more : (most : ℕ) (ts : List Lexeme) → until_at last item (suc most) ts ≡ (item >>= more_of most) ts
  unfolding until_at more_of
  one_more most ts = refl

  ended : (most : ℕ) (x : X) (ts : List Lexeme) → last x ≡ true → more_of most x ts ≡ Ok (x ∷ [], ts)
  unfolding more_of
  ended most x ts e = rw e refl

  goes_on : (most : ℕ) (x : X) (ts : List Lexeme) → last x ≡ false
      → more_of most x ts ≡ go_on (until_at last item most ts) (λ xs. pure (x ∷ xs))
  unfolding more_of
  goes_on most x ts e = rw e refl

  longer : (x : X) (taken rest : List Lexeme) → L x taken → length rest < length (taken ++ rest)
  longer x [] rest l = absurd (some_tokens x l)
  longer x (t ∷ taken) rest l = omega (arith, length-append taken rest)

  stops_next : (x : X) (xs : List X) (taken rest : List Lexeme) → last x ≡ false → UntilLast last L xs taken
      → StopsAt (Stop x) (taken ++ rest)
  stops_next x [] taken rest e l = absurd l
  stops_next x (y ∷ []) taken rest e l = ends x y taken rest e l.1
  stops_next x (y ∷ z ∷ zs) taken rest e l =
      subst (λ (ts : List Lexeme). StopsAt (Stop x) (ts ++ rest)) (sym l.1.2)
      (subst (λ (ts : List Lexeme). StopsAt (Stop x) ts) (sym (append_assoc l.1.0 l.1.1 rest))
      (ends x y l.1.0 (l.1.1 ++ rest) e l.1.3))

  no_more : (ts : List Lexeme) → until_at last item zero ts ≡ Err (length ts)
  unfolding until_at
  no_more ts = refl

  -- ---- what was taken

  takes_most : (most : ℕ) (ts rest : List Lexeme) (xs : List X) → until_at last item most ts ≡ Ok (xs, rest)
      → Taken (UntilLast last L) (StopsLast last Stop) ts xs rest
  takes_most zero ts rest xs e = absurd (let e = sym (no_more ts) ∙ e in cc)
  takes_most (suc most) ts rest xs e =
      let b = both_read (item ts) (more_of most) (xs, rest) (sym (one_more most ts) ∙ e) in
      let t = item_reads.takes ts b.middle b.value b.first in
      elim (either (last b.value)) [
        | inl is ↦
            let found : Taken (UntilLast last L) (StopsLast last Stop) ts (b.value ∷ []) b.middle =
            record {
              taken = t.taken;
              parts = t.parts;
              spelled = (is, t.spelled);
              stops = stops_also b.middle (λ u stop e. stop) t.stops;
            } in
            subst (λ (read : List X × List Lexeme). Taken (UntilLast last L) (StopsLast last Stop) ts read.0 read.1)
            (same_read (b.value ∷ [], b.middle) (xs, rest) (sym (ended most b.value b.middle is) ∙ b.second)) found
        | inr isnt ↦
            let d = both_read (until_at last item most b.middle) (λ xs. pure (b.value ∷ xs)) (xs, rest)
            (sym (goes_on most b.value b.middle isnt) ∙ b.second) in
            let u = takes_most most b.middle d.middle d.value d.first in
            let found : Taken (UntilLast last L) (StopsLast last Stop) ts (b.value ∷ d.value) d.middle = record {
              taken = t.taken ++ u.taken;
              parts = in_two_parts ts t.taken u.taken b.middle d.middle t.parts u.parts;
              spelled = until_later last L b.value d.value (t.taken ++ u.taken) t.taken u.taken refl isnt t.spelled
                  u.spelled;
              stops = stops_later last Stop b.value d.value d.middle (some_read last L d.value u.taken u.spelled)
                  u.stops;
            } in
            subst (λ (read : List X × List Lexeme). Taken (UntilLast last L) (StopsLast last Stop) ts read.0 read.1)
            (same_read (b.value ∷ d.value, d.middle) (xs, rest) d.second) found
      ]

  -- ---- what is read

  behind_read : (most : ℕ) (x : X) (taken ts : List Lexeme) → L x taken → StopsAt (Stop x) ts
      → until_at last item (suc most) (taken ++ ts) ≡ more_of most x ts
  behind_read most x taken ts l stops =
      one_more most (taken ++ ts) ∙ ap (λ r. go_on r (more_of most)) (item_reads.reads x taken ts l stops)

  reads_most : (xs : List X) (most : ℕ) (taken rest : List Lexeme) → UntilLast last L xs taken
      → StopsAt (StopsLast last Stop xs) rest → length (taken ++ rest) < most
      → until_at last item most (taken ++ rest) ≡ Ok (xs, rest)
  reads_most [] most taken rest l stops h = absurd l
  reads_most (x ∷ xs) zero taken rest l stops h = absurd (omega arith)
  reads_most (x ∷ []) (suc most) taken rest l stops h =
      behind_read most x taken rest l.1 (stops_also rest (λ t stop. stop l.0) stops) ∙ ended most x rest l.0
  reads_most (x ∷ y ∷ ys) (suc most) taken rest l stops h =
      let parts = l.1 in
      let all : taken ++ rest ≡ parts.0 ++ (parts.1 ++ rest) =
      ap (λ (ts : List Lexeme). ts ++ rest) parts.2 ∙ append_assoc parts.0 parts.1 rest in
      ap (until_at last item (suc most)) all
      ∙ (behind_read most x parts.0 (parts.1 ++ rest) parts.3 (stops_next x (y ∷ ys) parts.1 rest l.0 parts.4)
      ∙ (goes_on most x (parts.1 ++ rest) l.0
      ∙ ap (λ r. go_on r (λ xs. pure (x ∷ xs)))
      (reads_most (y ∷ ys) most parts.1 rest parts.4 stops
      (omega (arith, longer x parts.0 (parts.1 ++ rest) parts.3, ap length all, h)))))

  -- ---- what is refused

  -- a refusal, whatever the most is
  record RefusedAtMost (ts : List Lexeme) (left : ℕ) : Type 0 where
    before : List Lexeme
    after : List Lexeme
    parts : ts ≡ before ++ after
    so_many : length after ≡ left
    whole : List X
    others : List Lexeme
    is_begun : UntilLast last L whole (before ++ others)
    at_end : (most : ℕ) → length before < most → until_at last item most before ≡ Err 0
    stays : (most : ℕ) (t : Lexeme) (behind instead : List Lexeme) → after ≡ t ∷ behind
        → length (before ++ t ∷ instead) < most
        → until_at last item most (before ++ t ∷ instead) ≡ Err (suc (length instead))

  -- a thing and what is wanted behind it
  completed : (x : X) (ts : List Lexeme) → L x ts → (xs : List X) × (us : List Lexeme) × UntilLast last L xs (ts ++ us)
  completed x ts l = elim (either (last x)) [
    | inl is ↦ (x ∷ [], [], (is, subst (λ (ts : List Lexeme). L x ts) (sym (append-nil ts)) l))
    | inr isnt ↦ (x ∷ end ∷ [], sentence, (isnt, (ts, sentence, refl, l, (is_last, sample))))
  ]

  first_refuses : (most : ℕ) (ts : List Lexeme) (left : ℕ) → item ts ≡ Err left → length ts < most
      → until_at last item most ts ≡ Err left
  first_refuses zero ts left e h = absurd (omega arith)
  first_refuses (suc most) ts left e h = one_more most ts ∙ ap (λ r. go_on r (more_of most)) e

  later_refuses : (most : ℕ) (x : X) (taken ts : List Lexeme) (left : ℕ) → L x taken → last x ≡ false
      → StopsAt (Stop x) ts
      → ((most : ℕ) → length ts < most → until_at last item most ts ≡ Err left)
      → length (taken ++ ts) < most → until_at last item most (taken ++ ts) ≡ Err left
  later_refuses zero x taken ts left l e stops each h = absurd (omega arith)
  later_refuses (suc most) x taken ts left l e stops each h =
      behind_read most x taken ts l stops
      ∙ (goes_on most x ts e
      ∙ ap (λ r. go_on r (λ xs. pure (x ∷ xs))) (each most (omega (arith, longer x taken ts l, h))))

  item_refused : (ts : List Lexeme) (left : ℕ) → item ts ≡ Err left → RefusedAtMost ts left
  item_refused ts left e =
      let r = item_reads.refuses ts left e in
      let c = completed r.whole (r.before ++ r.others) r.begun in
      record {
        before = r.before;
        after = r.after;
        parts = r.parts;
        so_many = r.so_many;
        whole = c.0;
        others = r.others ++ c.1;
        is_begun = subst (λ (ts : List Lexeme). UntilLast last L c.0 ts) (append_assoc r.before r.others c.1) c.2;
        at_end = λ most h. first_refuses most r.before 0 r.at_end h;
        stays = λ most t behind instead e h.
            first_refuses most (r.before ++ t ∷ instead) (suc (length instead)) (r.stays t behind instead e) h;
      }

  later_refused : (ts middle : List Lexeme) (left : ℕ) (x : X) → last x ≡ false → Taken L Stop ts x middle
      → RefusedAtMost middle left → RefusedAtMost ts left
  later_refused ts middle left x isnt t r =
      let stops : StopsAt (Stop x) (r.before ++ r.after) =
      subst (λ (ts : List Lexeme). StopsAt (Stop x) ts) r.parts t.stops in
      record {
        before = t.taken ++ r.before;
        after = r.after;
        parts = in_two_parts ts t.taken r.before middle r.after t.parts r.parts;
        so_many = r.so_many;
        whole = x ∷ r.whole;
        others = r.others;
        is_begun = until_later last L x r.whole ((t.taken ++ r.before) ++ r.others) t.taken (r.before ++ r.others)
            (append_assoc t.taken r.before r.others) isnt t.spelled r.is_begun;
        at_end = λ most h.
            later_refuses most x t.taken r.before 0 t.spelled isnt (stops_before (Stop x) r.before r.after stops)
            r.at_end h;
        stays = λ most u behind instead e h.
            let all : (t.taken ++ r.before) ++ u ∷ instead ≡ t.taken ++ (r.before ++ u ∷ instead) =
            append_assoc t.taken r.before (u ∷ instead) in
            ap (until_at last item most) all
            ∙ later_refuses most x t.taken (r.before ++ u ∷ instead) (suc (length instead)) t.spelled isnt
            (stops_instead (Stop x) r.before u behind instead
            (subst (λ (after : List Lexeme). StopsAt (Stop x) (r.before ++ after)) e stops))
            (λ most h. r.stays most u behind instead e h) (omega (arith, ap length all, h));
      }

  refuses_most : (most : ℕ) (ts : List Lexeme) (left : ℕ) → length ts < most → until_at last item most ts ≡ Err left
      → RefusedAtMost ts left
  refuses_most zero ts left h e = absurd (omega arith)
  refuses_most (suc most) ts left h e = elim (one_refused (item ts) (more_of most) left (sym (one_more most ts) ∙ e)) [
    | inl refused ↦ item_refused ts left refused
    | inr b ↦
        let t = item_reads.takes ts b.middle b.value b.first in
        elim (either (last b.value)) [
          | inl is ↦ absurd (let e = sym (ended most b.value b.middle is) ∙ b.second in cc)
          | inr isnt ↦
              elim (one_refused (until_at last item most b.middle) (λ xs. pure (b.value ∷ xs)) left
              (sym (goes_on most b.value b.middle isnt) ∙ b.second)) [
                | inl refused ↦
                    later_refused ts b.middle left b.value isnt t
                    (refuses_most most b.middle left
                    (omega (arith, longer b.value t.taken b.middle t.spelled, ap length t.parts, h)) refused)
                | inr d ↦ absurd (let e = d.second in cc)
              ]
        ]
  ]

  pub until_reads : IsReader (all_until_at last item) (UntilLast last L) (StopsLast last Stop)
  until_reads = record {
    takes = λ ts rest xs e. takes_most (suc (length ts)) ts rest xs e;
    reads = λ xs taken rest l stops. reads_most xs (suc (length (taken ++ rest))) taken rest l stops (omega arith);
    refuses = λ ts left e.
        let r = refuses_most (suc (length ts)) ts left (omega arith) e in
        record {
          before = r.before;
          after = r.after;
          parts = r.parts;
          so_many = r.so_many;
          whole = r.whole;
          others = r.others;
          begun = r.is_begun;
          at_end = r.at_end (suc (length r.before)) (omega arith);
          stays = λ t behind instead e.
              r.stays (suc (length (r.before ++ t ∷ instead))) t behind instead e (omega arith);
        };
    some = end ∷ [];
    sentence = sentence;
    sample = (is_last, sample);
  }
