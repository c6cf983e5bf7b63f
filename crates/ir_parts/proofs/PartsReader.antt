-- Things that stand each behind a comma, before attachments, are read.
use Rattle.std.proofs.Common.{◌≡◌, ℕ, zero, suc, ◌+◌, ◌<◌, ◌≤◌, Bool, true, false, ◌&&◌, not, if◌then◌else◌, List, [], ◌∷◌, ◌++◌, length, Result, Ok, Err, ◌⊎◌, inl, inr, refl, sym, ap, subst, ◌∙◌, append_assoc, arith}
use Rattle.std.proofs.lemmas.Bool.{and_parts}
use Rattle.std.proofs.lemmas.List.{length-append}
use Rattle.ir_text.specs.declared.token.TokenKind.TheVariants.{Metadata}
use Rattle.ir_text.specs.Tokens.{Lexeme}
use Rattle.ir_text.specs.Listed.{InSequence, sign}
use Rattle.ir_text.specs.Language.{Language, ◌·◌, comma}
use Rattle.ir_text.specs.PassedOn.{attachments}
use Rattle.ir_text.specs.Language.Many.{none, more}
use Rattle.ir_parts.specs.Reading.{Read, go_on, ◌>>=◌, pure, ◌▷◌, made, begins, is_punctuation, punctuation_at, token_at}
use Rattle.ir_parts.specs.MetadataReading.{is_metadata_kind, is_metadata, attachments_at}
use Rattle.ir_parts.specs.ListReading.{begins_part, parts_at, all_parts_at}
use Rattle.ir_parts.proofs.Readers.{StopsAt, Refused, IsReader, Anything, of_language, of_reading, mapped, then_reads, either, in_two_parts}
use Rattle.ir_parts.proofs.NoneGoesOn.{same_parts}
use Rattle.ir_parts.proofs.Combined.{behind_token, refusal_within}
use Rattle.ir_parts.proofs.SingleTokens.{both_true, sign_reads, is_sign_itself}
use Rattle.ir_parts.proofs.Repeated.{none_left}
use Rattle.ir_parts.proofs.MetadataReaders.{NoComma, attachments_read}
use Rattle.ir_parts.proofs.Decided.{decide, decided_there, decided_other, Remains, decided}

-- ---- whether both hold

-- not where one of them fails
first_false : (a b : Bool) → a ≡ false → (a && b) ≡ false
first_false false b e = refl
first_false true b e = absurd cc

second_false : (a b : Bool) → b ≡ true → (a && not b) ≡ false
second_false false b e = refl
second_false true b e = ap not e

-- ---- attachments alone

-- no thing at all, and then attachments
attachments_alone : {A : Type 0} → Read (List A)
attachments_alone = attachments_at ▷ pure []

-- they are read, and stand for no things
alone_reads : {A : Type 0} → IsReader (attachments_alone {A = A}) (λ xs ts. (xs ≡ []) × attachments ts) (λ xs. NoComma
    tt)
unfolding attachments_alone
alone_reads {A} =
    of_language (λ xs ts. (xs ≡ []) × attachments ts) (λ xs ts l. (l.1, l.2)) (λ xs ts l. (tt, l.0, l.1))
    (mapped (λ x. []) (λ (xs : List A). NoComma tt) (λ x t stop. stop) (λ x t stop. stop) attachments_read)

-- they are there, whatever begins without a comma
alone_elsewhere : {A : Type 0} (ts : List Lexeme) → begins (is_punctuation 44) ts ≡ false
    → attachments_alone {A = A} ts ≡ Ok ([], ts)
unfolding attachments_alone
alone_elsewhere {A} ts e = (alone_reads {A = A}).reads [] [] ts (refl, none) (no_comma ts e)
  where
    no_comma : (ts : List Lexeme) → begins (is_punctuation 44) ts ≡ false → StopsAt (NoComma tt) ts
    no_comma [] e = tt
    no_comma (t ∷ ts) e = e

-- A reading that is content with nothing never refuses at the first token.
never_at_first : {A : Type 0} (ts : List Lexeme) → attachments_alone {A = A} ts ≡ Err (length ts) → ⊥
never_at_first {A} ts e = nothing_before r.before r.after ts r.parts r.so_many r.at_end
  where
    r : Refused (attachments_alone {A = A}) (λ xs ts. (xs ≡ []) × attachments ts) ts (length ts)
    r = (alone_reads {A = A}).refuses ts (length ts) e

    nothing_before : (before after ts : List Lexeme) → ts ≡ before ++ after → length after ≡ length ts
        → attachments_alone {A = A} before ≡ Err 0 → ⊥
    nothing_before [] after ts parts so e = let read = sym (alone_elsewhere {A = A} [] refl) ∙ e in cc
    nothing_before (t ∷ before) after ts parts so e =
        omega (arith, ap length parts, length-append before after, so)

-- ---- things behind commas

-- each thing behind its comma, and then attachments
abbrev pub BehindCommas : {X : Type 0} → (X → Language) → List X → Language
BehindCommas P xs = InSequence (λ x. comma · P x) xs · attachments

-- at most so many of them
abbrev pub AtMost : {X : Type 0} → (X → Language) → ℕ → List X → Language
AtMost P most xs ts = (length xs ≤ most) × BehindCommas P xs ts

module _ {X : Type 0} {item : Read X} {P : X → Language} (item_reads : IsReader item P Anything)
    (no_metadata : (x : X) (ts rest : List Lexeme) → P x ts → begins is_metadata (ts ++ rest) ≡ false) where
  -- what is made of a thing and those behind it
  with_others : ℕ → X → Read (List X)
  with_others most x = made (λ xs. x ∷ xs) (parts_at item most)

  -- a thing behind its comma, and those behind it
  one_part : ℕ → Read (List X)
  one_part most = punctuation_at 44 ▷ item >>= with_others most

  -- the sentences of what is behind a thing
  Others : ℕ → X → List X → Language
  Others most x xs ts = (ys : List X) × (xs ≡ x ∷ ys) × AtMost P most ys ts

  -- they are read
  others_read : (most : ℕ) → IsReader (parts_at item most) (AtMost P most) (λ xs. NoComma tt)
      → (x : X) → IsReader (with_others most x) (Others most x) (λ xs. NoComma tt)
  unfolding with_others Others
  others_read most rest_reads x =
      mapped (λ xs. x ∷ xs) (λ xs. NoComma tt) (λ xs t stop. stop) (λ xs t stop. stop) rest_reads

  -- a thing behind its comma is read, with what is behind it
  part_reads : (most : ℕ) → IsReader (parts_at item most) (AtMost P most) (λ xs. NoComma tt)
      → IsReader (one_part most) (λ xs ts. (x : X) × ((comma · P x) · Others most x xs) ts) (λ xs. NoComma tt)
  unfolding one_part
  part_reads most rest_reads =
      then_reads (with_others most) (Others most) (λ xs. NoComma tt) (behind_token (sign_reads 44) item_reads)
      (others_read most rest_reads)

  -- behind a comma the thing is read
  comma_passed : (most : ℕ) (t : Lexeme) (ts : List Lexeme) → is_punctuation 44 t ≡ true
      → one_part most (t ∷ ts) ≡ (item >>= with_others most) ts
  unfolding one_part token_at
  comma_passed most t ts e =
      ap (λ b. go_on (go_on (if b then Ok (tt, ts) else Err (suc (length ts))) (λ x. item)) (with_others most)) e

  -- so the comma is taken
  part_never_at_comma : (most : ℕ) → IsReader (parts_at item most) (AtMost P most) (λ xs. NoComma tt)
      → (t : Lexeme) (ts : List Lexeme) → is_punctuation 44 t ≡ true
      → one_part most (t ∷ ts) ≡ Err (suc (length ts)) → ⊥
  part_never_at_comma most rest_reads t ts passed e =
      let within = refusal_within
      (then_reads (with_others most) (Others most) (λ xs. NoComma tt) item_reads (others_read most rest_reads)) ts
      (suc (length ts)) (sym (comma_passed most t ts passed) ∙ e) in
      omega arith

  -- no thing is nothing
  never_nothing : (x : X) (taken rest : List Lexeme) → [] ≡ taken ++ rest → P x taken → ⊥
  never_nothing x [] rest e l =
      let failed = no_metadata x [] (record { kind = Metadata; text = [] } ∷ []) l in cc
  never_nothing x (t ∷ taken) rest e l = cc

  -- it isn't read at the end of the tokens
  none_at_end : item [] ≡ Err 0
  none_at_end = go (item []) refl
    where
      go : (r : Result (X × List Lexeme) ℕ) → item [] ≡ r → item [] ≡ Err 0
      go (Ok read) e =
          let t = item_reads.takes [] read.1 read.0 e in
          absurd (never_nothing read.0 t.taken read.1 t.parts t.spelled)
      go (Err left) e =
          let within = refusal_within item_reads [] left e in
          let none : left ≡ 0 = omega arith in
          e ∙ ap (λ (n : ℕ). Err n) none

  -- ---- where a thing stands next

  -- a thing behind its comma is seen there
  part_there : (x : X) (ts rest : List Lexeme) → (comma · P x) ts → begins_part (ts ++ rest) ≡ true
  part_there x ts rest l =
      ap begins_part (ap (λ (ts : List Lexeme). ts ++ rest) (l.2 ∙ ap (λ (us : List Lexeme). us ++ l.1) l.3))
      ∙ both_true (is_punctuation 44 (sign 44)) (not (begins is_metadata (l.1 ++ rest))) (is_sign_itself 44)
      (ap not (no_metadata x l.1 rest l.4))

  -- the same with what is behind it
  parts_there : (most : ℕ) (xs : List X) (taken rest : List Lexeme)
      → (x : X) × ((comma · P x) · Others most x xs) taken → begins_part (taken ++ rest) ≡ true
  parts_there most xs taken rest l =
      ap begins_part (ap (λ (ts : List Lexeme). ts ++ rest) l.1.2 ∙ append_assoc l.1.0 l.1.1 rest)
      ∙ part_there l.0 l.1.0 (l.1.1 ++ rest) l.1.3

  -- attachments aren't seen as a thing
  attachments_there : (taken rest : List Lexeme) → attachments taken → StopsAt (NoComma tt) rest
      → begins_part (taken ++ rest) ≡ false
  attachments_there taken [] none stops = refl
  attachments_there taken (t ∷ rest) none stops = first_false (is_punctuation 44 t) _ stops
  attachments_there taken rest (more us vs parts first others) stops =
      rw (parts, first.2, first.3, first.4.2, first.4.3.1)
      (second_false (is_punctuation 44 (sign 44)) (is_metadata first.4.3.0) (ap is_metadata_kind first.4.3.2.0))

  -- what is refused in or behind a thing is refused by the choice
  part_remains : (most : ℕ) → IsReader (parts_at item most) (AtMost P most) (λ xs. NoComma tt)
      → Remains begins_part (one_part most) (decide begins_part (one_part most) attachments_alone) true
  part_remains most rest_reads = record { at_end = at_end; stays = stays }
    where
      at_end : (before after : List Lexeme) → begins_part (before ++ after) ≡ true
          → one_part most (before ++ after) ≡ Err (length after) → one_part most before ≡ Err 0
          → decide begins_part (one_part most) attachments_alone before ≡ Err 0
      at_end [] [] passed refused e = absurd cc
      at_end [] (t ∷ after) passed refused e = absurd
          (part_never_at_comma most rest_reads t after (and_parts (is_punctuation 44 t) _ passed).0 refused)
      at_end (a ∷ []) after passed refused e =
          decided_there begins_part (one_part most) attachments_alone (a ∷ [])
          (both_true (is_punctuation 44 a) true (and_parts (is_punctuation 44 a) _ passed).0 refl) ∙ e
      at_end (a ∷ b ∷ before) after passed refused e =
          decided_there begins_part (one_part most) attachments_alone (a ∷ b ∷ before) passed ∙ e

      stays : (before behind instead : List Lexeme) (t : Lexeme) → begins_part (before ++ t ∷ behind) ≡ true
          → one_part most (before ++ t ∷ instead) ≡ Err (suc (length instead))
          → begins_part (before ++ t ∷ instead) ≡ true
      stays [] behind instead t passed refused = absurd
          (part_never_at_comma most rest_reads t instead (and_parts (is_punctuation 44 t) _ passed).0 refused)
      stays (a ∷ []) behind instead t passed refused = passed
      stays (a ∷ b ∷ before) behind instead t passed refused = passed

  -- what is refused in attachments is refused by the choice
  alone_remains : (most : ℕ)
      → Remains begins_part attachments_alone (decide begins_part (one_part most) attachments_alone) false
  alone_remains most = record { at_end = at_end; stays = stays }
    where
      behind_comma : (a : Lexeme) → is_punctuation 44 a ≡ true
          → decide begins_part (one_part most) attachments_alone (a ∷ []) ≡ Err 0
      behind_comma a passed =
          decided_there begins_part (one_part most) attachments_alone (a ∷ [])
          (both_true (is_punctuation 44 a) true passed refl)
          ∙ comma_passed most a [] passed
          ∙ ap (λ r. go_on r (with_others most)) none_at_end

      at_end : (before after : List Lexeme) → begins_part (before ++ after) ≡ false
          → attachments_alone {A = X} (before ++ after) ≡ Err (length after)
          → attachments_alone {A = X} before ≡ Err 0
          → decide begins_part (one_part most) attachments_alone before ≡ Err 0
      at_end [] after failed refused e = absurd (never_at_first {A = X} after refused)
      at_end (a ∷ []) after failed refused e = elim (either (is_punctuation 44 a)) [
        | inl passed ↦ behind_comma a passed
        | inr other ↦ absurd (let read = sym (alone_elsewhere {A = X} (a ∷ []) other) ∙ e in cc)
      ]
      at_end (a ∷ b ∷ before) after failed refused e =
          decided_other begins_part (one_part most) attachments_alone (a ∷ b ∷ before) failed ∙ e

      stays : (before behind instead : List Lexeme) (t : Lexeme) → begins_part (before ++ t ∷ behind) ≡ false
          → attachments_alone {A = X} (before ++ t ∷ instead) ≡ Err (suc (length instead))
          → begins_part (before ++ t ∷ instead) ≡ false
      stays [] behind instead t failed refused = absurd (never_at_first {A = X} (t ∷ instead) refused)
      stays (a ∷ []) behind instead t failed refused = failed
      stays (a ∷ b ∷ before) behind instead t failed refused = failed

  -- ---- at most so many

  -- where none may stand
  none_there : (xs : List X) (ts : List Lexeme) → (xs ≡ []) × attachments ts → AtMost P 0 xs ts
  none_there xs ts l = rw l.0 (omega arith, ([], ts, refl, refl, l.1))

  none_back : (xs : List X) (ts : List Lexeme) → AtMost P 0 xs ts → (xs ≡ []) × attachments ts
  none_back [] ts l = (
    refl,
    subst (λ (ts : List Lexeme). attachments ts) (sym (l.1.2 ∙ ap (λ (us : List Lexeme). us ++ l.1.1) l.1.3)) l.1.4,
  )
  none_back (x ∷ xs) ts l = absurd (let many = l.0 in omega arith)

  -- where one more may stand
  more_there : (most : ℕ) (xs : List X) (ts : List Lexeme)
      → ((x : X) × ((comma · P x) · Others most x xs) ts) ⊎ ((xs ≡ []) × attachments ts) → AtMost P (suc most) xs ts
  unfolding Others
  more_there most xs ts (inl l) =
      let us = l.1.0 in
      let behind = l.1.4 in
      let seen = behind.2.1 in
      rw behind.1 (
        let few = behind.2.0 in omega arith,
        (
          us ++ seen.0,
          seen.1,
          in_two_parts ts us seen.0 l.1.1 seen.1 l.1.2 seen.2,
          (us, seen.0, refl, l.1.3, seen.3),
          seen.4,
        ),
      )
  more_there most xs ts (inr l) = rw l.0 (omega arith, ([], ts, refl, refl, l.1))

  more_back : (most : ℕ) (xs : List X) (ts : List Lexeme) → AtMost P (suc most) xs ts
      → ((x : X) × ((comma · P x) · Others most x xs) ts) ⊎ ((xs ≡ []) × attachments ts)
  unfolding Others
  more_back most [] ts l = inr (
    refl,
    subst (λ (ts : List Lexeme). attachments ts) (sym (l.1.2 ∙ ap (λ (us : List Lexeme). us ++ l.1.1) l.1.3)) l.1.4,
  )
  more_back most (x ∷ xs) ts l =
      let all = l.1 in
      let first = all.3 in
      inl (
        x,
        (
          first.0,
          first.1 ++ all.1,
          all.2 ∙ (ap (λ (us : List Lexeme). us ++ all.1) first.2 ∙ append_assoc first.0 first.1 all.1),
          first.3,
          (xs, refl, (let few = l.0 in omega arith, (first.1, all.1, refl, first.4, all.4))),
        ),
      )

  -- At most so many things, each behind a comma, and attachments are read up to what is no comma.
  pub parts_read : (most : ℕ) → IsReader (parts_at item most) (AtMost P most) (λ xs. NoComma tt)
  unfolding parts_at one_part with_others attachments_alone
  parts_read zero =
      of_reading (parts_at item zero) (λ ts. refl) (of_language (AtMost P 0) none_there none_back alone_reads)
  parts_read (suc most) =
      of_reading (parts_at item (suc most)) (λ ts. refl)
      (of_language (AtMost P (suc most)) (more_there most) (more_back most)
      (decided begins_part (part_reads most (parts_read most)) alone_reads
      (λ xs taken rest l stops. parts_there most xs taken rest l)
      (λ xs taken rest l stops. attachments_there taken rest l.1 stops)
      (part_remains most (parts_read most)) (alone_remains most)))

  -- ---- any number of them

  -- a thing takes its comma at least
  one_token : (x : X) (ts rest : List Lexeme) → (comma · P x) ts → length rest < length (ts ++ rest)
  one_token x ts rest l =
      omega (arith, length-append ts rest, ap length l.2, length-append l.0 l.1, ap length l.3)

  -- the two cases of the reading
  no_part : (most : ℕ) (ts : List Lexeme) → begins_part ts ≡ false → parts_at item most ts ≡ attachments_alone ts
  unfolding parts_at one_part with_others attachments_alone
  no_part zero ts failed = refl
  no_part (suc most) ts failed = decided_other begins_part (one_part most) attachments_alone ts failed

  a_part : (most : ℕ) (ts : List Lexeme) → begins_part ts ≡ true → parts_at item (suc most) ts ≡ one_part most ts
  unfolding parts_at one_part with_others attachments_alone
  a_part most ts passed = decided_there begins_part (one_part most) attachments_alone ts passed

  -- What is the same for shorter lists is so for a thing and those behind it.
  same_others : (most other : ℕ) (ts : List Lexeme)
      → ((rest : List Lexeme) → length rest < length ts → parts_at item most rest ≡ parts_at item other rest)
      → (r : Result (X × List Lexeme) ℕ) → (punctuation_at 44 ▷ item) ts ≡ r → one_part most ts ≡ one_part other ts
  unfolding one_part with_others
  same_others most other ts shorter (Err left) e =
      ap (λ r. go_on r (with_others most)) e ∙ sym (ap (λ r. go_on r (with_others other)) e)
  same_others most other ts shorter (Ok read) e =
      let t = (behind_token (sign_reads 44) item_reads).takes ts read.1 read.0 e in
      ap (λ r. go_on r (with_others most)) e
      ∙ (ap (λ r. go_on r (λ xs. pure (read.0 ∷ xs)))
      (shorter read.1 (omega (arith, one_token read.0 t.taken read.1 t.spelled, ap length t.parts)))
      ∙ sym (ap (λ r. go_on r (with_others other)) e))

  -- As many as there are tokens are enough: whatever is more gives the same.
  enough : (most other : ℕ) (ts : List Lexeme) → length ts ≤ most → length ts ≤ other
      → parts_at item most ts ≡ parts_at item other ts
  enough zero other ts h k =
      let failed : begins_part ts ≡ false = ap begins_part (none_left ts h) in
      no_part zero ts failed ∙ sym (no_part other ts failed)
  enough (suc most) zero ts h k =
      let failed : begins_part ts ≡ false = ap begins_part (none_left ts k) in
      no_part (suc most) ts failed ∙ sym (no_part zero ts failed)
  enough (suc most) (suc other) ts h k = elim (either (begins_part ts)) [
    | inl passed ↦
        a_part most ts passed
        ∙ (same_others most other ts (λ rest less. enough most other rest (omega arith) (omega arith))
        ((punctuation_at 44 ▷ item) ts) refl
        ∙ sym (a_part other ts passed))
    | inr failed ↦ no_part (suc most) ts failed ∙ sym (no_part (suc other) ts failed)
  ]

  -- there are no more things than tokens
  fewer_things : (xs : List X) (ts : List Lexeme) → InSequence (λ x. comma · P x) xs ts → length xs ≤ length ts
  fewer_things [] ts l = omega arith
  fewer_things (x ∷ xs) ts l =
      omega (arith, one_token x l.0 l.1 l.3, fewer_things xs l.1 l.4, ap length l.2)

  -- Any number of things, each behind a comma, and attachments are read up to what is no comma.
  pub all_parts_read : IsReader (all_parts_at item) (BehindCommas P) (λ xs. NoComma tt)
  all_parts_read = record {
    takes = λ ts rest xs e.
        let t = (parts_read (length ts)).takes ts rest xs e in
        record { taken = t.taken; parts = t.parts; spelled = t.spelled.1; stops = t.stops };
    reads = λ xs taken rest l stops.
        let few : length xs ≤ length (taken ++ rest) =
        omega (arith, fewer_things xs l.0 l.3, ap length l.2, length-append l.0 l.1, length-append taken rest) in
        (parts_read (length (taken ++ rest))).reads xs taken rest (few, l) stops;
    refuses = refused;
    some = [];
    sentence = [];
    sample = ([], [], refl, refl, none);
  }
    where
      refused : (ts : List Lexeme) (left : ℕ) → all_parts_at item ts ≡ Err left
          → Refused (all_parts_at item) (BehindCommas P) ts left
      refused ts left e = record {
        before = r.before;
        after = r.after;
        parts = r.parts;
        so_many = r.so_many;
        whole = r.whole;
        others = r.others;
        begun = r.begun.1;
        at_end = enough (length r.before) (length ts) r.before (omega arith)
            (omega (arith, ap length r.parts, length-append r.before r.after)) ∙ r.at_end;
        stays = stays;
      }
        where
          r : Refused (parts_at item (length ts)) (AtMost P (length ts)) ts left
          r = (parts_read (length ts)).refuses ts left e

          stays : (t : Lexeme) (behind instead : List Lexeme) → r.after ≡ t ∷ behind
              → all_parts_at item (r.before ++ t ∷ instead) ≡ Err (suc (length instead))
          stays t behind instead is =
              let most : ℕ = length ts + length (r.before ++ t ∷ instead) in
              let more = (parts_read most).refuses ts left
              (enough most (length ts) ts (omega arith) (omega arith) ∙ e) in
              let same = same_parts more.before r.before more.after r.after (sym more.parts ∙ r.parts)
              (more.so_many ∙ sym r.so_many) in
              enough (length (r.before ++ t ∷ instead)) most (r.before ++ t ∷ instead) (omega arith) (omega arith)
              ∙ subst (λ (before : List Lexeme). parts_at item most (before ++ t ∷ instead) ≡ Err (suc (length
              instead))) same.0 (more.stays t behind instead (same.1 ∙ is))
