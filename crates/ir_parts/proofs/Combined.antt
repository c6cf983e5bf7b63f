-- More ways to put readers together.
use Rattle.std.proofs.Common.{◌≡◌, ℕ, suc, Bool, true, false, if◌then◌else◌, List, [], ◌∷◌, ◌++◌, length, Option, Some, None, Result, Ok, Err, ◌⊎◌, inl, inr, refl, sym, ap, subst, ◌∙◌, ◌≤◌, arith}
use Rattle.std.proofs.lemmas.List.{length-append}
use Rattle.ir_text.specs.Tokens.{Lexeme}
use Rattle.ir_text.specs.Language.{Language, ◌·◌, one, token}
use Rattle.ir_parts.specs.Reading.{Read, go_on, ◌>>=◌, pure, given, one_at, begins, token_at, choose}
use Rattle.ir_parts.proofs.Readers.{StopsAt, Taken, Refused, IsReader, Anything, of_language, of_reading, mapped, one_reads, followed, then_reads, stops_at_all, same_read, either, chosen_first, chosen_other, begins_still, begins_before, begins_not_before, begins_instead}

-- ---- nothing to read

pub pure_reads : {X : Type 0} (x : X) → IsReader (pure x) (λ y ts. (y ≡ x) × (ts ≡ [])) Anything
pure_reads {X} x = record {
  takes = λ ts rest y e.
      subst (λ (read : X × List Lexeme). Taken (λ y ts. (y ≡ x) × (ts ≡ [])) Anything ts read.0 read.1)
      (same_read (x, ts) (y, rest) e)
      (record { taken = []; parts = refl; spelled = (refl, refl); stops = stops_at_all ts (λ t. tt) });
  reads = λ y taken rest l stops.
      subst (λ (ts : List Lexeme). pure x (ts ++ rest) ≡ Ok (y, rest)) (sym l.1) (ap (λ (x : X). Ok (x, rest)) (sym
      l.0));
  refuses = λ ts left e. absurd cc;
  some = x;
  sentence = [];
  sample = (refl, refl);
}

-- ---- tokens that say nothing

given_where : {A : Type 0} (b : Bool) (x : A) (ts : List Lexeme) (left : ℕ)
    → ◌≡◌ {A = Result (A × List Lexeme) ℕ} (if b then Ok (x, ts) else Err left) (given (if b then Some x else None) ts
    left)
given_where true x ts left = refl
given_where false x ts left = refl

some_where : {A : Type 0} (b : Bool) (x y : A) → ◌≡◌ {A = Option A} (if b then Some x else None) (Some y) → b ≡ true
some_where true x y e = refl
some_where false x y e = absurd cc

-- what says nothing of a token that passes
nothing_of : (Lexeme → Bool) → Lexeme → Option (Unit {0})
nothing_of test t = if test t then Some tt else None

tested : (test : Lexeme → Bool) (ts : List Lexeme) → token_at test ts ≡ one_at (nothing_of test) ts
unfolding token_at one_at nothing_of
tested test [] = refl
tested test (t ∷ ts) = given_where (test t) tt ts (suc (length ts))

-- any token that passes a test
pub token_reads : (test : Lexeme → Bool) (t : Lexeme) → test t ≡ true
    → IsReader (token_at test) (λ (x : Unit {0}). one (λ t. test t ≡ true)) Anything
unfolding nothing_of
token_reads test t passes =
    of_reading (token_at test) (tested test)
    (one_reads (nothing_of test) (λ x t. test t ≡ true) (λ x t e. some_where (test t) tt x e)
    (λ x t e. ap (λ b. if b then Some tt else None) e) tt t passes)

-- one token that is known
pub known_reads : (test : Lexeme → Bool) (t : Lexeme) → test t ≡ true → ((u : Lexeme) → test u ≡ true → u ≡ t)
    → IsReader (token_at test) (λ (x : Unit {0}). token t) Anything
known_reads test t passes only =
    of_language (λ (x : Unit {0}). token t)
    (λ x ts l. l.1 ∙ ap (λ (u : Lexeme). u ∷ []) (only l.0 l.2))
    (λ x ts l. (t, l, passes))
    (token_reads test t passes)

-- ---- what is read beside tokens that say nothing

module _ {Y : Type 0} {a : Read (Unit {0})} {K : Language} where
  -- they stand before
  pub behind_token : {b : Read Y} {B : Y → List Lexeme → Type 0} {Stop : Y → Lexeme → Type 0}
      → IsReader a (λ x. K) Anything → IsReader b B Stop → IsReader (a >>= λ x. b) (λ y. K · B y) Stop
  behind_token {b} {B} {Stop} first next =
      of_language (λ y. K · B y) (λ y ts l. l.1) (λ y ts l. (tt, l))
      (then_reads (λ x. b) (λ x. B) Stop first (λ x. next))

  -- the same where they go on
  pub behind_followed : {b : Read Y} {B : Y → List Lexeme → Type 0} {StopA : Unit {0} → Lexeme → Type 0} {Stop : Y
      → Lexeme → Type 0}
      → IsReader a (λ x. K) StopA → IsReader b B Stop
      → ((y : Y) (taken rest : List Lexeme) → B y taken → StopsAt (Stop y) rest → StopsAt (StopA tt) (taken ++ rest))
      → IsReader (a >>= λ x. b) (λ y. K · B y) Stop
  behind_followed {b} {B} {StopA} {Stop} first next follows =
      of_language (λ y. K · B y) (λ y ts l. l.1) (λ y ts l. (tt, l))
      (followed (λ x. b) (λ x. B) Stop first (λ x. next) (λ x. follows))

  -- they stand for a value
  pub stands_for : (y : Y) → IsReader a (λ x. K) Anything → IsReader (a >>= λ x. pure y) (λ z ts. (z ≡ y) × K ts)
      Anything
  stands_for y first =
      of_language (λ z ts. (z ≡ y) × K ts) (λ z ts l. (l.1, l.2)) (λ z ts l. (tt, l.0, l.1))
      (mapped (λ x. y) Anything (λ x t s. tt) (λ x t s. tt) first)

  -- they stand behind
  pub before_token : {b : Read Y} {B : Y → List Lexeme → Type 0}
      → IsReader b B Anything → IsReader a (λ x. K) Anything
      → IsReader (b >>= λ y. a >>= λ x. pure y) (λ y. B y · K) Anything
  before_token {b} {B} first next =
      of_language (λ y. B y · K)
      (λ y ts l. (l.1.0, l.1.1, l.1.2, subst (λ (z : Y). B z l.1.0) (sym l.1.4.0) l.1.3, l.1.4.1))
      (λ y ts l. (y, (l.0, l.1, l.2, l.3, (refl, l.4))))
      (then_reads (λ y. a >>= λ x. pure y) (λ y z ts. (z ≡ y) × K ts) Anything first (λ y. stands_for y next))

  -- the same where what stands before them goes on
  pub before_stopping : {b : Read Y} {B : Y → List Lexeme → Type 0} {StopB : Y → Lexeme → Type 0}
      → IsReader b B StopB → IsReader a (λ x. K) Anything
      → ((y : Y) (taken rest : List Lexeme) → K taken → StopsAt (StopB y) (taken ++ rest))
      → IsReader (b >>= λ y. a >>= λ x. pure y) (λ y. B y · K) Anything
  before_stopping {b} {B} first next ends =
      of_language (λ y. B y · K)
      (λ y ts l. (l.1.0, l.1.1, l.1.2, subst (λ (z : Y). B z l.1.0) (sym l.1.4.0) l.1.3, l.1.4.1))
      (λ y ts l. (y, (l.0, l.1, l.2, l.3, (refl, l.4))))
      (followed (λ y. a >>= λ x. pure y) (λ y z ts. (z ≡ y) × K ts) Anything first (λ y. stands_for y next)
      (λ x y taken rest l stops. ends x taken rest l.1))

-- ---- where a reading refuses

-- among its tokens, or at their end
pub refusal_within : {X : Type 0} {read : Read X} {L : X → List Lexeme → Type 0} {Stop : X → Lexeme → Type 0}
    → IsReader read L Stop → (ts : List Lexeme) (left : ℕ) → read ts ≡ Err left → left ≤ length ts
refusal_within r ts left e =
    let f = r.refuses ts left e in omega (arith, f.so_many, ap length f.parts, length-append f.before f.after)

-- behind a token that was taken
pub not_at_first : {Y : Type 0} (test : Lexeme → Bool) {b : Read Y} {B : Y → List Lexeme → Type 0} {Stop : Y
    → Lexeme → Type 0}
    → IsReader b B Stop → (t : Lexeme) (ts : List Lexeme) → test t ≡ true
    → (token_at test >>= λ x. b) (t ∷ ts) ≡ Err (suc (length ts)) → ⊥
unfolding token_at
not_at_first {Y} test {b} next t ts passed e =
    let read : b ts ≡ Err (suc (length ts)) =
    sym (ap (λ c. go_on (if c then Ok (tt, ts) else Err (suc (length ts))) (λ x. b)) passed) ∙ e in
    let within = refusal_within next ts (suc (length ts)) read in
    omega arith

-- ---- one of two, where the first may also begin with other tokens

begins_taken : (test : Lexeme → Bool) (taken rest : List Lexeme) → (taken ≡ [] → ⊥) → begins test (taken ++ rest) ≡ true
    → begins test taken ≡ true
begins_taken test [] rest some e = absurd (some refl)
begins_taken test (t ∷ taken) rest some e = e

pub chosen_where : {X : Type 0} (test : Lexeme → Bool) {there other : Read X} {A B : X → List Lexeme
    → Type 0} {Stop : X → Lexeme → Type 0}
    → IsReader there A Stop → IsReader other B Stop
    → ((x : X) (ts : List Lexeme) → A x ts → ts ≡ [] → ⊥)
    → ((x : X) (taken rest : List Lexeme) → B x taken → StopsAt (Stop x) rest → begins test (taken ++ rest) ≡ false)
    → ((t : Lexeme) (ts : List Lexeme) → test t ≡ true → there (t ∷ ts) ≡ Err (suc (length ts)) → ⊥)
    → (x : X) (ts : List Lexeme) → B x ts
    → IsReader (choose test there other) (λ x ts. ((begins test ts ≡ true) × A x ts) ⊎ B x ts) Stop
chosen_where {X} test {there} {other} {A} {B} {Stop} there_reads other_reads some parted begun x sentence sample =
    record {
      takes = λ ts rest x e. elim (either (begins test ts)) [
        | inl passed ↦
            let t = there_reads.takes ts rest x (sym (chosen_first test there other ts passed) ∙ e) in
            let first = begins_taken test t.taken rest (some x t.taken t.spelled)
            (subst (λ (ts : List Lexeme). begins test ts ≡ true) t.parts passed) in
            record { taken = t.taken; parts = t.parts; spelled = inl (first, t.spelled); stops = t.stops }
        | inr failed ↦
            let t = other_reads.takes ts rest x (sym (chosen_other test there other ts failed) ∙ e) in
            record { taken = t.taken; parts = t.parts; spelled = inr t.spelled; stops = t.stops }
      ];
      reads = λ x taken rest l stops. elim l [
        | inl a ↦
            chosen_first test there other (taken ++ rest) (begins_still test taken rest a.0)
            ∙ there_reads.reads x taken rest a.1 stops
        | inr b ↦
            chosen_other test there other (taken ++ rest) (parted x taken rest b stops)
            ∙ other_reads.reads x taken rest b stops
      ];
      refuses = λ ts left e. elim (either (begins test ts)) [
        | inl passed ↦ there_refused ts left passed (sym (chosen_first test there other ts passed) ∙ e)
        | inr failed ↦ other_refused ts left failed (sym (chosen_other test there other ts failed) ∙ e)
      ];
      some = x;
      sentence = sentence;
      sample = inr sample;
    }
  where
    there_refused : (ts : List Lexeme) (left : ℕ) → begins test ts ≡ true → there ts ≡ Err left
        → Refused (choose test there other) (λ x ts. ((begins test ts ≡ true) × A x ts) ⊎ B x ts) ts left
    there_refused ts left passed e =
        let r = there_reads.refuses ts left e in
        let begins_so : begins test r.before ≡ true = begins_before test ts r.before r.after r.parts passed
        (λ t us is so. begun t us (subst (λ (ts : List Lexeme). begins test ts ≡ true) is passed)
        (ap there (sym is) ∙ (e ∙ ap (λ (n : ℕ). Err n) (sym r.so_many ∙ so)))) in
        record {
          before = r.before;
          after = r.after;
          parts = r.parts;
          so_many = r.so_many;
          whole = r.whole;
          others = r.others;
          begun = inl (begins_still test r.before r.others begins_so, r.begun);
          at_end = chosen_first test there other r.before begins_so ∙ r.at_end;
          stays = λ t behind instead e.
              chosen_first test there other (r.before ++ t ∷ instead) (begins_still test r.before (t ∷ instead)
              begins_so)
              ∙ r.stays t behind instead e;
        }

    other_refused : (ts : List Lexeme) (left : ℕ) → begins test ts ≡ false → other ts ≡ Err left
        → Refused (choose test there other) (λ x ts. ((begins test ts ≡ true) × A x ts) ⊎ B x ts) ts left
    other_refused ts left failed e =
        let r = other_reads.refuses ts left e in
        let failed_there : begins test (r.before ++ r.after) ≡ false = ap (begins test) (sym r.parts) ∙ failed in
        record {
          before = r.before;
          after = r.after;
          parts = r.parts;
          so_many = r.so_many;
          whole = r.whole;
          others = r.others;
          begun = inr r.begun;
          at_end = chosen_other test there other r.before (begins_not_before test r.before r.after failed_there) ∙
              r.at_end;
          stays = λ t behind instead e.
              chosen_other test there other (r.before ++ t ∷ instead)
              (begins_instead test r.before t behind instead
              ∙ (ap (λ (after : List Lexeme). begins test (r.before ++ after)) (sym e) ∙ failed_there))
              ∙ r.stays t behind instead e;
        }
