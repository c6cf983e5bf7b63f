-- Readings of a language: each takes the sentence that stands in front, and refuses at the first token with which no
-- sentence goes on.
use Rattle.std.proofs.Common.{◌≡◌, ℕ, suc, Bool, true, false, if◌then◌else◌, List, [], ◌∷◌, ◌++◌, length, Option, Some, None, Result, Ok, Err, ◌⊎◌, inl, inr, refl, sym, ap, subst, ◌∙◌, append_assoc}
use Rattle.ir_text.specs.Tokens.{Lexeme}
use Rattle.ir_text.specs.Language.{◌·◌, ◌or◌, one}
use Rattle.ir_parts.specs.Reading.{Read, go_on, ◌>>=◌, pure, given, one_at, begins, choose}

-- Where a token stands next, it is of these.
abbrev pub StopsAt : (Lexeme → Type 0) → List Lexeme → Type 0
StopsAt Stop [] = Unit {0}
StopsAt Stop (t ∷ ts) = Stop t

-- A sentence was taken, and what stands behind it doesn't continue it.
pub record Taken {X : Type 0} (L : X → List Lexeme → Type 0) (Stop : X → Lexeme
    → Type 0) (ts : List Lexeme) (x : X) (rest : List Lexeme) : Type 0 where
  pub taken : List Lexeme
  pub parts : ts ≡ taken ++ rest
  pub spelled : L x taken
  pub stops : StopsAt (Stop x) rest

-- The tokens before a refusal begin a sentence and are none; with the token at which it comes, whatever stands behind
-- it, the refusal stays.
pub record Refused {X : Type 0} (read : Read X) (L : X → List Lexeme
    → Type 0) (ts : List Lexeme) (left : ℕ) : Type 0 where
  pub before : List Lexeme
  pub after : List Lexeme
  pub parts : ts ≡ before ++ after
  pub so_many : length after ≡ left
  pub whole : X
  pub others : List Lexeme
  pub begun : L whole (before ++ others)
  pub at_end : read before ≡ Err 0
  pub stays : (t : Lexeme) (behind instead : List Lexeme) → after ≡ t ∷ behind
      → read (before ++ t ∷ instead) ≡ Err (suc (length instead))

-- The reading is one of the language L. A token of which Stop holds doesn't continue the sentence of what was read.
pub record IsReader {X : Type 0} (read : Read X) (L : X → List Lexeme → Type 0) (Stop : X → Lexeme
    → Type 0) : Type 0 where
  pub takes : (ts rest : List Lexeme) (x : X) → read ts ≡ Ok (x, rest) → Taken L Stop ts x rest
  pub reads : (x : X) (taken rest : List Lexeme) → L x taken → StopsAt (Stop x) rest
      → read (taken ++ rest) ≡ Ok (x, rest)
  pub refuses : (ts : List Lexeme) (left : ℕ) → read ts ≡ Err left → Refused read L ts left
  pub some : X
  pub sentence : List Lexeme
  pub sample : L some sentence

-- what nothing continues
abbrev pub Anything : {X : Type 0} → X → Lexeme → Type 0
Anything x t = Unit {0}

-- ---- what stands next

pub stops_at_all : {S : Lexeme → Type 0} (ts : List Lexeme) → ((t : Lexeme) → S t) → StopsAt S ts
stops_at_all [] each = tt
stops_at_all (t ∷ ts) each = each t

pub stops_also : {S H : Lexeme → Type 0} (ts : List Lexeme) → ((t : Lexeme) → S t → H t) → StopsAt S ts → StopsAt H ts
stops_also [] also stops = tt
stops_also (t ∷ ts) also stops = also t stops

pub stops_before : (S : Lexeme → Type 0) (ts us : List Lexeme) → StopsAt S (ts ++ us) → StopsAt S ts
stops_before S [] us stops = tt
stops_before S (t ∷ ts) us stops = stops

pub stops_instead : (S : Lexeme → Type 0) (ts : List Lexeme) (t : Lexeme) (behind instead : List Lexeme)
    → StopsAt S (ts ++ t ∷ behind) → StopsAt S (ts ++ t ∷ instead)
stops_instead S [] t behind instead stops = stops
stops_instead S (u ∷ ts) t behind instead stops = stops

-- ---- what a reading of two parts did

-- a list in two parts, of which the second has two parts
pub in_two_parts : {A : Type 0} (ts us vs middle rest : List A) → ts ≡ us ++ middle → middle ≡ vs ++ rest
    → ts ≡ (us ++ vs) ++ rest
in_two_parts ts us vs middle rest first second = rw (first, second) (sym (append_assoc us vs rest))

-- the first part gave this, and the second that
pub record BothRead {A B : Type 0} (r : Result (A × List Lexeme) ℕ) (f : A
    → Read B) (result : Result (B × List Lexeme) ℕ) : Type 0 where
  pub value : A
  pub middle : List Lexeme
  pub first : r ≡ Ok (value, middle)
  pub second : f value middle ≡ result

pub both_read : {A B : Type 0} (r : Result (A × List Lexeme) ℕ) (f : A → Read B) (read : B × List Lexeme)
    → go_on r f ≡ Ok read → BothRead r f (Ok read)
both_read (Ok made) f read e = record { value = made.0; middle = made.1; first = refl; second = e }
both_read (Err left) f read e = absurd cc

pub one_refused : {A B : Type 0} (r : Result (A × List Lexeme) ℕ) (f : A → Read B) (left : ℕ)
    → go_on r f ≡ Err left → (r ≡ Err left) ⊎ BothRead r f (Err left)
one_refused (Ok made) f left e = inr (record { value = made.0; middle = made.1; first = refl; second = e })
one_refused (Err least) f left e = inl cc

pub same_read : {A : Type 0} (read other : A × List Lexeme) → ◌≡◌ {A = Result (A × List Lexeme) ℕ} (Ok read) (Ok
    other) → read ≡ other
same_read read other e = cc

-- ---- whether the first token passes a test

pub begins_still : (test : Lexeme → Bool) (ts us : List Lexeme) → begins test ts ≡ true → begins test (ts ++ us) ≡ true
begins_still test [] us e = absurd cc
begins_still test (t ∷ ts) us e = e

pub begins_not_before : (test : Lexeme → Bool) (ts us : List Lexeme) → begins test (ts ++ us) ≡ false
    → begins test ts ≡ false
begins_not_before test [] us e = refl
begins_not_before test (t ∷ ts) us e = e

pub begins_instead : (test : Lexeme → Bool) (ts : List Lexeme) (t : Lexeme) (behind instead : List Lexeme)
    → begins test (ts ++ t ∷ instead) ≡ begins test (ts ++ t ∷ behind)
begins_instead test [] t behind instead = refl
begins_instead test (u ∷ ts) t behind instead = refl

-- A refusal that isn't at the first token stands behind it.
pub begins_before : (test : Lexeme → Bool) (ts before after : List Lexeme) → ts ≡ before ++ after
    → begins test ts ≡ true
    → ((t : Lexeme) (us : List Lexeme) → ts ≡ t ∷ us → length after ≡ suc (length us) → ⊥) → begins test before ≡ true
begins_before test [] before after parts e inside = absurd cc
begins_before test (t ∷ ts) [] after parts e inside = absurd (inside t ts refl (ap length (sym parts)))
begins_before test (t ∷ ts) (u ∷ before) after parts e inside =
    let same : t ≡ u = cc in ap test (sym same) ∙ e

pub chosen_first : {A : Type 0} (test : Lexeme → Bool) (there other : Read A) (ts : List Lexeme)
    → begins test ts ≡ true → choose test there other ts ≡ there ts
chosen_first test there other ts e = ap (λ b. if b then there ts else other ts) e

pub chosen_other : {A : Type 0} (test : Lexeme → Bool) (there other : Read A) (ts : List Lexeme)
    → begins test ts ≡ false → choose test there other ts ≡ other ts
chosen_other test there other ts e = ap (λ b. if b then there ts else other ts) e

pub either : (b : Bool) → (b ≡ true) ⊎ (b ≡ false)
either true = inl refl
either false = inr refl

-- ---- the same reading, the same language

module _ {X : Type 0} {read : Read X} {L : X → List Lexeme → Type 0} {Stop : X → Lexeme → Type 0} where
  pub of_language : (M : X → List Lexeme → Type 0)
      → ((x : X) (ts : List Lexeme) → L x ts → M x ts)
      → ((x : X) (ts : List Lexeme) → M x ts → L x ts)
      → IsReader read L Stop → IsReader read M Stop
  of_language M there back r = record {
    takes = λ ts rest x e. let t = r.takes ts rest x e in
        record { taken = t.taken; parts = t.parts; spelled = there x t.taken t.spelled; stops = t.stops };
    reads = λ x taken rest m stops. r.reads x taken rest (back x taken m) stops;
    refuses = λ ts left e. let f = r.refuses ts left e in record {
      before = f.before;
      after = f.after;
      parts = f.parts;
      so_many = f.so_many;
      whole = f.whole;
      others = f.others;
      begun = there f.whole (f.before ++ f.others) f.begun;
      at_end = f.at_end;
      stays = f.stays;
    };
    some = r.some;
    sentence = r.sentence;
    sample = there r.some r.sentence r.sample;
  }

  pub of_reading : (other : Read X) → ((ts : List Lexeme) → other ts ≡ read ts) → IsReader read L Stop
      → IsReader other L Stop
  of_reading other same r = record {
    takes = λ ts rest x e. r.takes ts rest x (sym (same ts) ∙ e);
    reads = λ x taken rest l stops. same (taken ++ rest) ∙ r.reads x taken rest l stops;
    refuses = λ ts left e. let f = r.refuses ts left (sym (same ts) ∙ e) in record {
      before = f.before;
      after = f.after;
      parts = f.parts;
      so_many = f.so_many;
      whole = f.whole;
      others = f.others;
      begun = f.begun;
      at_end = same f.before ∙ f.at_end;
      stays = λ t behind instead e. same (f.before ++ t ∷ instead) ∙ f.stays t behind instead e;
    };
    some = r.some;
    sentence = r.sentence;
    sample = r.sample;
  }

  -- the same tokens stop it
  pub of_stop : (Halt : X → Lexeme → Type 0)
      → ((x : X) (t : Lexeme) → Stop x t → Halt x t)
      → ((x : X) (t : Lexeme) → Halt x t → Stop x t)
      → IsReader read L Stop → IsReader read L Halt
  of_stop Halt there back r = record {
    takes = λ ts rest x e. let t = r.takes ts rest x e in
        record { taken = t.taken; parts = t.parts; spelled = t.spelled; stops = stops_also rest (there x) t.stops };
    reads = λ x taken rest l stops. r.reads x taken rest l (stops_also rest (back x) stops);
    refuses = r.refuses;
    some = r.some;
    sentence = r.sentence;
    sample = r.sample;
  }

  -- the same tokens stop each sentence
  pub of_sentence_stop : (Halt : X → Lexeme → Type 0)
      → ((x : X) (ts : List Lexeme) (t : Lexeme) → L x ts → Stop x t → Halt x t)
      → ((x : X) (ts : List Lexeme) (t : Lexeme) → L x ts → Halt x t → Stop x t)
      → IsReader read L Stop → IsReader read L Halt
  of_sentence_stop Halt there back r = record {
    takes = λ ts rest x e. let t = r.takes ts rest x e in record {
      taken = t.taken;
      parts = t.parts;
      spelled = t.spelled;
      stops = stops_also rest (λ u stop. there x t.taken u t.spelled stop) t.stops;
    };
    reads = λ x taken rest l stops.
        r.reads x taken rest l (stops_also rest (λ u halt. back x taken u l halt) stops);
    refuses = r.refuses;
    some = r.some;
    sentence = r.sentence;
    sample = r.sample;
  }

  -- what is made of what was read
  pub mapped : {Y : Type 0} (make : X → Y) (Halt : Y → Lexeme → Type 0)
      → ((x : X) (t : Lexeme) → Stop x t → Halt (make x) t)
      → ((x : X) (t : Lexeme) → Halt (make x) t → Stop x t)
      → IsReader read L Stop → IsReader (read >>= λ x. pure (make x)) (λ y ts. (x : X) × (y ≡ make x) × L x ts) Halt
  mapped {Y} make Halt there back r = record {
    takes = λ ts rest y e.
        let b = both_read (read ts) (λ x. pure (make x)) (y, rest) e in
        let t = r.takes ts b.middle b.value b.first in
        let found : Taken (λ y ts. (x : X) × (y ≡ make x) × L x ts) Halt ts (make b.value) b.middle = record {
          taken = t.taken;
          parts = t.parts;
          spelled = (b.value, refl, t.spelled);
          stops = stops_also b.middle (there b.value) t.stops;
        } in
        subst (λ (made : Y × List Lexeme). Taken (λ y ts. (x : X) × (y ≡ make x) × L x ts) Halt ts made.0 made.1)
        (same_read (make b.value, b.middle) (y, rest) b.second) found;
    reads = λ y taken rest l stops.
        ap (λ r. go_on r (λ x. pure (make x)))
        (r.reads l.0 taken rest l.2
        (stops_also rest (back l.0) (subst (λ y. StopsAt (Halt y) rest) l.1 stops)))
        ∙ ap (λ y. Ok (y, rest)) (sym l.1);
    refuses = λ ts left e.
        elim (one_refused (read ts) (λ x. pure (make x)) left e) [
          | inl refused ↦
              let f = r.refuses ts left refused in
              record {
                before = f.before;
                after = f.after;
                parts = f.parts;
                so_many = f.so_many;
                whole = make f.whole;
                others = f.others;
                begun = (f.whole, refl, f.begun);
                at_end = ap (λ r. go_on r (λ x. pure (make x))) f.at_end;
                stays = λ t behind instead e. ap (λ r. go_on r (λ x. pure (make x))) (f.stays t behind instead e);
              }
          | inr b ↦ absurd (let e = b.second in cc)
        ];
    some = make r.some;
    sentence = r.sentence;
    sample = (r.some, refl, r.sample);
  }

-- ---- one token

pub one_reads : {X : Type 0} (what : Lexeme → Option X) (Is : X → Lexeme → Type 0)
    → ((x : X) (t : Lexeme) → what t ≡ Some x → Is x t)
    → ((x : X) (t : Lexeme) → Is x t → what t ≡ Some x)
    → (x : X) (t : Lexeme) → Is x t
    → IsReader (one_at what) (λ x. one (Is x)) Anything
unfolding one_at
one_reads {X} what Is there back x t is = record {
  takes = taken;
  reads = λ x ts rest one stops.
      subst (λ (ts : List Lexeme). one_at what (ts ++ rest) ≡ Ok (x, rest)) (sym one.1)
      (taken_one x one.0 rest (back x one.0 one.2));
  refuses = refused;
  some = x;
  sentence = t ∷ [];
  sample = (t, refl, is);
}
  where
    is_sample : Is x t
    is_sample = is

    taken_one : (x : X) (t : Lexeme) (rest : List Lexeme) → what t ≡ Some x → one_at what (t ∷ rest) ≡ Ok (x, rest)
    taken_one x t rest e = ap (λ o. given o rest (suc (length rest))) e

    read_given : (o : Option X) (x : X) (t : Lexeme) (ts rest : List Lexeme) → what t ≡ o
        → given o ts (suc (length ts)) ≡ Ok (x, rest) → Taken (λ x. one (Is x)) Anything (t ∷ ts) x rest
    read_given None x t ts rest is e = absurd cc
    read_given (Some y) x t ts rest is e =
        let read = same_read (y, ts) (x, rest) e in
        let same : y ≡ x = ap (λ (p : X × List Lexeme). p.0) read in
        let all : ts ≡ rest = ap (λ (p : X × List Lexeme). p.1) read in
        record {
          taken = t ∷ [];
          parts = ap (λ (ts : List Lexeme). t ∷ ts) all;
          spelled = (t, refl, there x t (is ∙ ap (λ y. Some y) same));
          stops = stops_at_all rest (λ t. tt);
        }

    taken : (ts rest : List Lexeme) (x : X) → one_at what ts ≡ Ok (x, rest) → Taken (λ x. one (Is x)) Anything ts x rest
    taken [] rest x e = absurd cc
    taken (t ∷ ts) rest x e = read_given (what t) x t ts rest refl e

    not_given : (o : Option X) (t : Lexeme) (ts : List Lexeme) (left : ℕ) → what t ≡ o
        → given o ts (suc (length ts)) ≡ Err left → Refused (one_at what) (λ x. one (Is x)) (t ∷ ts) left
    not_given (Some y) t ts left is e = absurd cc
    not_given None u ts left is e = record {
      before = [];
      after = u ∷ ts;
      parts = refl;
      so_many = cc;
      whole = x;
      others = t ∷ [];
      begun = (t, refl, is_sample);
      at_end = refl;
      stays = λ t behind instead e. let same : t ≡ u = cc in
          ap (λ o. given o instead (suc (length instead))) (ap what same ∙ is);
    }

    refused : (ts : List Lexeme) (left : ℕ) → one_at what ts ≡ Err left
        → Refused (one_at what) (λ x. one (Is x)) ts left
    refused [] left e = record {
      before = [];
      after = [];
      parts = refl;
      so_many = cc;
      whole = x;
      others = t ∷ [];
      begun = (t, refl, is);
      at_end = refl;
      stays = λ t behind instead e. absurd cc;
    }
    refused (t ∷ ts) left e = not_given (what t) t ts left refl e

-- ---- one reading after another

-- What stands behind both continues neither: where the second is nothing, it doesn't continue the first.
pub followed_until : {X Y : Type 0} {a : Read X} {A : X → List Lexeme → Type 0} {StopA : X → Lexeme → Type 0}
    (f : X → Read Y) (B : X → Y → List Lexeme → Type 0) (StopB Halt : Y → Lexeme → Type 0)
    → IsReader a A StopA
    → ((x : X) → IsReader (f x) (B x) StopB)
    → ((x : X) (y : Y) (taken rest : List Lexeme) → B x y taken → StopsAt (StopA x) (taken ++ rest)
    → StopsAt (StopB y) rest → StopsAt (Halt y) rest)
    → ((x : X) (y : Y) (taken rest : List Lexeme) → B x y taken → StopsAt (Halt y) rest
    → StopsAt (StopA x) (taken ++ rest) × StopsAt (StopB y) rest)
    → IsReader (a >>= f) (λ y ts. (x : X) × (A x · B x y) ts) Halt
followed_until {X} {Y} {a} {A} {StopA} f B StopB Halt first then_each halts stopped = record {
  takes = λ ts rest y e.
      let b = both_read (a ts) f (y, rest) e in
      let t = first.takes ts b.middle b.value b.first in
      let u = (then_each b.value).takes b.middle rest y b.second in
      record {
        taken = t.taken ++ u.taken;
        parts = in_two_parts ts t.taken u.taken b.middle rest t.parts u.parts;
        spelled = (b.value, (t.taken, u.taken, refl, t.spelled, u.spelled));
        stops = halts b.value y u.taken rest u.spelled
            (subst (λ (ts : List Lexeme). StopsAt (StopA b.value) ts) u.parts t.stops) u.stops;
      };
  reads = λ y taken rest l stops.
      subst (λ (ts : List Lexeme). go_on (a (ts ++ rest)) f ≡ Ok (y, rest)) (sym l.1.2)
      (subst (λ (ts : List Lexeme). go_on (a ts) f ≡ Ok (y, rest)) (sym (append_assoc l.1.0 l.1.1 rest))
      (ap (λ r. go_on r f)
      (first.reads l.0 l.1.0 (l.1.1 ++ rest) l.1.3 (stopped l.0 y l.1.1 rest l.1.4 stops).0)
      ∙ (then_each l.0).reads y l.1.1 rest l.1.4 (stopped l.0 y l.1.1 rest l.1.4 stops).1));
  refuses = λ ts left e. elim (one_refused (a ts) f left e) [
    | inl refused ↦ first_refused ts left (first.refuses ts left refused)
    | inr b ↦ second_refused ts left b (first.takes ts b.middle b.value b.first)
        ((then_each b.value).refuses b.middle left b.second)
  ];
  some = (then_each first.some).some;
  sentence = first.sentence ++ (then_each first.some).sentence;
  sample = (
    first.some,
    (
      first.sentence,
      (then_each first.some).sentence,
      refl,
      first.sample,
      (then_each
          first.some).sample,
    ),
  );
}
  where
    first_refused : (ts : List Lexeme) (left : ℕ) → Refused a A ts left
        → Refused (a >>= f) (λ y ts. (x : X) × (A x · B x y) ts) ts left
    first_refused ts left r = let next = then_each r.whole in record {
      before = r.before;
      after = r.after;
      parts = r.parts;
      so_many = r.so_many;
      whole = next.some;
      others = r.others ++ next.sentence;
      begun = (
        r.whole,
        (
          r.before ++ r.others,
          next.sentence,
          sym (append_assoc r.before r.others next.sentence),
          r.begun,
          next.sample,
        ),
      );
      at_end = ap (λ r. go_on r f) r.at_end;
      stays = λ t behind instead e. ap (λ r. go_on r f) (r.stays t behind instead e);
    }

    second_refused : (ts : List Lexeme) (left : ℕ) (b : BothRead (a ts) f (Err left))
        → Taken A StopA ts b.value b.middle → Refused (f b.value) (B b.value) b.middle left
        → Refused (a >>= f) (λ y ts. (x : X) × (A x · B x y) ts) ts left
    second_refused ts left b t r = record {
      before = t.taken ++ r.before;
      after = r.after;
      parts = in_two_parts ts t.taken r.before b.middle r.after t.parts r.parts;
      so_many = r.so_many;
      whole = r.whole;
      others = r.others;
      begun = (b.value, (t.taken, r.before ++ r.others, append_assoc t.taken r.before r.others, t.spelled, r.begun));
      at_end =
          ap (λ r. go_on r f) (first.reads b.value t.taken r.before t.spelled (stops_before (StopA b.value) r.before
          r.after stops))
          ∙ r.at_end;
      stays = λ u behind instead e.
          subst (λ (ts : List Lexeme). go_on (a ts) f ≡ Err (suc (length instead)))
          (sym (append_assoc t.taken r.before (u ∷ instead)))
          (ap (λ r. go_on r f) (first.reads b.value t.taken (r.before ++ u ∷ instead) t.spelled
          (stops_instead (StopA b.value) r.before u behind instead
          (subst (λ (after : List Lexeme). StopsAt (StopA b.value) (r.before ++ after)) e stops)))
          ∙ r.stays u behind instead e);
    }
      where
        stops : StopsAt (StopA b.value) (r.before ++ r.after)
        stops = subst (λ (ts : List Lexeme). StopsAt (StopA b.value) ts) r.parts t.stops

-- The first is followed by what doesn't continue it.
pub followed : {X Y : Type 0} {a : Read X} {A : X → List Lexeme → Type 0} {StopA : X → Lexeme → Type 0}
    (f : X → Read Y) (B : X → Y → List Lexeme → Type 0) (StopB : Y → Lexeme → Type 0)
    → IsReader a A StopA
    → ((x : X) → IsReader (f x) (B x) StopB)
    → ((x : X) (y : Y) (taken rest : List Lexeme) → B x y taken → StopsAt (StopB y) rest
    → StopsAt (StopA x) (taken ++ rest))
    → IsReader (a >>= f) (λ y ts. (x : X) × (A x · B x y) ts) StopB
followed f B StopB first then_each follows =
    followed_until f B StopB StopB first then_each (λ x y taken rest b stops_first stops. stops)
    (λ x y taken rest b stops. (follows x y taken rest b stops, stops))

-- where nothing continues the first
pub then_reads : {X Y : Type 0} {a : Read X} {A : X → List Lexeme → Type 0}
    (f : X → Read Y) (B : X → Y → List Lexeme → Type 0) (StopB : Y → Lexeme → Type 0)
    → IsReader a A Anything → ((x : X) → IsReader (f x) (B x) StopB)
    → IsReader (a >>= f) (λ y ts. (x : X) × (A x · B x y) ts) StopB
then_reads f B StopB first then_each =
    followed f B StopB first then_each (λ x y taken rest b stops. stops_at_all (taken ++ rest) (λ t. tt))

-- ---- one of two, by the first token

-- What stops the second may be said with the test's failure.
pub chosen_apart : {X : Type 0} (test : Lexeme → Bool) {there other : Read X} {A B : X → List Lexeme
    → Type 0} {Stop StopB : X → Lexeme → Type 0}
    → IsReader there A Stop → IsReader other B StopB
    → ((x : X) (ts : List Lexeme) → A x ts → begins test ts ≡ true)
    → ((x : X) (taken rest : List Lexeme) → B x taken → StopsAt (Stop x) rest → begins test (taken ++ rest) ≡ false)
    → ((t : Lexeme) (ts : List Lexeme) → test t ≡ true → there (t ∷ ts) ≡ Err (suc (length ts)) → ⊥)
    → ((x : X) (taken rest : List Lexeme) → B x taken → begins test (taken ++ rest) ≡ false → StopsAt (StopB x) rest
    → StopsAt (Stop x) rest)
    → ((x : X) (taken rest : List Lexeme) → B x taken → StopsAt (Stop x) rest → StopsAt (StopB x) rest)
    → IsReader (choose test there other) (λ x. A x or B x) Stop
chosen_apart {X} test {there} {other} {A} {B} {Stop} there_reads other_reads starts parted begun stops_so stops_back =
    record {
      takes = λ ts rest x e. elim (either (begins test ts)) [
        | inl passed ↦
            let t = there_reads.takes ts rest x (sym (chosen_first test there other ts passed) ∙ e) in
            record { taken = t.taken; parts = t.parts; spelled = inl t.spelled; stops = t.stops }
        | inr failed ↦
            let t = other_reads.takes ts rest x (sym (chosen_other test there other ts failed) ∙ e) in
            let failed_there : begins test (t.taken ++ rest) ≡ false = ap (begins test) (sym t.parts) ∙ failed in
            record {
              taken = t.taken;
              parts = t.parts;
              spelled = inr t.spelled;
              stops = stops_so x t.taken rest t.spelled failed_there t.stops;
            }
      ];
      reads = λ x taken rest l stops. elim l [
        | inl a ↦
            chosen_first test there other (taken ++ rest) (begins_still test taken rest (starts x taken a))
            ∙ there_reads.reads x taken rest a stops
        | inr b ↦
            chosen_other test there other (taken ++ rest) (parted x taken rest b stops)
            ∙ other_reads.reads x taken rest b (stops_back x taken rest b stops)
      ];
      refuses = λ ts left e. elim (either (begins test ts)) [
        | inl passed ↦ there_refused ts left passed (sym (chosen_first test there other ts passed) ∙ e)
        | inr failed ↦ other_refused ts left failed (sym (chosen_other test there other ts failed) ∙ e)
      ];
      some = there_reads.some;
      sentence = there_reads.sentence;
      sample = inl there_reads.sample;
    }
  where
    there_refused : (ts : List Lexeme) (left : ℕ) → begins test ts ≡ true → there ts ≡ Err left
        → Refused (choose test there other) (λ x. A x or B x) ts left
    there_refused ts left passed e =
        let r = there_reads.refuses ts left e in
        let begins_so : begins test r.before ≡ true = begins_before test ts r.before r.after r.parts passed
        (λ t us is so. begun t us (subst (λ (ts : List Lexeme). begins test ts ≡ true) is passed)
        (ap there (sym is) ∙ (e ∙ ap (λ (n : ℕ). Err n) (sym r.so_many ∙ so)))) in
        record {
          before = r.before;
          after = r.after;
          parts = r.parts;
          so_many = r.so_many;
          whole = r.whole;
          others = r.others;
          begun = inl r.begun;
          at_end = chosen_first test there other r.before begins_so ∙ r.at_end;
          stays = λ t behind instead e.
              chosen_first test there other (r.before ++ t ∷ instead) (begins_still test r.before (t ∷ instead)
              begins_so)
              ∙ r.stays t behind instead e;
        }

    other_refused : (ts : List Lexeme) (left : ℕ) → begins test ts ≡ false → other ts ≡ Err left
        → Refused (choose test there other) (λ x. A x or B x) ts left
    other_refused ts left failed e =
        let r = other_reads.refuses ts left e in
        let failed_there : begins test (r.before ++ r.after) ≡ false = ap (begins test) (sym r.parts) ∙ failed in
        record {
          before = r.before;
          after = r.after;
          parts = r.parts;
          so_many = r.so_many;
          whole = r.whole;
          others = r.others;
          begun = inr r.begun;
          at_end = chosen_other test there other r.before (begins_not_before test r.before r.after failed_there) ∙
              r.at_end;
          stays = λ t behind instead e.
              chosen_other test there other (r.before ++ t ∷ instead)
              (begins_instead test r.before t behind instead
              ∙ (ap (λ (after : List Lexeme). begins test (r.before ++ after)) (sym e) ∙ failed_there))
              ∙ r.stays t behind instead e;
        }

-- where the same stops both
pub chosen : {X : Type 0} (test : Lexeme → Bool) {there other : Read X} {A B : X → List Lexeme → Type 0} {Stop : X
    → Lexeme → Type 0}
    → IsReader there A Stop → IsReader other B Stop
    → ((x : X) (ts : List Lexeme) → A x ts → begins test ts ≡ true)
    → ((x : X) (taken rest : List Lexeme) → B x taken → StopsAt (Stop x) rest → begins test (taken ++ rest) ≡ false)
    → ((t : Lexeme) (ts : List Lexeme) → test t ≡ true → there (t ∷ ts) ≡ Err (suc (length ts)) → ⊥)
    → IsReader (choose test there other) (λ x. A x or B x) Stop
chosen test there_reads other_reads starts parted begun =
    chosen_apart test there_reads other_reads starts parted begun
    (λ x taken rest b failed stops. stops) (λ x taken rest b stops. stops)
