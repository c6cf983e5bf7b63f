-- One of two readings by the first token, where what one of them reads is continued by what the other begins with.
use Rattle.std.proofs.Common.{◌≡◌, ℕ, suc, Bool, true, false, List, [], ◌∷◌, ◌++◌, length, Err, inl, inr, refl, sym, ap, subst, ◌∙◌}
use Rattle.ir_text.specs.Tokens.{Lexeme}
use Rattle.ir_text.specs.Language.{◌or◌, nothing}
use Rattle.ir_parts.specs.Reading.{Read, pure, begins, choose}
use Rattle.ir_parts.proofs.Combined.{pure_reads}
use Rattle.ir_parts.proofs.Readers.{StopsAt, Refused, IsReader, stops_at_all, stops_also, chosen_first, chosen_other, either, begins_still, begins_before, begins_not_before, begins_instead}

pub record Chooses {X : Type 0} (test : Lexeme → Bool) (there : Read X) (A B : X → List Lexeme → Type 0)
    (Stop StopB : X → Lexeme → Type 0) : Type 0 where
  pub starts : (x : X) (ts : List Lexeme) → A x ts → begins test ts ≡ true
  pub parted : (x : X) (taken rest : List Lexeme) → B x taken → StopsAt (Stop x) rest → begins test (taken ++ rest)
      ≡ false
  pub gains : (x : X) (taken rest : List Lexeme) → B x taken → begins test (taken ++ rest) ≡ false
      → StopsAt (StopB x) rest
      → StopsAt (Stop x) rest
  pub loses : (x : X) (taken rest : List Lexeme) → B x taken → StopsAt (Stop x) rest → StopsAt (StopB x) rest
  pub begun : (t : Lexeme) (ts : List Lexeme) → test t ≡ true → there (t ∷ ts) ≡ Err (suc (length ts)) → ⊥

pub chosen_by : {X : Type 0} {test : Lexeme → Bool} {there other : Read X} {A B : X → List Lexeme
    → Type 0} {Stop StopB : X → Lexeme → Type 0}
    → IsReader there A Stop → IsReader other B StopB
    → Chooses test there A B Stop StopB
    → IsReader (choose test there other) (λ x. A x or B x) Stop
chosen_by {X} {test} {there} {other} {A} {B} {Stop} {StopB} there_reads other_reads c = record {
  takes = λ ts rest x e. elim (either (begins test ts)) [
    | inl passed ↦
        let t = there_reads.takes ts rest x (sym (chosen_first test there other ts passed) ∙ e) in
        record { taken = t.taken; parts = t.parts; spelled = inl t.spelled; stops = t.stops }
    | inr failed ↦
        let t = other_reads.takes ts rest x (sym (chosen_other test there other ts failed) ∙ e) in
        record {
          taken = t.taken;
          parts = t.parts;
          spelled = inr t.spelled;
          stops = c.gains x t.taken rest t.spelled (ap (begins test) (sym t.parts) ∙ failed) t.stops;
        }
  ];
  reads = λ x taken rest l stops. elim l [
    | inl a ↦
        chosen_first test there other (taken ++ rest) (begins_still test taken rest (c.starts x taken a))
        ∙ there_reads.reads x taken rest a stops
    | inr b ↦
        chosen_other test there other (taken ++ rest) (c.parted x taken rest b stops)
        ∙ other_reads.reads x taken rest b (c.loses x taken rest b stops)
  ];
  refuses = λ ts left e. elim (either (begins test ts)) [
    | inl passed ↦ there_refused ts left passed (sym (chosen_first test there other ts passed) ∙ e)
    | inr failed ↦ other_refused ts left failed (sym (chosen_other test there other ts failed) ∙ e)
  ];
  some = there_reads.some;
  sentence = there_reads.sentence;
  sample = inl there_reads.sample;
}
  where
    there_refused : (ts : List Lexeme) (left : ℕ) → begins test ts ≡ true → there ts ≡ Err left
        → Refused (choose test there other) (λ x. A x or B x) ts left
    there_refused ts left passed e =
        let r = there_reads.refuses ts left e in
        let begins_so : begins test r.before ≡ true = begins_before test ts r.before r.after r.parts passed
        (λ t us is so. c.begun t us (ap (begins test) (sym is) ∙ passed)
        (ap there (sym is) ∙ (e ∙ ap (λ (n : ℕ). Err n) (sym r.so_many ∙ so)))) in
        record {
          before = r.before;
          after = r.after;
          parts = r.parts;
          so_many = r.so_many;
          whole = r.whole;
          others = r.others;
          begun = inl r.begun;
          at_end = chosen_first test there other r.before begins_so ∙ r.at_end;
          stays = λ t behind instead e.
              chosen_first test there other (r.before ++ t ∷ instead)
              (begins_still test r.before (t ∷ instead) begins_so)
              ∙ r.stays t behind instead e;
        }

    other_refused : (ts : List Lexeme) (left : ℕ) → begins test ts ≡ false → other ts ≡ Err left
        → Refused (choose test there other) (λ x. A x or B x) ts left
    other_refused ts left failed e =
        let r = other_reads.refuses ts left e in
        let failed_there : begins test (r.before ++ r.after) ≡ false = ap (begins test) (sym r.parts) ∙ failed in
        record {
          before = r.before;
          after = r.after;
          parts = r.parts;
          so_many = r.so_many;
          whole = r.whole;
          others = r.others;
          begun = inr r.begun;
          at_end = chosen_other test there other r.before (begins_not_before test r.before r.after failed_there)
              ∙ r.at_end;
          stays = λ t behind instead e.
              chosen_other test there other (r.before ++ t ∷ instead)
              (begins_instead test r.before t behind instead
              ∙ (ap (λ (after : List Lexeme). begins test (r.before ++ after)) (sym e) ∙ failed_there))
              ∙ r.stays t behind instead e;
        }

-- the same reading, with other words for what ends what was read
pub of_stops : {X : Type 0} {read : Read X} {L : X → List Lexeme → Type 0} {Stop : X → Lexeme → Type 0}
    (Halt : X → Lexeme → Type 0)
    → ((x : X) (ts : List Lexeme) (t : Lexeme) → L x ts → Stop x t → Halt x t)
    → ((x : X) (ts : List Lexeme) (t : Lexeme) → L x ts → Halt x t → Stop x t)
    → IsReader read L Stop → IsReader read L Halt
of_stops Halt there back r = record {
  takes = λ ts rest x e. let t = r.takes ts rest x e in
      record {
        taken = t.taken;
        parts = t.parts;
        spelled = t.spelled;
        stops = stops_also rest (λ u stop. there x t.taken u t.spelled stop) t.stops;
      };
  reads = λ x taken rest l stops. r.reads x taken rest l (stops_also rest (λ u stop. back x taken u l stop) stops);
  refuses = λ ts left e. r.refuses ts left e;
  some = r.some;
  sentence = r.sentence;
  sample = r.sample;
}

-- Something is read where it begins, else nothing.
pub optional_reads : {X : Type 0} {test : Lexeme → Bool} {there : Read X} {A : X → List Lexeme → Type 0} {Stop : X
    → Lexeme → Type 0}
    (none : X) → IsReader there A Stop
    → ((t : Lexeme) → test t ≡ false → Stop none t)
    → ((t : Lexeme) → Stop none t → test t ≡ false)
    → ((x : X) (ts : List Lexeme) → A x ts → begins test ts ≡ true)
    → ((t : Lexeme) (ts : List Lexeme) → test t ≡ true → there (t ∷ ts) ≡ Err (suc (length ts)) → ⊥)
    → IsReader (choose test there (pure none)) (λ x. A x or (λ ts. (x ≡ none) × nothing ts)) Stop
optional_reads {X} {test} {there} {A} {Stop} none reads halts goes starts begun =
    chosen_by reads (pure_reads none) (record {
      starts = starts;
      parted = λ x taken rest b stops. ap (λ (ts : List Lexeme). begins test (ts ++ rest)) b.1
          ∙ not_begun x rest b.0 stops;
      gains = λ x taken rest b failed stops.
          halts_at x rest b.0 (ap (λ (ts : List Lexeme). begins test (ts ++ rest)) (sym b.1) ∙ failed);
      loses = λ x taken rest b stops. stops_at_all rest (λ t. tt);
      begun = begun;
    })
  where
    not_begun : (x : X) (rest : List Lexeme) → x ≡ none → StopsAt (Stop x) rest → begins test rest ≡ false
    not_begun x [] is stops = refl
    not_begun x (t ∷ ts) is stops = goes t (subst (λ (x : X). Stop x t) is stops)

    halts_at : (x : X) (rest : List Lexeme) → x ≡ none → begins test rest ≡ false → StopsAt (Stop x) rest
    halts_at x [] is failed = tt
    halts_at x (t ∷ ts) is failed = subst (λ (x : X). Stop x t) (sym is) (halts t failed)
