-- One of two readings, by a test of what stands there that may look at more than the first token.
use Rattle.std.proofs.Common.{◌≡◌, ℕ, suc, Bool, true, false, if◌then◌else◌, List, ◌∷◌, ◌++◌, length, Err, ◌⊎◌, inl, inr, sym, ap, ◌∙◌}
use Rattle.ir_text.specs.Tokens.{Lexeme}
use Rattle.ir_text.specs.Language.{Language}
use Rattle.ir_parts.specs.Reading.{Read}
use Rattle.ir_parts.proofs.Readers.{StopsAt, Refused, IsReader, either}

-- The one reading or the other, by a test of what stands there.
abbrev pub decide : {X : Type 0} → (List Lexeme → Bool) → Read X → Read X → Read X
decide test there other ts = if test ts then there ts else other ts

-- which of them it is
pub decided_there : {X : Type 0} (test : List Lexeme → Bool) (there other : Read X) (ts : List Lexeme)
    → test ts ≡ true → decide test there other ts ≡ there ts
decided_there test there other ts e = ap (λ b. if b then there ts else other ts) e

pub decided_other : {X : Type 0} (test : List Lexeme → Bool) (there other : Read X) (ts : List Lexeme)
    → test ts ≡ false → decide test there other ts ≡ other ts
decided_other test there other ts e = ap (λ b. if b then there ts else other ts) e

-- What one of the two readings, chosen where the test gives `side`, refuses is refused by the choice: where the tokens
-- end there, and whatever stands behind the token of the refusal.
pub record Remains {X : Type 0} (test : List Lexeme → Bool) (chosen whole : Read X) (side : Bool) : Type 0 where
  pub at_end : (before after : List Lexeme) → test (before ++ after) ≡ side
      → chosen (before ++ after) ≡ Err (length after) → chosen before ≡ Err 0 → whole before ≡ Err 0
  pub stays : (before behind instead : List Lexeme) (t : Lexeme) → test (before ++ t ∷ behind) ≡ side
      → chosen (before ++ t ∷ instead) ≡ Err (suc (length instead)) → test (before ++ t ∷ instead) ≡ side

module _ {X : Type 0} (test : List Lexeme → Bool) {there other : Read X} {A B : X → Language} {Stop : X → Lexeme
    → Type 0} (there_reads : IsReader there A Stop) (other_reads : IsReader other B Stop)
    (with_there : (x : X) (taken rest : List Lexeme) → A x taken → StopsAt (Stop x) rest → test (taken ++ rest) ≡ true)
    (with_other : (x : X) (taken rest : List Lexeme) → B x taken → StopsAt (Stop x) rest → test (taken ++ rest) ≡ false)
    (there_remains : Remains test there (decide test there other) true)
    (other_remains : Remains test other (decide test there other) false) where
  -- what it refuses
  decided_refuses : (ts : List Lexeme) (left : ℕ) → decide test there other ts ≡ Err left
      → Refused (decide test there other) (λ x ts. A x ts ⊎ B x ts) ts left
  decided_refuses ts left e = elim (either (test ts)) [
    | inl passed ↦
        let r = there_reads.refuses ts left (sym (decided_there test there other ts passed) ∙ e) in
        let passed_there : test (r.before ++ r.after) ≡ true = ap test (sym r.parts) ∙ passed in
        record {
          before = r.before;
          after = r.after;
          parts = r.parts;
          so_many = r.so_many;
          whole = r.whole;
          others = r.others;
          begun = inl r.begun;
          at_end = there_remains.at_end r.before r.after passed_there
              (ap there (sym r.parts) ∙ (sym (decided_there test there other ts passed) ∙ e)
              ∙ ap (λ (n : ℕ). Err n) (sym r.so_many)) r.at_end;
          stays = λ t behind instead is.
              decided_there test there other (r.before ++ t ∷ instead)
              (there_remains.stays r.before behind instead t
              (ap (λ (after : List Lexeme). test (r.before ++ after)) (sym is) ∙ passed_there)
              (r.stays t behind instead is))
              ∙ r.stays t behind instead is;
        }
    | inr failed ↦
        let r = other_reads.refuses ts left (sym (decided_other test there other ts failed) ∙ e) in
        let failed_there : test (r.before ++ r.after) ≡ false = ap test (sym r.parts) ∙ failed in
        record {
          before = r.before;
          after = r.after;
          parts = r.parts;
          so_many = r.so_many;
          whole = r.whole;
          others = r.others;
          begun = inr r.begun;
          at_end = other_remains.at_end r.before r.after failed_there
              (ap other (sym r.parts) ∙ (sym (decided_other test there other ts failed) ∙ e)
              ∙ ap (λ (n : ℕ). Err n) (sym r.so_many)) r.at_end;
          stays = λ t behind instead is.
              decided_other test there other (r.before ++ t ∷ instead)
              (other_remains.stays r.before behind instead t
              (ap (λ (after : List Lexeme). test (r.before ++ after)) (sym is) ∙ failed_there)
              (r.stays t behind instead is))
              ∙ r.stays t behind instead is;
        }
  ]

  -- The choice is a reading of both languages.
  pub decided : IsReader (decide test there other) (λ x ts. A x ts ⊎ B x ts) Stop
  decided = record {
    takes = λ ts rest x e. elim (either (test ts)) [
      | inl passed ↦
          let t = there_reads.takes ts rest x (sym (decided_there test there other ts passed) ∙ e) in
          record { taken = t.taken; parts = t.parts; spelled = inl t.spelled; stops = t.stops }
      | inr failed ↦
          let t = other_reads.takes ts rest x (sym (decided_other test there other ts failed) ∙ e) in
          record { taken = t.taken; parts = t.parts; spelled = inr t.spelled; stops = t.stops }
    ];
    reads = λ x taken rest l stops. elim l [
      | inl a ↦
          decided_there test there other (taken ++ rest) (with_there x taken rest a stops)
          ∙ there_reads.reads x taken rest a stops
      | inr b ↦
          decided_other test there other (taken ++ rest) (with_other x taken rest b stops)
          ∙ other_reads.reads x taken rest b stops
    ];
    refuses = decided_refuses;
    some = other_reads.some;
    sentence = other_reads.sentence;
    sample = inr other_reads.sample;
  }
