-- A reading with a bound that is the number of tokens, where more than that makes no difference.
use Rattle.std.proofs.Common.{◌≡◌, ℕ, ◌+◌, suc, ◌≤◌, List, ◌∷◌, ◌++◌, length, Err, sym, ap, subst, ◌∙◌, arith}
use Rattle.std.proofs.lemmas.List.{length-append}
use Rattle.ir_text.specs.Tokens.{Lexeme}
use Rattle.ir_text.specs.Language.{Language}
use Rattle.ir_parts.specs.Reading.{Read}
use Rattle.ir_parts.proofs.Readers.{IsReader}
use Rattle.ir_parts.proofs.NoneGoesOn.{same_parts}

module _ {X : Type 0} (read : ℕ → Read X) (L : ℕ → X → Language) (Stop : X → Lexeme → Type 0)
    (each : (most : ℕ) → IsReader (read most) (L most) Stop)
    (agree : (n m : ℕ) (ts : List Lexeme) → length ts ≤ n → length ts ≤ m → read n ts ≡ read m ts) where
  -- the refusal stays with other tokens behind it, though there are more of them
  stays : (ts : List Lexeme) (left : ℕ) (e : read (length ts) ts ≡ Err left) (before after : List Lexeme)
      → ts ≡ before ++ after → length after ≡ left → (t : Lexeme) (behind instead : List Lexeme) → after ≡ t ∷ behind
      → read (length (before ++ t ∷ instead)) (before ++ t ∷ instead) ≡ Err (suc (length instead))
  stays ts left e before after parts so_many t behind instead is =
      let most : ℕ = length ts + length (before ++ t ∷ instead) in
      let f = (each most).refuses ts left (agree most (length ts) ts (omega arith) (omega arith) ∙ e) in
      let same = same_parts f.before before f.after after (sym f.parts ∙ parts) (f.so_many ∙ sym so_many) in
      agree (length (before ++ t ∷ instead)) most (before ++ t ∷ instead) (omega arith) (omega arith)
      ∙ subst (λ (before : List Lexeme). read most (before ++ t ∷ instead) ≡ Err (suc (length instead))) same.0
      (f.stays t behind instead (same.1 ∙ is))

  pub bounded_reads : (M : X → Language)
      → ((most : ℕ) (x : X) (ts : List Lexeme) → L most x ts → M x ts)
      → ((x : X) (ts : List Lexeme) → M x ts → (most : ℕ) → length ts ≤ most → L most x ts)
      → (x : X) (sample : List Lexeme) → M x sample
      → IsReader (λ ts. read (length ts) ts) M Stop
  bounded_reads M there back x sample spelled = record {
    takes = λ ts rest x e. let t = (each (length ts)).takes ts rest x e in
        record { taken = t.taken; parts = t.parts; spelled = there (length ts) x t.taken t.spelled; stops = t.stops };
    reads = λ x taken rest l stops.
        (each (length (taken ++ rest))).reads x taken rest
        (back x taken l (length (taken ++ rest)) (omega (arith, length-append taken rest))) stops;
    refuses = λ ts left e. let r = (each (length ts)).refuses ts left e in record {
      before = r.before;
      after = r.after;
      parts = r.parts;
      so_many = r.so_many;
      whole = r.whole;
      others = r.others;
      begun = there (length ts) r.whole (r.before ++ r.others) r.begun;
      at_end = agree (length r.before) (length ts) r.before (omega arith)
          (omega (arith, ap length r.parts, length-append r.before r.after)) ∙ r.at_end;
      stays = stays ts left e r.before r.after r.parts r.so_many;
    };
    some = x;
    sentence = sample;
    sample = spelled;
  }
