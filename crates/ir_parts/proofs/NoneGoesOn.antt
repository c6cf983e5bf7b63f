-- What a reading tells of its language: no sentence goes on with the token behind what was read, nor with the token of
-- a refusal, and a text is one sentence alone.
use Rattle.std.proofs.Common.{◌≡◌, ℕ, suc, List, [], ◌∷◌, ◌++◌, length, Result, Ok, Err, refl, sym, ap, subst, ◌∙◌, append_assoc, arith}
use Rattle.std.proofs.lemmas.List.{append-nil, length-append}
use Rattle.ir_text.specs.Tokens.{Lexeme}
pub use Rattle.ir_parts.specs.Sentences.{Begins}
use Rattle.ir_parts.specs.Reading.{Read}
use Rattle.ir_parts.proofs.Readers.{IsReader, same_read}

-- Two ways to part a list in which the second parts have one length are one.
pub same_parts : (us vs ts ws : List Lexeme) → us ++ ts ≡ vs ++ ws → length ts ≡ length ws → (us ≡ vs) × (ts ≡ ws)
same_parts [] [] ts ws e so = (refl, e)
same_parts [] (v ∷ vs) ts ws e so =
    absurd (omega (arith, so, ap length e, length-append vs ws))
same_parts (u ∷ us) [] ts ws e so =
    absurd (omega (arith, so, ap length e, length-append us ts))
same_parts (u ∷ us) (v ∷ vs) ts ws e so =
    let first : u ≡ v = cc in
    let others : us ++ ts ≡ vs ++ ws = cc in
    let same = same_parts us vs ts ws others so in
    (cc, same.1)

module _ {X : Type 0} {read : Read X} {L : X → List Lexeme → Type 0} {Stop : X → Lexeme → Type 0} where
  -- no sentence goes on with the token behind what was taken
  pub goes_no_further : IsReader read L Stop → (ts rest taken : List Lexeme) (x : X) (t : Lexeme)
      → read ts ≡ Ok (x, t ∷ rest) → ts ≡ taken ++ t ∷ rest → L x taken → Begins L (taken ++ t ∷ []) → ⊥
  goes_no_further r ts rest taken x t e parts spelled begun =
      let stop : Stop x t = (r.takes ts (t ∷ rest) x e).stops in
      let short : read (taken ++ t ∷ begun.others) ≡ Ok (x, t ∷ begun.others) =
      r.reads x taken (t ∷ begun.others) spelled stop in
      let long : read ((taken ++ t ∷ begun.others) ++ []) ≡ Ok (begun.whole, []) =
      r.reads begun.whole (taken ++ t ∷ begun.others) []
      (subst (λ (ts : List Lexeme). L begun.whole ts) (append_assoc taken (t ∷ []) begun.others) begun.sentence) tt in
      no_longer x begun.whole t begun.others
      (sym short ∙ (ap read (sym (append-nil (taken ++ t ∷ begun.others))) ∙ long))
    where
      no_longer : (x y : X) (t : Lexeme) (ts : List Lexeme)
          → ◌≡◌ {A = Result (X × List Lexeme) ℕ} (Ok (x, t ∷ ts)) (Ok (y, [])) → ⊥
      no_longer x y t ts e =
          let rests : t ∷ ts ≡ [] = ap (λ (p : X × List Lexeme). p.1) (same_read (x, t ∷ ts) (y, []) e) in cc

  -- no sentence goes on with the token of a refusal
  pub refused_there : IsReader read L Stop → (before behind : List Lexeme) (t : Lexeme)
      → read (before ++ t ∷ behind) ≡ Err (suc (length behind)) → Begins L (before ++ t ∷ []) → ⊥
  refused_there r before behind t e begun =
      let f = r.refuses (before ++ t ∷ behind) (suc (length behind)) e in
      let same = same_parts f.before before f.after (t ∷ behind) (sym f.parts) f.so_many in
      let stays : read (before ++ t ∷ begun.others) ≡ Err (suc (length begun.others)) =
      subst (λ (before : List Lexeme). read (before ++ t ∷ begun.others) ≡ Err (suc (length begun.others))) same.0
      (f.stays t behind begun.others same.1) in
      let whole : read ((before ++ t ∷ begun.others) ++ []) ≡ Ok (begun.whole, []) =
      r.reads begun.whole (before ++ t ∷ begun.others) []
      (subst (λ (ts : List Lexeme). L begun.whole ts) (append_assoc before (t ∷ []) begun.others) begun.sentence) tt in
      let both = sym stays ∙ (ap read (sym (append-nil (before ++ t ∷ begun.others))) ∙ whole) in
      cc

  -- a text is one sentence alone
  pub one_sentence : IsReader read L Stop → (x y : X) (ts : List Lexeme) → L x ts → L y ts → x ≡ y
  one_sentence r x y ts a b =
      ap (λ (p : X × List Lexeme). p.0) (same_read (x, []) (y, []) (sym (r.reads x ts [] a tt) ∙ r.reads y ts [] b tt))
