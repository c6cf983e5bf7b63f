-- Reading a language from a place on tells whether the tokens before another place end with one of its sentences.
use Rattle.std.proofs.Common.{◌≡◌, ℕ, ◌≤◌, List, ◌++◌, length, take, drop, Result, Ok, refl, sym, ap, ◌∙◌, append_assoc, arith}
use Rattle.std.proofs.lemmas.List.{take-append-drop, drop_at}
use Rattle.ir_text.specs.Tokens.{Lexeme}
use Rattle.ir_lex.specs.Tokenized.{Tokenized, lexemes}
use Rattle.ir_parts.specs.Reading.{Read, left_from}
use Rattle.ir_parts.proofs.Readers.{IsReader, Anything, stops_at_all, same_read}
use Rattle.ir_parts.proofs.NoneGoesOn.{same_parts}
use Rattle.ir_parts.proofs.Places.{length_left}

-- what stands between two places ends what stands before the second
before_parts : (ts taken : List Lexeme) (from at : ℕ) → drop from ts ≡ taken ++ drop at ts
    → take at ts ≡ take from ts ++ taken
before_parts ts taken from at parts =
    (same_parts (take at ts) (take from ts ++ taken) (drop at ts) (drop at ts)
    (take-append-drop at ts ∙ (sym (take-append-drop from ts)
    ∙ (ap (λ (rest : List Lexeme). take from ts ++ rest) parts ∙ sym (append_assoc (take from ts) taken (drop at ts)))))
    refl).0

-- and from where the last of them begin they are the first that are left
behind_parts : (ts front call : List Lexeme) (at : ℕ) → take at ts ≡ front ++ call
    → drop (length front) ts ≡ call ++ drop at ts
behind_parts ts front call at parts =
    ap (λ (ts : List Lexeme). drop (length front) ts)
    (sym (take-append-drop at ts) ∙ (ap (λ (before : List Lexeme). before ++ drop at ts) parts
    ∙ append_assoc front call (drop at ts)))
    ∙ drop_at front (call ++ drop at ts) (length front) refl

-- The tokens end with a sentence.
abbrev pub EndsIn : (List Lexeme → Type 0) → List Lexeme → Type 0
EndsIn L before = (front us : List Lexeme) × (before ≡ front ++ us) × L us

module _ {read : Read (Unit {0})} {L : List Lexeme → Type 0} (r : IsReader read (λ (x : Unit {0}). L) Anything) where
  -- Where the reading came to a place, the tokens before it end with a sentence.
  pub ends_there : (t : Tokenized) (from at : ℕ) → read (left_from t from) ≡ Ok (tt, left_from t at)
      → EndsIn L (take at (lexemes t))
  ends_there t from at e =
      let found = r.takes (left_from t from) (left_from t at) tt e in
      (take from (lexemes t), found.taken, before_parts (lexemes t) found.taken from at found.parts, found.spelled)

  -- Where they do, the reading comes to the place from where the sentence begins.
  pub ends_back : (t : Tokenized) (at : ℕ) (ends : EndsIn L (take at (lexemes t)))
      → read (left_from t (length ends.0)) ≡ Ok (tt, left_from t at)
  ends_back t at (front, us, parts, l) =
      ap read (behind_parts (lexemes t) front us at parts)
      ∙ r.reads tt us (left_from t at) l (stops_at_all (left_from t at) (λ t. tt))

-- the same tokens are left at one place alone
pub same_place : (t : Tokenized) (at behind : ℕ) → at ≤ length t.tokens → behind ≤ length t.tokens
    → ◌≡◌ {A = Result (Unit {0} × List Lexeme) ℕ} (Ok (tt, left_from t at)) (Ok (tt, left_from t behind)) → behind ≡ at
same_place t at behind within there e =
    let left : left_from t at ≡ left_from t behind =
    ap (λ (read : Unit {0} × List Lexeme). read.1) (same_read (tt, left_from t at) (tt, left_from t behind) e) in
    omega (arith, ap length left, length_left t at, length_left t behind)
