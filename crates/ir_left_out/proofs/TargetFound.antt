-- Whether tokens end with what stands before a data layout, and what stands between quotes.
use Rattle.std.proofs.Common.{◌≡◌, ℕ, ◌+◌, ◌-◌, ◌≤◌, List, [], ◌∷◌, ◌++◌, length, take, Option, Some, None, Ok, refl, ap, ◌∙◌, arith, codes}
use Rattle.std.proofs.lemmas.List.{length-append, length-take-le, length-map}
use Rattle.ir_text.specs.declared.token.TokenKind.TheVariants.{Quoted}
use Rattle.ir_text.specs.Tokens.{Lexeme}
use Rattle.ir_text.specs.Listed.{word, sign}
use Rattle.ir_text.specs.Language.{◌·◌, keyword, punctuation}
use Rattle.ir_lex.specs.Tokenized.{Tokenized, lexemes, lexeme_of}
use Rattle.ir_grammar.specs.Layout.{IsLayoutFault}
use Rattle.ir_grammar.specs.Layout.IsLayoutFault.{here, later}
use Rattle.ir_parts.specs.Reading.{left_from}
use Rattle.ir_parts.proofs.Readers.{IsReader, Anything, of_language}
use Rattle.ir_parts.proofs.Combined.{behind_token}
use Rattle.ir_parts.proofs.SingleTokens.{keyword_reads, sign_reads}
use Rattle.ir_left_out.specs.Layouts.{EndsTarget, IsQuotedFault, IsFaultyLayout, Finds, target_at}
use Rattle.ir_left_out.proofs.EndsIn.{ends_there, ends_back}

-- ---- what stands before it

-- `target datalayout =`
abbrev target_tokens : List Lexeme
target_tokens = word (codes "target") ∷ word (codes "datalayout") ∷ sign 61 ∷ []

-- These three tokens are read.
target_reads : IsReader target_at (λ (x : Unit {0}) ts. ts ≡ target_tokens) Anything
unfolding target_at
target_reads = of_language (λ (x : Unit {0}) ts. ts ≡ target_tokens) there back
    (behind_token (keyword_reads (codes "target"))
    (behind_token (keyword_reads (codes "datalayout")) (sign_reads 61)))
  where
    there : (x : Unit {0}) (ts : List Lexeme)
        → (keyword (codes "target") · keyword (codes "datalayout") · punctuation 61) ts → ts ≡ target_tokens
    there x ts (us, vs, parts, is, (ws, zs, seam, also, last)) = rw (parts, is, seam, also, last) refl

    back : (x : Unit {0}) (ts : List Lexeme) → ts ≡ target_tokens
        → (keyword (codes "target") · keyword (codes "datalayout") · punctuation 61) ts
    back x ts e = (
      word (codes "target") ∷ [],
      word (codes "datalayout") ∷ sign 61 ∷ [],
      e,
      refl,
      (word (codes "datalayout") ∷ [], sign 61 ∷ [], refl, refl, refl),
    )

-- Where they were read up to a place, the tokens before it end with them.
pub target_there : (t : Tokenized) (from at : ℕ) → target_at (left_from t from) ≡ Ok (tt, left_from t at)
    → EndsTarget (take at (lexemes t))
target_there t from at e =
    let ends = ends_there target_reads t from at e in
    (ends.0, ends.2 ∙ ap (λ (us : List Lexeme). ends.0 ++ us) ends.3)

-- It stands three tokens before the place.
pub target_length : (t : Tokenized) (at : ℕ) → at ≤ length t.tokens → (ends : EndsTarget (take at (lexemes t)))
    → at ≡ 3 + length ends.0
target_length t at within ends =
    omega (
      arith,
      ap length ends.1,
      length-append ends.0 target_tokens,
      length-take-le at (lexemes t) (omega (arith, length-map t.tokens (lexeme_of t.bytes))),
      length-map t.tokens (lexeme_of t.bytes),
    )

-- Where the tokens before a place end with them, they are read from three tokens before it.
pub target_back : (t : Tokenized) (at : ℕ) → at ≤ length t.tokens → (ends : EndsTarget (take at (lexemes t)))
    → target_at (left_from t (at - 3)) ≡ Ok (tt, left_from t at)
target_back t at within ends =
    let long = target_length t at within ends in
    let place : at - 3 ≡ length ends.0 = omega arith in
    ap (λ (n : ℕ). target_at (left_from t n)) place
    ∙ ends_back target_reads t at (ends.0, target_tokens, ends.1, refl)

-- ---- what stands between quotes

-- What is left out begins within the text.
pub fault_within : (text : List ℕ) (number at : ℕ) → IsLayoutFault text number at → at ≤ length text
fault_within text number at (here spec rest parts plain end out) = omega arith
fault_within text number at (later {at = behind} spec rest parts plain fine fault) =
    let within = fault_within rest number behind fault in
    omega (arith, ap length parts, length-append spec (45 ∷ rest))

-- Two lists with one more thing each are the same only where both parts are.
pub same_end : (us vs : List ℕ) (b c : ℕ) → us ++ b ∷ [] ≡ vs ++ c ∷ [] → (us ≡ vs) × (b ≡ c)
same_end [] [] b c e = (refl, cc)
same_end [] (v ∷ vs) b c e = absurd (omega (arith, ap length e, length-append vs (c ∷ [])))
same_end (u ∷ us) [] b c e = absurd (omega (arith, ap length e, length-append us (b ∷ [])))
same_end (u ∷ us) (v ∷ vs) b c e =
    let rest : us ++ b ∷ [] ≡ vs ++ c ∷ [] = cc in
    let same = same_end us vs b c rest in
    let first : u ≡ v = cc in (rw (first, same.0) refl, same.1)

-- A text stands between quotes in one way.
pub same_inner : (inner other : List ℕ) → 34 ∷ (inner ++ 34 ∷ []) ≡ 34 ∷ (other ++ 34 ∷ []) → inner ≡ other
same_inner inner other e = let rest : inner ++ 34 ∷ [] ≡ other ++ 34 ∷ [] = cc in (same_end inner other 34 34 rest).0

-- What is left out between the quotes of a data layout is left out there.
pub faulty : (before : List Lexeme) (t : Lexeme) (found : Option (ℕ × ℕ)) → EndsTarget before → t.kind ≡ Quoted
    → Finds (IsQuotedFault t.text) found → Finds (IsFaultyLayout before t) found
faulty before t None ends kind none = λ number behind l. none number behind l.2
faulty before t (Some fault) ends kind l = (ends, kind, l)

-- what isn't behind these three tokens is no data layout
pub no_target : (before : List Lexeme) (t : Lexeme) → (EndsTarget before → ⊥) → Finds (IsFaultyLayout before t) None
no_target before t other = λ number behind l. other l.0

-- and neither is what isn't quoted
pub not_quoted : (before : List Lexeme) (t : Lexeme) → (t.kind ≡ Quoted → ⊥) → Finds (IsFaultyLayout before t) None
not_quoted before t other = λ number behind l. other l.1
