-- The callee that the name at a place of the tokens is.
use Rattle.std.proofs.Common.{◌≡◌, ℕ, ◌-◌, ◌≤◌, suc, List, [], ◌∷◌, length, Option, Some, None, Ok, Err, ap, ◌∙◌}
use Rattle.std.specs.Option.{option_and_then}
use Rattle.ir_text.specs.Tokens.{Lexeme}
use Rattle.ir_lex.specs.Tokenized.{Tokenized}
use Rattle.ir_parts.specs.declared.fault.ItemFault.{ItemFault}
use Rattle.ir_parts.specs.declared.fault.ItemFault.TheVariants.{CannotGoOn, OutOfMemory}
use Rattle.ir_parts.specs.Reading.{given, one_at, left_from, Reads}
use Rattle.ir_parts.proofs.Places.{length_left}
use Rattle.ir_parts.proofs.Readers.{same_read}

module _ {A B : Type 0} (said : Lexeme → Option A) (f : A → Option B) where
  -- what is made of what a token says
  abbrev pub Further : Lexeme → Option B
  Further t = option_and_then f (said t)

  further_given : (found : Option A) (x : A) (o : Option B) (ts rest : List Lexeme) (left : ℕ)
      → given found ts left ≡ Ok (x, rest) → f x ≡ o
      → given (option_and_then f found) ts left ≡ given o rest left
  further_given None x o ts rest left e is = absurd cc
  further_given (Some y) x o ts rest left e is =
      let read = same_read (y, ts) (x, rest) e in
      ap (λ (p : A × List Lexeme). given (f p.0) p.1 left) read ∙ ap (λ (o : Option B). given o rest left) is

  pub further_read : (ts rest : List Lexeme) (x : A) (o : Option B) → one_at said ts ≡ Ok (x, rest) → f x ≡ o
      → one_at Further ts ≡ given o rest (length ts)
  unfolding one_at
  further_read [] rest x o e is = absurd cc
  further_read (t ∷ ts) rest x o e is = further_given (said t) x o ts rest (suc (length ts)) e is

  further_none : (found : Option A) (ts : List Lexeme) (left other : ℕ) → given found ts left ≡ Err other
      → given (option_and_then f found) ts left ≡ Err other
  further_none None ts left other e = let same : left ≡ other = cc in ap (λ (n : ℕ). Err n) same
  further_none (Some y) ts left other e = absurd cc

  pub further_refused : (ts : List Lexeme) (left : ℕ) → one_at said ts ≡ Err left → one_at Further ts ≡ Err left
  unfolding one_at
  further_refused [] left e = let same : 0 ≡ left = cc in ap (λ (n : ℕ). Err n) same
  further_refused (t ∷ ts) left e = further_none (said t) ts (suc (length ts)) left e

  pub further_fault : (t : Tokenized) (from : ℕ) (fault : ItemFault)
      → Reads {X = A} t (Err fault) (one_at said (left_from t from))
      → Reads {X = B} t (Err fault) (one_at Further (left_from t from))
  further_fault t from OutOfMemory e = tt
  further_fault t from (CannotGoOn at) e = (further_refused (left_from t from) (length t.tokens - at) e.0, e.1)

  pub further_nothing : (t : Tokenized) (from : ℕ) (rest : List Lexeme) (x : A) → from ≤ length t.tokens
      → one_at said (left_from t from) ≡ Ok (x, rest) → f x ≡ None
      → Reads {X = B} t (Err (CannotGoOn from)) (one_at Further (left_from t from))
  further_nothing t from rest x within e is =
      (further_read (left_from t from) rest x None e is ∙ ap (λ (n : ℕ). Err n) (length_left t from), within)
