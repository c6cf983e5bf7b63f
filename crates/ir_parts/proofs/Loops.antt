-- Reading things one after another, as a loop does.
use Rattle.std.proofs.Common.{◌≡◌, ℕ, zero, suc, ◌-◌, ◌<◌, ◌≤◌, Bool, true, false, List, [], ◌∷◌, ◌++◌, length, Result, Ok, Err, refl, sym, ap, ◌∙◌, append_assoc, arith}
use Rattle.std.proofs.lemmas.List.{append-nil}
use Rattle.ir_text.specs.Tokens.{Lexeme}
use Rattle.ir_lex.specs.Tokenized.{Tokenized}
use Rattle.ir_parts.specs.declared.fault.ItemFault.{ItemFault}
use Rattle.ir_parts.specs.declared.fault.ItemFault.TheVariants.{CannotGoOn, OutOfMemory}
use Rattle.ir_parts.specs.Reading.{Read, ◌>>=◌, go_on, pure, begins, repeat_at, repeated_at, left_from, ReadsAs, Passes}
use Rattle.ir_parts.proofs.Places.{shorter_left}
use Rattle.ir_parts.proofs.Readers.{chosen_first, chosen_other}
use Rattle.ir_parts.proofs.Repeated.{none_left}

-- what was read before, and what is still read
abbrev pub with_earlier : {A : Type 0} → List A → Result (List A × List Lexeme) ℕ → Result (List A × List Lexeme) ℕ
with_earlier earlier read = go_on read (λ xs. pure (earlier ++ xs))

regroup : {A : Type 0} (earlier : List A) (x : A) (read : Result (List A × List Lexeme) ℕ)
    → with_earlier earlier (go_on read (λ xs. pure (x ∷ xs))) ≡ with_earlier (earlier ++ x ∷ []) read
regroup earlier x (Err left) = refl
regroup {A} earlier x (Ok others) = ap (λ (xs : List A). Ok (xs, others.1)) (sym (append_assoc earlier (x ∷ [])
    others.0))

from_nothing : {A : Type 0} (read : Result (List A × List Lexeme) ℕ) → with_earlier [] read ≡ read
from_nothing (Err left) = refl
from_nothing (Ok read) = refl

module _ {A : Type 0} (test : Lexeme → Bool) (item : Read A) where
  -- What is left of things that begin with a token gives the whole reading.
  pub record Repeats (earlier : List A) (ts : List Lexeme) (total : Result (List A × List Lexeme) ℕ) : Type 0 where
    pub most : ℕ
    pub enough : length ts ≤ most
    pub so_far : with_earlier earlier (repeat_at test item most ts) ≡ total

  pub repeat_begins : (ts : List Lexeme) → Repeats [] ts (repeated_at test item ts)
  repeat_begins ts = record {
    most = length ts;
    enough = omega arith;
    so_far = from_nothing (repeat_at test item (length ts) ts);
  }

  one_more : (most : ℕ) (ts : List Lexeme) → begins test ts ≡ true
      → repeat_at test item (suc most) ts ≡ go_on (item ts) (λ x. repeat_at test item most >>= λ xs. pure (x ∷ xs))
  unfolding repeat_at
  one_more most ts e = chosen_first test (item >>= λ x. repeat_at test item most >>= λ xs. pure (x ∷ xs)) (pure []) ts e

  no_more : (most : ℕ) (ts : List Lexeme) → begins test ts ≡ false → repeat_at test item most ts ≡ Ok ([], ts)
  unfolding repeat_at
  no_more zero ts e = refl
  no_more (suc most) ts e =
      chosen_other test (item >>= λ x. repeat_at test item most >>= λ xs. pure (x ∷ xs)) (pure []) ts e

  pub repeat_goes_on : (earlier : List A) (ts rest : List Lexeme) (x : A) (total : Result (List A × List Lexeme) ℕ)
      → begins test ts ≡ true → item ts ≡ Ok (x, rest) → length rest < length ts → Repeats earlier ts total
      → Repeats (earlier ++ x ∷ []) rest total
  repeat_goes_on earlier ts rest x total passed read shorter loop = go loop.most loop.enough loop.so_far
    where
      go : (most : ℕ) → length ts ≤ most → with_earlier earlier (repeat_at test item most ts) ≡ total
          → Repeats (earlier ++ x ∷ []) rest total
      go zero enough e = absurd (omega arith)
      go (suc most) enough e = record {
        most = most;
        enough = omega arith;
        so_far = sym (ap (with_earlier earlier) (one_more most ts passed
            ∙ ap (λ r. go_on r (λ x. repeat_at test item most >>= λ xs. pure (x ∷ xs))) read)
            ∙ regroup earlier x (repeat_at test item most rest)) ∙ e;
      }

  pub repeat_ends : (earlier : List A) (ts : List Lexeme) (total : Result (List A × List Lexeme) ℕ)
      → begins test ts ≡ false → Repeats earlier ts total → total ≡ Ok (earlier, ts)
  repeat_ends earlier ts total failed loop =
      sym loop.so_far ∙ (ap (with_earlier earlier) (no_more loop.most ts failed)
      ∙ ap (λ (xs : List A). Ok (xs, ts)) (append-nil earlier))

  pub repeat_refuses : (earlier : List A) (ts : List Lexeme) (left : ℕ) (total : Result (List A × List Lexeme) ℕ)
      → begins test ts ≡ true → item ts ≡ Err left → Repeats earlier ts total → total ≡ Err left
  repeat_refuses earlier ts left total passed read loop = go loop.most loop.enough loop.so_far
    where
      go : (most : ℕ) → length ts ≤ most → with_earlier earlier (repeat_at test item most ts) ≡ total → total ≡ Err left
      go zero enough e = absurd (let failed : begins test ts ≡ false = ap (begins test) (none_left ts enough) in cc)
      go (suc most) enough e =
          sym e ∙ ap (with_earlier earlier) (one_more most ts passed
          ∙ ap (λ r. go_on r (λ x. repeat_at test item most >>= λ xs. pure (x ∷ xs))) read)

  -- the same from place to place
  pub repeat_forth : (t : Tokenized) (earlier : List A) (at behind : ℕ) (x : A) (total : Result (List A × List Lexeme)
      ℕ)
      → true ≡ begins test (left_from t at) → item (left_from t at) ≡ Ok (x, left_from t behind)
      → (at < behind) × (behind ≤ length t.tokens) → Repeats earlier (left_from t at) total
      → Repeats (earlier ++ x ∷ []) (left_from t behind) total
  repeat_forth t earlier at behind x total passed read forth loop =
      repeat_goes_on earlier (left_from t at) (left_from t behind) x total (sym passed) read
      (shorter_left t at behind forth.0 forth.1) loop

  -- the same where the code stops at a fault
  pub repeat_faults : {X Y : Type 0} (view : X → A) (other : Y → List A) (t : Tokenized) (fault : ItemFault)
      (earlier : List A) (ts : List Lexeme) (total : Result (List A × List Lexeme) ℕ)
      → begins test ts ≡ true → ReadsAs view t (Err fault) (item ts) → Repeats earlier ts total
      → ReadsAs other t (Err fault) total
  repeat_faults view other t OutOfMemory earlier ts total passed read loop = tt
  repeat_faults view other t (CannotGoOn at) earlier ts total passed read loop =
      (repeat_refuses earlier ts (length t.tokens - at) total passed read.0 loop, read.1)

-- a fault of a first part is one of the whole
pub faults_on : {X Y A B : Type 0} (view : X → A) (other : Y → B) (t : Tokenized) (fault : ItemFault)
    (r : Result (A × List Lexeme) ℕ) (f : A → Read B)
    → ReadsAs view t (Err fault) r → ReadsAs other t (Err fault) (go_on r f)
faults_on view other t OutOfMemory r f e = tt
faults_on view other t (CannotGoOn at) r f e = (ap (λ r. go_on r f) e.0, e.1)

-- ---- things that say nothing

module _ {A : Type 0} (test : Lexeme → Bool) (item : Read A) where
  pub skip_ends : (earlier : List A) (ts : List Lexeme) (total : Result (List A × List Lexeme) ℕ)
      → begins test ts ≡ false → Repeats test item earlier ts total
      → go_on total (λ xs. pure {A = Unit {0}} tt) ≡ Ok (tt, ts)
  skip_ends earlier ts total failed loop = ap (λ r. go_on r (λ xs. pure {A = Unit {0}} tt)) (repeat_ends test item
      earlier ts total failed loop)

module _ (test : Lexeme → Bool) (item : Read (Unit {0})) where
  pub skip_faults : (t : Tokenized) (fault : ItemFault) (earlier : List (Unit {0})) (ts : List Lexeme)
      (total : Result (List (Unit {0}) × List Lexeme) ℕ)
      → begins test ts ≡ true → Passes t (Err fault) (item ts) → Repeats test item earlier ts total
      → Passes t (Err fault) (go_on total (λ xs. pure tt))
  skip_faults t OutOfMemory earlier ts total passed read loop = tt
  skip_faults t (CannotGoOn at) earlier ts total passed read loop = (
    ap (λ r. go_on r (λ xs. pure tt)) (repeat_refuses test item earlier ts (length t.tokens - at) total passed
        read.0 loop),
    read.1,
  )
