-- Reading things to a last one, and things up to a sign, as a loop does.
use Rattle.std.proofs.Common.{◌≡◌, ℕ, zero, suc, ◌-◌, ◌<◌, ◌≤◌, Bool, true, false, if◌then◌else◌, List, [], ◌∷◌, ◌++◌, length, Result, Ok, Err, refl, sym, ap, ◌∙◌, append_assoc, arith}
use Rattle.std.proofs.lemmas.List.{append-nil}
use Rattle.ir_text.specs.Tokens.{Lexeme}
use Rattle.ir_lex.specs.Tokenized.{Tokenized}
use Rattle.ir_parts.specs.declared.fault.ItemFault.{ItemFault}
use Rattle.ir_parts.specs.declared.fault.ItemFault.TheVariants.{CannotGoOn, OutOfMemory}
use Rattle.ir_parts.specs.Reading.{Read, ◌>>=◌, go_on, pure, ◌▷◌, made, begins, is_punctuation, punctuation_at, left_from, ReadsAs, Passes}
use Rattle.ir_parts.specs.ListReading.{until_at, all_until_at, up_to_at, all_up_to_at}
use Rattle.ir_parts.proofs.Places.{shorter_left}
use Rattle.ir_parts.proofs.Readers.{chosen_first, chosen_other}
use Rattle.ir_parts.proofs.Loops.{with_earlier}

regroup : {A : Type 0} (earlier : List A) (x : A) (read : Result (List A × List Lexeme) ℕ)
    → with_earlier earlier (go_on read (λ xs. pure (x ∷ xs))) ≡ with_earlier (earlier ++ x ∷ []) read
regroup earlier x (Err left) = refl
regroup {A} earlier x (Ok others) = ap (λ (xs : List A). Ok (xs, others.1)) (sym (append_assoc earlier (x ∷ [])
    others.0))

from_nothing : {A : Type 0} (read : Result (List A × List Lexeme) ℕ) → with_earlier [] read ≡ read
from_nothing (Err left) = refl
from_nothing (Ok read) = refl

-- ---- things to a last one

module _ {A : Type 0} (last : A → Bool) (item : Read A) where
  -- what is read behind a thing
  abbrev after_item : ℕ → A → Read (List A)
  after_item most x = if last x then pure (x ∷ []) else made (λ xs. x ∷ xs) (until_at last item most)

  -- What is left of things to a last one gives the whole reading.
  pub record Until (earlier : List A) (ts : List Lexeme) (total : Result (List A × List Lexeme) ℕ) : Type 0 where
    pub most : ℕ
    pub enough : length ts < most
    pub so_far : with_earlier earlier (until_at last item most ts) ≡ total

  -- Where a loop stands: before or behind the last one.
  abbrev pub Stands : Bool → List A → List Lexeme → Result (List A × List Lexeme) ℕ → Type 0
  Stands false earlier ts total = Until earlier ts total
  Stands true earlier ts total = total ≡ Ok (earlier, ts)

  pub until_begins : (ts : List Lexeme) → Until [] ts (all_until_at last item ts)
  until_begins ts = record {
    most = suc (length ts);
    enough = omega arith;
    so_far = from_nothing (until_at last item (suc (length ts)) ts);
  }

  one_read : (most : ℕ) (ts rest : List Lexeme) (x : A) → item ts ≡ Ok (x, rest)
      → until_at last item (suc most) ts ≡ after_item most x rest
  unfolding until_at
  one_read most ts rest x read =
      ap (λ (r : Result (A × List Lexeme) ℕ). go_on {B = List A} r (λ x. after_item most x)) read

  decided : (b : Bool) (most : ℕ) (x : A) (rest : List Lexeme) → last x ≡ b
      → after_item most x rest
      ≡ (if b then pure (x ∷ []) else made (λ xs. x ∷ xs) (until_at last item most)) rest
  decided b most x rest is =
      ap (λ (b : Bool). (if b then pure (x ∷ []) else made (λ xs. x ∷ xs) (until_at last item most)) rest) is

  -- one more is read
  pub until_goes_on : (earlier : List A) (ts rest : List Lexeme) (x : A) (total : Result (List A × List Lexeme) ℕ)
      (b : Bool)
      → item ts ≡ Ok (x, rest) → length rest < length ts → last x ≡ b → Until earlier ts total
      → Stands b (earlier ++ x ∷ []) rest total
  until_goes_on earlier ts rest x total b read shorter is loop = go loop.most loop.enough loop.so_far b is
    where
      go : (most : ℕ) → length ts < most → with_earlier earlier (until_at last item most ts) ≡ total
          → (b : Bool) → last x ≡ b → Stands b (earlier ++ x ∷ []) rest total
      go zero enough e b is = absurd (omega arith)
      go (suc most) enough e true is =
          sym e ∙ ap (with_earlier earlier) (one_read most ts rest x read ∙ decided true most x rest is)
      go (suc most) enough e false is = record {
        most = most;
        enough = omega arith;
        so_far = sym (ap (with_earlier earlier) (one_read most ts rest x read ∙ decided false most x rest is)
            ∙ regroup earlier x (until_at last item most rest)) ∙ e;
      }

  pub until_refuses : (earlier : List A) (ts : List Lexeme) (left : ℕ) (total : Result (List A × List Lexeme) ℕ)
      → item ts ≡ Err left → Until earlier ts total → total ≡ Err left
  unfolding until_at
  until_refuses earlier ts left total read loop = go loop.most loop.enough loop.so_far
    where
      go : (most : ℕ) → length ts < most → with_earlier earlier (until_at last item most ts) ≡ total
          → total ≡ Err left
      go zero enough e = absurd (omega arith)
      go (suc most) enough e =
          sym e ∙ ap (with_earlier earlier)
          (ap (λ (r : Result (A × List Lexeme) ℕ). go_on {B = List A} r (λ x. after_item most x)) read)

  -- the same from place to place
  pub until_forth : (t : Tokenized) (earlier : List A) (at behind : ℕ) (x : A)
      (total : Result (List A × List Lexeme) ℕ) (b : Bool)
      → item (left_from t at) ≡ Ok (x, left_from t behind) → (at < behind) × (behind ≤ length t.tokens)
      → last x ≡ b → Until earlier (left_from t at) total → Stands b (earlier ++ x ∷ []) (left_from t behind) total
  until_forth t earlier at behind x total b read forth is loop =
      until_goes_on earlier (left_from t at) (left_from t behind) x total b read
      (shorter_left t at behind forth.0 forth.1) is loop

  -- the same where the code stops at a fault
  pub until_faults : {X Y : Type 0} (view : X → A) (other : Y → List A) (t : Tokenized) (fault : ItemFault)
      (earlier : List A) (ts : List Lexeme) (total : Result (List A × List Lexeme) ℕ)
      → ReadsAs view t (Err fault) (item ts) → Until earlier ts total → ReadsAs other t (Err fault) total
  until_faults view other t OutOfMemory earlier ts total read loop = tt
  until_faults view other t (CannotGoOn at) earlier ts total read loop =
      (until_refuses earlier ts (length t.tokens - at) total read.0 loop, read.1)

-- ---- things up to a sign

module _ {A : Type 0} (closing : ℕ) (item : Read A) where
  -- What is left of things up to a sign gives the whole reading.
  pub record UpTo (earlier : List A) (ts : List Lexeme) (total : Result (List A × List Lexeme) ℕ) : Type 0 where
    pub most : ℕ
    pub enough : length ts < most
    pub so_far : with_earlier earlier (up_to_at closing item most ts) ≡ total

  pub up_to_begins : (ts : List Lexeme) → UpTo [] ts (all_up_to_at closing item ts)
  up_to_begins ts = record {
    most = suc (length ts);
    enough = omega arith;
    so_far = from_nothing (up_to_at closing item (suc (length ts)) ts);
  }

  one_more : (most : ℕ) (ts : List Lexeme) → begins (is_punctuation closing) ts ≡ false
      → up_to_at closing item (suc most) ts
      ≡ go_on (item ts) (λ x. up_to_at closing item most >>= λ xs. pure (x ∷ xs))
  unfolding up_to_at
  one_more most ts e =
      chosen_other (is_punctuation closing) (punctuation_at closing ▷ pure [])
      (item >>= λ x. up_to_at closing item most >>= λ xs. pure (x ∷ xs)) ts e

  no_more : (most : ℕ) (ts : List Lexeme) → begins (is_punctuation closing) ts ≡ true
      → up_to_at closing item (suc most) ts ≡ go_on (punctuation_at closing ts) (λ u. pure [])
  unfolding up_to_at
  no_more most ts e =
      chosen_first (is_punctuation closing) (punctuation_at closing ▷ pure [])
      (item >>= λ x. up_to_at closing item most >>= λ xs. pure (x ∷ xs)) ts e

  -- one more is read
  pub up_to_forth : (t : Tokenized) (earlier : List A) (at behind : ℕ) (x : A)
      (total : Result (List A × List Lexeme) ℕ)
      → false ≡ begins (is_punctuation closing) (left_from t at)
      → item (left_from t at) ≡ Ok (x, left_from t behind) → (at < behind) × (behind ≤ length t.tokens)
      → UpTo earlier (left_from t at) total → UpTo (earlier ++ x ∷ []) (left_from t behind) total
  up_to_forth t earlier at behind x total failed read forth loop = go loop.most loop.enough loop.so_far
    where
      fewer : length (left_from t behind) < length (left_from t at)
      fewer = shorter_left t at behind forth.0 forth.1

      go : (most : ℕ) → length (left_from t at) < most
          → with_earlier earlier (up_to_at closing item most (left_from t at)) ≡ total
          → UpTo (earlier ++ x ∷ []) (left_from t behind) total
      go zero enough e = absurd (omega arith)
      go (suc most) enough e = record {
        most = most;
        enough = let less = fewer in omega arith;
        so_far = sym (ap (with_earlier earlier) (one_more most (left_from t at) (sym failed)
            ∙ ap (λ r. go_on r (λ x. up_to_at closing item most >>= λ xs. pure (x ∷ xs))) read)
            ∙ regroup earlier x (up_to_at closing item most (left_from t behind))) ∙ e;
      }

  -- one more is refused
  pub up_to_faults : {X Y : Type 0} (view : X → A) (other : Y → List A) (t : Tokenized) (fault : ItemFault)
      (earlier : List A) (ts : List Lexeme) (total : Result (List A × List Lexeme) ℕ)
      → false ≡ begins (is_punctuation closing) ts → ReadsAs view t (Err fault) (item ts) → UpTo earlier ts total
      → ReadsAs other t (Err fault) total
  up_to_faults view other t OutOfMemory earlier ts total failed read loop = tt
  up_to_faults view other t (CannotGoOn at) earlier ts total failed read loop =
      (go loop.most loop.enough loop.so_far, read.1)
    where
      go : (most : ℕ) → length ts < most → with_earlier earlier (up_to_at closing item most ts) ≡ total
          → total ≡ Err (length t.tokens - at)
      go zero enough e = absurd (omega arith)
      go (suc most) enough e =
          sym e ∙ ap (with_earlier earlier) (one_more most ts (sym failed)
          ∙ ap (λ r. go_on r (λ x. up_to_at closing item most >>= λ xs. pure (x ∷ xs))) read.0)

  ended : (earlier : List A) (ts : List Lexeme) (total : Result (List A × List Lexeme) ℕ)
      → true ≡ begins (is_punctuation closing) ts → UpTo earlier ts total
      → with_earlier earlier (go_on (punctuation_at closing ts) (λ u. pure [])) ≡ total
  ended earlier ts total passed loop = go loop.most loop.enough loop.so_far
    where
      go : (most : ℕ) → length ts < most → with_earlier earlier (up_to_at closing item most ts) ≡ total
          → with_earlier earlier (go_on (punctuation_at closing ts) (λ u. pure [])) ≡ total
      go zero enough e = absurd (omega arith)
      go (suc most) enough e = sym (ap (with_earlier earlier) (no_more most ts (sym passed))) ∙ e

  -- The sign is read.
  pub up_to_ends : (t : Tokenized) (earlier : List A) (ts : List Lexeme) (at : ℕ)
      (total : Result (List A × List Lexeme) ℕ)
      → true ≡ begins (is_punctuation closing) ts → Passes t (Ok at) (punctuation_at closing ts)
      → UpTo earlier ts total → total ≡ Ok (earlier, left_from t at)
  up_to_ends t earlier ts at total passed read loop =
      sym (ended earlier ts total passed loop)
      ∙ (ap (λ (r : Result (Unit {0} × List Lexeme) ℕ). with_earlier earlier (go_on r (λ u. pure []))) read
      ∙ ap (λ (xs : List A). Ok (xs, left_from t at)) (append-nil earlier))

  -- or it is refused
  pub up_to_no_end : {Y : Type 0} (other : Y → List A) (t : Tokenized) (fault : ItemFault) (earlier : List A)
      (ts : List Lexeme) (total : Result (List A × List Lexeme) ℕ)
      → true ≡ begins (is_punctuation closing) ts → Passes t (Err fault) (punctuation_at closing ts)
      → UpTo earlier ts total → ReadsAs other t (Err fault) total
  up_to_no_end other t OutOfMemory earlier ts total passed read loop = tt
  up_to_no_end other t (CannotGoOn at) earlier ts total passed read loop = (
    sym (ended earlier ts total passed loop)
        ∙ ap (λ (r : Result (Unit {0} × List Lexeme) ℕ). with_earlier earlier (go_on r (λ u. pure []))) read.0,
    read.1,
  )
