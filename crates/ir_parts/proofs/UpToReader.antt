-- Things up to a sign, and the sign: the reading of them is a reading of their language.
use Rattle.std.proofs.Common.{◌≡◌, ℕ, zero, suc, Bool, true, false, if◌then◌else◌, List, [], ◌∷◌, ◌++◌, length, Option, Some, None, Result, Ok, Err, ◌⊎◌, inl, inr, refl, sym, ap, subst, ◌∙◌, append_assoc}
use Rattle.ir_text.specs.Tokens.{Lexeme}
use Rattle.ir_text.specs.Listed.{sign, InSequence}
use Rattle.ir_text.specs.Language.{Language, ◌·◌, punctuation}
use Rattle.ir_parts.specs.Reading.{Read, go_on, pure, ◌▷◌, made, begins, is_punctuation, punctuation_at, choose}
use Rattle.ir_parts.specs.ListReading.{until_at, all_until_at, up_to_at, all_up_to_at}
use Rattle.ir_parts.proofs.Readers.{StopsAt, IsReader, Anything, of_language, of_reading, mapped, chosen, either}
use Rattle.ir_parts.proofs.Combined.{not_at_first, pure_reads}
use Rattle.ir_parts.proofs.SingleTokens.{sign_reads, is_sign_itself}
use Rattle.ir_parts.proofs.UntilReader.{UntilLast, StopsLast, until_reads}

-- a thing, or none at the sign
abbrev pub is_end : {A : Type 0} → Option A → Bool
is_end None = true
is_end (Some x) = false

abbrev pub somes : {A : Type 0} → List (Option A) → List A
somes [] = []
somes (None ∷ os) = somes os
somes (Some x ∷ os) = x ∷ somes os

abbrev pub up_to_language : {A : Type 0} → ℕ → (A → Language) → Option A → Language
up_to_language closing L None = punctuation closing
up_to_language closing L (Some x) = L x

-- what a thing may be followed by
abbrev pub StopsSome : {A : Type 0} → (A → Lexeme → Type 0) → Option A → Lexeme → Type 0
StopsSome Stop None t = Unit {0}
StopsSome Stop (Some x) t = Stop x t

module _ {X : Type 0} (closing : ℕ) {item : Read X} {L : X → List Lexeme → Type 0} (Stop : X → Lexeme → Type 0)
    (item_reads : IsReader item L Stop)
    (some_tokens : (x : X) → L x [] → ⊥)
    (otherwise : (x : X) (ts rest : List Lexeme) → L x ts → begins (is_punctuation closing) (ts ++ rest) ≡ false)
    (ends : (x y : X) (taken rest : List Lexeme) → L y taken → StopsAt (Stop x) (taken ++ rest))
    (closes : (x : X) (t : Lexeme) → is_punctuation closing t ≡ true → Stop x t) where
  -- a thing, or the sign
  one_of : Read (Option X)
  one_of = choose (is_punctuation closing) (punctuation_at closing ▷ pure None) (made (λ x. Some x) item)

  sign_there : IsReader (punctuation_at closing ▷ pure None)
      (λ (o : Option X) ts. (o ≡ None) × punctuation closing ts) (StopsSome Stop)
  sign_there = of_language (λ (o : Option X) ts. (o ≡ None) × punctuation closing ts)
      (λ o ts l. (l.1, l.2)) (λ o ts l. (tt, l.0, l.1))
      (mapped (λ x. None) (StopsSome Stop) (λ x t s. tt) (λ x t s. tt) (sign_reads closing))

  thing_there : IsReader (made (λ x. Some x) item) (λ (o : Option X) ts. (x : X) × (o ≡ Some x) × L x ts)
      (StopsSome Stop)
  thing_there = mapped (λ x. Some x) (StopsSome Stop) (λ x t s. s) (λ x t s. s) item_reads

  no_thing : Option X
  no_thing = None

  one_begun : (t : Lexeme) (ts : List Lexeme) → is_punctuation closing t ≡ true
      → (punctuation_at closing ▷ pure no_thing) (t ∷ ts) ≡ Err (suc (length ts)) → ⊥
  one_begun t ts passed e = not_at_first (is_punctuation closing) (pure_reads no_thing) t ts passed e

  one_reads : IsReader one_of (up_to_language closing L) (StopsSome Stop)
  unfolding one_of no_thing
  one_reads = of_language (up_to_language closing L) there back
      (chosen (is_punctuation closing) sign_there thing_there
      (λ o ts l. ap (begins (is_punctuation closing)) l.1 ∙ is_sign_itself closing)
      (λ o taken rest l stops. otherwise l.0 taken rest l.2)
      one_begun)
    where
      there : (o : Option X) (ts : List Lexeme)
          → ((o ≡ None) × punctuation closing ts) ⊎ ((x : X) × (o ≡ Some x) × L x ts) → up_to_language closing L o ts
      there o ts (inl l) = subst (λ (o : Option X). up_to_language closing L o ts) (sym l.0) l.1
      there o ts (inr l) = subst (λ (o : Option X). up_to_language closing L o ts) (sym l.1) l.2

      back : (o : Option X) (ts : List Lexeme) → up_to_language closing L o ts
          → ((o ≡ None) × punctuation closing ts) ⊎ ((x : X) × (o ≡ Some x) × L x ts)
      back None ts l = inl (refl, l)
      back (Some x) ts l = inr (x, refl, l)

  one_some : (o : Option X) → up_to_language closing L o [] → ⊥
  one_some None l = absurd cc
  one_some (Some x) l = some_tokens x l

  one_ends : (o p : Option X) (taken rest : List Lexeme) → is_end o ≡ false → up_to_language closing L p taken
      → StopsAt (StopsSome Stop o) (taken ++ rest)
  one_ends None p taken rest isnt l = absurd cc
  one_ends (Some x) None taken rest isnt l =
      subst (λ (ts : List Lexeme). StopsAt (Stop x) (ts ++ rest)) (sym l) (closes x (sign closing) (is_sign_itself
      closing))
  one_ends (Some x) (Some y) taken rest isnt l = ends x y taken rest l

  until_sign : IsReader (all_until_at is_end one_of) (UntilLast is_end (up_to_language closing L))
      (StopsLast is_end (StopsSome Stop))
  until_sign = until_reads is_end (StopsSome Stop) one_reads one_some one_ends None (sign closing ∷ []) refl refl

  -- ---- the same reading

  behind_thing : (x : X) (r : Result (List (Option X) × List Lexeme) ℕ)
      → go_on (go_on r (λ os. pure (somes os))) (λ xs. pure (x ∷ xs))
      ≡ go_on (go_on r (λ os. pure (Some x ∷ os))) (λ os. pure (somes os))
  behind_thing x (Ok read) = refl
  behind_thing x (Err left) = refl

  -- what is read behind a thing or the sign
  behind_one : ℕ → Option X → Read (List (Option X))
  behind_one most o = if is_end o then pure (o ∷ []) else made (λ os. o ∷ os) (until_at is_end one_of most)

  at_sign : (most : ℕ) (r : Result (Unit {0} × List Lexeme) ℕ)
      → go_on r (λ _. pure [])
      ≡ go_on (go_on (go_on r (λ _. pure None)) (behind_one most)) (λ os. pure (somes os))
  unfolding behind_one
  at_sign most (Ok read) = refl
  at_sign most (Err left) = refl

  at_thing : (most : ℕ)
      → ((ts : List Lexeme) → up_to_at closing item most ts ≡ made somes (until_at is_end one_of most) ts)
      → (r : Result (X × List Lexeme) ℕ)
      → go_on r (λ x. made (λ xs. x ∷ xs) (up_to_at closing item most))
      ≡ go_on (go_on (go_on r (λ x. pure (Some x))) (behind_one most)) (λ os. pure (somes os))
  unfolding behind_one
  at_thing most same (Ok read) =
      ap (λ r. go_on r (λ xs. pure (read.0 ∷ xs))) (same read.1)
      ∙ behind_thing read.0 (until_at is_end one_of most read.1)
  at_thing most same (Err left) = refl

  same_most : (most : ℕ) (ts : List Lexeme)
      → up_to_at closing item most ts ≡ made somes (until_at is_end one_of most) ts
  unfolding up_to_at until_at one_of behind_one
  same_most zero ts = refl
  same_most (suc most) ts = elim (either (begins (is_punctuation closing) ts)) [
    | inl passed ↦ rw passed (at_sign most (punctuation_at closing ts))
    | inr failed ↦ rw failed (at_thing most (same_most most) (item ts))
  ]

  -- ---- the same language

  sequence_of : (os : List (Option X)) (ts : List Lexeme) → UntilLast is_end (up_to_language closing L) os ts
      → (InSequence L (somes os) · punctuation closing) ts
  sequence_of [] ts l = absurd l
  sequence_of (None ∷ []) ts l = ([], ts, refl, refl, l.1)
  sequence_of (Some x ∷ []) ts l = absurd (let e = l.0 in cc)
  sequence_of (None ∷ o ∷ os) ts l = absurd (let e = l.0 in cc)
  sequence_of (Some x ∷ o ∷ os) ts l =
      let parts = l.1 in
      let m = sequence_of (o ∷ os) parts.1 parts.4 in (
        parts.0 ++ m.0,
        m.1,
        parts.2 ∙ (ap (λ (vs : List Lexeme). parts.0 ++ vs) m.2 ∙ sym (append_assoc parts.0 m.0 m.1)),
        (parts.0, m.0, refl, parts.3, m.3),
        m.4,
      )

  ended_of : (xs : List X) (us : List Lexeme) → InSequence L xs us
      → (os : List (Option X)) × (somes os ≡ xs) × UntilLast is_end (up_to_language closing L) os (us ++ sign closing
      ∷ [])
  ended_of [] us l = (
    None ∷ [],
    refl,
    (refl, ap (λ (us : List Lexeme). us ++ sign closing ∷ []) l),
  )
  ended_of (x ∷ xs) us l =
      let m = ended_of xs l.1 l.4 in
      with_first x xs us l.0 l.1 l.2 l.3 m.0 m.1 m.2
    where
      with_first : (x : X) (xs : List X) (us before behind : List Lexeme) → us ≡ before ++ behind → L x before
          → (os : List (Option X)) → somes os ≡ xs
          → UntilLast is_end (up_to_language closing L) os (behind ++ sign closing ∷ [])
          → (os : List (Option X)) × (somes os ≡ x ∷ xs) × UntilLast is_end (up_to_language closing L) os (us ++ sign
          closing ∷ [])
      with_first x xs us before behind parts first [] same l = absurd l
      with_first x xs us before behind parts first (o ∷ os) same l = (
        Some x ∷ o ∷ os,
        ap (λ (xs : List X). x ∷ xs) same,
        (
          refl,
          (
            before,
            behind ++ sign closing ∷ [],
            ap (λ (us : List Lexeme). us ++ sign closing ∷ []) parts ∙ append_assoc before behind (sign closing ∷ []),
            first,
            l,
          ),
        ),
      )

  pub up_to_reads : IsReader (all_up_to_at closing item) (λ xs. InSequence L xs · punctuation closing) Anything
  up_to_reads = of_reading (all_up_to_at closing item) (λ ts. same_most (suc (length ts)) ts)
      (of_language (λ xs. InSequence L xs · punctuation closing)
      (λ xs ts l. subst (λ (xs : List X). (InSequence L xs · punctuation closing) ts) (sym l.1) (sequence_of l.0 ts
      l.2))
      (λ xs ts l.
      let m = ended_of xs l.0 l.3 in (
        m.0,
        sym m.1,
        subst (λ (ts : List Lexeme). UntilLast is_end (up_to_language closing L) m.0 ts)
            (sym (l.2 ∙ ap (λ (vs : List Lexeme). l.0 ++ vs) l.4)) m.2,
      ))
      (mapped somes Anything (λ os t stop. tt) stops until_sign))
    where
      stops : (os : List (Option X)) (t : Lexeme) → Unit {0} → StopsLast is_end (StopsSome Stop) os t
      stops [] t u = tt
      stops (None ∷ []) t u = λ e. tt
      stops (Some x ∷ []) t u = λ e. absurd (let e = e in cc)
      stops (o ∷ p ∷ os) t u = stops (p ∷ os) t u
