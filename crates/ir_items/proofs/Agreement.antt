-- Readings that agree on all lists of tokens up to some length.
use Rattle.std.proofs.Common.{◌≡◌, ℕ, zero, suc, ◌≤◌, Bool, true, false, if◌then◌else◌, List, [], ◌∷◌, length, Result, Ok, Err, inl, inr, refl, sym, ap, ◌∙◌, arith}
use Rattle.std.proofs.lemmas.List.{length-append}
use Rattle.ir_text.specs.Tokens.{Lexeme}
use Rattle.ir_parts.specs.Reading.{Read, go_on, ◌>>=◌, pure, begins, token_at, choose, repeat_at, repeated_at}
use Rattle.ir_parts.proofs.Readers.{IsReader, either, chosen_first, chosen_other}

abbrev pub Agree : {X : Type 0} → ℕ → Read X → Read X → Type 0
Agree most a b = (ts : List Lexeme) → length ts ≤ most → a ts ≡ b ts

-- What is left is no longer.
abbrev pub Shrinks : {X : Type 0} → Read X → Type 0
Shrinks {X} a = (ts rest : List Lexeme) (x : X) → a ts ≡ Ok (x, rest) → length rest ≤ length ts

pub shrinks : {X : Type 0} {read : Read X} {L : X → List Lexeme → Type 0} {Stop : X → Lexeme → Type 0}
    → IsReader read L Stop → Shrinks read
shrinks r ts rest x e =
    let t = r.takes ts rest x e in omega (arith, ap length t.parts, length-append t.taken rest)

pub same_agree : {X : Type 0} (most : ℕ) (a : Read X) → Agree most a a
same_agree most a ts short = refl

-- one after another
pub then_agree : {X Y : Type 0} (most : ℕ) (a b : Read X) (f g : X → Read Y) → Shrinks a → Agree most a b
    → ((x : X) → Agree most (f x) (g x)) → Agree most (a >>= f) (b >>= g)
then_agree {X} {Y} most a b f g shrinks first next ts short =
    go (a ts) refl ∙ ap (λ (r : Result (X × List Lexeme) ℕ). go_on r g) (first ts short)
  where
    go : (r : Result (X × List Lexeme) ℕ) → a ts ≡ r → go_on r f ≡ go_on r g
    go (Ok read) e =
        let left : length read.1 ≤ length ts = shrinks ts read.1 read.0 e in
        next read.0 read.1 (omega arith)
    go (Err left) e = refl

-- what is made of it
pub made_agree : {X Y : Type 0} (most : ℕ) (a b : Read X) (f : X → Read Y) → Agree most a b
    → Agree most (a >>= f) (b >>= f)
made_agree {X} most a b f first ts short = ap (λ (r : Result (X × List Lexeme) ℕ). go_on r f) (first ts short)

-- behind a first token there is one token less
pub behind_agree : {Y : Type 0} (most : ℕ) (test : Lexeme → Bool) (f g : Unit {0} → Read Y)
    → Agree most (f tt) (g tt) → Agree (suc most) (token_at test >>= f) (token_at test >>= g)
unfolding token_at
behind_agree {Y} most test f g next [] short = refl
behind_agree {Y} most test f g next (t ∷ ts) short = go (test t)
  where
    go : (passed : Bool)
        → ◌≡◌ {A = Result (Y × List Lexeme) ℕ} (go_on (if passed then Ok (tt, ts) else Err (suc (length ts))) f)
        (go_on (if passed then Ok (tt, ts) else Err (suc (length ts))) g)
    go true = next ts (omega arith)
    go false = refl

pub chosen_agree : {X : Type 0} (most : ℕ) (test : Lexeme → Bool) (a b other : Read X) → Agree most a b
    → Agree most (choose test a other) (choose test b other)
chosen_agree most test a b other first ts short = elim (either (begins test ts)) [
  | inl passed ↦
      chosen_first test a other ts passed ∙ (first ts short ∙ sym (chosen_first test b other ts passed))
  | inr failed ↦ chosen_other test a other ts failed ∙ sym (chosen_other test b other ts failed)
]

repeat_agree : {X : Type 0} (most : ℕ) (test : Lexeme → Bool) (item other : Read X) → Shrinks item
    → Agree most item other → (times : ℕ) → Agree most (repeat_at test item times) (repeat_at test other times)
unfolding repeat_at
repeat_agree most test item other shrinks same zero = same_agree most (pure [])
repeat_agree most test item other shrinks same (suc times) =
    chosen_agree most test (item >>= λ x. repeat_at test item times >>= λ xs. pure (x ∷ xs))
    (other >>= λ x. repeat_at test other times >>= λ xs. pure (x ∷ xs)) (pure [])
    (then_agree most item other (λ x. repeat_at test item times >>= λ xs. pure (x ∷ xs))
    (λ x. repeat_at test other times >>= λ xs. pure (x ∷ xs)) shrinks same
    (λ x. made_agree most (repeat_at test item times) (repeat_at test other times) (λ xs. pure (x ∷ xs))
    (repeat_agree most test item other shrinks same times)))

pub repeated_agree : {X : Type 0} (most : ℕ) (test : Lexeme → Bool) (item other : Read X) → Shrinks item
    → Agree most item other → Agree most (repeated_at test item) (repeated_at test other)
repeated_agree most test item other shrinks same ts short =
    repeat_agree most test item other shrinks same (length ts) ts short

pub other_agree : {X : Type 0} (most : ℕ) (test : Lexeme → Bool) (there a b : Read X) → Agree most a b
    → Agree most (choose test there a) (choose test there b)
other_agree most test there a b other ts short = elim (either (begins test ts)) [
  | inl passed ↦ chosen_first test there a ts passed ∙ sym (chosen_first test there b ts passed)
  | inr failed ↦ chosen_other test there a ts failed ∙ (other ts short ∙ sym (chosen_other test there b ts failed))
]
