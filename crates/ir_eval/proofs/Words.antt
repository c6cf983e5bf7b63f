-- The words of a text, one after another.
use Rattle.std.proofs.Common.{◌≡◌, ℕ, zero, suc, ◌+◌, ◌<◌, true, false, List, [], ◌∷◌, Some, None, length, get_or, take}
use Rattle.std.proofs.Common.{drop, inl, inr, refl, arith}
use Rattle.std.specs.List.{position, position_or_len}
use Rattle.std.proofs.lemmas.List.Quantifiers.{position-Some}
use Rattle.std.proofs.lemmas.List.Sums.{fails_before_first}
use Rattle.std.proofs.lemmas.Bool.{cases_Bool, cases_lt, lt-ltb}
use Rattle.ir_memory.specs.Memory.{Memory}
use Rattle.ir_eval.specs.Arguments.{parts_between, begun}
use Rattle.ir_eval.specs.Begun.{is_comma}

word_more : (text : List ℕ) (i : ℕ) → i < length text → is_comma (get_or text i 0) ≡ true
    → ((k : ℕ) → k < i → is_comma (get_or text k 0) ≡ false)
    → parts_between text ≡ take i text ∷ parts_between (drop (suc i) text)
word_more [] i within is before = absurd (omega arith)
word_more (c ∷ text) zero within is before = rw is refl
word_more (c ∷ text) (suc i) within is before =
    let rest = word_more text i (omega arith) is (λ k h. before (suc k) (omega arith)) in
    rw (before 0 (omega arith), rest) refl

-- up to the first comma
pub word_before : (text : List ℕ) (i : ℕ) → position is_comma text ≡ Some i
    → parts_between text ≡ take i text ∷ parts_between (drop (i + 1) text)
word_before text i found =
    let at = position-Some is_comma text i 0 found in
    let next : i + 1 ≡ suc i = omega arith in
    rw next (word_more text i at.0 at.1 at.2)

no_comma : (text : List ℕ) → ((k : ℕ) → k < length text → is_comma (get_or text k 0) ≡ false)
    → parts_between text ≡ text ∷ []
no_comma [] none = refl
no_comma (c ∷ text) none =
    let rest = no_comma text (λ k h. none (suc k) (omega arith)) in
    rw (none 0 (omega arith), rest) refl

-- without a comma
pub word_alone : (text : List ℕ) → position is_comma text ≡ None → parts_between text ≡ text ∷ []
word_alone text none =
    elim (cases_lt (position_or_len is_comma text) (length text)) [
      | inl found ↦ let some = rw (lt-ltb (position_or_len is_comma text) (length text) found) at none in cc
      | inr missing ↦ no_comma text (λ k h. fails_before_first is_comma text k 0 (omega arith))
    ]

-- a text has a part
some_part : (text : List ℕ) → (word : List ℕ) × (words : List (List ℕ)) × (parts_between text ≡ word ∷ words)
some_part [] = ([], [], refl)
some_part (c ∷ text) =
    elim (cases_Bool (is_comma c)) [
      | inl is ↦ ([], parts_between text, rw is refl)
      | inr not ↦ let rest = some_part text in (c ∷ rest.0, rest.1, rw (not, rest.2) refl)
    ]

-- No text says no arguments.
pub none_left_over : (memory : Memory) (text : List ℕ) → begun memory [] (parts_between text) ≡ None
none_left_over memory text = rw (some_part text).2 refl
