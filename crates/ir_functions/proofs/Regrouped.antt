-- Three parts of a sentence in either grouping, and sentences with an empty part.
use Rattle.std.proofs.Common.{List, ◌++◌, refl, sym, ap, ◌∙◌, append_assoc}
use Rattle.ir_text.specs.Tokens.{Lexeme}
use Rattle.ir_text.specs.Language.{Language, ◌·◌}
use Rattle.ir_text.specs.Mentions.{Mention, Mentioning, ◌⊙◌}
use Rattle.ir_body.proofs.Tellers.{then_as}

pub left_parts : {A B C : Language} (ts : List Lexeme) → (A · (B · C)) ts → ((A · B) · C) ts
left_parts ts l = (
  l.0 ++ l.4.0,
  l.4.1,
  l.2 ∙ (ap (λ (vs : List Lexeme). l.0 ++ vs) l.4.2 ∙ sym (append_assoc l.0 l.4.0 l.4.1)),
  (l.0, l.4.0, refl, l.3, l.4.3),
  l.4.4,
)

pub right_parts : {A B C : Language} (ts : List Lexeme) → ((A · B) · C) ts → (A · (B · C)) ts
right_parts ts l = (
  l.3.0,
  l.3.1 ++ l.1,
  l.2 ∙ (ap (λ (us : List Lexeme). us ++ l.1) l.3.2 ∙ append_assoc l.3.0 l.3.1 l.1),
  l.3.3,
  (l.3.1, l.1, refl, l.3.4, l.4),
)

pub left_told : {A B C : Mentioning} (ms : List Mention) (ts : List Lexeme) → (A ⊙ (B ⊙ C)) ms ts
    → ((A ⊙ B) ⊙ C) ms ts
left_told ms ts l =
    let second = l.3.4 in (
      l.0 ++ second.0,
      second.1,
      l.2 ∙ (ap (λ (vs : List Mention). l.0 ++ vs) second.2 ∙ sym (append_assoc l.0 second.0 second.1)),
      (
        l.3.0 ++ second.3.0,
        second.3.1,
        l.3.2 ∙ (ap (λ (vs : List Lexeme). l.3.0 ++ vs) second.3.2 ∙ sym (append_assoc l.3.0 second.3.0 second.3.1)),
        (l.0, second.0, refl, (l.3.0, second.3.0, refl, l.3.3, second.3.3)),
        second.3.4,
      ),
    )

pub right_told : {A B C : Mentioning} (ms : List Mention) (ts : List Lexeme) → ((A ⊙ B) ⊙ C) ms ts
    → (A ⊙ (B ⊙ C)) ms ts
right_told ms ts l =
    let first = l.3.3 in (
      first.0,
      first.1 ++ l.1,
      l.2 ∙ (ap (λ (us : List Mention). us ++ l.1) first.2 ∙ append_assoc first.0 first.1 l.1),
      (
        first.3.0,
        first.3.1 ++ l.3.1,
        l.3.2 ∙ (ap (λ (us : List Lexeme). us ++ l.3.1) first.3.2 ∙ append_assoc first.3.0 first.3.1 l.3.1),
        first.3.3,
        (first.1, l.1, refl, (first.3.1, l.3.1, refl, first.3.4, l.3.4)),
      ),
    )

-- three and four parts before what stands behind them
pub left_three : {A B C R : Mentioning} (ms : List Mention) (ts : List Lexeme) → (A ⊙ (B ⊙ (C ⊙ R))) ms ts
    → ((A ⊙ (B ⊙ C)) ⊙ R) ms ts
left_three {A} {B} {C} {R} ms ts l =
    left_told {A = A} {B = B ⊙ C} {C = R} ms ts
    (then_as {A = A} {B = B ⊙ (C ⊙ R)} {C = (B ⊙ C) ⊙ R} (left_told {A = B} {B = C} {C = R}) ms ts l)

pub right_three : {A B C R : Mentioning} (ms : List Mention) (ts : List Lexeme) → ((A ⊙ (B ⊙ C)) ⊙ R) ms ts
    → (A ⊙ (B ⊙ (C ⊙ R))) ms ts
right_three {A} {B} {C} {R} ms ts l =
    then_as {A = A} {B = (B ⊙ C) ⊙ R} {C = B ⊙ (C ⊙ R)} (right_told {A = B} {B = C} {C = R}) ms ts
    (right_told {A = A} {B = B ⊙ C} {C = R} ms ts l)

pub left_four : {A B C D R : Mentioning} (ms : List Mention) (ts : List Lexeme) → (A ⊙ (B ⊙ (C ⊙ (D ⊙ R)))) ms ts
    → ((A ⊙ (B ⊙ (C ⊙ D))) ⊙ R) ms ts
left_four {A} {B} {C} {D} {R} ms ts l =
    left_told {A = A} {B = B ⊙ (C ⊙ D)} {C = R} ms ts
    (then_as {A = A} {B = B ⊙ (C ⊙ (D ⊙ R))} {C = (B ⊙ (C ⊙ D)) ⊙ R} (left_three {A = B} {B = C} {C = D} {R = R}) ms
    ts l)

pub right_four : {A B C D R : Mentioning} (ms : List Mention) (ts : List Lexeme) → ((A ⊙ (B ⊙ (C ⊙ D))) ⊙ R) ms ts
    → (A ⊙ (B ⊙ (C ⊙ (D ⊙ R)))) ms ts
right_four {A} {B} {C} {D} {R} ms ts l =
    then_as {A = A} {B = (B ⊙ (C ⊙ D)) ⊙ R} {C = B ⊙ (C ⊙ (D ⊙ R))} (right_three {A = B} {B = C} {C = D} {R = R}) ms ts
    (right_told {A = A} {B = B ⊙ (C ⊙ D)} {C = R} ms ts l)

-- what is found in the first part, and in the second
pub found_first : {X : Type 0} {P C : Mentioning} {A : X → Mentioning}
    → ((ms : List Mention) (ts : List Lexeme) → P ms ts → (x : X) × A x ms ts)
    → (ms : List Mention) (ts : List Lexeme) → (P ⊙ C) ms ts → (x : X) × (A x ⊙ C) ms ts
found_first find ms ts l =
    let f = find l.0 l.3.0 l.3.3 in (f.0, (l.0, l.1, l.2, (l.3.0, l.3.1, l.3.2, f.1, l.3.4)))

pub found_then : {X : Type 0} {P C : Mentioning} {A : X → Mentioning}
    → ((ms : List Mention) (ts : List Lexeme) → P ms ts → (x : X) × A x ms ts)
    → (ms : List Mention) (ts : List Lexeme) → (C ⊙ P) ms ts → (x : X) × (C ⊙ A x) ms ts
found_then find ms ts l =
    let f = find l.1 l.3.1 l.3.4 in (f.0, (l.0, l.1, l.2, (l.3.0, l.3.1, l.3.2, l.3.3, f.1)))
