-- Readers of several parts: both values, or the one that says something; and what is made of them.
use Rattle.std.proofs.Common.{◌≡◌, List, ◌++◌, refl, sym, ap, subst}
use Rattle.ir_text.specs.Tokens.{Lexeme}
use Rattle.ir_text.specs.Language.{Language, ◌·◌}
use Rattle.ir_parts.specs.Reading.{Read, ◌>>=◌, pure, ◌⊗◌}
use Rattle.ir_parts.proofs.Readers.{StopsAt, IsReader, Anything, of_language, mapped, followed_until, stops_at_all}

-- What ends the second doesn't continue the first.
abbrev pub Ends : {X Y : Type 0} → (X → Lexeme → Type 0) → (Y → List Lexeme → Type 0) → (Y → Lexeme → Type 0) → Type 0
Ends {X} {Y} StopA B StopB = (x : X) (y : Y) (taken rest : List Lexeme) → B y taken → StopsAt (StopB y) rest
    → StopsAt (StopA x) (taken ++ rest)

-- ---- both values

-- What stands behind both continues neither.
pub both_until : {X Y : Type 0} {a : Read X} {b : Read Y} {A : X → Language} {B : Y → Language}
    {StopA : X → Lexeme → Type 0} {StopB : Y → Lexeme → Type 0} (Halt : X × Y → Lexeme → Type 0)
    → IsReader a A StopA → IsReader b B StopB
    → ((x : X) (y : Y) (taken rest : List Lexeme) → B y taken → StopsAt (StopA x) (taken ++ rest)
    → StopsAt (StopB y) rest → StopsAt (Halt (x, y)) rest)
    → ((x : X) (y : Y) (taken rest : List Lexeme) → B y taken → StopsAt (Halt (x, y)) rest
    → StopsAt (StopA x) (taken ++ rest) × StopsAt (StopB y) rest)
    → IsReader (a ⊗ b) (λ p. A p.0 · B p.1) Halt
both_until {X} {Y} {a} {b} {A} {B} {StopA} {StopB} Halt first next halts stopped =
    of_language (λ p. A p.0 · B p.1) there back
    (followed_until (λ x. b >>= λ y. pure (x, y)) With (λ p. StopB p.1) Halt first
    (λ x. mapped (λ y. (x, y)) (λ p. StopB p.1) (λ y t stop. stop) (λ y t stop. stop) next)
    (λ x p taken rest l stops_first stops_next.
    subst (λ (p : X × Y). StopsAt (Halt p) rest) (sym l.1) (halts x l.0 taken rest l.2 stops_first
    (subst (λ (p : X × Y). StopsAt (StopB p.1) rest) l.1 stops_next)))
    (λ x p taken rest l stops.
    let both = stopped x l.0 taken rest l.2 (subst (λ (p : X × Y). StopsAt (Halt p) rest) l.1 stops) in
    (both.0, subst (λ (p : X × Y). StopsAt (StopB p.1) rest) (sym l.1) both.1)))
  where
    With : X → X × Y → List Lexeme → Type 0
    With x p ts = (y : Y) × (p ≡ (x, y)) × B y ts

    there : (p : X × Y) (ts : List Lexeme) → (x : X) × (A x · With x p) ts → (A p.0 · B p.1) ts
    there p ts l = (
      l.1.0,
      l.1.1,
      l.1.2,
      subst (λ (x : X). A x l.1.0) (sym (ap (λ (p : X × Y). p.0) l.1.4.1)) l.1.3,
      subst (λ (y : Y). B y l.1.1) (sym (ap (λ (p : X × Y). p.1) l.1.4.1)) l.1.4.2,
    )

    back : (p : X × Y) (ts : List Lexeme) → (A p.0 · B p.1) ts → (x : X) × (A x · With x p) ts
    back p ts l = (p.0, (l.0, l.1, l.2, l.3, (p.1, refl, l.4)))

-- What ends the second ends both.
pub both_followed : {X Y : Type 0} {a : Read X} {b : Read Y} {A : X → Language} {B : Y → Language}
    {StopA : X → Lexeme → Type 0} {StopB : Y → Lexeme → Type 0}
    → IsReader a A StopA → IsReader b B StopB → Ends StopA B StopB
    → IsReader (a ⊗ b) (λ p. A p.0 · B p.1) (λ p. StopB p.1)
both_followed {X} {Y} {a} {b} {A} {B} {StopA} {StopB} first next ends =
    both_until (λ p. StopB p.1) first next (λ x y taken rest l stops_first stops. stops)
    (λ x y taken rest l stops. (ends x y taken rest l stops, stops))

-- where nothing continues the first
pub both_read_on : {X Y : Type 0} {a : Read X} {b : Read Y} {A : X → Language} {B : Y → Language}
    {StopB : Y → Lexeme → Type 0}
    → IsReader a A Anything → IsReader b B StopB → IsReader (a ⊗ b) (λ p. A p.0 · B p.1) (λ p. StopB p.1)
both_read_on first next = both_followed first next (λ x y taken rest l stops. stops_at_all (taken ++ rest) (λ t. tt))
