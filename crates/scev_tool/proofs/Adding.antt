-- Texts that are added one after another, where a fault may cut each of them.
use Rattle.std.proofs.Common.{ℕ, List, ◌++◌, Option, Result, Ok, Err, append_assoc, sym, OnOk, OnErr}
use Rattle.scev_outside.specs.Bytes.{Appended, AppendedFront}
use Rattle.scev_outside.proofs.BytesLemmas.{Appended-append}

-- What holds anyway holds on an `Err`.
pub OnErr-from_fact : {T E P : Type 0} (r : Result T E) → P → OnErr r P
OnErr-from_fact (Ok x) p = tt
OnErr-from_fact (Err e) p = p

-- A front of a text is a front of a longer one.
pub AppendedFront-more : (old new : Option (List ℕ)) (text more : List ℕ) → AppendedFront old text new
    → AppendedFront old (text ++ more) new
AppendedFront-more old new text more h = (h.0, h.1 ++ more, rw h.2 (append_assoc h.0 h.1 more), h.3)

-- A text, and a front of the next one.
pub AppendedFront-after : (old middle new : Option (List ℕ)) (text more : List ℕ) → Appended old text middle
    → AppendedFront middle more new → AppendedFront old (text ++ more) new
AppendedFront-after old middle new text more h k =
    (text ++ k.0, k.1, rw k.2 (sym (append_assoc text k.0 k.1)), Appended-append old middle new text k.0 h k.3)

-- The same for what the last call of several says.
pub OnOk-append : {E : Type 0} (r : Result (Unit {0}) E) (old middle new : Option (List ℕ)) (text more : List ℕ)
    → Appended old text middle → OnOk r (Appended middle more new) → OnOk r (Appended old (text ++ more) new)
OnOk-append (Ok x) old middle new text more h k =
    Appended-append old middle new text more h k
OnOk-append (Err e) old middle new text more h k = tt

pub OnErr-after : {E : Type 0} (r : Result (Unit {0}) E) (old middle new : Option (List ℕ)) (text more : List ℕ)
    → Appended old text middle → OnErr r (AppendedFront middle more new)
    → OnErr r (AppendedFront old (text ++ more) new)
OnErr-after (Ok x) old middle new text more h k = tt
OnErr-after (Err e) old middle new text more h k =
    AppendedFront-after old middle new text more h k
