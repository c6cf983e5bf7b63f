-- How pieces that are taken or added one after another join.
use Rattle.std.proofs.Common.{◌≡◌, ℕ, ◌+◌, ◌-◌, ◌≤◌, List, ◌++◌, length, Option, Some, None, take, drop, ap, sym, arith, append_assoc, length-take}
use Rattle.std.proofs.Math.Seq.{take-add}
use Rattle.std.proofs.lemmas.List.{take-append-drop, take_at, take_rest}
use Rattle.scev_outside.specs.Bytes.{Gave, Appended, AppendedFront}

-- two pieces that went one after the other are one piece
pub Gave-append : (old middle new : Option (List ℕ)) (first second : List ℕ) →
    Gave old first middle → Gave middle second new → Gave old (first ++ second) new
Gave-append None None new first second h k = k
Gave-append None (Some _) new first second h k = cc
Gave-append (Some _) None new first second h k = cc
Gave-append (Some bytes) (Some left) new first second h k =
    (k.0, grind (arith, append_assoc, h.1, h.2, k.1), k.2)

-- two pieces that were added one after the other are one piece
pub Appended-append : (old middle new : Option (List ℕ)) (first second : List ℕ) →
    Appended old first middle → Appended middle second new → Appended old (first ++ second) new
Appended-append None None new first second h k = k
Appended-append None (Some _) new first second h k = cc
Appended-append (Some _) None new first second h k = cc
Appended-append (Some bytes) (Some taken) new first second h k = grind (arith, append_assoc, h, k)

-- a longer front was added, in two pieces
pub Appended-take-add : (old middle new : Option (List ℕ)) (n m : ℕ) (text : List ℕ) →
    Appended old (take n text) middle → Appended middle (take m (take (length text - n) (drop n text))) new → Appended old (take (n + m) text) new
Appended-take-add old middle new n m text h k =
    rw take-add
    (Appended-append old middle new (take n text) (take m (drop n text)) h (rw take_rest at k))

-- what was added before a call that added nothing is a front
pub AppendedFront-take : (old middle new : Option (List ℕ)) (n : ℕ) (text : List ℕ) →
    Appended old (take n text) middle → new ≡ middle → AppendedFront old text new
AppendedFront-take old middle new n text h e =
    (take n text, drop n text, sym (take-append-drop n text), rw e h)

-- the front of what was left went into the front of a buffer
pub Gave-filled : (left old new after : List ℕ) (n : ℕ) →
    n ≤ length left → new ≡ take n left ++ drop n old → after ≡ drop n left → Gave (Some left) (take n new) (Some after)
Gave-filled left old new after n within filled stays = (
  drop n left,
  rw (filled, take_at (take n left) (drop n old) n (simp length-take (omega arith)))
      (sym (take-append-drop n left)),
  ap Some stays,
)
