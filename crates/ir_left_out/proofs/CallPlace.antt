-- There is one place at which the way back from the end of some tokens stops.
use Rattle.std.proofs.Common.{◌≡◌, ℕ, zero, suc, ◌+◌, ◌<◌, ◌≤◌, List, [], ◌∷◌, ◌++◌, length, take, drop, Some, None, refl, ap, ◌∙◌, add-one, arith, codes}
use Rattle.std.specs.Option.{option_and_then}
use Rattle.ir_text.specs.Tokens.{Lexeme}
use Rattle.ir_text.specs.Listed.{word}
use Rattle.ir_left_out.specs.Begun.{deeper, depth_before}

-- Where it stopped it doesn't go on.
none_before : (ts : List Lexeme) (i j : ℕ) → i ≤ j → depth_before (drop j ts) ≡ None → depth_before (drop i ts) ≡ None
none_before ts zero zero h e = e
none_before [] zero (suc j) h e = absurd cc
none_before (t ∷ ts) zero (suc j) h e =
    ap (option_and_then (λ depth. deeper t.kind t.text depth)) (none_before ts zero j (omega arith) e)
none_before ts (suc i) zero h e = absurd (omega arith)
none_before [] (suc i) (suc j) h e = e
none_before (t ∷ ts) (suc i) (suc j) h e = none_before ts i j (omega arith) e

-- The way back goes on behind a place and stops at it.
pub record StopsAt (ts : List Lexeme) (at : ℕ) : Type 0 where
  pub depth : ℕ
  pub behind : depth_before (drop (suc at) ts) ≡ Some depth
  pub stops : depth_before (drop at ts) ≡ None

-- It doesn't stop twice.
not_before : (ts : List Lexeme) (i j : ℕ) → StopsAt ts i → StopsAt ts j → i < j → ⊥
not_before ts i j first second h =
    let none : depth_before (drop (suc i) ts) ≡ None = none_before ts (suc i) j (omega arith) second.stops in
    let some : depth_before (drop (suc i) ts) ≡ Some first.depth = first.behind in cc

-- So two places at which it stops are one.
pub one_stop : (ts : List Lexeme) (i j : ℕ) → StopsAt ts i → StopsAt ts j → i ≡ j
one_stop ts i j first second =
    let not_first = not_before ts i j first second in
    let not_second = not_before ts j i second first in
    omega arith

-- what stands behind the first tokens
behind_front : (front : List Lexeme) (t : Lexeme) (rest : List Lexeme)
    → (drop (length front) (front ++ t ∷ rest) ≡ t ∷ rest) × (drop (suc (length front)) (front ++ t ∷ rest) ≡ rest)
behind_front [] t rest = (refl, refl)
behind_front (u ∷ front) t rest = behind_front front t rest

-- a `call` outside brackets stops it
call_stops : (rest : List Lexeme) → depth_before rest ≡ Some 0 → depth_before (word (codes "call") ∷ rest) ≡ None
unfolding deeper
call_stops rest e = ap (option_and_then (λ depth. deeper (word (codes "call")).kind (codes "call") depth)) e

-- It stops at a `call` that stands outside brackets.
pub call_there : (ts front rest : List Lexeme) → ts ≡ front ++ word (codes "call") ∷ rest → depth_before rest ≡ Some 0
    → StopsAt ts (length front)
call_there ts front rest parts e =
    let there = behind_front front (word (codes "call")) rest in
    record {
      depth = 0;
      behind = rw (parts, there.1) e;
      stops = rw (parts, there.0) (call_stops rest e);
    }

-- Where it goes on to the first token there is no call.
pub no_call : (ts front rest : List Lexeme) (depth : ℕ) → depth_before (drop 0 ts) ≡ Some depth
    → ts ≡ front ++ word (codes "call") ∷ rest → depth_before rest ≡ Some 0 → ⊥
no_call ts front rest depth some parts e =
    let none : depth_before (drop 0 ts) ≡ None =
    none_before ts 0 (length front) (omega arith) (call_there ts front rest parts e).stops in cc

-- ---- one token further back

-- The token at a place is the same in the tokens up to another place behind it.
between : (ts : List Lexeme) (at end : ℕ) (t : Lexeme) → at < end → drop at ts ≡ t ∷ drop (suc at) ts
    → drop at (take end ts) ≡ t ∷ drop (suc at) (take end ts)
between ts at zero t h e = absurd (omega arith)
between [] zero (suc end) t h e = absurd cc
between (u ∷ ts) zero (suc end) t h e = let same : u ≡ t = cc in ap (λ (t : Lexeme). t ∷ take end ts) same
between [] (suc at) (suc end) t h e = absurd cc
between (u ∷ ts) (suc at) (suc end) t h e = between ts at end t (omega arith) e

-- the same, with the sum as the code has it
pub further : (ts : List Lexeme) (at end : ℕ) (t : Lexeme) → at < end → drop at ts ≡ t ∷ drop (at + 1) ts
    → drop at (take end ts) ≡ t ∷ drop (suc at) (take end ts)
further ts at end t h e =
    between ts at end t h (e ∙ ap (λ (n : ℕ). t ∷ drop n ts) (add-one at))
