-- Cases of a switch that are told apart one at a time.
use Rattle.std.proofs.Common.{◌≡◌, ℕ, zero, suc, ◌==◌, ◌&&◌, ◌||◌, not, Bool, true, false, min, List, [], ◌∷◌, ◌++◌}
use Rattle.std.proofs.Common.{map, All, refl, ap, ◌∙◌, arith}
use Rattle.std.specs.List.{list_any, AllByRecursion}
use Rattle.std.proofs.lemmas.Bool.{true≢false}
use Rattle.std.proofs.lemmas.List.{map-append}
use Rattle.std.proofs.lemmas.List.Elements.{recursion_from_All, All-append}
use Rattle.scev_base.specs.Residue.{residue}
use Rattle.ir_model.specs.declared.op.Case.{Case}
use Rattle.ir_rules.specs.Spots.{repeated}
use Rattle.ir_rules.specs.Values.{is_empty}
use Rattle.ir_check.proofs.LowBits.{same_low}
use mir.Syntax.{w128}
use mir.Val.{SFits}

abbrev pub Fit : Case → Type 0
Fit one = SFits w128 one.number

-- no two cases of a list are one at a width
abbrev pub differ_at : ℕ → List Case → Bool
differ_at w cases = is_empty (repeated (λ m n. m == n) [] (map (λ (one : Case). residue w one.number) cases))

-- numbers that are told apart, of which some stand before
abbrev apart : List ℕ → List ℕ → Bool
apart before xs = is_empty (repeated (λ m n. m == n) before xs)

-- the test of one more number, as it moves from the rest to those before
moved : (b p q r : Bool) → (b && not ((p || q) || r)) ≡ (b && not (q || (p || r)))
moved false p q r = refl
moved true true true r = refl
moved true true false r = refl
moved true false q r = refl

-- one more number
repeated_more : (before xs : List ℕ) (x : ℕ) → apart before (xs ++ x ∷ [])
    ≡ (apart before xs && not (list_any (λ n. x == n) before || list_any (λ n. x == n) xs))
repeated_more before [] x = go (list_any (λ n. x == n) before) refl
  where
    go : (b : Bool) → list_any (λ n. x == n) before ≡ b
        → apart before (x ∷ []) ≡ not (list_any (λ n. x == n) before || false)
    go true e = rw e refl
    go false e = rw e refl
repeated_more before (y ∷ xs) x = go (list_any (λ n. y == n) before) refl (repeated_more (y ∷ before) xs x)
  where
    go : (b : Bool) → list_any (λ n. y == n) before ≡ b
        → apart (y ∷ before) (xs ++ x ∷ [])
        ≡ (apart (y ∷ before) xs && not (((x == y) || list_any (λ n. x == n) before) || list_any (λ n. x == n) xs))
        → apart before (y ∷ xs ++ x ∷ [])
        ≡ (apart before (y ∷ xs) && not (list_any (λ n. x == n) before || ((x == y) || list_any (λ n. x == n) xs)))
    go true e rest = rw e refl
    go false e rest = rw e (rest
        ∙ moved (apart (y ∷ before) xs) (x == y) (list_any (λ n. x == n) before) (list_any (λ n. x == n) xs))

-- numbers behind a repeated one
repeated_behind : (before xs ys : List ℕ) → apart before xs ≡ false → apart before (xs ++ ys) ≡ false
repeated_behind before [] ys e = absurd (true≢false e)
repeated_behind before (x ∷ xs) ys e =
    go (list_any (λ n. x == n) before) refl e (repeated_behind (x ∷ before) xs ys)
  where
    go : (b : Bool) → list_any (λ n. x == n) before ≡ b → apart before (x ∷ xs) ≡ false
        → (apart (x ∷ before) xs ≡ false → apart (x ∷ before) (xs ++ ys) ≡ false)
        → apart before (x ∷ xs ++ ys) ≡ false
    go true e f rest = rw e refl
    go false e f rest = rw e (rest (rw e at f))

-- Among cases, a case is found by its lowest bits.
found : (w : ℕ) (cases : List Case) (one : Case) → AllByRecursion Fit cases → Fit one
    → list_any (λ n. residue (min w 128) one.number == n) (map (λ (c : Case). residue (min w 128) c.number) cases)
    ≡ list_any (λ n. residue w one.number == n) (map (λ (c : Case). residue w c.number) cases)
found w [] one fit also = refl
found w (c ∷ cases) one fit also =
    rw (same_low w one.number c.number also fit.0, found w cases one fit.1 also) refl

-- One more case.
pub differ_more : (w : ℕ) (cases : List Case) (one : Case) → All Fit cases → Fit one
    → differ_at w cases ≡ true
    → differ_at w (cases ++ one ∷ [])
    ≡ not (list_any (λ n. residue (min w 128) one.number == n) (map (λ (c : Case). residue (min w 128) c.number) cases))
differ_more w cases one fit also apart_before =
    rw (
      map-append (λ (c : Case). residue w c.number) cases (one ∷ []),
      repeated_more [] (map (λ (c : Case). residue w c.number) cases) (residue w one.number),
      apart_before,
      found w cases one (recursion_from_All Fit cases fit) also,
    ) refl

pub differ_behind : (w : ℕ) (cases more : List Case) → differ_at w cases ≡ false → differ_at w (cases ++ more) ≡ false
differ_behind w cases more e =
    rw (map-append (λ (c : Case). residue w c.number) cases more)
    (repeated_behind [] (map (λ (c : Case). residue w c.number) cases) (map (λ (c : Case). residue w c.number) more) e)

-- the lowest bits of cases, and cases of which no two are one
abbrev pub all_bits : ℕ → List Case → List ℕ
all_bits w cases = map (λ (one : Case). residue (min w 128) one.number) cases

pub record AreSeen (w : ℕ) (cases : List Case) (keys : List ℕ) : Type 0 where
  pub held : keys ≡ all_bits w cases
  pub fit : All Fit cases
  pub apart : differ_at w cases ≡ true

all_one : (one : Case) → Fit one → All Fit (one ∷ [])
all_one one fit zero d below = fit
all_one one fit (suc k) d below = absurd (omega arith)

pub seen_none : (w : ℕ) → AreSeen w [] []
seen_none w = record { held = refl; fit = λ k d below. absurd (omega (arith, below)); apart = refl }

pub seen_more : (w : ℕ) (cases : List Case) (keys : List ℕ) (one : Case) (bits : ℕ)
    → AreSeen w cases keys → Fit one
    → bits ≡ residue (min w 128) one.number
    → list_any (λ n. bits == n) keys ≡ false
    → AreSeen w (cases ++ one ∷ []) (keys ++ bits ∷ [])
seen_more w cases keys one bits seen fit is new = record {
  held = rw (map-append (λ (one : Case). residue (min w 128) one.number) cases (one ∷ []), seen.held, is) refl;
  fit = All-append Fit cases (one ∷ []) seen.fit (all_one one fit);
  apart = differ_more w cases one seen.fit fit seen.apart ∙ ap not (rw (is, seen.held) at new);
}

pub seen_twice : (w : ℕ) (cases more : List Case) (keys : List ℕ) (one : Case) (bits : ℕ)
    → AreSeen w cases keys → Fit one
    → bits ≡ residue (min w 128) one.number
    → list_any (λ n. bits == n) keys ≡ true
    → differ_at w ((cases ++ one ∷ []) ++ more) ≡ false
seen_twice w cases more keys one bits seen fit is known =
    differ_behind w (cases ++ one ∷ []) more
    (differ_more w cases one seen.fit fit seen.apart ∙ ap not (rw (is, seen.held) at known))
