-- The first place of what passes a test, as a list grows at its end, and what stands there.
use Rattle.std.proofs.Common.{arith, ◌≡◌, ℕ, suc, Bool, true, false, cond, List, [], ◌∷◌, ◌++◌, length, Option, Some}
use Rattle.std.proofs.Common.{None, option_map, position, slice_get, find, if◌then◌else◌, refl}
use Rattle.std.specs.Option.{option_or}
use Rattle.std.proofs.lemmas.Grind.{common_steps}

pub position_cons : {X : Type 0} (p : X → Bool) (x : X) (xs : List X)
    → position p (x ∷ xs) ≡ cond (p x) (Some 0) (option_map suc (position p xs))
position_cons p x xs = grind (arith, common_steps)

-- the first place in a list and one more thing
pub position_push : {X : Type 0} (p : X → Bool) (xs : List X) (x : X)
    → position p (xs ++ x ∷ []) ≡ option_or (position p xs) (if p x then Some (length xs) else None)
position_push p [] x = rw (position_cons p x []) (one (p x))
  where
    one : (b : Bool) → cond b (Some 0) (option_map suc None) ≡ (if b then Some 0 else None)
    one true = refl
    one false = refl
position_push p (y ∷ ys) x =
    rw (position_cons p y (ys ++ x ∷ []), position_cons p y ys, position_push p ys x)
    (step (p y) (position p ys) (p x))
  where
    step : (b : Bool) (o : Option ℕ) (c : Bool)
        → cond b (Some 0) (option_map suc (option_or o (if c then Some (length ys) else None)))
        ≡ option_or (cond b (Some 0) (option_map suc o)) (if c then Some (suc (length ys)) else None)
    step true o c = refl
    step false (Some i) c = refl
    step false None true = refl
    step false None false = refl

-- what a place gives of a list
abbrev pub found_at : {X : Type 0} → List X → Option ℕ → Option X
found_at xs None = None
found_at xs (Some i) = slice_get xs i

pub find_position : {X : Type 0} (p : X → Bool) (xs : List X) → find p xs ≡ found_at xs (position p xs)
find_position p [] = refl
find_position p (y ∷ ys) = rw (position_cons p y ys, find_cons) (step (p y) (position p ys) (find_position p ys))
  where
    find_cons : find p (y ∷ ys) ≡ cond (p y) (Some y) (find p ys)
    find_cons = grind (arith, common_steps)

    step : (b : Bool) (o : Option ℕ) → find p ys ≡ found_at ys o
        → cond b (Some y) (find p ys) ≡ found_at (y ∷ ys) (cond b (Some 0) (option_map suc o))
    step true o e = refl
    step false None e = e
    step false (Some i) e = e
