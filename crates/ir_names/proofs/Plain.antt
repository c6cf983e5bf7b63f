-- Texts with no escape in them.
use Rattle.std.proofs.Common.{◌≡◌, ℕ, zero, suc, ◌-◌, Bool, true, false, cond, ◌||◌, ◌==◌, List, [], ◌∷◌, length, take, drop, Some, None, refl, ap}
use Rattle.std.proofs.lemmas.Option.{none-some}
use Rattle.ir_text.specs.Written.{unescaped}
use Rattle.ir_text.specs.Said.{inner_text}
use Rattle.ir_names.specs.Meant.{has_escape, meant}

neither : (a b : Bool) → (a || b) ≡ false → (a ≡ false) × (b ≡ false)
neither true b e = absurd cc
neither false b e = (refl, e)

plain : (bytes : List ℕ) → has_escape bytes ≡ false → unescaped bytes ≡ bytes
unfolding unescaped
plain [] e = refl
plain (b ∷ []) e = refl
plain (b ∷ c ∷ []) e = let n = neither (b == 92) _ e in rw n.0 refl
plain (b ∷ c ∷ d ∷ bs) e =
    let n = neither (b == 92) _ e in
    let rest : unescaped (c ∷ d ∷ bs) ≡ c ∷ d ∷ bs = plain (c ∷ d ∷ bs) n.1 in
    rw n.0 (ap (λ ys. b ∷ ys) rest)

plain_drop : (n : ℕ) (bytes : List ℕ) → has_escape bytes ≡ false → has_escape (drop n bytes) ≡ false
plain_drop zero bytes e = e
plain_drop (suc n) [] e = e
plain_drop (suc n) (b ∷ bytes) e = plain_drop n bytes (neither (b == 92) _ e).1

plain_take : (n : ℕ) (bytes : List ℕ) → has_escape bytes ≡ false → has_escape (take n bytes) ≡ false
plain_take zero bytes e = refl
plain_take (suc n) [] e = refl
plain_take (suc n) (b ∷ bytes) e = let p = neither (b == 92) _ e in rw (p.0, plain_take n bytes p.1) refl

-- What stands between the quotes means itself.
pub plain_inner : (written : List ℕ) → None ≡ meant written → unescaped (inner_text written) ≡ inner_text written
plain_inner written e = go (has_escape written) refl e
  where
    go : (b : Bool) → has_escape written ≡ b → None ≡ cond b (Some (unescaped (inner_text written))) None
        → unescaped (inner_text written) ≡ inner_text written
    go true has f = absurd (none-some _ f)
    go false has f = plain (inner_text written)
        (plain_take (length written - 2) (drop 1 written) (plain_drop 1 written has))
