-- What is known of the first lexemes, lexeme by lexeme.
use Rattle.std.proofs.Common.{◌≡◌, ℕ, zero, suc, ◌==◌, true, false, Bool, cond, List, [], ◌∷◌, take}
use Rattle.std.proofs.Common.{Option, Some, None, slice_get, refl}
use Rattle.std.specs.Option.{option_and_then, option_map}
use Rattle.std.proofs.Math.Dec.{eqb-zero-suc, eqb-suc-zero, eqb-suc-suc}
use Rattle.std.proofs.lemmas.Option.{none-some, same_Some}

-- One more thing of a list, of which something may be known.
pub known_more : {A B : Type 0} (f : A → Option B) (xs : List A) (at : ℕ) (y : Option B)
    → option_map f (slice_get xs at) ≡ Some y → (q : ℕ)
    → option_and_then f (slice_get (take (suc at) xs) q)
    ≡ cond (at == q) y (option_and_then f (slice_get (take at xs) q))
known_more f [] at y e q = absurd (none-some _ e)
known_more f (x ∷ xs) zero y e zero = same_Some _ _ e
known_more f (x ∷ xs) zero y e (suc q) = rw (eqb-zero-suc q) refl
known_more f (x ∷ xs) (suc at) y e zero = rw (eqb-suc-zero at) refl
known_more f (x ∷ xs) (suc at) y e (suc q) = rw (eqb-suc-suc at q) (known_more f xs at y e q)

either : {B : Type 0} (o : Option B) (b : Bool) → o ≡ cond b o o
either o true = refl
either o false = refl

-- The next thing isn't among the first ones.
pub unknown_next : {A B : Type 0} (f : A → Option B) (xs : List A) (at q : ℕ)
    → option_and_then f (slice_get (take at xs) q) ≡ cond (at == q) None (option_and_then f (slice_get (take at xs) q))
unknown_next f [] zero q = either None (zero == q)
unknown_next f [] (suc at) q = either None (suc at == q)
unknown_next f (x ∷ xs) zero q = either None (zero == q)
unknown_next f (x ∷ xs) (suc at) zero = rw (eqb-suc-zero at) refl
unknown_next f (x ∷ xs) (suc at) (suc q) = rw (eqb-suc-suc at q) (unknown_next f xs at q)
