-- Lists of few items.
use Rattle.std.proofs.Common.{◌≡◌, ◌<◌, ◌≤◌, List, [], ◌∷◌, length, get_or, refl, sym, ap, arith}

pub no_item : {A : Type 0} (xs : List A) → length xs < 1 → xs ≡ []
no_item [] few = refl
no_item (x ∷ xs) few = absurd (omega arith)

pub one_item : {A : Type 0} (xs : List A) (x : A) → 1 ≤ length xs → length xs < 2 → x ≡ get_or xs 0 x → xs ≡ x ∷ []
one_item [] x some few e = absurd (omega arith)
one_item (y ∷ []) x some few e = ap (λ z. z ∷ []) (sym e)
one_item (y ∷ z ∷ xs) x some few e = absurd (omega arith)

-- the only item, read with something in its place
pub item_alone : {A : Type 0} (xs : List A) (d : A) → 1 ≤ length xs → length xs < 2 → xs ≡ get_or xs 0 d ∷ []
item_alone [] d some few = absurd (omega arith)
item_alone (x ∷ []) d some few = refl
item_alone (x ∷ y ∷ xs) d some few = absurd (omega arith)

-- there is none, or one at least
pub some_item : {A : Type 0} (xs : List A) → (length xs ≡ 0 → ⊥) → 1 ≤ length xs
some_item [] some = absurd (some refl)
some_item (x ∷ xs) some = omega arith
