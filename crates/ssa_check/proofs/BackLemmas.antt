-- A list from its end back.
use Rattle.std.proofs.Common.{◌≡◌, ◌-◌, ℕ, suc, ◌<◌, ◌≤◌, List, ◌∷◌, length, get_or, drop, sym, ap, ◌∙◌, arith}
use Rattle.std.proofs.Math.Seq.{drop-cons}

-- one more element in front
pub drop_back : {X : Type 0} (xs : List X) (i : ℕ) (x : X) → 0 < i → i ≤ length xs → x ≡ get_or xs (i - 1) x
    → drop (i - 1) xs ≡ x ∷ drop i xs
drop_back {X} xs i x some within is =
    let next : suc (i - 1) ≡ i = omega arith in
    drop-cons xs (i - 1) x (omega arith) ∙ ap (λ (y : X). y ∷ drop (suc (i - 1)) xs) (sym is)
    ∙ ap (λ (k : ℕ). x ∷ drop k xs) next
