-- Which recurrences have a value at a count.
use Rattle.std.proofs.Common.{◌≡◌, ℕ, false, List, [], ◌∷◌, length, map, Option, Some, None, is_some, refl}
use Rattle.scev_base.specs.declared.ids.ExprId.{ExprId}
use Rattle.scev_tree.specs.Tree.{Tree, parts_of}
use Rattle.scev_forms.specs.Turns.{is_countable}

-- none that hasn't two parts, at a count that is no number
pub not_countable : (f : ExprId → Tree) (count : Option ℕ) (ids : List ExprId) → is_some count ≡ false
    → (length ids ≡ 2 → ⊥)
    → is_countable count (parts_of (map f ids)) ≡ false
not_countable f (Some n) ids none other = absurd (cc)
not_countable f None [] none other = refl
not_countable f None (first ∷ []) none other = refl
not_countable f None (first ∷ second ∷ []) none other = absurd (other refl)
not_countable f None (first ∷ second ∷ third ∷ ids) none other = refl
