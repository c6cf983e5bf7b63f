-- The product of monomials whose factors ascend, factor by factor, as one merge of both lists gives it.
use Rattle.std.proofs.Common.{◌≡◌, true, false, inl, inr, refl, sym, ap, ◌∙◌}
use Rattle.scev_tree.specs.Tree.{Factors, Atom, no_factors, factor}
use Rattle.scev_tree.specs.Order.{lower, atom_code}
use Rattle.scev_tree.specs.Canonical.{with_factor, joined_factors, AreFrom, Ascend}
use Rattle.scev_tree.proofs.Inserted.{first_factor, later_factor, from_lower, from_with_factor}
use Rattle.scev_tree.proofs.Lower.{lower_again, cases_lower}

-- an atom before factors of which none is lower
least_factor : (a : Atom) (f : Factors) → AreFrom a f → with_factor a f ≡ factor a f
least_factor a no_factors h = refl
least_factor a (factor b f) h = first_factor a b f h.0

-- what an atom isn't above of one list and of the other, it isn't above of the product
from_joined : (low : Atom) (f g : Factors) → AreFrom low f → AreFrom low g → AreFrom low (joined_factors f g)
from_joined low no_factors g h h' = h'
from_joined low (factor a f) g h h' = from_with_factor low a (joined_factors f g) h.0 (from_joined low f g h.1 h')

-- the first factor of the left side, where that of the right one isn't lower
pub left_factor : (a : Atom) (f : Factors) (b : Atom) (g : Factors)
    → lower (atom_code b) (atom_code a) ≡ false
    → Ascend (factor a f)
    → Ascend (factor b g)
    → joined_factors (factor a f) (factor b g) ≡ factor a (joined_factors f (factor b g))
left_factor a f b g from h h' =
    least_factor a (joined_factors f (factor b g)) (
    from_joined a f (factor b g) h.0 (from, from_lower a b g from h'.0)
    )

-- an atom that is lower than one is lower than what that isn't above
lower_from : (b a c : Atom)
    → lower (atom_code b) (atom_code a) ≡ true
    → lower (atom_code c) (atom_code a) ≡ false
    → lower (atom_code b) (atom_code c) ≡ true
lower_from b a c below from =
    elim (cases_lower (atom_code a) (atom_code c)) [
      | inl e ↦ ap (lower (atom_code b)) (sym e) ∙ below
      | inr o ↦ elim o [
        | inl less ↦ lower_again (atom_code b) (atom_code a) (atom_code c) below less
        | inr more ↦ absurd cc
      ]
    ]

right_before : (a b : Atom) (f g : Factors)
    → lower (atom_code b) (atom_code a) ≡ true
    → AreFrom a f
    → joined_factors f (factor b g) ≡ factor b (joined_factors f g)
right_before a b no_factors g below h = refl
right_before a b (factor c f) g below h =
    ap (with_factor c) (right_before a b f g below h.1)
    ∙ later_factor c b (joined_factors f g) (lower_from b a c below h.0)

-- the first factor of the right side, where it is lower than that of the left one
pub right_factor : (a : Atom) (f : Factors) (b : Atom) (g : Factors)
    → lower (atom_code b) (atom_code a) ≡ true
    → Ascend (factor a f)
    → joined_factors (factor a f) (factor b g) ≡ factor b (joined_factors (factor a f) g)
right_factor a f b g below h =
    ap (with_factor a) (right_before a b f g below h.0) ∙ later_factor a b (joined_factors f g) below

-- no factors on the right side
pub joined_with_none : (f : Factors) → Ascend f → joined_factors f no_factors ≡ f
joined_with_none no_factors h = refl
joined_with_none (factor a f) h = ap (with_factor a) (joined_with_none f h.1) ∙ least_factor a f h.0
