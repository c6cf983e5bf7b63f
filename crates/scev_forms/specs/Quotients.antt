-- Quotients as they are formed.
use Rattle.std.specs.Prelude.{ℕ, ◌*◌, ◌/◌, ◌^◌, ◌==◌, nat_lt, if◌then◌else◌, [], ◌∷◌, Option, Some, None}
use Rattle.scev_tree.specs.declared.kind.Kind.TheVariants as kind
use Rattle.scev_tree.specs.Tree.{Tree, Atom, atom, part, no_parts, constant}
use Rattle.scev_forms.specs.Outcome.{Outcome, Done}
use Rattle.scev_forms.specs.Atoms.{number_of, alone, made}

-- the quotient of x by m, by n: by their product, and 0 where that is too great
abbrev pub by_both : ℕ → Tree → ℕ → ℕ → Outcome Tree
by_both w x m n =
    if nat_lt (m * n) (2 ^ w) then made kind.Udiv w (x ∷ constant w (m * n) ∷ []) else Done (constant w 0)

-- the quotient of a quotient whose divisor may be a number
abbrev pub of_quotient : ℕ → Tree → Tree → ℕ → Tree → Option ℕ → Outcome Tree
of_quotient w left right n x (Some m) = by_both w x m n
of_quotient w left right n x None = made kind.Udiv w (left ∷ right ∷ [])

-- the quotient of an atom by a number
abbrev pub atom_quotient : ℕ → Tree → Tree → ℕ → Option Atom → Outcome Tree
atom_quotient w left right n (Some (atom kind.Udiv v (part x (part by no_parts)))) =
    of_quotient w left right n x (number_of by)
atom_quotient w left right n _ = made kind.Udiv w (left ∷ right ∷ [])

-- Numbers are divided by one that isn't 0, anything by 1 is itself, and a quotient by a number, by a number, is one
-- quotient.
abbrev pub quotient_by : ℕ → Tree → Tree → Option ℕ → Option ℕ → Outcome Tree
quotient_by w left right m None = made kind.Udiv w (left ∷ right ∷ [])
quotient_by w left right (Some m) (Some n) =
    if n == 0 then made kind.Udiv w (left ∷ right ∷ []) else Done (constant w (m / n))
quotient_by w left right None (Some n) =
    if n == 1 then Done left else atom_quotient w left right n (alone left)

unfoldable pub tree_quotient : ℕ → Tree → Tree → Outcome Tree
tree_quotient w left right = quotient_by w left right (number_of left) (number_of right)
