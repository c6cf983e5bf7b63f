-- How expressions of operands give those of values.
use Rattle.std.specs.Prelude.{ℕ, ◌-◌, ◌^◌, ◌==◌, nat_lt, if◌then◌else◌, Bool, false, List, Option, Some, None}
use Rattle.ir_model.specs.declared.op.CastOp.{CastOp}
use Rattle.ir_model.specs.declared.op.CastOp.TheVariants as cast
use Rattle.scev_tree.specs.declared.kind.Kind.TheVariants as kind
use Rattle.scev_tree.specs.Tree.{Tree, constant}
use Rattle.scev_forms.specs.Outcome.{Outcome, Done, Refused, next}
use Rattle.scev_forms.specs.Atoms.{number_of}
use Rattle.scev_forms.specs.Sums.{tree_sum, tree_product}
use Rattle.scev_forms.specs.Casts.{truncated, extended_when}
use Rattle.scev_forms.specs.Quotients.{tree_quotient}
use Rattle.scev_forms.specs.Minima.{tree_minimum}
use Rattle.value_view.specs.declared.given.Pair.{Pair}
use Rattle.value_view.specs.declared.given.Pair.TheVariants as pair

-- the difference is the left one and -1 times the right one
abbrev pub difference : List (Option ℕ) → ℕ → Tree → Tree → Outcome Tree
difference parents w left right =
    next (tree_product parents w (constant w (2 ^ w - 1)) right) (λ product. tree_sum parents w left product)

-- the left one times 2^c, and by it, where c is below w; no expression by any other one
abbrev pub shifted_up : List (Option ℕ) → ℕ → Tree → Option ℕ → Option (Outcome Tree)
shifted_up parents w left None = None
shifted_up parents w left (Some c) =
    if nat_lt c w then Some (tree_product parents w left (constant w (2 ^ c))) else None

abbrev pub shifted_down : List (Option ℕ) → ℕ → Tree → Option ℕ → Option (Outcome Tree)
shifted_down parents w left None = None
shifted_down parents w left (Some c) =
    if nat_lt c w then Some (tree_quotient w left (constant w (2 ^ c))) else None

-- -1 minus the other one, where one is -1; no expression of any others
abbrev pub is_all_ones : ℕ → Option ℕ → Bool
is_all_ones w None = false
is_all_ones w (Some n) = n == 2 ^ w - 1

abbrev pub differing : List (Option ℕ) → ℕ → Tree → Tree → Option (Outcome Tree)
differing parents w left right =
    if is_all_ones w (number_of right) then Some (difference parents w right left) else
    (if is_all_ones w (number_of left) then Some (difference parents w left right) else None)

-- what an operation forms of the expressions of its operands, if it forms any
abbrev pub formed_pair : List (Option ℕ) → ℕ → Pair → Tree → Tree → Option (Outcome Tree)
formed_pair parents w pair.Sum left right = Some (tree_sum parents w left right)
formed_pair parents w pair.Difference left right = Some (difference parents w left right)
formed_pair parents w pair.Product left right = Some (tree_product parents w left right)
formed_pair parents w pair.ShiftedUp left right = shifted_up parents w left (number_of right)
formed_pair parents w pair.ShiftedDown left right = shifted_down parents w left (number_of right)
formed_pair parents w pair.Quotient left right = Some (tree_quotient w left right)
formed_pair parents w pair.Differing left right = differing parents w left right
formed_pair parents w pair.Smax left right = Some (tree_minimum kind.Smax w left right)
formed_pair parents w pair.Umax left right = Some (tree_minimum kind.Umax w left right)
formed_pair parents w pair.Smin left right = Some (tree_minimum kind.Smin w left right)
formed_pair parents w pair.Umin left right = Some (tree_minimum kind.Umin w left right)

-- what a conversion forms of the expression of its operand
abbrev pub formed_cast : List (Option ℕ) → ℕ → CastOp → Bool → Tree → Outcome Tree
formed_cast parents w cast.Zext no_wrap tree = extended_when kind.Zext w no_wrap tree
formed_cast parents w cast.Sext no_wrap tree = extended_when kind.Sext w no_wrap tree
formed_cast parents w cast.Trunc no_wrap tree = truncated parents w tree

-- the expression that was formed, and the value's own name where none was, or where a limit was met
abbrev pub or_leaf : Tree → Outcome Tree → Tree
or_leaf own (Done tree) = tree
or_leaf own (Refused why) = own

abbrev pub formed_or_leaf : Tree → Option (Outcome Tree) → Tree
formed_or_leaf own None = own
formed_or_leaf own (Some outcome) = or_leaf own outcome
