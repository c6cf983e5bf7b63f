-- Minima, maxima and sequential minima as they are formed.
use Rattle.std.specs.Prelude.{ℕ, ◌-◌, ◌^◌, min, max, ◌==◌, Bool, true, false, if◌then◌else◌}
use Rattle.std.specs.Prelude.{List, [], ◌∷◌, ◌++◌, Option, Some, None}
use Rattle.scev_tree.specs.declared.kind.Kind.{Kind}
use Rattle.scev_tree.specs.declared.kind.Kind.TheVariants as kind
use Rattle.scev_tree.specs.Tree.{Tree, Atom, atom, constant, trees_of}
use Rattle.scev_tree.specs.Order.{rank, tree_code, lower}
use Rattle.scev_tree.specs.Value.{signed_max, signed_min}
use Rattle.scev_forms.specs.Outcome.{Outcome, Done}
use Rattle.scev_forms.specs.Gather.{is_zero}
use Rattle.scev_forms.specs.Sums.{same_tree}
use Rattle.scev_forms.specs.Atoms.{number_of, alone, made}

-- the parts of an atom of the kind, and else the tree
abbrev pub flat_parts : Kind → Tree → Option Atom → List Tree
flat_parts k tree (Some (atom inner v parts)) = if rank inner == rank k then trees_of parts else tree ∷ []
flat_parts k tree None = tree ∷ []

abbrev pub flattened : Kind → Tree → List Tree
flattened k tree = flat_parts k tree (alone tree)

-- ---- minima and maxima

-- a kind of minimum or maximum, but of a sequential one
abbrev pub IsMinimum : Kind → Type 0
IsMinimum kind.Smax = Unit {0}
IsMinimum kind.Umax = Unit {0}
IsMinimum kind.Smin = Unit {0}
IsMinimum kind.Umin = Unit {0}
IsMinimum _ = ⊥

-- of two numbers of w bits the one that the kind chooses
abbrev pub chosen : Kind → ℕ → ℕ → ℕ → ℕ
chosen kind.Smax w = signed_max w
chosen kind.Umax w = max
chosen kind.Smin w = signed_min w
chosen _ w = min

-- the number of w bits that never is the one, and the one that always is
abbrev pub neutral : Kind → ℕ → ℕ
neutral kind.Smax w = 2 ^ (w - 1)
neutral kind.Umax w = 0
neutral kind.Smin w = 2 ^ (w - 1) - 1
neutral _ w = 2 ^ w - 1

abbrev pub absorbing : Kind → ℕ → ℕ
absorbing kind.Smax w = 2 ^ (w - 1) - 1
absorbing kind.Umax w = 2 ^ w - 1
absorbing kind.Smin w = 2 ^ (w - 1)
absorbing _ w = 0

-- the one of all numbers among trees, none where there is no number
abbrev pub with_number : Kind → ℕ → Option ℕ → Option ℕ → Option ℕ
with_number k w None found = found
with_number k w (Some n) None = Some n
with_number k w (Some n) (Some m) = Some (chosen k w n m)

abbrev pub numbers_joined : Kind → ℕ → List Tree → Option ℕ
numbers_joined k w [] = None
numbers_joined k w (tree ∷ trees) = with_number k w (number_of tree) (numbers_joined k w trees)

-- the trees with one more, each once and in order
abbrev pub with_tree : Tree → List Tree → List Tree
with_tree tree [] = tree ∷ []
with_tree tree (other ∷ trees) =
    if same_tree tree other then other ∷ trees
    else (if lower (tree_code other) (tree_code tree) then other ∷ with_tree tree trees else tree ∷ other ∷ trees)

-- a tree among others that are no numbers, each once and in order
abbrev pub unless_number : Option ℕ → Tree → List Tree → List Tree
unless_number (Some n) tree trees = trees
unless_number None tree trees = with_tree tree trees

-- the trees that are no numbers, each once and in order
abbrev pub no_numbers : List Tree → List Tree
no_numbers [] = []
no_numbers (tree ∷ trees) = unless_number (number_of tree) tree (no_numbers trees)

-- The parts of a minimum or maximum of w bits, of two trees: without a number that is neutral, unless there is nothing
-- else; the absorbing number is alone.
abbrev pub min_parts_of : Kind → ℕ → Option ℕ → List Tree → List Tree
min_parts_of k w None trees = trees
min_parts_of k w (Some n) [] = constant w n ∷ []
min_parts_of k w (Some n) (tree ∷ trees) =
    if n == absorbing k w then constant w n ∷ []
    else (if n == neutral k w then tree ∷ trees else with_tree (constant w n) (tree ∷ trees))

abbrev pub min_parts : Kind → ℕ → Tree → Tree → List Tree
min_parts k w left right =
    let parts = flattened k left ++ flattened k right in
    min_parts_of k w (numbers_joined k w parts) (no_numbers parts)

-- an atom of these parts, unless it is one part, which is itself
abbrev pub of_parts : Kind → ℕ → List Tree → Outcome Tree
of_parts k w (only ∷ []) = Done only
of_parts k w parts = made k w parts

unfoldable pub tree_minimum : Kind → ℕ → Tree → Tree → Outcome Tree
tree_minimum k w left right = of_parts k w (min_parts k w left right)

-- ---- sequential minima

-- whether a tree is among some
abbrev pub is_among : Tree → List Tree → Bool
is_among tree [] = false
is_among tree (other ∷ trees) = if same_tree tree other then true else is_among tree trees

-- the trees that aren't among those before them, nor among these
abbrev pub first_ones : List Tree → List Tree → List Tree
first_ones before [] = []
first_ones before (tree ∷ trees) =
    if is_among tree before then first_ones before trees else tree ∷ first_ones (tree ∷ before) trees

-- a number before a tree, joined with it where it is a number too
abbrev pub least_before : ℕ → ℕ → Tree → Option ℕ → List Tree → List Tree
least_before w n tree None trees = constant w n ∷ tree ∷ trees
least_before w n tree (Some m) trees = constant w (min n m) ∷ trees

abbrev pub number_before : ℕ → ℕ → List Tree → List Tree
number_before w n [] = constant w n ∷ []
number_before w n (tree ∷ trees) = least_before w n tree (number_of tree) trees

abbrev pub tree_before : ℕ → Tree → Option ℕ → List Tree → List Tree
tree_before w tree None trees = tree ∷ trees
tree_before w tree (Some n) trees = number_before w n trees

-- the trees with neighbouring numbers joined to the least
abbrev pub neighbours_joined : ℕ → List Tree → List Tree
neighbours_joined w [] = []
neighbours_joined w (tree ∷ trees) = tree_before w tree (number_of tree) (neighbours_joined w trees)

-- a first part that is 0 is alone
abbrev pub from_zero : List Tree → List Tree
from_zero [] = []
from_zero (tree ∷ trees) = if is_zero tree then tree ∷ [] else tree ∷ trees

-- the parts of a sequential minimum of two trees: each the first time that it stands there
abbrev pub sequence_parts : ℕ → Tree → Tree → List Tree
sequence_parts w first second =
    from_zero (neighbours_joined w (first_ones [] (flattened kind.Seq first ++ flattened kind.Seq second)))

unfoldable pub tree_sequence : ℕ → Tree → Tree → Outcome Tree
tree_sequence w first second = of_parts kind.Seq w (sequence_parts w first second)
