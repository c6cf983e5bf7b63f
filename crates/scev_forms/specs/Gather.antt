-- Which monomials of a polynomial become one recurrence of a loop.
use Rattle.std.specs.Prelude.{ℕ, zero, suc, nat_lt, ◌==◌, Bool, true, false, ◌&&◌, ◌||◌, not}
use Rattle.std.specs.Prelude.{if◌then◌else◌, List, [], ◌∷◌, ◌++◌, length, Option, Some, None, slice_get}
use Rattle.scev_tree.specs.declared.kind.Kind.{Kind}
use Rattle.scev_tree.specs.declared.kind.Kind.TheVariants as kind
use Rattle.scev_tree.specs.Tree.{Tree, Terms, Factors, Atom, Parts, polynomial, no_terms, term, no_factors, factor}
use Rattle.scev_tree.specs.Tree.{atom, trees_of}
use Rattle.scev_arena.specs.Limits.{is_in_atom}

-- ---- loops in a nest, by their parents

-- the loop around a loop
abbrev pub around : Option (Option ℕ) → Option ℕ
around None = None
around (Some parent) = parent

-- how many loops are met on the way out, as far as so many steps lead
abbrev pub steps_out : List (Option ℕ) → ℕ → Option ℕ → ℕ
steps_out parents zero at = 0
steps_out parents (suc most) None = 0
steps_out parents (suc most) (Some l) = suc (steps_out parents most (around (slice_get parents l)))

-- how many loops contain a loop, itself included; a loop that isn't in the nest is in no other
abbrev pub depth_of : List (Option ℕ) → ℕ → ℕ
depth_of parents l = suc (steps_out parents (length parents) (around (slice_get parents l)))

-- whether a loop is met on the way out, within so many steps
abbrev pub is_met : List (Option ℕ) → ℕ → ℕ → Option ℕ → Bool
is_met parents outer zero at = false
is_met parents outer (suc most) None = false
is_met parents outer (suc most) (Some l) = (l == outer) || is_met parents outer most (around (slice_get parents l))

-- whether the inner loop stands in the outer one, or is the same
abbrev pub stands_in : List (Option ℕ) → ℕ → ℕ → Bool
stands_in parents outer inner =
    (inner == outer) || is_met parents outer (length parents) (around (slice_get parents inner))

-- whether an atom of its own changes while the loop runs: a recurrence of the loop or of one in it, or a register that is
-- defined in it
abbrev pub moves : List (Option ℕ) → ℕ → Kind → Parts → Bool
moves parents l (kind.Rec loop) parts = stands_in parents l loop.0
moves parents l (kind.Leaf register (Some loop)) parts = stands_in parents l loop.0
moves parents l _ parts = false

-- whether an atom changes while the loop runs
abbrev pub atom_moves : List (Option ℕ) → ℕ → Atom → Bool
atom_moves parents l a = is_in_atom (λ terms. false) (moves parents l) a

-- ---- the deepest loop

-- the loops whose recurrences are factors
abbrev pub loops_of_factors : Factors → List ℕ
loops_of_factors no_factors = []
loops_of_factors (factor (atom (kind.Rec loop) w parts) factors) = loop.0 ∷ loops_of_factors factors
loops_of_factors (factor (atom _ w parts) factors) = loops_of_factors factors

abbrev pub loops_of_terms : Terms → List ℕ
loops_of_terms no_terms = []
loops_of_terms (term factors coefficient terms) = loops_of_factors factors ++ loops_of_terms terms

-- the deeper one of two loops, and of two of one depth that of the lower number
abbrev pub deeper : List (Option ℕ) → ℕ → ℕ → ℕ
deeper parents l k =
    if nat_lt (depth_of parents k) (depth_of parents l) then l
    else (if nat_lt (depth_of parents l) (depth_of parents k) then k else (if nat_lt k l then k else l))

abbrev pub deeper_of : List (Option ℕ) → ℕ → Option ℕ → ℕ
deeper_of parents l None = l
deeper_of parents l (Some k) = deeper parents l k

-- the deepest loop of some, and of several that of the least number
abbrev pub deepest : List (Option ℕ) → List ℕ → Option ℕ
deepest parents [] = None
deepest parents (l ∷ loops) = Some (deeper_of parents l (deepest parents loops))

-- ---- the monomials that join

abbrev pub is_rec_of : ℕ → Atom → Bool
is_rec_of l (atom (kind.Rec loop) w parts) = loop.0 == l
is_rec_of l (atom _ w parts) = false

-- each factor is a recurrence of the loop, or invariant in it
abbrev pub joins : List (Option ℕ) → ℕ → Factors → Bool
joins parents l no_factors = true
joins parents l (factor a factors) = (is_rec_of l a || not (atom_moves parents l a)) && joins parents l factors

-- the monomials that become one recurrence of the loop
abbrev pub joining : List (Option ℕ) → ℕ → Terms → Terms
joining parents l no_terms = no_terms
joining parents l (term factors coefficient terms) =
    if joins parents l factors then term factors coefficient (joining parents l terms) else joining parents l terms

-- those that stay beside it
abbrev pub staying : List (Option ℕ) → ℕ → Terms → Terms
staying parents l no_terms = no_terms
staying parents l (term factors coefficient terms) =
    if joins parents l factors then staying parents l terms else term factors coefficient (staying parents l terms)

-- the parts of the recurrences of the loop among the factors
abbrev pub recs_of : ℕ → Factors → List (List Tree)
recs_of l no_factors = []
recs_of l (factor (atom k w parts) factors) =
    if is_rec_of l (atom k w parts) then trees_of parts ∷ recs_of l factors else recs_of l factors

-- the factors without them
abbrev pub rest_of : ℕ → Factors → Factors
rest_of l no_factors = no_factors
rest_of l (factor a factors) = if is_rec_of l a then rest_of l factors else factor a (rest_of l factors)

-- whether the terms are one recurrence of the loop, with the coefficient 1
abbrev pub is_one_rec : ℕ → Terms → Bool
is_one_rec l (term (factor a no_factors) coefficient no_terms) = is_rec_of l a && (coefficient == 1)
is_one_rec l _ = false

-- ---- parts at the end that are 0

abbrev pub is_zero : Tree → Bool
is_zero (polynomial w no_terms) = true
is_zero (polynomial w _) = false

abbrev pub before_others : Tree → List Tree → List Tree
before_others tree [] = if is_zero tree then [] else tree ∷ []
before_others tree (other ∷ others) = tree ∷ other ∷ others

-- the trees without those at the end that are 0
abbrev pub without_zeros : List Tree → List Tree
without_zeros [] = []
without_zeros (tree ∷ trees) = before_others tree (without_zeros trees)

-- the parts of a recurrence without those at the end that are 0; the first one stays
abbrev pub trimmed : List Tree → List Tree
trimmed [] = []
trimmed (first ∷ parts) = first ∷ without_zeros parts
