-- Sums, products and recurrences as they are formed.
use Rattle.std.specs.Prelude.{ℕ, zero, suc, Bool, true, if◌then◌else◌}
use Rattle.std.specs.Prelude.{List, [], ◌∷◌, ◌++◌, length, map, slice_index_or, Option, Some, None}
use Rattle.rec_algebra.specs.declared.plan.PlanStep.{PlanStep}
use Rattle.rec_algebra.specs.declared.plan.PlanStep.TheVariants as step
use Rattle.rec_algebra.specs.Plans.{Plan}
use Rattle.rec_algebra.specs.Forming.{sum_plan, multiple_plan, product_plan}
use Rattle.scev_tree.specs.declared.kind.Kind.TheVariants as kind
use Rattle.scev_tree.specs.Tree.{Tree, Terms, Factors, polynomial, no_terms, term, no_factors, factor}
use Rattle.scev_tree.specs.Tree.{atom, constant, of_atom, parts_of}
use Rattle.scev_tree.specs.Order.{tree_code, same_code}
use Rattle.scev_tree.specs.Canonical.{with_term}
use Rattle.scev_arena.specs.declared.limit.Limit.TheVariants.{TooWide}
use Rattle.scev_arena.specs.Limits.{are_wide}
use Rattle.scev_forms.specs.Outcome.{Outcome, Done, Refused, next, tested}
use Rattle.scev_forms.specs.Polynomials.{terms_of, terms_sum, terms_product}
use Rattle.scev_forms.specs.Gather.{loops_of_terms, deepest, joining, staying, recs_of, rest_of, is_one_rec, trimmed}

-- both trees are one
abbrev pub same_tree : Tree → Tree → Bool
same_tree a b = same_code (tree_code a) (tree_code b)

-- the recurrence of a loop with these parts: one part is itself
abbrev pub recurrence : ℕ → ℕ → List Tree → Tree
recurrence w l [] = constant w 0
recurrence w l (first ∷ []) = first
recurrence w l (first ∷ second ∷ parts) =
    of_atom w (atom (kind.Rec (record { 0 = l })) w (parts_of (first ∷ second ∷ parts)))

-- the parts, once the recurrence that they are has been looked at
abbrev pub tested_parts : ℕ → ℕ → List Tree → Outcome (List Tree)
tested_parts w l parts = next (tested (recurrence w l parts)) (λ tree. Done parts)

-- A recurrence of a loop is made of parts that are invariant in it: those at its end that are 0 go, and it is looked at.
abbrev pub recurrence_of : ℕ → ℕ → List Tree → Outcome Tree
recurrence_of w l parts = tested (recurrence w l (trimmed parts))

-- ---- over a way to form the tree of a polynomial of w bits

-- a polynomial is looked at, and its tree is formed
abbrev pub formed_within : (Terms → Outcome Tree) → Terms → Outcome Tree
formed_within form terms = if are_wide terms then Refused TooWide else form terms

abbrev pub sum_by : (Terms → Outcome Tree) → ℕ → Tree → Tree → Outcome Tree
sum_by form w left right = formed_within form (terms_sum w (terms_of left) (terms_of right))

abbrev pub product_by : (Terms → Outcome Tree) → ℕ → Tree → Tree → Outcome Tree
product_by form w left right = formed_within form (terms_product w (terms_of left) (terms_of right))

-- the tree at a place
abbrev pub at_place : ℕ → List Tree → ℕ → Tree
at_place w places k = slice_index_or places k (constant w 0)

-- what a step of a plan forms of the places so far
abbrev pub step_by : (Terms → Outcome Tree) → ℕ → List Tree → PlanStep → Outcome Tree
step_by form w places (step.Add i j) = sum_by form w (at_place w places i) (at_place w places j)
step_by form w places (step.Mul i j) = product_by form w (at_place w places i) (at_place w places j)

-- The steps of a plan, one after another: what each forms takes the next place.
unfoldable pub places_by : (Terms → Outcome Tree) → ℕ → List PlanStep → List Tree → Outcome (List Tree)
places_by form w [] places = Done places
places_by form w (first ∷ steps) places =
    next (step_by form w places first) (λ tree. places_by form w steps (places ++ tree ∷ []))

-- A plan is carried out over the parts of its operands. Parts at the end that are 0 go, and the recurrence that is left
-- is looked at.
unfoldable pub carried_by : (Terms → Outcome Tree) → ℕ → ℕ → Plan → List Tree → Outcome (List Tree)
carried_by form w l plan operands =
    next (places_by form w plan.steps operands) (λ places.
    tested_parts w l (trimmed (map (at_place w places) plan.results)))

abbrev pub parts_sum : (Terms → Outcome Tree) → ℕ → ℕ → List Tree → List Tree → Outcome (List Tree)
parts_sum form w l left right = carried_by form w l (sum_plan (length left) (length right)) (left ++ right)

abbrev pub parts_product : (Terms → Outcome Tree) → ℕ → ℕ → List Tree → List Tree → Outcome (List Tree)
parts_product form w l left right = carried_by form w l (product_plan (length left) (length right)) (left ++ right)

-- nothing is multiplied by 1
abbrev pub parts_multiple : (Terms → Outcome Tree) → ℕ → ℕ → Tree → List Tree → Outcome (List Tree)
parts_multiple form w l tree parts =
    if same_tree tree (constant w 1) then Done parts
    else carried_by form w l (multiple_plan (length parts)) (tree ∷ parts)

-- the parts so far, times further recurrences of the loop from the left
unfoldable pub parts_times : (Terms → Outcome Tree) → ℕ → ℕ → List Tree → List (List Tree) → Outcome (List Tree)
parts_times form w l parts [] = Done parts
parts_times form w l parts (rec ∷ recs) =
    next (parts_product form w l parts rec) (λ product. parts_times form w l product recs)

-- the tree, times recurrences of the loop
abbrev pub parts_with : (Terms → Outcome Tree) → ℕ → ℕ → Tree → List (List Tree) → Outcome (List Tree)
parts_with form w l tree [] = Done (tree ∷ [])
parts_with form w l tree (rec ∷ recs) = next (parts_times form w l rec recs) (parts_multiple form w l tree)

-- The parts of the recurrence that one monomial becomes. Its coefficient with the factors that are no recurrences of the
-- loop is formed first, then the product of its recurrences from the left, then that with the first. A monomial without
-- a recurrence of the loop has one part.
unfoldable pub monomial_parts : (Terms → Outcome Tree) → ℕ → ℕ → Factors → ℕ → Outcome (List Tree)
monomial_parts form w l factors coefficient =
    next (form (term (rest_of l factors) coefficient no_terms)) (λ rest. parts_with form w l rest (recs_of l factors))

-- the parts so far, with those of further monomials added from the left
unfoldable pub parts_plus : (Terms → Outcome Tree) → ℕ → ℕ → List Tree → Terms → Outcome (List Tree)
parts_plus form w l parts no_terms = Done parts
parts_plus form w l parts (term factors coefficient terms) =
    next (monomial_parts form w l factors coefficient) (λ more.
    next (parts_sum form w l parts more) (λ sum. parts_plus form w l sum terms))

-- The parts of the recurrence of a loop that some monomials become: each becomes one, and they are added.
abbrev pub group_parts : (Terms → Outcome Tree) → ℕ → ℕ → Terms → Outcome (List Tree)
group_parts form w l no_terms = Done []
group_parts form w l (term factors coefficient terms) =
    next (monomial_parts form w l factors coefficient) (λ parts. parts_plus form w l parts terms)

-- ---- the tree of a polynomial

-- what the parts of the group become, beside the monomials that stay: one tree, or a polynomial whose recurrences are
-- gathered again
pub data Gathering : Type 0 where
  Whole : Tree → Gathering
  Again : Terms → Gathering

-- A recurrence stands beside the others. The monomials of a group that falls to one part join the others.
abbrev pub beside : ℕ → ℕ → List Tree → Terms → Gathering
beside w l [] others = Whole (polynomial w others)
beside w l (only ∷ []) no_terms = Whole only
beside w l (only ∷ []) (term factors coefficient others) =
    Again (terms_sum w (terms_of only) (term factors coefficient others))
beside w l (first ∷ second ∷ parts) others = Whole (polynomial w (with_term w
    (factor (atom (kind.Rec (record { 0 = l })) w (parts_of (first ∷ second ∷ parts))) no_factors) 1 others))

-- Whether nothing is to be formed of a group: it is empty, or already one recurrence with the coefficient 1.
abbrev pub is_settled : ℕ → Terms → Bool
is_settled l no_terms = true
is_settled l (term factors coefficient terms) = is_one_rec l (term factors coefficient terms)

-- one step: the monomials that become one recurrence of the loop, beside the others
unfoldable pub gathering : (Terms → Outcome Tree) → List (Option ℕ) → ℕ → ℕ → Terms → Outcome Gathering
gathering form parents w l terms =
    if is_settled l (joining parents l terms) then Done (Whole (polynomial w terms))
    else next (group_parts form w l (joining parents l terms)) (λ parts.
    Done (beside w l parts (staying parents l terms)))

-- the step at the deepest loop of a factor, if there is one
abbrev pub gathering_at : (Terms → Outcome Tree) → List (Option ℕ) → ℕ → Terms → Option ℕ → Outcome Gathering
gathering_at form parents w terms None = Done (Whole (polynomial w terms))
gathering_at form parents w terms (Some l) = gathering form parents w l terms

-- what a step gave is looked at, or goes on, but not where it is the polynomial that stood there before
abbrev pub after_gathering : (Terms → Outcome Tree) → ℕ → Terms → Gathering → Outcome Tree
after_gathering again w terms (Whole tree) = tested tree
after_gathering again w terms (Again more) =
    if same_tree (polynomial w more) (polynomial w terms) then tested (polynomial w terms) else again more

-- The tree of a polynomial: the step is taken, and again on a polynomial that it gives, at most so many times.
unfoldable pub gathered : (Terms → Outcome Tree) → List (Option ℕ) → ℕ → ℕ → Terms → Outcome Tree
gathered form parents w zero terms = tested (polynomial w terms)
gathered form parents w (suc times) terms =
    next (gathering_at form parents w terms (deepest parents (loops_of_terms terms)))
    (after_gathering (gathered form parents w times) w terms)

-- The tree of a polynomial in a nest of loops. Recurrences are formed over trees that are formed one level below, where
-- no recurrence of their loop is left; so there is a level for each loop.
unfoldable pub formed : List (Option ℕ) → ℕ → ℕ → Terms → Outcome Tree
formed parents w zero terms = tested (polynomial w terms)
formed parents w (suc level) terms =
    gathered (formed parents w level) parents w (suc (length parents)) terms

-- ---- sums and products

abbrev pub tree_sum : List (Option ℕ) → ℕ → Tree → Tree → Outcome Tree
tree_sum parents w = sum_by (formed parents w (length parents)) w

abbrev pub tree_product : List (Option ℕ) → ℕ → Tree → Tree → Outcome Tree
tree_product parents w = product_by (formed parents w (length parents)) w
