-- The value of a tree at a turn of a loop, as a tree.
use Rattle.std.specs.Prelude.{ℕ, suc, nat_lt, ◌==◌, Bool, true, false, ◌&&◌, not, if◌then◌else◌}
use Rattle.std.specs.Prelude.{List, [], ◌∷◌, Option, Some, None, is_some}
use Rattle.binomial_eval.specs.Choose.{choose}
use Rattle.scev_tree.specs.declared.kind.Kind.{Kind}
use Rattle.scev_tree.specs.declared.kind.Kind.TheVariants as kind
use Rattle.scev_tree.specs.Tree.{Tree, Terms, Factors, Atom, Parts, polynomial, no_terms, term, no_factors, factor}
use Rattle.scev_tree.specs.Tree.{atom, no_parts, part, constant, of_atom, width_of, trees_of, parts_of}
use Rattle.scev_arena.specs.Limits.{is_in}
use Rattle.scev_forms.specs.Outcome.{Outcome, Done, next}
use Rattle.scev_forms.specs.Gather.{stands_in}
use Rattle.scev_forms.specs.Sums.{tree_sum, tree_product, recurrence_of}
use Rattle.scev_forms.specs.Atoms.{number_of}
use Rattle.scev_forms.specs.Casts.{truncated, extended}
use Rattle.scev_forms.specs.Quotients.{tree_quotient}
use Rattle.scev_forms.specs.Minima.{tree_minimum, tree_sequence}

-- ---- where there is one

-- A recurrence with these parts has a value at a count that is a number, and at any other where it has two parts and the
-- second is a number.
abbrev pub is_countable : Option ℕ → Parts → Bool
is_countable (Some n) parts = true
is_countable None (part first (part step no_parts)) = is_some (number_of step)
is_countable None _ = false

-- whether an atom of its own keeps a tree from having a value at the count: a register that is defined in the loop, or a
-- recurrence of the loop without one
abbrev pub hinders : List (Option ℕ) → ℕ → Tree → Kind → Parts → Bool
hinders parents l count (kind.Rec loop) parts = (loop.0 == l) && not (is_countable (number_of count) parts)
hinders parents l count (kind.Leaf register (Some loop)) parts = stands_in parents l loop.0
hinders parents l count _ parts = false

abbrev pub is_hindered : List (Option ℕ) → ℕ → Tree → Tree → Bool
is_hindered parents l count tree = is_in (λ terms. false) (hinders parents l count) tree

-- ---- a recurrence

-- The sum so far, and further parts from a place on, each times the binomial coefficient of the number at its place.
unfoldable pub counted_parts : List (Option ℕ) → ℕ → ℕ → ℕ → List Tree → Tree → Outcome Tree
counted_parts parents w n at [] sum = Done sum
counted_parts parents w n at (tree ∷ trees) sum =
    if nat_lt n at then Done sum
    else next (tree_product parents w tree (constant w (choose n at))) (λ product.
    next (tree_sum parents w sum product) (λ more. counted_parts parents w n (suc at) trees more))

-- the count at w bits: its lowest ones, or extended without sign
abbrev pub fitted : List (Option ℕ) → ℕ → Tree → Outcome Tree
fitted parents w count =
    if nat_lt (width_of count) w then extended kind.Zext w count else truncated parents w count

-- the start, and the step times the count
abbrev pub counted_affine : List (Option ℕ) → ℕ → Tree → Tree → List Tree → Outcome Tree
counted_affine parents w count first (step ∷ []) =
    next (fitted parents w count) (λ turns.
    next (tree_product parents w step turns) (λ product. tree_sum parents w first product))
counted_affine parents w count first _ = Done first

abbrev pub counted_by : List (Option ℕ) → ℕ → Tree → Tree → List Tree → Option ℕ → Outcome Tree
counted_by parents w count first others (Some n) = counted_parts parents w n 1 others first
counted_by parents w count first others None = counted_affine parents w count first others

-- The value of a recurrence at the count: where that is a number, the sum of its parts, each times a binomial
-- coefficient; and else its start and its step times the count.
unfoldable pub counted : List (Option ℕ) → ℕ → Tree → List Tree → Outcome Tree
counted parents w count [] = Done (constant w 0)
counted parents w count (first ∷ others) = counted_by parents w count first others (number_of count)

-- ---- a tree

-- a minimum or a maximum of several from the left
unfoldable pub minimum_of_all : Kind → ℕ → Tree → List Tree → Outcome Tree
minimum_of_all k w tree [] = Done tree
minimum_of_all k w tree (other ∷ trees) =
    next (tree_minimum k w tree other) (λ more. minimum_of_all k w more trees)

unfoldable pub sequence_of_all : ℕ → Tree → List Tree → Outcome Tree
sequence_of_all w tree [] = Done tree
sequence_of_all w tree (other ∷ trees) =
    next (tree_sequence w tree other) (λ more. sequence_of_all w more trees)

-- an atom of a kind is formed anew of its parts; a kind that hasn't such parts is the atom itself
unfoldable pub reformed : List (Option ℕ) → ℕ → Kind → List Tree → Outcome Tree
reformed parents w kind.Trunc (tree ∷ []) = truncated parents w tree
reformed parents w kind.Zext (tree ∷ []) = extended kind.Zext w tree
reformed parents w kind.Sext (tree ∷ []) = extended kind.Sext w tree
reformed parents w kind.Udiv (left ∷ right ∷ []) = tree_quotient w left right
reformed parents w kind.Smax (first ∷ trees) = minimum_of_all kind.Smax w first trees
reformed parents w kind.Umax (first ∷ trees) = minimum_of_all kind.Umax w first trees
reformed parents w kind.Smin (first ∷ trees) = minimum_of_all kind.Smin w first trees
reformed parents w kind.Umin (first ∷ trees) = minimum_of_all kind.Umin w first trees
reformed parents w kind.Seq (first ∷ trees) = sequence_of_all w first trees
reformed parents w (kind.Rec loop) trees = recurrence_of w loop.0 trees
reformed parents w k trees = Done (of_atom w (atom k w (parts_of trees)))

-- a recurrence of the loop becomes its value at the count, and any other atom is formed anew of its parts at the count
abbrev pub atom_by_parts : List (Option ℕ) → ℕ → Tree → ℕ → Kind → Parts → Outcome (List Tree) → Outcome Tree
atom_by_parts parents l count w (kind.Rec loop) parts trees =
    if loop.0 == l then counted parents w count (trees_of parts)
    else next trees (reformed parents w (kind.Rec loop))
atom_by_parts parents l count w k parts trees = next trees (reformed parents w k)

-- Each recurrence of the loop becomes its value at the count, and the tree is formed anew: each monomial from its
-- coefficient, by one factor after another, and added to the sum so far.
unfoldable mutual
  pub tree_at_turn : List (Option ℕ) → ℕ → Tree → Tree → Outcome Tree
  tree_at_turn parents l count (polynomial w terms) = terms_at_turn parents l count w terms (constant w 0)

  -- further terms, added to the sum so far
  pub terms_at_turn : List (Option ℕ) → ℕ → Tree → ℕ → Terms → Tree → Outcome Tree
  terms_at_turn parents l count w no_terms sum = Done sum
  terms_at_turn parents l count w (term factors n terms) sum =
      next (factors_at_turn parents l count w factors (constant w n)) (λ product.
      next (tree_sum parents w sum product) (λ more. terms_at_turn parents l count w terms more))

  -- the product so far, by further factors
  pub factors_at_turn : List (Option ℕ) → ℕ → Tree → ℕ → Factors → Tree → Outcome Tree
  factors_at_turn parents l count w no_factors product = Done product
  factors_at_turn parents l count w (factor a factors) product =
      next (atom_at_turn parents l count a) (λ tree.
      next (tree_product parents w product tree) (λ more. factors_at_turn parents l count w factors more))

  pub atom_at_turn : List (Option ℕ) → ℕ → Tree → Atom → Outcome Tree
  atom_at_turn parents l count (atom k w parts) =
      atom_by_parts parents l count w k parts (parts_at_turn parents l count parts)

  pub parts_at_turn : List (Option ℕ) → ℕ → Tree → Parts → Outcome (List Tree)
  parts_at_turn parents l count no_parts = Done []
  parts_at_turn parents l count (part tree parts) =
      next (tree_at_turn parents l count tree) (λ first.
      next (parts_at_turn parents l count parts) (λ others. Done (first ∷ others)))

-- the value at a turn where it has one
abbrev pub at_turn : List (Option ℕ) → ℕ → Tree → Tree → Option (Outcome Tree)
at_turn parents l count tree =
    if is_hindered parents l count tree then None else Some (tree_at_turn parents l count tree)
