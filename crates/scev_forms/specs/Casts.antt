-- Truncations and extensions as they are formed.
use Rattle.std.specs.Prelude.{ℕ, ◌%◌, ◌^◌, ◌==◌, nat_lt, Bool, if◌then◌else◌, List, [], ◌∷◌, Option, Some, None}
use Rattle.scev_base.specs.Residue.{residue, reading}
use Rattle.scev_tree.specs.declared.kind.Kind.{Kind}
use Rattle.scev_tree.specs.declared.kind.Kind.TheVariants as kind
use Rattle.scev_tree.specs.Tree.{Tree, Terms, Factors, Atom, Parts, polynomial, no_terms, term, no_factors, factor}
use Rattle.scev_tree.specs.Tree.{atom, no_parts, part, constant, of_atom, width_of, trees_of}
use Rattle.scev_forms.specs.Outcome.{Outcome, Done, next}
use Rattle.scev_forms.specs.Sums.{tree_sum, tree_product, recurrence_of}
use Rattle.scev_forms.specs.Atoms.{number_of, alone, made}

-- ---- truncations

-- the lowest w bits of an extended tree, given its own: the same extension of it where it is narrower
abbrev pub of_extended : Kind → ℕ → Tree → Outcome Tree → Outcome Tree
of_extended kind w tree narrowed = if nat_lt (width_of tree) w then made kind w (tree ∷ []) else narrowed

-- The lowest w bits go into coefficients, factors, and the parts of recurrences. Each monomial whose coefficient isn't 0
-- then is formed from its coefficient, by one factor after another, and added to the sum so far.
unfoldable mutual
  pub truncated : List (Option ℕ) → ℕ → Tree → Outcome Tree
  truncated parents w (polynomial v terms) =
      if v == w then Done (polynomial v terms) else truncated_terms parents w terms (constant w 0)

  -- further terms, added to the sum so far
  pub truncated_terms : List (Option ℕ) → ℕ → Terms → Tree → Outcome Tree
  truncated_terms parents w no_terms sum = Done sum
  truncated_terms parents w (term factors n terms) sum =
      if n % 2 ^ w == 0 then truncated_terms parents w terms sum
      else next (truncated_factors parents w factors (constant w n)) (λ product.
      next (tree_sum parents w sum product) (λ more. truncated_terms parents w terms more))

  -- the product so far, by further factors
  pub truncated_factors : List (Option ℕ) → ℕ → Factors → Tree → Outcome Tree
  truncated_factors parents w no_factors product = Done product
  truncated_factors parents w (factor a factors) product =
      next (truncated_atom parents w a) (λ tree.
      next (tree_product parents w product tree) (λ more. truncated_factors parents w factors more))

  -- of a truncation, of an extension, of a recurrence, and of all else
  pub truncated_atom : List (Option ℕ) → ℕ → Atom → Outcome Tree
  truncated_atom parents w (atom kind.Trunc v parts) = made kind.Trunc w (trees_of parts)
  truncated_atom parents w (atom kind.Zext v (part tree no_parts)) =
      of_extended kind.Zext w tree (truncated parents w tree)
  truncated_atom parents w (atom kind.Sext v (part tree no_parts)) =
      of_extended kind.Sext w tree (truncated parents w tree)
  truncated_atom parents w (atom (kind.Rec loop) v parts) =
      next (truncated_parts parents w parts) (λ trees. recurrence_of w loop.0 trees)
  truncated_atom parents w (atom k v parts) = made kind.Trunc w (of_atom v (atom k v parts) ∷ [])

  pub truncated_parts : List (Option ℕ) → ℕ → Parts → Outcome (List Tree)
  truncated_parts parents w no_parts = Done []
  truncated_parts parents w (part tree parts) =
      next (truncated parents w tree) (λ first.
      next (truncated_parts parents w parts) (λ others. Done (first ∷ others)))

-- ---- extensions: `Zext` without sign, `Sext` with it

-- an extension of a number of v bits to w
abbrev pub extended_number : Kind → ℕ → ℕ → ℕ → ℕ
extended_number kind.Sext v w n = residue w (reading v n)
extended_number _ v w n = n

-- A number is extended. An extension of the same extension is one. An extension with sign of one without is one without:
-- what was extended without sign reads as not negative. All else is an atom.
abbrev pub extended_atom : Kind → ℕ → Tree → Option Atom → Outcome Tree
extended_atom kind.Zext w tree (Some (atom kind.Zext v parts)) = made kind.Zext w (trees_of parts)
extended_atom kind.Sext w tree (Some (atom kind.Sext v parts)) = made kind.Sext w (trees_of parts)
extended_atom kind.Sext w tree (Some (atom kind.Zext v parts)) = made kind.Zext w (trees_of parts)
extended_atom k w tree _ = made k w (tree ∷ [])

abbrev pub extended_tree : Kind → ℕ → Tree → Option ℕ → Outcome Tree
extended_tree k w tree (Some n) = Done (constant w (extended_number k (width_of tree) w n))
extended_tree k w tree None = extended_atom k w tree (alone tree)

-- the extension to w bits of a tree, which may be as wide
unfoldable pub extended : Kind → ℕ → Tree → Outcome Tree
extended k w tree = if width_of tree == w then Done tree else extended_tree k w tree (number_of tree)

-- The parts of a recurrence of two parts are extended.
abbrev pub extended_rec : Kind → ℕ → Tree → Option Atom → Outcome Tree
extended_rec k w tree (Some (atom (kind.Rec loop) v (part first (part step no_parts)))) =
    next (extended k w first) (λ start. next (extended k w step) (λ more.
    recurrence_of w loop.0 (start ∷ more ∷ [])))
extended_rec k w tree _ = extended k w tree

-- The same where it may be known that a recurrence of two parts doesn't wrap in that reading.
unfoldable pub extended_when : Kind → ℕ → Bool → Tree → Outcome Tree
extended_when k w no_wrap tree =
    if width_of tree == w then Done tree
    else (if no_wrap then extended_rec k w tree (alone tree) else extended k w tree)
