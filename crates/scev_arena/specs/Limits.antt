-- The first limit that a tree is above.
use Rattle.std.specs.Prelude.{suc, nat_lt, Bool, false, ◌||◌, if◌then◌else◌, Option, Some, None}
use Rattle.scev_base.specs.declared.limits.TheConstants.{MONOMIALS, FACTORS, DEGREE, DEPTH, NODES}
use Rattle.scev_tree.specs.declared.kind.Kind.{Kind}
use Rattle.scev_tree.specs.declared.kind.Kind.TheVariants as kind
use Rattle.scev_tree.specs.Tree.{Tree, Terms, Factors, Atom, Parts, polynomial, no_terms, term, no_factors, factor}
use Rattle.scev_tree.specs.Tree.{atom, no_parts, part}
use Rattle.scev_tree.specs.Order.{count_terms, count_factors, count_parts}
use Rattle.scev_tree.specs.Size.{depth, nodes, IsTooWide, IsTooHigh, IsTooDeep}
use Rattle.scev_arena.specs.declared.limit.Limit.{Limit}
use Rattle.scev_arena.specs.declared.limit.Limit.TheVariants.{TooWide, TooHigh, TooDeep}

-- whether a polynomial of some sort, or an atom of some sort, is in a tree
abbrev mutual
  pub is_in : (Terms → Bool) → (Kind → Parts → Bool) → Tree → Bool
  is_in sort kinds (polynomial w terms) = sort terms || is_in_terms sort kinds terms

  pub is_in_terms : (Terms → Bool) → (Kind → Parts → Bool) → Terms → Bool
  is_in_terms sort kinds no_terms = false
  is_in_terms sort kinds (term factors coefficient terms) =
      is_in_factors sort kinds factors || is_in_terms sort kinds terms

  pub is_in_factors : (Terms → Bool) → (Kind → Parts → Bool) → Factors → Bool
  is_in_factors sort kinds no_factors = false
  is_in_factors sort kinds (factor a factors) = is_in_atom sort kinds a || is_in_factors sort kinds factors

  pub is_in_atom : (Terms → Bool) → (Kind → Parts → Bool) → Atom → Bool
  is_in_atom sort kinds (atom kind w parts) = kinds kind parts || is_in_parts sort kinds parts

  pub is_in_parts : (Terms → Bool) → (Kind → Parts → Bool) → Parts → Bool
  is_in_parts sort kinds no_parts = false
  is_in_parts sort kinds (part tree parts) = is_in sort kinds tree || is_in_parts sort kinds parts

-- some monomial has more factors than the limit
abbrev pub has_long_monomial : Terms → Bool
has_long_monomial no_terms = false
has_long_monomial (term factors coefficient terms) = nat_lt FACTORS (count_factors factors) || has_long_monomial terms

-- a polynomial has more monomials than the limit, or one of more factors
abbrev pub are_wide : Terms → Bool
are_wide terms = nat_lt MONOMIALS (count_terms terms) || has_long_monomial terms

-- an atom is a recurrence of a degree above the limit: one of degree k has k + 1 parts
abbrev pub is_high : Kind → Parts → Bool
is_high (kind.Rec loop) parts = nat_lt (suc DEGREE) (count_parts parts)
is_high _ parts = false

abbrev pub is_too_wide : Tree → Bool
is_too_wide tree = is_in are_wide (λ kind parts. false) tree

abbrev pub is_too_high : Tree → Bool
is_too_high tree = is_in (λ terms. false) is_high tree

abbrev pub is_too_deep : Tree → Bool
is_too_deep tree = nat_lt DEPTH (depth tree) || nat_lt NODES (nodes tree)

-- the first limit that the tree is above, none where it is within all of them
abbrev pub first_limit : Tree → Option Limit
first_limit tree =
    if is_too_wide tree then Some TooWide
    else (if is_too_high tree then Some TooHigh
    else (if is_too_deep tree then Some TooDeep else None))

-- the same in words: the tree is above the limit, and above none before it
abbrev pub IsFirstLimit : Tree → Option Limit → Type 0
IsFirstLimit tree (Some TooWide) = IsTooWide tree
IsFirstLimit tree (Some TooHigh) = (IsTooWide tree → ⊥) × IsTooHigh tree
IsFirstLimit tree (Some TooDeep) = (IsTooWide tree → ⊥) × (IsTooHigh tree → ⊥) × IsTooDeep tree
IsFirstLimit tree None = (IsTooWide tree → ⊥) × (IsTooHigh tree → ⊥) × (IsTooDeep tree → ⊥)
