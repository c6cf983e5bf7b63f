-- The first limit that is told of a tree is the one that it is above.
use Rattle.std.proofs.Common.{suc, Bool, true, false, nat_lt, if◌then◌else◌, Some, None, refl}
use Rattle.std.specs.Bool.{Decides}
use Rattle.std.proofs.lemmas.Bool.{false≢true}
use Rattle.std.proofs.lemmas.Bool.Decides.{Decides-or, Decides-ltb}
use Rattle.scev_base.specs.declared.limits.TheConstants.{MONOMIALS, FACTORS, DEGREE, DEPTH, NODES}
use Rattle.scev_tree.specs.declared.kind.Kind.{Kind}
use Rattle.scev_tree.specs.declared.kind.Kind.TheVariants as kind
use Rattle.scev_tree.specs.Tree.{Tree, Terms, Factors, Atom, Parts, polynomial, no_terms, term, no_factors, factor}
use Rattle.scev_tree.specs.Tree.{atom, no_parts, part}
use Rattle.scev_tree.specs.Order.{count_terms, count_factors, count_parts}
use Rattle.scev_tree.specs.Size.{depth, nodes, HasLongMonomial, AreWide, IsHigh, IsTooWide, IsTooHigh, IsTooDeep}
use Rattle.scev_tree.specs.Size.{TermsAreTooWide, FactorsAreTooWide, AtomIsTooWide, PartsAreTooWide}
use Rattle.scev_tree.specs.Size.{TermsAreTooHigh, FactorsAreTooHigh, AtomIsTooHigh, PartsAreTooHigh}
use Rattle.scev_arena.specs.declared.limit.Limit.TheVariants.{TooWide, TooHigh, TooDeep}
use Rattle.scev_arena.specs.Limits.{is_in_terms, is_in_factors, is_in_atom, is_in_parts, has_long_monomial, are_wide}
use Rattle.scev_arena.specs.Limits.{is_high, is_too_wide, is_too_high, is_too_deep, first_limit, IsFirstLimit}

-- what never holds is told never to
never : Decides false ⊥
never = (λ h. false≢true h, λ h. absurd h)

-- ---- too wide

long_told : (ts : Terms) → Decides (has_long_monomial ts) (HasLongMonomial ts)
long_told no_terms = never
long_told (term f n ts) =
    Decides-or (nat_lt FACTORS (count_factors f)) (has_long_monomial ts)
    (Decides-ltb FACTORS (count_factors f)) (long_told ts)

wide_told : (ts : Terms) → Decides (are_wide ts) (AreWide ts)
wide_told ts =
    Decides-or (nat_lt MONOMIALS (count_terms ts)) (has_long_monomial ts)
    (Decides-ltb MONOMIALS (count_terms ts)) (long_told ts)

-- no atom is too wide by itself
abbrev none_wide : Kind → Parts → Bool
none_wide kind parts = false

mutual
  tree_wide : (tree : Tree) → Decides (is_too_wide tree) (IsTooWide tree)
  tree_wide (polynomial w ts) =
      Decides-or (are_wide ts) (is_in_terms are_wide none_wide ts) (wide_told ts) (terms_wide ts)

  terms_wide : (ts : Terms) → Decides (is_in_terms are_wide none_wide ts) (TermsAreTooWide ts)
  terms_wide no_terms = never
  terms_wide (term f n ts) =
      Decides-or (is_in_factors are_wide none_wide f) (is_in_terms are_wide none_wide ts)
      (factors_wide f) (terms_wide ts)

  factors_wide : (f : Factors) → Decides (is_in_factors are_wide none_wide f) (FactorsAreTooWide f)
  factors_wide no_factors = never
  factors_wide (factor a f) =
      Decides-or (is_in_atom are_wide none_wide a) (is_in_factors are_wide none_wide f) (atom_wide a) (factors_wide f)

  atom_wide : (a : Atom) → Decides (is_in_atom are_wide none_wide a) (AtomIsTooWide a)
  atom_wide (atom k w parts) = parts_wide parts

  parts_wide : (parts : Parts) → Decides (is_in_parts are_wide none_wide parts) (PartsAreTooWide parts)
  parts_wide no_parts = never
  parts_wide (part tree parts) =
      Decides-or (is_too_wide tree) (is_in_parts are_wide none_wide parts) (tree_wide tree) (parts_wide parts)

-- ---- too high

high_told : (k : Kind) (parts : Parts) → Decides (is_high k parts) (IsHigh k parts)
high_told (kind.Rec loop) parts = Decides-ltb (suc DEGREE) (count_parts parts)
high_told _ parts = never

-- no polynomial is too high by itself
abbrev none_high : Terms → Bool
none_high ts = false

mutual
  tree_high : (tree : Tree) → Decides (is_too_high tree) (IsTooHigh tree)
  tree_high (polynomial w ts) = terms_high ts

  terms_high : (ts : Terms) → Decides (is_in_terms none_high is_high ts) (TermsAreTooHigh ts)
  terms_high no_terms = never
  terms_high (term f n ts) =
      Decides-or (is_in_factors none_high is_high f) (is_in_terms none_high is_high ts)
      (factors_high f) (terms_high ts)

  factors_high : (f : Factors) → Decides (is_in_factors none_high is_high f) (FactorsAreTooHigh f)
  factors_high no_factors = never
  factors_high (factor a f) =
      Decides-or (is_in_atom none_high is_high a) (is_in_factors none_high is_high f) (atom_high a) (factors_high f)

  atom_high : (a : Atom) → Decides (is_in_atom none_high is_high a) (AtomIsTooHigh a)
  atom_high (atom k w parts) =
      Decides-or (is_high k parts) (is_in_parts none_high is_high parts) (high_told k parts) (parts_high parts)

  parts_high : (parts : Parts) → Decides (is_in_parts none_high is_high parts) (PartsAreTooHigh parts)
  parts_high no_parts = never
  parts_high (part tree parts) =
      Decides-or (is_too_high tree) (is_in_parts none_high is_high parts) (tree_high tree) (parts_high parts)

-- ---- the first limit

tree_deep : (tree : Tree) → Decides (is_too_deep tree) (IsTooDeep tree)
tree_deep tree =
    Decides-or (nat_lt DEPTH (depth tree)) (nat_lt NODES (nodes tree))
    (Decides-ltb DEPTH (depth tree)) (Decides-ltb NODES (nodes tree))

-- what a test that fails decides doesn't hold
not_told : (P : Type 0) → Decides false P → P → ⊥
not_told P decides h = false≢true (decides.1 h)

first_told : (tree : Tree) (wide high deep : Bool)
    → Decides wide (IsTooWide tree)
    → Decides high (IsTooHigh tree)
    → Decides deep (IsTooDeep tree)
    → IsFirstLimit tree
    (if wide then Some TooWide else (if high then Some TooHigh else (if deep then Some TooDeep else None)))
first_told tree true high deep is_wide is_high is_deep = is_wide.0 refl
first_told tree false true deep is_wide is_high is_deep = (not_told (IsTooWide tree) is_wide, is_high.0 refl)
first_told tree false false true is_wide is_high is_deep =
    (not_told (IsTooWide tree) is_wide, not_told (IsTooHigh tree) is_high, is_deep.0 refl)
first_told tree false false false is_wide is_high is_deep = (
  not_told (IsTooWide tree) is_wide,
  not_told (IsTooHigh tree) is_high,
  not_told (IsTooDeep tree) is_deep,
)

-- The first limit that is told of a tree is the one that it is above, and it is above none before that.
pub limits_told : (tree : Tree) → IsFirstLimit tree (first_limit tree)
limits_told tree =
    first_told tree (is_too_wide tree) (is_too_high tree) (is_too_deep tree) (tree_wide tree) (tree_high tree)
    (tree_deep tree)
