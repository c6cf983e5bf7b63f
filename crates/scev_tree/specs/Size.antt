-- How deep a tree is, how many nodes it has, and when it is above a limit.
use Rattle.std.specs.Prelude.{ℕ, suc, ◌+◌, ◌<◌, ◌⊎◌, max}
use Rattle.scev_base.specs.declared.limits.TheConstants.{MONOMIALS, FACTORS, DEGREE, DEPTH, NODES}
use Rattle.scev_tree.specs.declared.kind.Kind.{Kind}
use Rattle.scev_tree.specs.declared.kind.Kind.TheVariants as kind
use Rattle.scev_tree.specs.Tree.{Tree, Terms, Factors, Atom, Parts, polynomial, no_terms, term, no_factors, factor}
use Rattle.scev_tree.specs.Tree.{atom, no_parts, part}
use Rattle.scev_tree.specs.Order.{count_terms, count_factors, count_parts}

-- A tree is a level, and its atoms are further ones: a constant has depth 1, the tree of a register depth 2.
abbrev mutual
  pub depth : Tree → ℕ
  depth (polynomial w terms) = suc (terms_depth terms)

  pub terms_depth : Terms → ℕ
  terms_depth no_terms = 0
  terms_depth (term factors coefficient terms) = max (factors_depth factors) (terms_depth terms)

  pub factors_depth : Factors → ℕ
  factors_depth no_factors = 0
  factors_depth (factor a factors) = max (atom_depth a) (factors_depth factors)

  pub atom_depth : Atom → ℕ
  atom_depth (atom kind w parts) = suc (parts_depth parts)

  pub parts_depth : Parts → ℕ
  parts_depth no_parts = 0
  parts_depth (part tree parts) = max (depth tree) (parts_depth parts)

-- A tree counts one and the nodes of each factor of its monomials, an atom one and the nodes of its parts.
abbrev mutual
  pub nodes : Tree → ℕ
  nodes (polynomial w terms) = suc (terms_nodes terms)

  pub terms_nodes : Terms → ℕ
  terms_nodes no_terms = 0
  terms_nodes (term factors coefficient terms) = factors_nodes factors + terms_nodes terms

  pub factors_nodes : Factors → ℕ
  factors_nodes no_factors = 0
  factors_nodes (factor a factors) = atom_nodes a + factors_nodes factors

  pub atom_nodes : Atom → ℕ
  atom_nodes (atom kind w parts) = suc (parts_nodes parts)

  pub parts_nodes : Parts → ℕ
  parts_nodes no_parts = 0
  parts_nodes (part tree parts) = nodes tree + parts_nodes parts

-- some monomial has more factors than the limit
abbrev pub HasLongMonomial : Terms → Type 0
HasLongMonomial no_terms = ⊥
HasLongMonomial (term factors coefficient terms) = (FACTORS < count_factors factors) ⊎ HasLongMonomial terms

-- a polynomial has more monomials than the limit, or one of more factors
abbrev pub AreWide : Terms → Type 0
AreWide terms = (MONOMIALS < count_terms terms) ⊎ HasLongMonomial terms

-- an atom is a recurrence of a degree above the limit: one of degree k has k + 1 parts
abbrev pub IsHigh : Kind → Parts → Type 0
IsHigh (kind.Rec loop) parts = suc DEGREE < count_parts parts
IsHigh _ parts = ⊥

-- the tree, or a tree in it, is a polynomial above the limits
abbrev mutual
  pub IsTooWide : Tree → Type 0
  IsTooWide (polynomial w terms) = AreWide terms ⊎ TermsAreTooWide terms

  pub TermsAreTooWide : Terms → Type 0
  TermsAreTooWide no_terms = ⊥
  TermsAreTooWide (term factors coefficient terms) = FactorsAreTooWide factors ⊎ TermsAreTooWide terms

  pub FactorsAreTooWide : Factors → Type 0
  FactorsAreTooWide no_factors = ⊥
  FactorsAreTooWide (factor a factors) = AtomIsTooWide a ⊎ FactorsAreTooWide factors

  pub AtomIsTooWide : Atom → Type 0
  AtomIsTooWide (atom kind w parts) = PartsAreTooWide parts

  pub PartsAreTooWide : Parts → Type 0
  PartsAreTooWide no_parts = ⊥
  PartsAreTooWide (part tree parts) = IsTooWide tree ⊎ PartsAreTooWide parts

-- a recurrence in the tree is of a degree above the limit
abbrev mutual
  pub IsTooHigh : Tree → Type 0
  IsTooHigh (polynomial w terms) = TermsAreTooHigh terms

  pub TermsAreTooHigh : Terms → Type 0
  TermsAreTooHigh no_terms = ⊥
  TermsAreTooHigh (term factors coefficient terms) = FactorsAreTooHigh factors ⊎ TermsAreTooHigh terms

  pub FactorsAreTooHigh : Factors → Type 0
  FactorsAreTooHigh no_factors = ⊥
  FactorsAreTooHigh (factor a factors) = AtomIsTooHigh a ⊎ FactorsAreTooHigh factors

  pub AtomIsTooHigh : Atom → Type 0
  AtomIsTooHigh (atom kind w parts) = IsHigh kind parts ⊎ PartsAreTooHigh parts

  pub PartsAreTooHigh : Parts → Type 0
  PartsAreTooHigh no_parts = ⊥
  PartsAreTooHigh (part tree parts) = IsTooHigh tree ⊎ PartsAreTooHigh parts

-- the tree is above the limit of depth, or that of nodes
abbrev pub IsTooDeep : Tree → Type 0
IsTooDeep tree = (DEPTH < depth tree) ⊎ (NODES < nodes tree)
