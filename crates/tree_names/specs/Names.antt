-- Which registers and loops an expression names.
use Rattle.std.specs.Prelude.{◌≡◌, ℕ, Bool, Option, IsTrue}
use Rattle.scev_tree.specs.declared.kind.Kind.{Kind}
use Rattle.scev_tree.specs.declared.kind.Kind.TheVariants as kind
use Rattle.scev_tree.specs.Tree.{Tree, Terms, Factors, Atom, Parts, polynomial, no_terms, term, no_factors, factor}
use Rattle.scev_tree.specs.Tree.{atom, no_parts, part}

-- Each atom in the tree is of a kind of which something holds.
abbrev mutual
  pub HasOnly : (Kind → Type 0) → Tree → Type 0
  HasOnly K (polynomial w terms) = TermsHaveOnly K terms

  pub TermsHaveOnly : (Kind → Type 0) → Terms → Type 0
  TermsHaveOnly K no_terms = Unit {0}
  TermsHaveOnly K (term factors coefficient terms) = FactorsHaveOnly K factors × TermsHaveOnly K terms

  pub FactorsHaveOnly : (Kind → Type 0) → Factors → Type 0
  FactorsHaveOnly K no_factors = Unit {0}
  FactorsHaveOnly K (factor a factors) = AtomHasOnly K a × FactorsHaveOnly K factors

  pub AtomHasOnly : (Kind → Type 0) → Atom → Type 0
  AtomHasOnly K (atom kind w parts) = K kind × PartsHaveOnly K parts

  pub PartsHaveOnly : (Kind → Type 0) → Parts → Type 0
  PartsHaveOnly K no_parts = Unit {0}
  PartsHaveOnly K (part tree parts) = HasOnly K tree × PartsHaveOnly K parts

-- An atom that is neither a register nor a recurrence names nothing, and passes the test.
abbrev pub PassesNameless : (Kind → Bool) → Kind → Type 0
PassesNameless test (kind.Rec loop) = Unit {0}
PassesNameless test (kind.Leaf register home) = Unit {0}
PassesNameless test k = IsTrue (test k)

-- each kind of an atom in the tree passes a test
abbrev pub HasPassing : (Kind → Bool) → Tree → Type 0
HasPassing test tree = HasOnly (λ k. IsTrue (test k)) tree

-- A register holds the same, and a loop is at the same turn.
abbrev pub IsSame : (ℕ → Option ℕ) → (ℕ → Option ℕ) → (ℕ → ℕ) → (ℕ → ℕ) → Kind → Type 0
IsSame held other turns others (kind.Rec loop) = turns loop.0 ≡ others loop.0
IsSame held other turns others (kind.Leaf register home) = held register.0 ≡ other register.0
IsSame held other turns others k = Unit {0}
