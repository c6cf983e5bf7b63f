-- What doesn't change while a loop runs.
use Rattle.std.specs.Prelude.{ℕ, List, Option, Some}
use Rattle.scev_base.specs.Nest.{Contains}
use Rattle.scev_tree.specs.declared.kind.Kind.{Kind}
use Rattle.scev_tree.specs.declared.kind.Kind.TheVariants as kind
use Rattle.scev_tree.specs.Tree.{Tree, Terms, Factors, Atom, Parts, polynomial, no_terms, term, no_factors, factor}
use Rattle.scev_tree.specs.Tree.{atom, no_parts, part}

-- in a nest of loops, by their parents, an atom of its own is a recurrence of the loop or of one in it, or a register that
-- is defined in it
abbrev pub MovesIn : List (Option ℕ) → ℕ → Kind → Type 0
MovesIn parents l (kind.Rec loop) = Contains parents l loop.0
MovesIn parents l (kind.Leaf register (Some loop)) = Contains parents l loop.0
MovesIn parents l _ = ⊥

-- The tree is invariant in a loop: no atom in it is such a one.
abbrev mutual
  pub IsInvariant : List (Option ℕ) → ℕ → Tree → Type 0
  IsInvariant parents l (polynomial w terms) = TermsAreInvariant parents l terms

  pub TermsAreInvariant : List (Option ℕ) → ℕ → Terms → Type 0
  TermsAreInvariant parents l no_terms = Unit {0}
  TermsAreInvariant parents l (term factors coefficient terms) =
      FactorsAreInvariant parents l factors × TermsAreInvariant parents l terms

  pub FactorsAreInvariant : List (Option ℕ) → ℕ → Factors → Type 0
  FactorsAreInvariant parents l no_factors = Unit {0}
  FactorsAreInvariant parents l (factor a factors) =
      AtomIsInvariant parents l a × FactorsAreInvariant parents l factors

  pub AtomIsInvariant : List (Option ℕ) → ℕ → Atom → Type 0
  AtomIsInvariant parents l (atom kind w parts) = (MovesIn parents l kind → ⊥) × PartsAreInvariant parents l parts

  pub PartsAreInvariant : List (Option ℕ) → ℕ → Parts → Type 0
  PartsAreInvariant parents l no_parts = Unit {0}
  PartsAreInvariant parents l (part tree parts) = IsInvariant parents l tree × PartsAreInvariant parents l parts
