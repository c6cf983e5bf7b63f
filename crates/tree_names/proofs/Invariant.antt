-- What a tree has only: of less, of two things at once, and what is invariant in a loop as such a thing.
use Rattle.std.specs.Prelude.{ℕ, List, Option}
use Rattle.scev_tree.specs.declared.kind.Kind.{Kind}
use Rattle.scev_tree.specs.Tree.{Tree, Terms, Factors, Atom, Parts, polynomial, no_terms, term, no_factors, factor}
use Rattle.scev_tree.specs.Tree.{atom, no_parts, part}
use Rattle.scev_tree.specs.Invariant.{MovesIn, IsInvariant, TermsAreInvariant, FactorsAreInvariant}
use Rattle.scev_tree.specs.Invariant.{AtomIsInvariant, PartsAreInvariant}
use Rattle.tree_names.specs.Names.{HasOnly, TermsHaveOnly, FactorsHaveOnly, AtomHasOnly, PartsHaveOnly}

-- ---- what follows at each kind follows at each atom

module _ (K M : Kind → Type 0) (more : (k : Kind) → K k → M k) where
  mutual
    pub only_of_stronger : (tree : Tree) → HasOnly K tree → HasOnly M tree
    only_of_stronger (polynomial w ts) h = terms_only_of_stronger ts h

    pub terms_only_of_stronger : (ts : Terms) → TermsHaveOnly K ts → TermsHaveOnly M ts
    terms_only_of_stronger no_terms h = tt
    terms_only_of_stronger (term f n ts) h = (factors_only_of_stronger f h.0, terms_only_of_stronger ts h.1)

    pub factors_only_of_stronger : (f : Factors) → FactorsHaveOnly K f → FactorsHaveOnly M f
    factors_only_of_stronger no_factors h = tt
    factors_only_of_stronger (factor a f) h = (atom_only_of_stronger a h.0, factors_only_of_stronger f h.1)

    pub atom_only_of_stronger : (a : Atom) → AtomHasOnly K a → AtomHasOnly M a
    atom_only_of_stronger (atom k w parts) h = (more k h.0, parts_only_of_stronger parts h.1)

    pub parts_only_of_stronger : (parts : Parts) → PartsHaveOnly K parts → PartsHaveOnly M parts
    parts_only_of_stronger no_parts h = tt
    parts_only_of_stronger (part tree parts) h = (only_of_stronger tree h.0, parts_only_of_stronger parts h.1)

-- ---- what holds of each atom, and another thing too, holds at once

module _ (K M : Kind → Type 0) where
  mutual
    pub only_of_both : (tree : Tree) → HasOnly K tree → HasOnly M tree → HasOnly (λ k. K k × M k) tree
    only_of_both (polynomial w ts) h h' = terms_only_of_both ts h h'

    pub terms_only_of_both : (ts : Terms)
        → TermsHaveOnly K ts
        → TermsHaveOnly M ts
        → TermsHaveOnly (λ k. K k × M k) ts
    terms_only_of_both no_terms h h' = tt
    terms_only_of_both (term f n ts) h h' = (factors_only_of_both f h.0 h'.0, terms_only_of_both ts h.1 h'.1)

    pub factors_only_of_both : (f : Factors)
        → FactorsHaveOnly K f
        → FactorsHaveOnly M f
        → FactorsHaveOnly (λ k. K k × M k) f
    factors_only_of_both no_factors h h' = tt
    factors_only_of_both (factor a f) h h' = (atom_only_of_both a h.0 h'.0, factors_only_of_both f h.1 h'.1)

    pub atom_only_of_both : (a : Atom) → AtomHasOnly K a → AtomHasOnly M a → AtomHasOnly (λ k. K k × M k) a
    atom_only_of_both (atom k w parts) h h' = ((h.0, h'.0), parts_only_of_both parts h.1 h'.1)

    pub parts_only_of_both : (parts : Parts)
        → PartsHaveOnly K parts
        → PartsHaveOnly M parts
        → PartsHaveOnly (λ k. K k × M k) parts
    parts_only_of_both no_parts h h' = tt
    parts_only_of_both (part tree parts) h h' = (only_of_both tree h.0 h'.0, parts_only_of_both parts h.1 h'.1)

-- ---- a tree is invariant in a loop where no kind in it moves there

module _ (parents : List (Option ℕ)) (l : ℕ) where
  -- the kind is of none that moves in the loop
  abbrev pub StaysIn : Kind → Type 0
  StaysIn k = MovesIn parents l k → ⊥

  mutual
    pub stays_of_invariant : (tree : Tree) → IsInvariant parents l tree → HasOnly StaysIn tree
    stays_of_invariant (polynomial w ts) h = terms_stay_of_invariant ts h

    pub terms_stay_of_invariant : (ts : Terms) → TermsAreInvariant parents l ts → TermsHaveOnly StaysIn ts
    terms_stay_of_invariant no_terms h = tt
    terms_stay_of_invariant (term f n ts) h = (factors_stay_of_invariant f h.0, terms_stay_of_invariant ts h.1)

    pub factors_stay_of_invariant : (f : Factors) → FactorsAreInvariant parents l f → FactorsHaveOnly StaysIn f
    factors_stay_of_invariant no_factors h = tt
    factors_stay_of_invariant (factor a f) h = (atom_stays_of_invariant a h.0, factors_stay_of_invariant f h.1)

    pub atom_stays_of_invariant : (a : Atom) → AtomIsInvariant parents l a → AtomHasOnly StaysIn a
    atom_stays_of_invariant (atom k w parts) h = (h.0, parts_stay_of_invariant parts h.1)

    pub parts_stay_of_invariant : (parts : Parts) → PartsAreInvariant parents l parts → PartsHaveOnly StaysIn parts
    parts_stay_of_invariant no_parts h = tt
    parts_stay_of_invariant (part tree parts) h = (stays_of_invariant tree h.0, parts_stay_of_invariant parts h.1)

  mutual
    pub invariant_of_stays : (tree : Tree) → HasOnly StaysIn tree → IsInvariant parents l tree
    invariant_of_stays (polynomial w ts) h = terms_invariant_of_stay ts h

    pub terms_invariant_of_stay : (ts : Terms) → TermsHaveOnly StaysIn ts → TermsAreInvariant parents l ts
    terms_invariant_of_stay no_terms h = tt
    terms_invariant_of_stay (term f n ts) h = (factors_invariant_of_stay f h.0, terms_invariant_of_stay ts h.1)

    pub factors_invariant_of_stay : (f : Factors) → FactorsHaveOnly StaysIn f → FactorsAreInvariant parents l f
    factors_invariant_of_stay no_factors h = tt
    factors_invariant_of_stay (factor a f) h = (atom_invariant_of_stays a h.0, factors_invariant_of_stay f h.1)

    pub atom_invariant_of_stays : (a : Atom) → AtomHasOnly StaysIn a → AtomIsInvariant parents l a
    atom_invariant_of_stays (atom k w parts) h = (h.0, parts_invariant_of_stay parts h.1)

    pub parts_invariant_of_stay : (parts : Parts) → PartsHaveOnly StaysIn parts → PartsAreInvariant parents l parts
    parts_invariant_of_stay no_parts h = tt
    parts_invariant_of_stay (part tree parts) h = (invariant_of_stays tree h.0, parts_invariant_of_stay parts h.1)

-- both ways at once
pub invariant_is_stays : (parents : List (Option ℕ)) (l : ℕ) (tree : Tree)
    → (IsInvariant parents l tree → HasOnly (λ k. MovesIn parents l k → ⊥) tree)
    × (HasOnly (λ k. MovesIn parents l k → ⊥) tree → IsInvariant parents l tree)
invariant_is_stays parents l tree = (stays_of_invariant parents l tree, invariant_of_stays parents l tree)
