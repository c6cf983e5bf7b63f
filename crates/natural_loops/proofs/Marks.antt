-- Marked places as a list.
use Rattle.std.proofs.Common.{◌≡◌, ◌↔◌, ℕ, zero, suc, ◌+◌, List, [], ◌∷◌, Bool, true, false, Contains, refl, subst}
use Rattle.std.proofs.Common.{inl, inr, arith}
use Rattle.std.proofs.lemmas.Bool.{false≢true}
use Rattle.flow_graph.specs.Graph.{IsMarked}
use Rattle.ssa_check.proofs.Elements.{contains_none, contains_later, contains_cases}
use Rattle.natural_loops.specs.Table.{marked_from}

-- a marked place is in the list
has_marked : (k : ℕ) (marks : List Bool) (at : ℕ) → IsMarked marks at → Contains (marked_from k marks) (k + at)
has_marked k [] at marked = absurd (false≢true marked)
has_marked k (true ∷ marks) zero marked = (0, omega arith, omega arith)
has_marked k (false ∷ marks) zero marked = absurd (false≢true marked)
has_marked k (true ∷ marks) (suc at) marked =
    let next : suc k + at ≡ k + suc at = omega arith in
    contains_later k (marked_from (suc k) marks) (k + suc at)
    (subst (Contains (marked_from (suc k) marks)) next (has_marked (suc k) marks at marked))
has_marked k (false ∷ marks) (suc at) marked =
    let next : suc k + at ≡ k + suc at = omega arith in
    subst (Contains (marked_from (suc k) marks)) next (has_marked (suc k) marks at marked)

-- what is in the list is a marked place
only_marked : (k : ℕ) (marks : List Bool) (b : ℕ) → Contains (marked_from k marks) b
    → (at : ℕ) × (k + at ≡ b) × IsMarked marks at
only_marked k [] b there = absurd (contains_none b there)
only_marked k (true ∷ marks) b there =
    elim (contains_cases k (marked_from (suc k) marks) b there) [
      | inl e ↦ (0, omega (arith, e), refl)
      | inr later ↦
          let found = only_marked (suc k) marks b later in
          (suc found.0, omega (arith, found.1), found.2)
    ]
only_marked k (false ∷ marks) b there =
    let found = only_marked (suc k) marks b there in
    (suc found.0, omega (arith, found.1), found.2)

-- the list has the marked places, and no others
pub marked_contains : (marks : List Bool) (b : ℕ) → Contains (marked_from 0 marks) b ↔ IsMarked marks b
marked_contains marks b = (
  (λ there.
      let found = only_marked 0 marks b there in
      let same : found.0 ≡ b = omega (arith, found.1) in
      subst (IsMarked marks) same found.2),
  (λ marked.
      let same : 0 + b ≡ b = omega arith in
      subst (Contains (marked_from 0 marks)) same (has_marked 0 marks b marked)),
)
