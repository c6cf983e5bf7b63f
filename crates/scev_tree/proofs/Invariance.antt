-- The value of a tree that is invariant in a loop stays as that changes which moves in the loop: the turns of the loop
-- and of those in it, and the numbers of registers that are defined in these.
use Rattle.std.proofs.Common.{◌≡◌, ℕ, List, [], ◌∷◌, Option, Some, refl, ap, ◌∙◌}
use Rattle.scev_base.specs.declared.ids.LoopId.{LoopId}
use Rattle.scev_base.specs.declared.ids.ValueId.{ValueId}
use Rattle.scev_base.specs.Nest.{Contains}
use Rattle.scev_base.specs.Iterated.{iterated}
use Rattle.scev_tree.specs.declared.kind.Kind.{Kind}
use Rattle.scev_tree.specs.declared.kind.Kind.TheVariants as kind
use Rattle.scev_tree.specs.Tree.{Tree, Terms, Factors, Atom, Parts, polynomial, no_terms, term, no_factors, factor}
use Rattle.scev_tree.specs.Tree.{atom, no_parts, part, width_of}
use Rattle.scev_tree.specs.Invariant.{MovesIn, IsInvariant, TermsAreInvariant, FactorsAreInvariant}
use Rattle.scev_tree.specs.Invariant.{AtomIsInvariant, PartsAreInvariant}
use Rattle.scev_tree.specs.Value.{Valued, values, sum, product, kind_value}
use Rattle.scev_tree.specs.Value.{tree_value, terms_value, factors_value, atom_value, parts_values}
use Rattle.scev_tree.proofs.Leaves.{KindLeaf, EachLeaf, TermsLeaves, FactorsLeaves, AtomLeaves, PartsLeaves, each_leaf}

-- Of each register of the tree, P holds. Where P does and the register isn't defined in the loop, both hold one number.
module _ (parents : List (Option ℕ)) (l : ℕ) (P : ValueId → Option LoopId → Type 0)
    (held held' : ℕ → Option ℕ) (turns turns' : ℕ → ℕ)
    (same_turn : (k : ℕ) → (Contains parents l k → ⊥) → turns k ≡ turns' k)
    (same_number : (register : ValueId) (loop : Option LoopId)
    → P register loop
    → (MovesIn parents l (kind.Leaf register loop) → ⊥)
    → held register.0 ≡ held' register.0) where
  -- an atom that doesn't move, of the same parts
  kind_stays : (k : Kind) (w : ℕ) (parts : List Valued)
      → KindLeaf P k
      → (MovesIn parents l k → ⊥)
      → kind_value held turns w k parts ≡ kind_value held' turns' w k parts
  kind_stays (kind.Rec loop) w [] leaf h = refl
  kind_stays (kind.Rec loop) w (p ∷ parts) leaf h =
      ap (λ t. iterated (sum w) t p.value (values parts)) (same_turn loop.0 h)
  kind_stays (kind.Leaf register loop) w [] leaf h = same_number register loop leaf h
  kind_stays (kind.Leaf register loop) w (p ∷ parts) leaf h = refl
  kind_stays _ w parts leaf h = refl

  -- the value of a tree; and of terms, factors, an atom and parts
  mutual
    pub tree_stays_where : (tree : Tree)
        → EachLeaf P tree
        → IsInvariant parents l tree
        → tree_value held turns tree ≡ tree_value held' turns' tree
    tree_stays_where (polynomial w ts) leaves h = terms_stay w ts leaves h

    terms_stay : (w : ℕ) (ts : Terms)
        → TermsLeaves P ts
        → TermsAreInvariant parents l ts
        → terms_value held turns w ts ≡ terms_value held' turns' w ts
    terms_stay w no_terms leaves h = refl
    terms_stay w (term f c ts) leaves h =
        ap (λ x. sum w (product w x (Some c)) (terms_value held turns w ts)) (factors_stay w f leaves.0 h.0)
        ∙ ap (sum w (product w (factors_value held' turns' w f) (Some c))) (terms_stay w ts leaves.1 h.1)

    factors_stay : (w : ℕ) (f : Factors)
        → FactorsLeaves P f
        → FactorsAreInvariant parents l f
        → factors_value held turns w f ≡ factors_value held' turns' w f
    factors_stay w no_factors leaves h = refl
    factors_stay w (factor a f) leaves h =
        ap (λ x. product w x (factors_value held turns w f)) (atom_stays a leaves.0 h.0)
        ∙ ap (product w (atom_value held' turns' a)) (factors_stay w f leaves.1 h.1)

    atom_stays : (a : Atom)
        → AtomLeaves P a
        → AtomIsInvariant parents l a
        → atom_value held turns a ≡ atom_value held' turns' a
    atom_stays (atom k w parts) leaves h =
        kind_stays k w (parts_values held turns parts) leaves.0 h.0
        ∙ ap (kind_value held' turns' w k) (parts_stay parts leaves.1 h.1)

    parts_stay : (parts : Parts)
        → PartsLeaves P parts
        → PartsAreInvariant parents l parts
        → parts_values held turns parts ≡ parts_values held' turns' parts
    parts_stay no_parts leaves h = refl
    parts_stay (part tree parts) leaves h =
        let width = width_of tree in
        ap (λ (x : Option ℕ). record { width = width; value = x } ∷ parts_values held turns parts)
        (tree_stays_where tree leaves.0 h.0)
        ∙ ap (λ (xs : List Valued). record { width = width; value = tree_value held' turns' tree } ∷ xs)
        (parts_stay parts leaves.1 h.1)

-- the value of an invariant tree, where registers keep their numbers
pub tree_stays : (parents : List (Option ℕ)) (l : ℕ) (held : ℕ → Option ℕ) (turns turns' : ℕ → ℕ) (tree : Tree)
    → ((k : ℕ) → (Contains parents l k → ⊥) → turns k ≡ turns' k)
    → IsInvariant parents l tree
    → tree_value held turns tree ≡ tree_value held turns' tree
tree_stays parents l held turns turns' tree same_turn h =
    let any = λ (register : ValueId) (loop : Option LoopId). Unit {0} in
    tree_stays_where parents l any held held turns turns' same_turn (λ register loop _ _. refl) tree
    (each_leaf any (λ register loop. tt) tree) h
