-- Atoms of kinds that take two or more parts of one width: their parts are flattened, and formed again.
use Rattle.std.proofs.Common.{◌≡◌, ℕ, ◌<◌, ◌≤◌, true, ◌==◌}
use Rattle.std.proofs.Common.{List, [], ◌∷◌, ◌++◌, map, Option, Some, None, refl, ap, ap₂, ◌∙◌, subst, arith}
use Rattle.std.proofs.lemmas.Bool.{cond_both, eqb-true}
use Rattle.scev_tree.specs.declared.kind.Kind.{Kind}
use Rattle.scev_tree.specs.declared.kind.Kind.TheVariants as kind
use Rattle.scev_tree.specs.Tree.{Tree, Parts, atom, no_parts, part, width_of, parts_of, trees_of}
use Rattle.scev_tree.specs.Order.{rank, count_parts}
use Rattle.scev_tree.specs.Canonical.{HaveWidth, HasParts, AreCanonicalParts}
use Rattle.scev_tree.specs.Value.{tree_value, parts_values, values}
use Rattle.scev_tree.proofs.Below.{LeafFits}
use Rattle.scev_forms.specs.Outcome.{Done}
use Rattle.scev_forms.specs.Trees.{IsTreeOf, AreTreesOf}
use Rattle.scev_forms.specs.Atoms.{alone}
use Rattle.scev_forms.specs.Minima.{IsMinimum, flat_parts, flattened, of_parts}
use Rattle.scev_forms.proofs.Atoms.{done_is_tree, made_is_tree, alone_is_canonical}

-- a kind of minimum or maximum, also a sequential one
abbrev pub TakesMany : Kind → Type 0
TakesMany kind.Smax = Unit {0}
TakesMany kind.Umax = Unit {0}
TakesMany kind.Smin = Unit {0}
TakesMany kind.Umin = Unit {0}
TakesMany kind.Seq = Unit {0}
TakesMany _ = ⊥

-- a minimum or a maximum is one
pub minimum_takes_many : (k : Kind) → IsMinimum k → TakesMany k
minimum_takes_many kind.Smax is = tt
minimum_takes_many kind.Umax is = tt
minimum_takes_many kind.Smin is = tt
minimum_takes_many kind.Umin is = tt
minimum_takes_many _ is = absurd is

-- it isn't a register
pub many_no_leaf : (held : ℕ → Option ℕ) (w : ℕ) (k : Kind) → TakesMany k → LeafFits held w k
many_no_leaf held w (kind.Leaf register loop) is = absurd is
many_no_leaf held w _ is = tt

-- it has two parts or more, of its width
pub many_parts : (k : Kind) (w : ℕ) (parts : Parts)
    → TakesMany k
    → HasParts k w parts
    → (2 ≤ count_parts parts) × HaveWidth w parts
many_parts kind.Smax w parts is has = has
many_parts kind.Umax w parts is has = has
many_parts kind.Smin w parts is has = has
many_parts kind.Umin w parts is has = has
many_parts kind.Seq w parts is has = has
many_parts _ w parts is has = absurd is

-- and any such
pub has_many : (k : Kind) (w : ℕ) (parts : Parts)
    → TakesMany k
    → (2 ≤ count_parts parts) × HaveWidth w parts
    → HasParts k w parts
has_many kind.Smax w parts is has = has
has_many kind.Umax w parts is has = has
has_many kind.Smin w parts is has = has
has_many kind.Umin w parts is has = has
has_many kind.Seq w parts is has = has
has_many _ w parts is has = absurd is

-- it is known by its rank
pub same_rank : (k inner : Kind) → TakesMany k → rank inner ≡ rank k → inner ≡ k
same_rank kind.Smax kind.Smax is e = refl
same_rank kind.Smax _ is e = absurd cc
same_rank kind.Umax kind.Umax is e = refl
same_rank kind.Umax _ is e = absurd cc
same_rank kind.Smin kind.Smin is e = refl
same_rank kind.Smin _ is e = absurd cc
same_rank kind.Umin kind.Umin is e = refl
same_rank kind.Umin _ is e = absurd cc
same_rank kind.Seq kind.Seq is e = refl
same_rank kind.Seq _ is e = absurd cc
same_rank _ inner is e = absurd is

-- ---- trees and parts

-- there is a tree
abbrev pub NotEmpty : List Tree → Type 0
NotEmpty [] = ⊥
NotEmpty (tree ∷ trees) = Unit {0}

-- trees behind trees
pub both_are_trees : (w : ℕ) (xs ys : List Tree) → AreTreesOf w xs → AreTreesOf w ys → AreTreesOf w (xs ++ ys)
both_are_trees w [] ys h h' = h'
both_are_trees w (x ∷ xs) ys h h' = (h.0, both_are_trees w xs ys h.1 h')

-- there is one where there is one among the first
pub both_not_empty : (xs ys : List Tree) → NotEmpty xs → NotEmpty (xs ++ ys)
both_not_empty [] ys h = absurd h
both_not_empty (x ∷ xs) ys h = tt

-- canonical parts of one width
pub parts_are_trees : (w : ℕ) (parts : Parts)
    → HaveWidth w parts
    → AreCanonicalParts parts
    → AreTreesOf w (trees_of parts)
parts_are_trees w no_parts h h' = tt
parts_are_trees w (part tree parts) h h' = ((h.0, h'.0), parts_are_trees w parts h.1 h'.1)

-- trees have their width as parts
pub trees_have_width : (w : ℕ) (trees : List Tree) → AreTreesOf w trees → HaveWidth w (parts_of trees)
trees_have_width w [] h = tt
trees_have_width w (tree ∷ trees) h = (h.0.0, trees_have_width w trees h.1)

-- and are canonical parts
pub trees_are_canonical : (w : ℕ) (trees : List Tree) → AreTreesOf w trees → AreCanonicalParts (parts_of trees)
trees_are_canonical w [] h = tt
trees_are_canonical w (tree ∷ trees) h = (h.0.1, trees_are_canonical w trees h.1)

-- ---- flattened parts

-- the parts of a tree that is an atom of such a kind alone
pub alone_parts : (k : Kind) (w : ℕ) (tree : Tree) (inner : Kind) (v : ℕ) (parts : Parts)
    → TakesMany k
    → IsTreeOf w tree
    → alone tree ≡ Some (atom inner v parts)
    → (rank inner == rank k) ≡ true
    → (inner ≡ k) × (v ≡ w) × (2 ≤ count_parts parts) × AreTreesOf w (trees_of parts)
alone_parts k w tree inner v parts is tree_is one same =
    let kinds = same_rank k inner is (eqb-true (rank inner) (rank k) same) in
    let a = alone_is_canonical tree (atom inner v parts) tree_is.1 one in
    let has = subst (λ x. HasParts x (width_of tree) parts) kinds a.1 in
    let many = many_parts k (width_of tree) parts is has in
    let width = subst (λ x. HaveWidth x parts) tree_is.0 many.1 in
    (kinds, a.0 ∙ tree_is.0, many.0, parts_are_trees w parts width a.2)

-- what is shown of the parts of an atom of the kind, and of the tree, is shown of what is flattened
pub flattened_cases : (k : Kind) (w : ℕ) (tree : Tree) (P : List Tree → Type 0)
    → TakesMany k
    → IsTreeOf w tree
    → P (tree ∷ [])
    → ((parts : Parts) → alone tree ≡ Some (atom k w parts) → 2 ≤ count_parts parts → AreTreesOf w (trees_of parts)
    → P (trees_of parts))
    → P (flattened k tree)
flattened_cases k w tree P is tree_is itself its_parts =
    elim (alone tree) as (λ o. alone tree ≡ o → P (flat_parts k tree o)) [
      | None ↦ λ none. itself
      | Some (atom inner v parts) ↦ λ one.
          cond_both (rank inner == rank k) (trees_of parts) (tree ∷ []) P
          (λ same.
          let whole = alone_parts k w tree inner v parts is tree_is one same in
          its_parts parts (one ∙ ap₂ (λ x y. Some (atom x y parts)) whole.0 whole.1) whole.2 whole.3)
          (λ _. itself)
    ] refl

-- they are canonical trees
pub flattened_are_trees : (k : Kind) (w : ℕ) (tree : Tree)
    → TakesMany k
    → IsTreeOf w tree
    → AreTreesOf w (flattened k tree)
flattened_are_trees k w tree is tree_is =
    flattened_cases k w tree (AreTreesOf w) is tree_is (tree_is, tt) (λ parts one many trees. trees)

-- of two parts or more there is one
some_parts : (parts : Parts) → 2 ≤ count_parts parts → NotEmpty (trees_of parts)
some_parts no_parts h = absurd (omega arith)
some_parts (part tree parts) h = tt

-- there is one
pub flattened_not_empty : (k : Kind) (w : ℕ) (tree : Tree)
    → TakesMany k
    → IsTreeOf w tree
    → NotEmpty (flattened k tree)
flattened_not_empty k w tree is tree_is =
    flattened_cases k w tree NotEmpty is tree_is tt (λ parts one many trees. some_parts parts many)

-- ---- the tree of parts

-- two parts or more of one width
pub has_two : (k : Kind) (w : ℕ) (first second : Tree) (trees : List Tree)
    → TakesMany k
    → AreTreesOf w (first ∷ second ∷ trees)
    → HasParts k w (parts_of (first ∷ second ∷ trees))
has_two k w first second trees is h =
    has_many k w (parts_of (first ∷ second ∷ trees)) is
    (omega arith, trees_have_width w (first ∷ second ∷ trees) h)

-- an atom of canonical trees, or the only one, is canonical
pub of_parts_is_tree : (k : Kind) (w : ℕ) (trees : List Tree) (out : Tree)
    → TakesMany k
    → 0 < w
    → NotEmpty trees
    → AreTreesOf w trees
    → of_parts k w trees ≡ Done out
    → IsTreeOf w out
of_parts_is_tree k w [] out is some filled h e = absurd filled
of_parts_is_tree k w (only ∷ []) out is some filled h e = done_is_tree w only out h.0 e
of_parts_is_tree k w (first ∷ second ∷ trees) out is some filled h e =
    made_is_tree k w (first ∷ second ∷ trees) out some (has_two k w first second trees is h)
    (trees_are_canonical w (first ∷ second ∷ trees) h) e

-- ---- values

module _ (held : ℕ → Option ℕ) (turns : ℕ → ℕ) where
  -- the values of parts are those of their trees
  pub values_of_parts : (parts : Parts)
      → values (parts_values held turns parts) ≡ map (tree_value held turns) (trees_of parts)
  values_of_parts no_parts = refl
  values_of_parts (part tree parts) = ap (λ xs. tree_value held turns tree ∷ xs) (values_of_parts parts)

  -- and those of trees are those of their parts
  pub values_of_trees : (trees : List Tree)
      → values (parts_values held turns (parts_of trees)) ≡ map (tree_value held turns) trees
  values_of_trees [] = refl
  values_of_trees (tree ∷ trees) = ap (λ xs. tree_value held turns tree ∷ xs) (values_of_trees trees)
