-- The parts that an atom gives where it is of the kind, as they are read.
use Rattle.std.proofs.Common.{◌≡◌, ℕ, true, ◌==◌, if◌then◌else◌, List, [], ◌∷◌, Option, Some}
use Rattle.std.proofs.Common.{slice_get, refl, sym, ap, ◌∙◌, subst}
use Rattle.std.proofs.lemmas.Bool.{eqb-true}
use Rattle.scev_base.specs.declared.ids.ExprId.{ExprId}
use Rattle.scev_tree.specs.declared.kind.Kind.{Kind}
use Rattle.scev_tree.specs.declared.kind.Kind.TheVariants as kind
use Rattle.scev_tree.specs.Tree.{atom, parts_of, width_of}
use Rattle.scev_tree.specs.Order.{rank}
use Rattle.scev_tree.specs.Canonical.{HasParts, HaveWidth}
use Rattle.scev_arena.specs.declared.node.Node.{Node}
use Rattle.scev_arena.specs.declared.node.Node.TheVariants as node
use Rattle.scev_arena.specs.Meaning.{tree_of, atom_of}
use Rattle.scev_arena.specs.Nodes.{same_kind}
use Rattle.scev_arena.specs.Standing.{HoldsAtom, IsAtomAt, AreTrees}
use Rattle.scev_forms.specs.Atoms.{alone}
use Rattle.scev_forms.specs.Minima.{flat_parts, flattened}
use Rattle.scev_forms.proofs.Flat.{TakesMany, many_parts, same_rank}
use Rattle.scev_sums.specs.Answers.{IsTreeOfAt, AreTreesOfAt, trees_at}
use Rattle.scev_sums.proofs.RecParts.{trees_again, wide_parts}
use Rattle.scev_minima.specs.Kinds.{IsFlattened}

-- a kind whose atoms take in others takes many parts
pub takes_many : (k : Kind) → IsFlattened k → TakesMany k
takes_many kind.Seq is = tt
takes_many kind.Smax is = tt
takes_many kind.Umax is = tt
takes_many kind.Smin is = tt
takes_many kind.Umin is = tt
takes_many _ is = absurd is

-- a kind is such a one where its rank is
pub same_by_rank : (inner k : Kind) → IsFlattened k → same_kind inner k ≡ (rank inner == rank k)
same_by_rank kind.Smax kind.Smax is = refl
same_by_rank _ kind.Smax is = refl
same_by_rank kind.Umax kind.Umax is = refl
same_by_rank _ kind.Umax is = refl
same_by_rank kind.Smin kind.Smin is = refl
same_by_rank _ kind.Smin is = refl
same_by_rank kind.Umin kind.Umin is = refl
same_by_rank _ kind.Umin is = refl
same_by_rank kind.Seq kind.Seq is = refl
same_by_rank _ kind.Seq is = refl
same_by_rank inner _ is = absurd is

-- and then it is that
pub one_kind : (inner k : Kind) → IsFlattened k → same_kind inner k ≡ true → inner ≡ k
one_kind inner k is h =
    same_rank k inner (takes_many k is) (eqb-true (rank inner) (rank k) (sym (same_by_rank inner k is) ∙ h))

-- an atom has one width
one_atom_width : (v w : ℕ) (o : Option Node) → HoldsAtom v o → HoldsAtom w o → v ≡ w
one_atom_width v w (Some (node.Atom k width parts)) h h' = sym h ∙ h'
one_atom_width v w _ h h' = absurd h

module _ (nodes : List Node) (k : Kind) (id place : ExprId) (inner : Kind) (v : ℕ) (parts : List ExprId)
    (one : Some (atom_of nodes place) ≡ alone (tree_of nodes id))
    (is : atom_of nodes place ≡ atom inner v (parts_of (trees_at nodes parts))) where
  flat_if : flattened k (tree_of nodes id)
      ≡ (if rank inner == rank k then trees_at nodes parts else tree_of nodes id ∷ [])
  flat_if =
      ap (flat_parts k (tree_of nodes id)) (sym one ∙ ap Some is)
      ∙ ap (λ ts. if rank inner == rank k then ts else tree_of nodes id ∷ []) (trees_again (trees_at nodes parts))

  -- an atom of the kind gives its parts
  pub flat_same : (rank inner == rank k) ≡ true → trees_at nodes parts ≡ flattened k (tree_of nodes id)
  flat_same b =
      sym (flat_if ∙ ap (λ c. if c then trees_at nodes parts else tree_of nodes id ∷ []) b)

  -- the parts stand at places of the width
  pub flat_trees : (w : ℕ) → IsFlattened k → inner ≡ k → IsTreeOfAt nodes w id
      → IsAtomAt nodes (width_of (tree_of nodes id)) place
      → IsAtomAt nodes v place
      → AreTrees nodes parts
      → HasParts inner v (parts_of (trees_at nodes parts))
      → AreTreesOfAt nodes w parts
  flat_trees w flat same wide there there' trees has =
      let width : v ≡ w = one_atom_width v (width_of (tree_of nodes id)) (slice_get nodes place.0) there' there
      ∙ wide.1 in
      let many = many_parts k v (parts_of (trees_at nodes parts)) (takes_many k flat)
      (subst (λ x. HasParts x v (parts_of (trees_at nodes parts))) same has) in
      wide_parts nodes w parts trees (subst (λ x. HaveWidth x (parts_of (trees_at nodes parts))) width many.1)
