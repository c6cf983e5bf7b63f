-- In an arena each node may stand among all, and its place holds what the node means among all.
use Rattle.std.proofs.Common.{◌≡◌, ℕ, ◌<◌, inl, inr, List, [], ◌∷◌, ◌++◌, length, map}
use Rattle.std.proofs.Common.{Some, slice_get, refl, sym, ap, ◌∙◌, subst}
use Rattle.std.proofs.lemmas.Bool.{cases_lt}
use Rattle.scev_base.specs.declared.ids.ExprId.{ExprId}
use Rattle.scev_tree.specs.Tree.{polynomial, term, factor, atom, parts_of}
use Rattle.scev_tree.specs.Canonical.{HasParts, IsCanonical}
use Rattle.poly_terms.specs.declared.term.Term.{Term}
use Rattle.scev_arena.specs.declared.node.Node.{Node}
use Rattle.scev_arena.specs.declared.node.Node.TheVariants as node
use Rattle.scev_arena.specs.Meaning.{TreeOf, AtomOf, node_meant, meanings, tree_in, atom_in, tree_of, atom_of}
use Rattle.scev_arena.specs.Meaning.{factors_at, terms_at}
use Rattle.scev_arena.specs.Standing.{HoldsTree, HoldsAtom, IsTreeAt, IsAtomAt, AreTrees, AreAtoms}
use Rattle.scev_arena.specs.Standing.{AreOverAtoms, MayStand, IsArena}
use Rattle.scev_arena.proofs.Places.{at_place, place_before, place_past, place_of_more}
use Rattle.scev_arena.proofs.Inductions.{last_stands, by_nodes}
use Rattle.scev_arena.proofs.PlacesStay.{tree_stays, atom_stays, place_stays, last_holds}

-- a place of a tree, or of an atom, is one
pub tree_within : (nodes : List Node) (id : ExprId) → IsTreeAt nodes id → id.0 < length nodes
tree_within nodes id h =
    elim (cases_lt id.0 (length nodes)) [
      | inl less ↦ less
      | inr past ↦ absurd (subst HoldsTree (place_past nodes id.0 past) h)
    ]

pub atom_within : (nodes : List Node) (w : ℕ) (id : ExprId) → IsAtomAt nodes w id → id.0 < length nodes
atom_within nodes w id h =
    elim (cases_lt id.0 (length nodes)) [
      | inl less ↦ less
      | inr past ↦ absurd (subst (HoldsAtom w) (place_past nodes id.0 past) h)
    ]

module _ (nodes more : List Node) where
  -- ---- what may stand may stand behind more

  pub tree_later : (id : ExprId) → IsTreeAt nodes id → IsTreeAt (nodes ++ more) id
  tree_later id h = subst HoldsTree (sym (place_before nodes more id.0 (tree_within nodes id h))) h

  pub atom_later : (w : ℕ) (id : ExprId) → IsAtomAt nodes w id → IsAtomAt (nodes ++ more) w id
  atom_later w id h = subst (HoldsAtom w) (sym (place_before nodes more id.0 (atom_within nodes w id h))) h

  pub trees_later : (ids : List ExprId) → AreTrees nodes ids → AreTrees (nodes ++ more) ids
  trees_later [] h = tt
  trees_later (id ∷ ids) h = (tree_later id h.0, trees_later ids h.1)

  pub atoms_later : (w : ℕ) (ids : List ExprId) → AreAtoms nodes w ids → AreAtoms (nodes ++ more) w ids
  atoms_later w [] h = tt
  atoms_later w (id ∷ ids) h = (atom_later w id h.0, atoms_later w ids h.1)

  pub over_atoms_later : (w : ℕ) (ts : List Term) → AreOverAtoms nodes w ts → AreOverAtoms (nodes ++ more) w ts
  over_atoms_later w [] h = tt
  over_atoms_later w (t ∷ ts) h = (atoms_later w t.ids h.0, over_atoms_later w ts h.1)

  -- ---- and means the same

  pub parts_stay : (ids : List ExprId) → AreTrees nodes ids
      → map (tree_of (nodes ++ more)) ids ≡ map (tree_of nodes) ids
  parts_stay [] h = refl
  parts_stay (id ∷ ids) h =
      ap (λ tree. tree ∷ map (tree_of (nodes ++ more)) ids) (tree_stays nodes more id (tree_within nodes id h.0))
      ∙ ap (λ trees. tree_of nodes id ∷ trees) (parts_stay ids h.1)

  pub factors_stay : (w : ℕ) (ids : List ExprId) → AreAtoms nodes w ids
      → factors_at (meanings (nodes ++ more)) ids ≡ factors_at (meanings nodes) ids
  factors_stay w [] h = refl
  factors_stay w (id ∷ ids) h =
      ap (λ a. factor a (factors_at (meanings (nodes ++ more)) ids))
      (atom_stays nodes more id (atom_within nodes w id h.0))
      ∙ ap (factor (atom_of nodes id)) (factors_stay w ids h.1)

  pub terms_stay : (w : ℕ) (ts : List Term) → AreOverAtoms nodes w ts
      → terms_at (meanings (nodes ++ more)) ts ≡ terms_at (meanings nodes) ts
  terms_stay w [] h = refl
  terms_stay w (t ∷ ts) h =
      ap (λ f. term f t.coefficient (terms_at (meanings (nodes ++ more)) ts)) (factors_stay w t.ids h.0)
      ∙ ap (term (factors_at (meanings nodes) t.ids) t.coefficient) (terms_stay w ts h.1)

  pub stands_later : (n : Node) → MayStand nodes n → MayStand (nodes ++ more) n
  stands_later (node.Tree width terms) may = (
    subst (λ ts. IsCanonical (polynomial width.bits ts)) (sym (terms_stay width.bits terms may.1)) may.0,
    over_atoms_later width.bits terms may.1,
  )
  stands_later (node.Atom kind width parts) may = (
    trees_later parts may.0,
    subst (λ trees. HasParts kind width.bits (parts_of trees)) (sym (parts_stay parts may.0)) may.1,
  )

  pub node_stays : (n : Node) → MayStand nodes n
      → node_meant (meanings (nodes ++ more)) n ≡ node_meant (meanings nodes) n
  node_stays (node.Tree width terms) may =
      ap (λ ts. TreeOf (polynomial width.bits ts)) (terms_stay width.bits terms may.1)
  node_stays (node.Atom kind width parts) may =
      ap (λ trees. AtomOf (atom kind width.bits (parts_of trees))) (parts_stay parts may.0)

-- each node may stand among all, and its place holds what it means among all
pub record IsWellMade (nodes : List Node) : Type 0 where
  pub stands : (i : ℕ) (n : Node) → slice_get nodes i ≡ Some n → MayStand nodes n
  pub holds : (i : ℕ) (n : Node) → slice_get nodes i ≡ Some n
      → slice_get (meanings nodes) i ≡ Some (node_meant (meanings nodes) n)

none_made : IsWellMade []
none_made = record { stands = λ i n e. absurd (cc e); holds = λ i n e. absurd (cc e) }

module _ (before : List Node) (n : Node) (arena : IsArena (before ++ n ∷ [])) (made : IsWellMade before) where
  may : MayStand before n
  may = last_stands before n arena

  more_stand : (i : ℕ) (m : Node) → slice_get (before ++ n ∷ []) i ≡ Some m → MayStand (before ++ n ∷ []) m
  more_stand i m e =
      elim (place_of_more before n m i e) [
        | inl old ↦ stands_later before (n ∷ []) m (made.stands i m old.1)
        | inr last ↦ subst (MayStand (before ++ n ∷ [])) last.1 (stands_later before (n ∷ []) n may)
      ]

  more_hold : (i : ℕ) (m : Node) → slice_get (before ++ n ∷ []) i ≡ Some m
      → slice_get (meanings (before ++ n ∷ [])) i ≡ Some (node_meant (meanings (before ++ n ∷ [])) m)
  more_hold i m e =
      elim (place_of_more before n m i e) [
        | inl old ↦
            place_stays before (n ∷ []) i old.0
            ∙ made.holds i m old.1
            ∙ ap Some (sym (node_stays before (n ∷ []) m (made.stands i m old.1)))
        | inr last ↦
            last_holds before n i last.0
            ∙ ap Some (sym (node_stays before (n ∷ []) n may) ∙ ap (node_meant (meanings (before ++ n ∷ []))) last.1)
      ]

  more_made : IsWellMade (before ++ n ∷ [])
  more_made = record { stands = more_stand; holds = more_hold }

-- An arena is well made.
pub well_made : (nodes : List Node) → IsArena nodes → IsWellMade nodes
well_made nodes arena = by_nodes IsWellMade none_made more_made nodes arena

module _ (nodes : List Node) (made : IsWellMade nodes) where
  -- a tree's place holds what its node means
  pub tree_held : (id : ExprId) → IsTreeAt nodes id → slice_get (meanings nodes) id.0 ≡ Some (TreeOf (tree_of nodes id))
  tree_held id h =
      let there = at_place nodes id.0 (tree_within nodes id h) in
      by_node there.0 there.1 (subst HoldsTree there.1 h)
    where
      by_node : (n : Node) → slice_get nodes id.0 ≡ Some n → HoldsTree (Some n)
          → slice_get (meanings nodes) id.0 ≡ Some (TreeOf (tree_of nodes id))
      by_node (node.Tree width terms) e h =
          let held = made.holds id.0 (node.Tree width terms) e in
          held ∙ ap (λ o. Some (TreeOf (tree_in o))) (sym held)
      by_node (node.Atom kind width parts) e h = absurd h

  pub atom_held : (w : ℕ) (id : ExprId) → IsAtomAt nodes w id
      → slice_get (meanings nodes) id.0 ≡ Some (AtomOf (atom_of nodes id))
  atom_held w id h =
      let there = at_place nodes id.0 (atom_within nodes w id h) in
      by_node there.0 there.1 (subst (HoldsAtom w) there.1 h)
    where
      by_node : (n : Node) → slice_get nodes id.0 ≡ Some n → HoldsAtom w (Some n)
          → slice_get (meanings nodes) id.0 ≡ Some (AtomOf (atom_of nodes id))
      by_node (node.Tree width terms) e h = absurd h
      by_node (node.Atom kind width parts) e h =
          let held = made.holds id.0 (node.Atom kind width parts) e in
          held ∙ ap (λ o. Some (AtomOf (atom_in o))) (sym held)
