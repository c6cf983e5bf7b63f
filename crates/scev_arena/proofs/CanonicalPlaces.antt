-- The trees and the atoms of an arena are canonical.
use Rattle.std.proofs.Common.{◌≡◌, ℕ, ◌<◌, ◌≤◌, inl, inr, List, [], ◌∷◌, ◌++◌, length, map, Some, None, slice_get, sym, ap, ◌∙◌, subst, arith}
use Rattle.std.proofs.lemmas.Bool.{cases_order}
use Rattle.scev_base.specs.declared.ids.ExprId.{ExprId}
use Rattle.scev_tree.specs.Tree.{parts_of}
use Rattle.scev_tree.specs.Canonical.{AreCanonicalParts, HasParts, IsCanonical, IsCanonicalAtom}
use Rattle.scev_arena.specs.declared.node.Node.{Node}
use Rattle.scev_arena.specs.declared.node.Node.TheVariants as node
use Rattle.scev_arena.specs.Meaning.{node_meant, meanings, tree_in, atom_in, tree_of, atom_of}
use Rattle.scev_arena.specs.Standing.{HoldsTree, HoldsAtom, IsTreeAt, IsAtomAt, AreTrees, MayStand, IsArena}
use Rattle.scev_arena.proofs.Places.{place_before, place_behind, place_past}
use Rattle.scev_arena.proofs.Inductions.{last_stands, by_nodes}
use Rattle.scev_arena.proofs.PlacesStay.{tree_stays, atom_stays, last_holds, length_behind}

-- each tree and each atom is canonical
pub record IsSound (nodes : List Node) : Type 0 where
  pub trees : (id : ExprId) → IsTreeAt nodes id → IsCanonical (tree_of nodes id)
  pub atoms : (w : ℕ) (id : ExprId) → IsAtomAt nodes w id → IsCanonicalAtom w (atom_of nodes id)

module _ (nodes : List Node) (sound : IsSound nodes) where
  -- canonical parts
  parts_sound : (ids : List ExprId) → AreTrees nodes ids → AreCanonicalParts (parts_of (map (tree_of nodes) ids))
  parts_sound [] h = tt
  parts_sound (id ∷ ids) h = (sound.trees id h.0, parts_sound ids h.1)

  -- a tree that may stand here
  tree_sound : (n : Node) → MayStand nodes n → HoldsTree (Some n)
      → IsCanonical (tree_in (Some (node_meant (meanings nodes) n)))
  tree_sound (node.Tree width terms) may h = may.0
  tree_sound (node.Atom kind width parts) may h = absurd h

  -- an atom that may stand here
  atom_sound : (w : ℕ) (n : Node) → MayStand nodes n → HoldsAtom w (Some n)
      → IsCanonicalAtom w (atom_in (Some (node_meant (meanings nodes) n)))
  atom_sound w (node.Tree width terms) may h = absurd h
  atom_sound w (node.Atom kind width parts) may e =
      (e, subst (λ v. HasParts kind v (parts_of (map (tree_of nodes) parts))) e may.1, parts_sound parts may.0)

none_sound : IsSound []
none_sound = record { trees = λ id h. absurd h; atoms = λ w id h. absurd h }

module _ (before : List Node) (n : Node) (arena : IsArena (before ++ n ∷ [])) (sound : IsSound before) where
  past_all : (i : ℕ) → length before < i → slice_get (before ++ n ∷ []) i ≡ None
  past_all i past =
      let many = length_behind before n in
      let over : length (before ++ n ∷ []) ≤ i = omega arith in
      place_past (before ++ n ∷ []) i over

  at_last : (i : ℕ) → i ≡ length before → slice_get (before ++ n ∷ []) i ≡ Some n
  at_last i last = ap (slice_get (before ++ n ∷ [])) last ∙ place_behind before n []

  more_trees : (id : ExprId) → IsTreeAt (before ++ n ∷ []) id → IsCanonical (tree_of (before ++ n ∷ []) id)
  more_trees id h =
      elim (cases_order id.0 (length before)) [
        | inl last ↦
            subst (λ o. IsCanonical (tree_in o)) (sym (last_holds before n id.0 last))
            (tree_sound before sound n (last_stands before n arena) (subst HoldsTree (at_last id.0 last) h))
        | inr other ↦ elim other [
          | inl less ↦
              subst IsCanonical (sym (tree_stays before (n ∷ []) id less))
              (sound.trees id (subst HoldsTree (place_before before (n ∷ []) id.0 less) h))
          | inr past ↦ absurd (subst HoldsTree (past_all id.0 past) h)
        ]
      ]

  more_atoms : (w : ℕ) (id : ExprId) → IsAtomAt (before ++ n ∷ []) w id
      → IsCanonicalAtom w (atom_of (before ++ n ∷ []) id)
  more_atoms w id h =
      elim (cases_order id.0 (length before)) [
        | inl last ↦
            subst (λ o. IsCanonicalAtom w (atom_in o)) (sym (last_holds before n id.0 last))
            (atom_sound before sound w n (last_stands before n arena) (subst (HoldsAtom w) (at_last id.0 last) h))
        | inr other ↦ elim other [
          | inl less ↦
              subst (IsCanonicalAtom w) (sym (atom_stays before (n ∷ []) id less))
              (sound.atoms w id (subst (HoldsAtom w) (place_before before (n ∷ []) id.0 less) h))
          | inr past ↦ absurd (subst (HoldsAtom w) (past_all id.0 past) h)
        ]
      ]

  more_sound : IsSound (before ++ n ∷ [])
  more_sound = record { trees = more_trees; atoms = more_atoms }

-- Each tree and each atom of an arena is canonical.
pub arena_sound : (nodes : List Node) → IsArena nodes → IsSound nodes
arena_sound nodes arena = by_nodes IsSound none_sound more_sound nodes arena
