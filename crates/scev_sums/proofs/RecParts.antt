-- The parts of recurrences, read one after another.
use Rattle.std.proofs.Common.{◌≡◌, ℕ, ◌+◌, ◌<◌, ◌≤◌, true, false, List, [], ◌∷◌, ◌++◌, length, drop, map, Some}
use Rattle.std.proofs.Common.{slice_get, refl, sym, ap, ◌∙◌, subst, arith, append_assoc}
use Rattle.std.proofs.lemmas.List.{append-nil, map_push, at_drop_more, at_drop_all}
use Rattle.scev_base.specs.declared.ids.ExprId.{ExprId}
use Rattle.scev_base.specs.declared.ids.LoopId.{LoopId}
use Rattle.scev_base.specs.declared.width.Width.{Width}
use Rattle.scev_tree.specs.declared.kind.Kind.{Kind}
use Rattle.scev_tree.specs.declared.kind.Kind.TheVariants as kind
use Rattle.scev_tree.specs.Tree.{Tree, Factors, Atom, Parts, factor, atom, parts_of, trees_of}
use Rattle.scev_tree.specs.Canonical.{HaveWidth}
use Rattle.scev_arena.specs.declared.node.Node.{Node}
use Rattle.scev_arena.specs.declared.node.Node.TheVariants as node
use Rattle.scev_arena.specs.Meaning.{meanings, factors_at, atom_of}
use Rattle.scev_arena.specs.Standing.{HoldsAtom, IsAtomAt, AreTrees, IsArena}
use Rattle.scev_arena.proofs.WellMade.{well_made}
use Rattle.scev_forms.specs.Gather.{is_rec_of, recs_of}
use Rattle.scev_walk.proofs.Places.{atom_is, no_atom_there}
use Rattle.scev_walk.proofs.Walking.{count_of_parts}
use Rattle.scev_sums.specs.Answers.{AreAll, AreTreesOfAt, trees_at}
use Rattle.scev_sums.specs.Levels.{IsRecurrence}
use Rattle.scev_sums.proofs.Reading.{id_at}

-- one more such item at the end
pub all_more : {A : Type 0} (Is : A → Type 0) (xs : List A) (x : A) → AreAll Is xs → Is x → AreAll Is (xs ++ x ∷ [])
all_more Is [] x h here = (here, tt)
all_more Is (y ∷ xs) x h here = (h.0, all_more Is xs x h.1 here)

-- trees as parts, and as trees again
pub trees_again : (trees : List Tree) → trees_of (parts_of trees) ≡ trees
trees_again [] = refl
trees_again (tree ∷ trees) = ap (λ ts. tree ∷ ts) (trees_again trees)

-- what a recurrence of the loop adds
rec_first : (l : ℕ) (k : Kind) (w : ℕ) (trees : List Tree) (f : Factors)
    → is_rec_of l (atom k w (parts_of trees)) ≡ true
    → recs_of l (factor (atom k w (parts_of trees)) f) ≡ trees ∷ recs_of l f
rec_first l k w trees f is = rw is (ap (λ ts. ts ∷ recs_of l f) (trees_again trees))

-- what another atom adds
no_rec_first : (l : ℕ) (a : Atom) (f : Factors) → is_rec_of l a ≡ false → recs_of l (factor a f) ≡ recs_of l f
no_rec_first l (atom k w parts) f is = rw is refl

module _ (nodes : List Node) (l : ℕ) where
  -- the parts that are found so far, and then those of what is left
  abbrev pub recs_with : List (List ExprId) → List ExprId → List (List Tree)
  recs_with found left = map (trees_at nodes) found ++ recs_of l (factors_at (meanings nodes) left)

  pub recs_more : (found : List (List ExprId)) (ids : List ExprId) (at : ℕ) (k : Kind) (w : ℕ) (parts : List ExprId)
      → at < length ids
      → atom_of nodes (id_at ids at) ≡ atom k w (parts_of (trees_at nodes parts))
      → is_rec_of l (atom k w (parts_of (trees_at nodes parts))) ≡ true
      → recs_with (found ++ parts ∷ []) (drop (at + 1) ids) ≡ recs_with found (drop at ids)
  recs_more found ids at k w parts within e is =
      let rest = factors_at (meanings nodes) (drop (at + 1) ids) in
      ap (λ ts. ts ++ recs_of l rest) (map_push (trees_at nodes) found parts)
      ∙ append_assoc (map (trees_at nodes) found) (trees_at nodes parts ∷ []) (recs_of l rest)
      ∙ ap (λ ts. map (trees_at nodes) found ++ ts)
      (sym (ap (λ a. recs_of l (factor a rest)) e ∙ rec_first l k w (trees_at nodes parts) rest is))
      ∙ sym (at_drop_more (recs_with found) ids at (record { 0 = 0 }) within)

  pub recs_without : (found : List (List ExprId)) (ids : List ExprId) (at : ℕ)
      → at < length ids
      → is_rec_of l (atom_of nodes (id_at ids at)) ≡ false
      → recs_with found (drop (at + 1) ids) ≡ recs_with found (drop at ids)
  recs_without found ids at within is =
      let rest = factors_at (meanings nodes) (drop (at + 1) ids) in
      ap (λ ts. map (trees_at nodes) found ++ ts) (sym (no_rec_first l (atom_of nodes (id_at ids at)) rest is))
      ∙ sym (at_drop_more (recs_with found) ids at (record { 0 = 0 }) within)

  pub recs_whole : (found : List (List ExprId)) (ids : List ExprId) (at : ℕ)
      → length ids ≤ at
      → map (trees_at nodes) found ≡ recs_with found (drop at ids)
  recs_whole found ids at past =
      sym (at_drop_all (recs_with found) ids at past ∙ append-nil (map (trees_at nodes) found))

-- ---- the places of the parts

-- places of trees that are parts of a width
pub wide_parts : (nodes : List Node) (w : ℕ) (ids : List ExprId)
    → AreTrees nodes ids
    → HaveWidth w (parts_of (trees_at nodes ids))
    → AreTreesOfAt nodes w ids
wide_parts nodes w [] h wide = tt
wide_parts nodes w (id ∷ ids) h wide = ((h.0, wide.0), wide_parts nodes w ids h.1 wide.1)

module _ (nodes : List Node) (id : ExprId) (n : Node) (arena : IsArena nodes) (there : slice_get nodes id.0 ≡ Some n)
    (w : ℕ) (wide : IsAtomAt nodes w id) (loop : LoopId) (width : Width) (parts : List ExprId)
    (is : n ≡ node.Atom (kind.Rec loop) width parts)
  where
    node_there : slice_get nodes id.0 ≡ Some (node.Atom (kind.Rec loop) width parts)
    node_there = there ∙ ap Some is

    -- they are those of a recurrence of w bits
    pub parts_recurrence : IsRecurrence nodes w parts
    parts_recurrence =
        let may = (well_made nodes arena).stands id.0 (node.Atom (kind.Rec loop) width parts) node_there in
        let same : width.bits ≡ w = subst (HoldsAtom w) node_there wide in
        let many = count_of_parts nodes parts in (
          wide_parts nodes w parts may.0
              (subst (λ v. HaveWidth v (parts_of (trees_at nodes parts))) same may.1.1),
          omega (arith, may.1.0, many),
        )

-- ---- nodes that are no recurrences

no_rec_kind : (l : ℕ) (k : Kind) (w : ℕ) (parts : Parts)
    → ((loop : LoopId) → k ≡ kind.Rec loop → ⊥)
    → is_rec_of l (atom k w parts) ≡ false
no_rec_kind l (kind.Rec loop) w parts other = absurd (other loop refl)
no_rec_kind l _ w parts other = refl

pub no_rec_there : (nodes : List Node) (id : ExprId) (n : Node) (l : ℕ) → IsArena nodes
    → slice_get nodes id.0 ≡ Some n
    → ((loop : LoopId) (width : Width) (parts : List ExprId) → n ≡ node.Atom (kind.Rec loop) width parts → ⊥)
    → is_rec_of l (atom_of nodes id) ≡ false
no_rec_there nodes id (node.Tree width terms) l arena there other =
    ap (is_rec_of l) (no_atom_there nodes id (node.Tree width terms) arena there width terms refl)
no_rec_there nodes id (node.Atom k width parts) l arena there other =
    ap (is_rec_of l) (atom_is nodes id (node.Atom k width parts) arena there k width parts refl)
    ∙ no_rec_kind l k width.bits (parts_of (trees_at nodes parts))
    (λ loop e. other loop width parts (ap (λ x. node.Atom x width parts) e))
