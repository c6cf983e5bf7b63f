-- How atoms are cut, by their kinds.
use Rattle.std.proofs.Common.{◌≡◌, ℕ, suc, ◌<◌, ◌≤◌, List, [], ◌∷◌, length, get_or, Option, refl, sym, ap, ◌∙◌, subst}
use Rattle.std.proofs.Common.{arith, Some, None}
use Rattle.std.proofs.lemmas.List.{length-map}
use Rattle.scev_base.specs.declared.ids.ExprId.{ExprId}
use Rattle.scev_base.specs.declared.ids.LoopId.{LoopId}
use Rattle.scev_tree.specs.declared.kind.Kind.{Kind}
use Rattle.scev_tree.specs.declared.kind.Kind.TheVariants as kind
use Rattle.scev_tree.specs.Tree.{Tree, Parts, atom, of_atom, no_parts, part, parts_of}
use Rattle.scev_tree.specs.Order.{count_parts}
use Rattle.scev_tree.specs.Canonical.{HasParts, HaveWidth}
use Rattle.scev_arena.specs.declared.node.Node.{Node}
use Rattle.scev_arena.specs.declared.node.Node.TheVariants as node
use Rattle.scev_arena.specs.Meaning.{tree_of, atom_of}
use Rattle.scev_arena.specs.Standing.{HoldsAtom, IsTreeAt, IsAtomAt, AreTrees}
use Rattle.scev_forms.specs.Outcome.{Outcome, Done, next}
use Rattle.scev_forms.specs.Sums.{recurrence_of}
use Rattle.scev_forms.specs.Atoms.{made}
use Rattle.scev_forms.specs.Casts.{of_extended, truncated, truncated_terms, truncated_factors, truncated_atom}
use Rattle.scev_forms.specs.Casts.{truncated_parts}
use Rattle.scev_forms.proofs.Truncations.{parts_done}
use Rattle.scev_walk.specs.Reading.{AreBelow}
use Rattle.scev_walk.proofs.Among.{tree_among}
use Rattle.scev_walk.proofs.Below.{below_among}
use Rattle.scev_walk.proofs.Lists.{item_alone}
use Rattle.scev_sums.specs.Answers.{AreAt, AreTreesOfAt, trees_at}
use Rattle.scev_sums.proofs.Refusals.{LeadsOn, led_on}

-- ---- places

-- an atom has one width
pub one_width : (v w : ℕ) (o : Option Node) → HoldsAtom v o → HoldsAtom w o → v ≡ w
one_width v w (Some (node.Atom k width parts)) h wide = sym h ∙ wide
one_width v w (Some (node.Tree width terms)) h wide = absurd h
one_width v w None h wide = absurd h

-- places of trees that are parts of a width
pub wide_parts : (nodes : List Node) (w : ℕ) (ids : List ExprId)
    → AreTrees nodes ids
    → HaveWidth w (parts_of (trees_at nodes ids))
    → AreTreesOfAt nodes w ids
wide_parts nodes w [] h wide = tt
wide_parts nodes w (id ∷ ids) h wide = ((h.0, wide.0), wide_parts nodes w ids h.1 wide.1)

-- the only one of some places
module _ {there slice : List ExprId} (d : ExprId) (same : slice ≡ there) (one : length slice ≡ 1) where
  pub only_tree : (nodes : List Node) → AreTrees nodes there → IsTreeAt nodes (get_or slice 0 d)
  only_tree nodes trees =
      tree_among nodes slice 0 d (get_or slice 0 d) (subst (AreTrees nodes) (sym same) trees) (omega (arith, one)) refl

  pub only_below : (n : ℕ) → AreBelow n there → (get_or slice 0 d).0 < n
  only_below n below =
      below_among n slice 0 d (get_or slice 0 d) (subst (AreBelow n) (sym same) below) (omega (arith, one)) refl

  pub only_item : there ≡ get_or slice 0 d ∷ []
  only_item = sym same ∙ item_alone slice d (omega (arith, one)) (omega (arith, one))

-- as many parts come out
parts_counted : (parents : List (Option ℕ)) (w : ℕ) (parts : Parts) (trees : List Tree)
    → truncated_parts parents w parts ≡ Done trees
    → length trees ≡ count_parts parts
unfolding truncated truncated_terms truncated_factors truncated_atom truncated_parts
parts_counted parents w no_parts trees h =
    let none : [] ≡ trees = cc in
    sym (ap length none)
parts_counted parents w (part tree parts) trees h =
    let each = parts_done parents w tree parts trees h in
    ap length each.4 ∙ ap suc (parts_counted parents w parts each.1 each.3)

-- ---- kinds

-- the kinds of casts
abbrev IsCast : Kind → Type 0
IsCast kind.Trunc = Unit {0}
IsCast kind.Zext = Unit {0}
IsCast kind.Sext = Unit {0}
IsCast _ = ⊥

-- a cast has one part
one_part : (nodes : List Node) (k : Kind) (v : ℕ) (ids : List ExprId) → IsCast k
    → HasParts k v (parts_of (trees_at nodes ids))
    → length ids ≡ 1
one_part nodes kind.Trunc v [] cast has = absurd has
one_part nodes kind.Trunc v (id ∷ []) cast has = refl
one_part nodes kind.Trunc v (id ∷ other ∷ ids) cast has = absurd has
one_part nodes kind.Zext v [] cast has = absurd has
one_part nodes kind.Zext v (id ∷ []) cast has = refl
one_part nodes kind.Zext v (id ∷ other ∷ ids) cast has = absurd has
one_part nodes kind.Sext v [] cast has = absurd has
one_part nodes kind.Sext v (id ∷ []) cast has = refl
one_part nodes kind.Sext v (id ∷ other ∷ ids) cast has = absurd has
one_part nodes _ v ids cast has = absurd cast

module _ (parents : List (Option ℕ)) (w v : ℕ) where
  of_trunc : (tree : Tree) → truncated_atom parents w (atom kind.Trunc v (part tree no_parts))
      ≡ made kind.Trunc w (tree ∷ [])
  unfolding truncated truncated_terms truncated_factors truncated_atom truncated_parts
  of_trunc tree = refl

  of_zext : (tree : Tree) → truncated_atom parents w (atom kind.Zext v (part tree no_parts))
      ≡ of_extended kind.Zext w tree (truncated parents w tree)
  unfolding truncated truncated_terms truncated_factors truncated_atom truncated_parts
  of_zext tree = refl

  of_sext : (tree : Tree) → truncated_atom parents w (atom kind.Sext v (part tree no_parts))
      ≡ of_extended kind.Sext w tree (truncated parents w tree)
  unfolding truncated truncated_terms truncated_factors truncated_atom truncated_parts
  of_sext tree = refl

  of_rec : (l : LoopId) (parts : Parts)
      → next (truncated_parts parents w parts) (recurrence_of w l.0)
      ≡ truncated_atom parents w (atom (kind.Rec l) v parts)
  unfolding truncated truncated_terms truncated_factors truncated_atom truncated_parts
  of_rec l parts = refl

  -- any other kind
  of_other : (k : Kind) (parts : Parts)
      → (k ≡ kind.Trunc → ⊥)
      → (k ≡ kind.Zext → ⊥)
      → (k ≡ kind.Sext → ⊥)
      → ((l : LoopId) → k ≡ kind.Rec l → ⊥)
      → made kind.Trunc w (of_atom v (atom k v parts) ∷ []) ≡ truncated_atom parents w (atom k v parts)
  unfolding truncated truncated_terms truncated_factors truncated_atom truncated_parts
  of_other kind.Trunc parts trunc zext sext rec = absurd (trunc refl)
  of_other kind.Zext parts trunc zext sext rec = absurd (zext refl)
  of_other kind.Sext parts trunc zext sext rec = absurd (sext refl)
  of_other (kind.Rec l) parts trunc zext sext rec = absurd (rec l refl)
  of_other _ parts trunc zext sext rec = refl

-- ---- an atom at a place

module _ (nodes : List Node) (id : ExprId) (k : Kind) (v : ℕ) (there : List ExprId) where
  -- its parts, where its kind is known
  parts_read : {j : Kind} {slice : List ExprId} → HasParts k v (parts_of (trees_at nodes there)) → k ≡ j → slice ≡ there
      → HasParts j v (parts_of (trees_at nodes slice))
  parts_read {j} {slice} has e same =
      subst (λ i. HasParts i v (parts_of (trees_at nodes slice))) e
      (subst (λ ids. HasParts k v (parts_of (trees_at nodes ids))) (sym same) has)

  atom_read : {j : Kind} {slice : List ExprId} → atom_of nodes id ≡ atom k v (parts_of (trees_at nodes there)) → k ≡ j
      → slice ≡ there
      → atom j v (parts_of (trees_at nodes slice)) ≡ atom_of nodes id
  atom_read {j} {slice} is e same =
      ap (λ ids. atom j v (parts_of (trees_at nodes ids))) same
      ∙ sym (ap (λ i. atom i v (parts_of (trees_at nodes there))) e)
      ∙ sym is

  -- the one part of a cast
  module _ (parents : List (Option ℕ)) (w : ℕ) {slice : List ExprId}
      (is : atom_of nodes id ≡ atom k v (parts_of (trees_at nodes there)))
      (has : HasParts k v (parts_of (trees_at nodes there))) (same : slice ≡ there) where
    cast_part : {j : Kind} → k ≡ j → IsCast j → length slice ≡ 1
    cast_part {j} e cast = one_part nodes j v slice cast (parts_read has e same)

    only_cut : {j : Kind} (f : Tree → Outcome Tree) (d : ExprId) → k ≡ j
        → length slice ≡ 1
        → ((tree : Tree) → truncated_atom parents w (atom j v (part tree no_parts)) ≡ f tree)
        → f (tree_of nodes (get_or slice 0 d)) ≡ truncated_atom parents w (atom_of nodes id)
    only_cut {j} f d e one defined =
        let alone = item_alone slice d (omega (arith, one)) (omega (arith, one)) in
        sym (defined (tree_of nodes (get_or slice 0 d)))
        ∙ sym (ap (λ ids. truncated_atom parents w (atom j v (parts_of (trees_at nodes ids)))) alone)
        ∙ ap (truncated_atom parents w) (atom_read is e same)

    pub trunc_cut : k ≡ kind.Trunc
        → made kind.Trunc w (trees_at nodes slice) ≡ truncated_atom parents w (atom_of nodes id)
    trunc_cut e =
        let one = cast_part e tt in
        let alone = item_alone slice id (omega (arith, one)) (omega (arith, one)) in
        ap (λ ids. made kind.Trunc w (trees_at nodes ids)) alone
        ∙ only_cut (λ tree. made kind.Trunc w (tree ∷ [])) id e one (of_trunc parents w v)

    pub zext_part : k ≡ kind.Zext → length slice ≡ 1
    zext_part e = cast_part e tt

    pub zext_cut : (d : ExprId) → k ≡ kind.Zext
        → of_extended kind.Zext w (tree_of nodes (get_or slice 0 d))
        (truncated parents w (tree_of nodes (get_or slice 0 d)))
        ≡ truncated_atom parents w (atom_of nodes id)
    zext_cut d e =
        only_cut (λ tree. of_extended kind.Zext w tree (truncated parents w tree)) d e (zext_part e)
        (of_zext parents w v)

    pub sext_part : k ≡ kind.Sext → length slice ≡ 1
    sext_part e = cast_part e tt

    pub sext_cut : (d : ExprId) → k ≡ kind.Sext
        → of_extended kind.Sext w (tree_of nodes (get_or slice 0 d))
        (truncated parents w (tree_of nodes (get_or slice 0 d)))
        ≡ truncated_atom parents w (atom_of nodes id)
    sext_cut d e =
        only_cut (λ tree. of_extended kind.Sext w tree (truncated parents w tree)) d e (sext_part e)
        (of_sext parents w v)

    -- the parts of a recurrence lead on to it
    pub rec_leads : {l : LoopId} → k ≡ kind.Rec l
        → LeadsOn (truncated_parts parents w (parts_of (trees_at nodes slice))) (recurrence_of w l.0)
        (truncated_atom parents w (atom_of nodes id))
    rec_leads {l} e = record {
      leads = of_rec parents w v l (parts_of (trees_at nodes slice))
          ∙ ap (truncated_atom parents w) (atom_read is e same);
    }

    -- they are two or more of its width
    pub rec_parts : {l : LoopId} (from : ℕ) → k ≡ kind.Rec l
        → IsAtomAt nodes v id
        → IsAtomAt nodes from id
        → AreTrees nodes there
        → AreTreesOfAt nodes from slice
    rec_parts {l} from e h wide trees =
        subst (λ u. AreTreesOfAt nodes u slice) (one_width v from _ h wide)
        (wide_parts nodes v slice (subst (AreTrees nodes) (sym same) trees) (parts_read has e same).1)

    pub rec_some : {l : LoopId} (new : List Node) {ids deref : List ExprId} → k ≡ kind.Rec l
        → (trees : List Tree) × (truncated_parts parents w (parts_of (trees_at nodes slice)) ≡ Done trees)
        × AreAt new w ids trees
        → deref ≡ ids
        → 1 ≤ length deref
    rec_some {l} new {ids} {deref} e told is_ids =
        let many = (parts_read has e same).0 in
        let counted = parts_counted parents w (parts_of (trees_at nodes slice)) told.0 told.1 in
        let out = ap length told.2.1 in
        let mapped = length-map ids (tree_of new) in
        let read = ap length is_ids in
        omega (arith, many, counted, out, mapped, read)

    pub rec_cut : {l : LoopId} (new : List Node) {ids deref : List ExprId} → k ≡ kind.Rec l
        → (trees : List Tree) × (truncated_parts parents w (parts_of (trees_at nodes slice)) ≡ Done trees)
        × AreAt new w ids trees
        → deref ≡ ids
        → recurrence_of w l.0 (trees_at new deref) ≡ truncated_atom parents w (atom_of nodes id)
    rec_cut {l} new e told is_ids =
        ap (λ l'. recurrence_of w l.0 (trees_at new l')) is_ids ∙ ap (recurrence_of w l.0) told.2.1
        ∙ led_on told.0 (rec_leads e) told.1

    -- an atom of another kind is cut as a whole
    pub other_cut : (from : ℕ) → IsAtomAt nodes v id
        → IsAtomAt nodes from id
        → (k ≡ kind.Trunc → ⊥)
        → (k ≡ kind.Zext → ⊥)
        → (k ≡ kind.Sext → ⊥)
        → ((l : LoopId) → k ≡ kind.Rec l → ⊥)
        → made kind.Trunc w (of_atom from (atom k from (parts_of (trees_at nodes slice))) ∷ [])
        ≡ truncated_atom parents w (atom_of nodes id)
    other_cut from h wide trunc zext sext rec =
        sym (ap (λ u. made kind.Trunc w (of_atom u (atom k u (parts_of (trees_at nodes slice))) ∷ []))
        (one_width v from _ h wide))
        ∙ of_other parents w v k (parts_of (trees_at nodes slice)) trunc zext sext rec
        ∙ ap (truncated_atom parents w) (atom_read is refl same)
