-- The parts of an atom that is formed anew, and what is formed of them, by its kind.
use Rattle.std.proofs.Common.{◌≡◌, ℕ, ◌-◌, ◌<◌, ◌≤◌, List, [], ◌∷◌, length, get_or, take, drop, Option}
use Rattle.std.proofs.Common.{refl, sym, ap, ◌∙◌, subst, cond, false, arith}
use Rattle.std.proofs.lemmas.Bool.{ne_eqb}
use Rattle.std.proofs.lemmas.List.{take_rest}
use Rattle.scev_base.specs.declared.ids.ExprId.{ExprId}
use Rattle.scev_base.specs.declared.ids.LoopId.{LoopId}
use Rattle.scev_base.specs.declared.ids.ValueId.{ValueId}
use Rattle.scev_tree.specs.declared.kind.Kind.{Kind}
use Rattle.scev_tree.specs.declared.kind.Kind.TheVariants as kind
use Rattle.scev_tree.specs.Tree.{Tree, Parts, atom, of_atom, parts_of, width_of}
use Rattle.scev_tree.specs.Order.{count_parts}
use Rattle.scev_tree.specs.Canonical.{HasParts, HaveWidth}
use Rattle.scev_arena.specs.declared.node.Node.{Node}
use Rattle.scev_arena.specs.Meaning.{tree_of}
use Rattle.scev_arena.specs.Standing.{IsTreeAt, AreTrees}
use Rattle.scev_forms.specs.Outcome.{Done}
use Rattle.scev_forms.specs.Casts.{truncated, extended, extended_when}
use Rattle.scev_forms.specs.Quotients.{tree_quotient}
use Rattle.scev_forms.specs.Sums.{recurrence_of}
use Rattle.scev_forms.specs.Minima.{IsMinimum}
use Rattle.scev_forms.specs.Turns.{minimum_of_all, sequence_of_all, reformed}
use Rattle.scev_forms.proofs.Extensions.{IsExtension}
use Rattle.scev_walk.proofs.Among.{tree_among}
use Rattle.scev_walk.proofs.Walking.{count_of_parts}
use Rattle.scev_sums.specs.Answers.{AreTreesOfAt, trees_at}
use Rattle.scev_sums.proofs.Held.{tree_among as tree_of_among}
use Rattle.scev_sums.proofs.RecParts.{wide_parts}

-- ---- kinds

-- the kinds whose parts have the width of the atom
abbrev pub HasWideParts : Kind → Type 0
HasWideParts kind.Trunc = ⊥
HasWideParts kind.Zext = ⊥
HasWideParts kind.Sext = ⊥
HasWideParts (kind.Leaf register loop) = ⊥
HasWideParts _ = Unit {0}

-- of such a kind there are two or more parts of that width
several_wide : (w : ℕ) (k : Kind) (parts : Parts) → HasWideParts k → HasParts k w parts
    → (2 ≤ count_parts parts) × HaveWidth w parts
several_wide w kind.Trunc parts wide has = absurd wide
several_wide w kind.Zext parts wide has = absurd wide
several_wide w kind.Sext parts wide has = absurd wide
several_wide w (kind.Leaf register loop) parts wide has = absurd wide
several_wide w kind.Udiv parts wide has =
    let two = has.0 in
    (omega (arith, two), has.1)
several_wide w _ parts wide has = has

-- an extension of a narrower tree of which nothing more is known
narrower_extended : (k : Kind) (w : ℕ) (tree : Tree) → width_of tree < w
    → extended_when k w false tree ≡ extended k w tree
unfolding extended_when
narrower_extended k w tree less =
    ap (λ b. cond b (Done tree) (extended k w tree)) (ne_eqb (width_of tree) w (λ e. omega (arith, less, e)))

-- places of trees, but for the first
after_first : (nodes : List Node) (w : ℕ) (ids : List ExprId) → AreTreesOfAt nodes w ids
    → AreTreesOfAt nodes w (drop 1 ids)
after_first nodes w [] h = tt
after_first nodes w (id ∷ ids) h = h.1

-- ---- what is formed, of as many parts as the kind asks for

module _ (nodes : List Node) (w : ℕ) (parents : List (Option ℕ)) (d : ExprId) where
  -- of one part
  of_trunc : (ids : List ExprId) → HasParts kind.Trunc w (parts_of (trees_at nodes ids))
      → truncated parents w (tree_of nodes (get_or ids 0 d)) ≡ reformed parents w kind.Trunc (trees_at nodes ids)
  unfolding reformed
  of_trunc [] has = absurd has
  of_trunc (id ∷ []) has = refl
  of_trunc (id ∷ other ∷ ids) has = absurd has

  of_extension : (k : Kind) (ids : List ExprId) → IsExtension k → HasParts k w (parts_of (trees_at nodes ids))
      → extended_when k w false (tree_of nodes (get_or ids 0 d)) ≡ reformed parents w k (trees_at nodes ids)
  unfolding reformed
  of_extension kind.Zext [] is has = absurd has
  of_extension kind.Zext (id ∷ []) is has = narrower_extended kind.Zext w (tree_of nodes id) has
  of_extension kind.Zext (id ∷ other ∷ ids) is has = absurd has
  of_extension kind.Sext [] is has = absurd has
  of_extension kind.Sext (id ∷ []) is has = narrower_extended kind.Sext w (tree_of nodes id) has
  of_extension kind.Sext (id ∷ other ∷ ids) is has = absurd has
  of_extension _ ids is has = absurd is

  -- of two parts
  of_quotient : (ids : List ExprId) → length ids ≡ 2
      → tree_quotient w (tree_of nodes (get_or ids 0 d)) (tree_of nodes (get_or ids 1 d))
      ≡ reformed parents w kind.Udiv (trees_at nodes ids)
  unfolding reformed
  of_quotient [] two = absurd (omega arith)
  of_quotient (id ∷ []) two = absurd (omega arith)
  of_quotient (id ∷ other ∷ []) two = refl
  of_quotient (id ∷ other ∷ third ∷ ids) two = absurd (omega arith)

  -- of a first part and others
  of_minimum : (k : Kind) (ids : List ExprId) → IsMinimum k → 1 ≤ length ids
      → minimum_of_all k w (tree_of nodes (get_or ids 0 d)) (trees_at nodes (drop 1 ids))
      ≡ reformed parents w k (trees_at nodes ids)
  unfolding reformed
  of_minimum k [] is some = absurd (omega arith)
  of_minimum kind.Smax (id ∷ ids) is some = refl
  of_minimum kind.Umax (id ∷ ids) is some = refl
  of_minimum kind.Smin (id ∷ ids) is some = refl
  of_minimum kind.Umin (id ∷ ids) is some = refl
  of_minimum _ (id ∷ ids) is some = absurd is

  of_sequence : (ids : List ExprId) → 1 ≤ length ids
      → sequence_of_all w (tree_of nodes (get_or ids 0 d)) (trees_at nodes (drop 1 ids))
      ≡ reformed parents w kind.Seq (trees_at nodes ids)
  unfolding reformed
  of_sequence [] some = absurd (omega arith)
  of_sequence (id ∷ ids) some = refl

-- of any parts
of_recurrence : (parents : List (Option ℕ)) (w : ℕ) (l : LoopId) (trees : List Tree)
    → recurrence_of w l.0 trees ≡ reformed parents w (kind.Rec l) trees
unfolding reformed
of_recurrence parents w l trees = refl

-- an atom of a register is itself
pub leaf_formed : (parents : List (Option ℕ)) (w : ℕ) {k : Kind} {register : ValueId} {loop : Option LoopId}
    (trees : List Tree)
    → k ≡ kind.Leaf register loop
    → reformed parents w k trees ≡ Done (of_atom w (atom k w (parts_of trees)))
unfolding reformed
leaf_formed parents w trees e =
    subst (λ i. reformed parents w i trees ≡ Done (of_atom w (atom i w (parts_of trees)))) (sym e) refl

-- ---- an atom whose parts are read

module _ (nodes : List Node) (w : ℕ) (k : Kind) {slice there : List ExprId}
    (has : HasParts k w (parts_of (trees_at nodes there))) (same : slice ≡ there)
  where
    -- its parts, where its kind is known
    parts_read : {j : Kind} → k ≡ j → HasParts j w (parts_of (trees_at nodes slice))
    parts_read {j} e =
        subst (λ i. HasParts i w (parts_of (trees_at nodes slice))) e
        (subst (λ ids. HasParts k w (parts_of (trees_at nodes ids))) (sym same) has)

    -- there are two or more
    pub two_parts : {j : Kind} → k ≡ j → HasWideParts j → 1 < length slice
    two_parts {j} e wide =
        let many = (several_wide w j (parts_of (trees_at nodes slice)) wide (parts_read e)).0 in
        omega (arith, many, count_of_parts nodes slice)

    module _ (trees : AreTrees nodes there) where
      -- the second of a quotient is a tree
      pub second_tree : (d : ExprId) → k ≡ kind.Udiv → IsTreeAt nodes (get_or slice 1 d)
      second_tree d e =
          tree_among nodes slice 1 d (get_or slice 1 d) (subst (AreTrees nodes) (sym same) trees) (two_parts e tt) refl

      -- each has the width
      pub each_wide : {j : Kind} → k ≡ j → HasWideParts j → AreTreesOfAt nodes w slice
      each_wide {j} e wide =
          wide_parts nodes w slice (subst (AreTrees nodes) (sym same) trees)
          (several_wide w j (parts_of (trees_at nodes slice)) wide (parts_read e)).1

      -- also of those behind the first
      pub others_wide : {j : Kind} → k ≡ j → HasWideParts j
          → AreTreesOfAt nodes w (take (length slice - 1) (drop 1 slice))
      others_wide e wide =
          subst (AreTreesOfAt nodes w) (sym (take_rest slice 1)) (after_first nodes w slice (each_wide e wide))

      -- so has the first
      pub first_wide : {j : Kind} (d : ExprId) → k ≡ j → HasWideParts j
          → width_of (tree_of nodes (get_or slice 0 d)) ≡ w
      first_wide d e wide =
          let two = two_parts e wide in
          (tree_of_among nodes w slice 0 d (each_wide e wide) (omega (arith, two))).1

    -- what is formed of them, where the kind is known, is what is formed by the kind
    module _ (parents : List (Option ℕ)) where
      formed_read : {j : Kind} → k ≡ j
          → reformed parents w j (trees_at nodes slice) ≡ reformed parents w k (trees_at nodes there)
      formed_read {j} e =
          ap (λ ids. reformed parents w j (trees_at nodes ids)) same
          ∙ sym (ap (λ i. reformed parents w i (trees_at nodes there)) e)

      pub recurrence_formed : {l : LoopId} → k ≡ kind.Rec l
          → recurrence_of w l.0 (trees_at nodes slice) ≡ reformed parents w k (trees_at nodes there)
      recurrence_formed {l} e = of_recurrence parents w l (trees_at nodes slice) ∙ formed_read e

      module _ (d : ExprId) where
        pub trunc_formed : k ≡ kind.Trunc
            → truncated parents w (tree_of nodes (get_or slice 0 d)) ≡ reformed parents w k (trees_at nodes there)
        trunc_formed e = of_trunc nodes w parents d slice (parts_read e) ∙ formed_read e

        pub extension_formed : {j : Kind} → k ≡ j → IsExtension j
            → extended_when j w false (tree_of nodes (get_or slice 0 d)) ≡ reformed parents w k (trees_at nodes there)
        extension_formed {j} e is = of_extension nodes w parents d j slice is (parts_read e) ∙ formed_read e

        pub quotient_formed : k ≡ kind.Udiv
            → tree_quotient w (tree_of nodes (get_or slice 0 d)) (tree_of nodes (get_or slice 1 d))
            ≡ reformed parents w k (trees_at nodes there)
        quotient_formed e =
            let two = (parts_read e).0 in
            of_quotient nodes w parents d slice (omega (arith, two, count_of_parts nodes slice)) ∙ formed_read e

        pub minimum_formed : {j : Kind} → k ≡ j → HasWideParts j → IsMinimum j
            → minimum_of_all j w (tree_of nodes (get_or slice 0 d))
            (trees_at nodes (take (length slice - 1) (drop 1 slice)))
            ≡ reformed parents w k (trees_at nodes there)
        minimum_formed {j} e wide minimum =
            let two = two_parts e wide in
            ap (λ ids. minimum_of_all j w (tree_of nodes (get_or slice 0 d)) (trees_at nodes ids)) (take_rest slice 1)
            ∙ of_minimum nodes w parents d j slice minimum (omega (arith, two))
            ∙ formed_read e

        pub sequence_formed : k ≡ kind.Seq
            → sequence_of_all w (tree_of nodes (get_or slice 0 d))
            (trees_at nodes (take (length slice - 1) (drop 1 slice)))
            ≡ reformed parents w k (trees_at nodes there)
        sequence_formed e =
            let two = two_parts e tt in
            ap (λ ids. sequence_of_all w (tree_of nodes (get_or slice 0 d)) (trees_at nodes ids)) (take_rest slice 1)
            ∙ of_sequence nodes w parents d slice (omega (arith, two))
            ∙ formed_read e
