-- One more tree among some, each once and in order: those that are lower go before it.
use Rattle.std.proofs.Common.{◌≡◌, ℕ, zero, suc, ◌+◌, ◌-◌, ◌<◌, ◌≤◌, true, false, List, [], ◌∷◌, ◌++◌}
use Rattle.std.proofs.Common.{length, get_or, take, drop, refl, sym, ap, ◌∙◌, subst, append_assoc, arith}
use Rattle.std.proofs.Math.Seq.{take-length}
use Rattle.std.proofs.lemmas.List.{map-append, length-drop}
use Rattle.std.proofs.lemmas.Bool.{false_from_ne_true}
use Rattle.scev_base.specs.declared.ids.ExprId.{ExprId}
use Rattle.scev_tree.specs.Tree.{Tree}
use Rattle.scev_tree.specs.Order.{tree_code, lower}
use Rattle.scev_tree.proofs.Lower.{never_lower, never_both, told_same, same_itself}
use Rattle.scev_arena.specs.declared.node.Node.{Node}
use Rattle.scev_arena.specs.Meaning.{tree_of}
use Rattle.scev_forms.specs.Sums.{same_tree}
use Rattle.scev_forms.specs.Minima.{with_tree}
use Rattle.scev_sums.specs.Answers.{IsTreeOfAt, AreTreesOfAt, AreAt, trees_at}
use Rattle.scev_sums.proofs.Placing.{both_hold, drop_next}

-- ---- trees

-- of two trees of which one is lower neither is the other
told_other : (a b : Tree) → lower (tree_code a) (tree_code b) ≡ true → same_tree a b ≡ false
told_other a b h =
    false_from_ne_true (same_tree a b) (λ same.
    let e = told_same (tree_code a) (tree_code b) same in
    let never = never_lower (tree_code a) in
    let again : lower (tree_code a) (tree_code a) ≡ lower (tree_code a) (tree_code b) = ap (lower (tree_code a)) e in
    absurd (cc))

told_other_way : (a b : Tree) → lower (tree_code b) (tree_code a) ≡ true → same_tree a b ≡ false
told_other_way a b h =
    false_from_ne_true (same_tree a b) (λ same.
    let e = told_same (tree_code a) (tree_code b) same in
    let never = never_lower (tree_code b) in
    let again : lower (tree_code b) (tree_code b) ≡ lower (tree_code b) (tree_code a) =
    ap (lower (tree_code b)) (sym e) in
    absurd (cc))

module _ (tree other : Tree) (trees : List Tree) where
  -- it stands there
  with_same : tree ≡ other → with_tree tree (other ∷ trees) ≡ other ∷ trees
  with_same e =
      let same : same_tree tree other ≡ true =
      ap (same_tree tree) (sym e) ∙ same_itself (tree_code tree) in
      rw same refl

  -- a lower one goes before it
  with_higher : lower (tree_code other) (tree_code tree) ≡ true
      → with_tree tree (other ∷ trees) ≡ other ∷ with_tree tree trees
  with_higher h = rw (told_other_way tree other h) (rw h refl)

  -- it goes before a higher one
  with_lower : lower (tree_code tree) (tree_code other) ≡ true
      → with_tree tree (other ∷ trees) ≡ tree ∷ other ∷ trees
  with_lower h =
      rw (told_other tree other h) (rw (never_both (tree_code tree) (tree_code other) h) refl)

-- ---- places

-- what is left of places of trees
pub trees_left : (nodes : List Node) (w i : ℕ) (ids : List ExprId) → AreTreesOfAt nodes w ids
    → AreTreesOfAt nodes w (drop i ids)
trees_left nodes w zero ids h = h
trees_left nodes w (suc i) [] h = tt
trees_left nodes w (suc i) (id ∷ ids) h = trees_left nodes w i ids h.1

-- what is left before a place begins with the item there
pub drop_before : {A : Type 0} (xs : List A) (i : ℕ) (other : A) → 0 < i → i ≤ length xs
    → drop (i - 1) xs ≡ get_or xs (i - 1) other ∷ drop i xs
drop_before xs i other some within =
    let next : i - 1 + 1 ≡ i = omega arith in
    drop_next xs (i - 1) other (omega arith) ∙ ap (λ k. get_or xs (i - 1) other ∷ drop k xs) next

-- a slice from a place on is what is left
pub all_left : (ids : List ExprId) (i : ℕ) → take (length ids - i) (drop i ids) ≡ drop i ids
all_left ids i = ap (λ n. take n (drop i ids)) (sym (length-drop i ids)) ∙ take-length (drop i ids)

-- The trees before, and then one more among what is left, are one more among all.
pub record IsPutting (nodes : List Node) (w : ℕ) (id : ExprId) (ids before left : List ExprId) : Type 0 where
  pub trees : AreTreesOfAt nodes w before
  pub whole : trees_at nodes before ++ with_tree (tree_of nodes id) (trees_at nodes left)
      ≡ with_tree (tree_of nodes id) (trees_at nodes ids)

module _ (nodes : List Node) (w : ℕ) (id : ExprId) (ids : List ExprId) where
  -- none is before
  pub put_first : (before : List ExprId) → before ≡ [] → IsPutting nodes w id ids before ids
  put_first before e = subst (λ l. IsPutting nodes w id ids l ids) (sym e) (record { trees = tt; whole = refl })

  module _ (before left : List ExprId) (putting : IsPutting nodes w id ids before left)
      (within : IsTreeOfAt nodes w id) where
    -- none is left
    pub put_last : left ≡ [] → AreAt nodes w (before ++ id ∷ []) (with_tree (tree_of nodes id) (trees_at nodes ids))
    put_last e = (
      both_hold nodes w before (id ∷ []) putting.trees (within, tt),
      map-append (tree_of nodes) before (id ∷ [])
          ∙ sym (ap (λ l. trees_at nodes before ++ with_tree (tree_of nodes id) (trees_at nodes l)) e)
          ∙ putting.whole,
    )

    module _ (other : ExprId) (rest : List ExprId) (e : left ≡ other ∷ rest) (held : AreTreesOfAt nodes w left) where
      whole_left : trees_at nodes before
          ++ with_tree (tree_of nodes id) (tree_of nodes other ∷ trees_at nodes rest)
          ≡ with_tree (tree_of nodes id) (trees_at nodes ids)
      whole_left =
          sym (ap (λ l. trees_at nodes before ++ with_tree (tree_of nodes id) (trees_at nodes l)) e) ∙ putting.whole

      -- a lower one goes before it
      pub put_on : lower (tree_code (tree_of nodes other)) (tree_code (tree_of nodes id)) ≡ true
          → IsPutting nodes w id ids (before ++ other ∷ []) rest
      put_on h =
          let others = with_tree (tree_of nodes id) (trees_at nodes rest) in
          record {
            trees = both_hold nodes w before (other ∷ []) putting.trees
                ((subst (AreTreesOfAt nodes w) e held).0, tt);
            whole =
                ap (λ l. l ++ others) (map-append (tree_of nodes) before (other ∷ []))
                ∙ append_assoc (trees_at nodes before) (tree_of nodes other ∷ []) others
                ∙ sym (ap (λ l. trees_at nodes before ++ l)
                (with_higher (tree_of nodes id) (tree_of nodes other) (trees_at nodes rest) h))
                ∙ whole_left;
          }

      -- it stands there
      pub put_same : id ≡ other → AreAt nodes w (before ++ left) (with_tree (tree_of nodes id) (trees_at nodes ids))
      put_same same = (
        both_hold nodes w before left putting.trees held,
        map-append (tree_of nodes) before left
            ∙ ap (λ l. trees_at nodes before ++ trees_at nodes l) e
            ∙ sym (ap (λ l. trees_at nodes before ++ l)
            (with_same (tree_of nodes id) (tree_of nodes other) (trees_at nodes rest) (ap (tree_of nodes) same)))
            ∙ whole_left,
      )

      -- it goes before a higher one
      pub put_here : lower (tree_code (tree_of nodes id)) (tree_code (tree_of nodes other)) ≡ true
          → AreAt nodes w ((before ++ id ∷ []) ++ left) (with_tree (tree_of nodes id) (trees_at nodes ids))
      put_here h = (
        both_hold nodes w (before ++ id ∷ []) left
            (both_hold nodes w before (id ∷ []) putting.trees (within, tt)) held,
        map-append (tree_of nodes) (before ++ id ∷ []) left
            ∙ ap (λ l. l ++ trees_at nodes left) (map-append (tree_of nodes) before (id ∷ []))
            ∙ append_assoc (trees_at nodes before) (tree_of nodes id ∷ []) (trees_at nodes left)
            ∙ ap (λ l. trees_at nodes before ++ tree_of nodes id ∷ trees_at nodes l) e
            ∙ sym (ap (λ l. trees_at nodes before ++ l)
            (with_lower (tree_of nodes id) (tree_of nodes other) (trees_at nodes rest) h))
            ∙ whole_left,
      )
