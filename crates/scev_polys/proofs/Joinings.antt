-- Turns of the merge of two monomials' factors, over places of an arena.
use Rattle.std.proofs.Common.{◌≡◌, ℕ, ◌⊎◌, true, false, inl, inr, List, [], ◌∷◌, ◌++◌, length, refl, sym, ap, ◌∙◌}
use Rattle.std.proofs.Common.{subst, arith}
use Rattle.scev_base.specs.declared.ids.ExprId.{ExprId}
use Rattle.scev_tree.specs.Order.{atom_precedes}
use Rattle.scev_tree.specs.Canonical.{joined_factors, Ascend}
use Rattle.scev_arena.specs.declared.node.Node.{Node}
use Rattle.scev_arena.specs.Meaning.{meanings, atom_of, factors_at}
use Rattle.scev_arena.specs.Standing.{AreAtoms}
use Rattle.scev_polys.proofs.FactorMerges.{left_factor, right_factor, joined_with_none}
use Rattle.scev_polys.proofs.AtPlaces.{factors_appended, factors_none, factors_again, factors_both, factor_behind}
use Rattle.scev_polys.proofs.AtPlaces.{atoms_both}

module _ (nodes : List Node) (first second : List ExprId) where
  -- what is joined so far, and then the product of what is left of both sides, is the whole product
  pub record IsJoining (ids lefts rights : List ExprId) : Type 0 where
    pub left : Ascend (factors_at (meanings nodes) lefts)
    pub right : Ascend (factors_at (meanings nodes) rights)
    pub all : factors_appended (factors_at (meanings nodes) ids)
        (joined_factors (factors_at (meanings nodes) lefts) (factors_at (meanings nodes) rights))
        ≡ joined_factors (factors_at (meanings nodes) first) (factors_at (meanings nodes) second)
    pub atoms : (w : ℕ) → AreAtoms nodes w first → AreAtoms nodes w second
        → AreAtoms nodes w ids × AreAtoms nodes w lefts × AreAtoms nodes w rights

  -- the first factor of the left side, where that of the right one isn't lower
  pub left_turn : (ids lefts rights xs ys next : List ExprId) (x y : ExprId)
      → lefts ≡ x ∷ xs
      → rights ≡ y ∷ ys
      → IsJoining ids lefts rights
      → false ≡ atom_precedes (atom_of nodes y) (atom_of nodes x)
      → next ≡ ids ++ x ∷ []
      → IsJoining next xs rights
  left_turn ids lefts rights xs ys next x y e e' j from now =
      let ascends = subst (λ l. Ascend (factors_at (meanings nodes) l)) e j.left in
      let ascends' = subst (λ l. Ascend (factors_at (meanings nodes) l)) e' j.right in
      let f = factors_at (meanings nodes) xs in
      let g = factors_at (meanings nodes) ys in
      subst (λ l. IsJoining l xs rights) (sym now) (record {
        left = ascends.1;
        right = j.right;
        all =
            ap (λ l. factors_appended (factors_at (meanings nodes) (ids ++ x ∷ []))
            (joined_factors f (factors_at (meanings nodes) l))) e'
            ∙ factor_behind (meanings nodes) ids x (joined_factors f (factors_at (meanings nodes) (y ∷ ys)))
            ∙ ap (factors_appended (factors_at (meanings nodes) ids)) (sym (
            left_factor (atom_of nodes x) f (atom_of nodes y) g (sym from) ascends ascends'
            ))
            ∙ ap (λ l. factors_appended (factors_at (meanings nodes) ids)
            (joined_factors (factors_at (meanings nodes) (x ∷ xs)) (factors_at (meanings nodes) l))) (sym e')
            ∙ ap (λ l. factors_appended (factors_at (meanings nodes) ids)
            (joined_factors (factors_at (meanings nodes) l) (factors_at (meanings nodes) rights))) (sym e)
            ∙ j.all;
        atoms = λ w h h'.
            let all = j.atoms w h h' in
            let lefts' = subst (AreAtoms nodes w) e all.1 in
            (atoms_both nodes w ids (x ∷ []) all.0 (lefts'.0, tt), lefts'.1, all.2);
      })

  -- the first factor of the right side, where it is lower than that of the left one
  pub right_turn : (ids lefts rights xs ys next : List ExprId) (x y : ExprId)
      → lefts ≡ x ∷ xs
      → rights ≡ y ∷ ys
      → IsJoining ids lefts rights
      → true ≡ atom_precedes (atom_of nodes y) (atom_of nodes x)
      → next ≡ ids ++ y ∷ []
      → IsJoining next lefts ys
  right_turn ids lefts rights xs ys next x y e e' j below now =
      let ascends = subst (λ l. Ascend (factors_at (meanings nodes) l)) e j.left in
      let ascends' = subst (λ l. Ascend (factors_at (meanings nodes) l)) e' j.right in
      let f = factors_at (meanings nodes) xs in
      let g = factors_at (meanings nodes) ys in
      subst (λ l. IsJoining l lefts ys) (sym now) (record {
        left = j.left;
        right = ascends'.1;
        all =
            ap (λ l. factors_appended (factors_at (meanings nodes) (ids ++ y ∷ []))
            (joined_factors (factors_at (meanings nodes) l) g)) e
            ∙ factor_behind (meanings nodes) ids y (joined_factors (factors_at (meanings nodes) (x ∷ xs)) g)
            ∙ ap (factors_appended (factors_at (meanings nodes) ids)) (sym (
            right_factor (atom_of nodes x) f (atom_of nodes y) g (sym below) ascends
            ))
            ∙ ap (λ l. factors_appended (factors_at (meanings nodes) ids)
            (joined_factors (factors_at (meanings nodes) l) (factors_at (meanings nodes) (y ∷ ys)))) (sym e)
            ∙ ap (λ l. factors_appended (factors_at (meanings nodes) ids)
            (joined_factors (factors_at (meanings nodes) lefts) (factors_at (meanings nodes) l))) (sym e')
            ∙ j.all;
        atoms = λ w h h'.
            let all = j.atoms w h h' in
            let rights' = subst (AreAtoms nodes w) e' all.2 in
            (atoms_both nodes w ids (y ∷ []) all.0 (rights'.0, tt), all.1, rights'.1);
      })

  -- At the end one side has no more factors, and those of the other one go to the end.
  pub joining_ends : (ids lefts rights : List ExprId)
      → IsJoining ids lefts rights
      → (length lefts ≡ 0) ⊎ (length rights ≡ 0)
      → factors_at (meanings nodes) ((ids ++ lefts) ++ rights)
      ≡ joined_factors (factors_at (meanings nodes) first) (factors_at (meanings nodes) second)
  joining_ends ids lefts rights j none =
      factors_both (meanings nodes) (ids ++ lefts) rights
      ∙ ap (λ f. factors_appended f (factors_at (meanings nodes) rights)) (factors_both (meanings nodes) ids lefts)
      ∙ factors_again (factors_at (meanings nodes) ids) (factors_at (meanings nodes) lefts)
      (factors_at (meanings nodes) rights)
      ∙ ap (factors_appended (factors_at (meanings nodes) ids)) (last lefts rights j.left none)
      ∙ j.all
    where
      last : (lefts rights : List ExprId)
          → Ascend (factors_at (meanings nodes) lefts)
          → (length lefts ≡ 0) ⊎ (length rights ≡ 0)
          → factors_appended (factors_at (meanings nodes) lefts) (factors_at (meanings nodes) rights)
          ≡ joined_factors (factors_at (meanings nodes) lefts) (factors_at (meanings nodes) rights)
      last [] rights h none = refl
      last (x ∷ xs) [] h none =
          let f = factors_at (meanings nodes) (x ∷ xs) in
          factors_none f ∙ sym (joined_with_none f h)
      last (x ∷ xs) (y ∷ ys) h none = absurd (elim none [ inl e ↦ omega arith | inr e ↦ omega arith ])

  pub atoms_at_end : (w : ℕ) (ids lefts rights : List ExprId)
      → IsJoining ids lefts rights
      → AreAtoms nodes w first
      → AreAtoms nodes w second
      → AreAtoms nodes w ((ids ++ lefts) ++ rights)
  atoms_at_end w ids lefts rights j h h' =
      let all = j.atoms w h h' in
      atoms_both nodes w (ids ++ lefts) rights (atoms_both nodes w ids lefts all.0 all.1) all.2
