-- What the order of codes says of places.
use Rattle.std.proofs.Common.{◌≡◌, ℕ, true, List, [], ◌∷◌, length, Ordering, Less, Equal, Greater, refl, sym, ap}
use Rattle.std.proofs.Common.{◌∙◌, subst, arith}
use Rattle.std.specs.Ordering.{MatchOrdering}
use Rattle.scev_base.specs.declared.ids.ExprId.{ExprId}
use Rattle.scev_tree.specs.Order.{lower, tree_code, monomial_code}
use Rattle.scev_tree.proofs.Codes.{one_tree, one_monomial}
use Rattle.scev_arena.specs.declared.node.Node.{Node}
use Rattle.scev_arena.specs.Meaning.{meanings, tree_of, atom_of, factors_at}
use Rattle.scev_arena.specs.Standing.{IsTreeAt, AreAtoms, IsArena}
use Rattle.scev_arena.specs.NodeLaws.{one_id}
use Rattle.scev_arena.proofs.WellMade.{well_made, atom_within}
use Rattle.scev_arena.proofs.OnePlace.{arena_apart, one_tree_place, one_atom_place}
use Rattle.scev_walk.specs.Reading.{AreBelow, code_order}
use Rattle.scev_walk.proofs.CodeOrder.{order_tells}

-- what follows where they are equal
where_equal : (P Q Q' R : Type 0) (o : Ordering) → MatchOrdering o P Q R → (Q → Q') → MatchOrdering o P Q' R
where_equal P Q Q' R Less h f = h
where_equal P Q Q' R Equal h f = f h
where_equal P Q Q' R Greater h f = h

module _ (nodes : List Node) where
  -- places of atoms are places
  pub all_within : (w : ℕ) (n : ℕ) (ids : List ExprId) → n ≡ length nodes → AreAtoms nodes w ids → AreBelow n ids
  all_within w n [] e h = tt
  all_within w n (id ∷ ids) e h =
      let within = atom_within nodes w id h.0 in
      (omega arith, all_within w n ids e h.1)

module _ (nodes : List Node) (arena : IsArena nodes) where
  pub trees_compared : (x y : ExprId) (o : Ordering) → IsTreeAt nodes x → IsTreeAt nodes y
      → o ≡ code_order (tree_code (tree_of nodes x)) (tree_code (tree_of nodes y))
      → MatchOrdering o (lower (tree_code (tree_of nodes x)) (tree_code (tree_of nodes y)) ≡ true) (x ≡ y)
      (lower (tree_code (tree_of nodes y)) (tree_code (tree_of nodes x)) ≡ true)
  trees_compared x y o hx hy e =
      let a = tree_code (tree_of nodes x) in
      let b = tree_code (tree_of nodes y) in
      let told = subst (λ p. MatchOrdering p (lower a b ≡ true) (a ≡ b) (lower b a ≡ true)) (sym e) (order_tells a b) in
      where_equal (lower a b ≡ true) (a ≡ b) (x ≡ y) (lower b a ≡ true) o told
      (λ same. one_id x y (one_tree_place nodes (well_made nodes arena) (arena_apart nodes arena) x y hx hy
      (one_tree (tree_of nodes x) (tree_of nodes y) same)))

  -- places of the same factors are one list
  one_list : (v w : ℕ) (xs ys : List ExprId) → AreAtoms nodes v xs → AreAtoms nodes w ys
      → factors_at (meanings nodes) xs ≡ factors_at (meanings nodes) ys
      → xs ≡ ys
  one_list v w [] [] hx hy e = refl
  one_list v w [] (y ∷ ys) hx hy e = absurd (cc e)
  one_list v w (x ∷ xs) [] hx hy e = absurd (cc e)
  one_list v w (x ∷ xs) (y ∷ ys) hx hy e =
      let first : atom_of nodes x ≡ atom_of nodes y = cc e in
      let others : factors_at (meanings nodes) xs ≡ factors_at (meanings nodes) ys = cc e in
      let place = one_atom_place nodes (well_made nodes arena) (arena_apart nodes arena) v w x y hx.0 hy.0 first in
      ap (λ id. id ∷ xs) (one_id x y place) ∙ ap (λ ids. y ∷ ids) (one_list v w xs ys hx.1 hy.1 others)

  pub monomials_compared : (v w : ℕ) (xs ys : List ExprId) (o : Ordering) → AreAtoms nodes v xs → AreAtoms nodes w ys
      → o ≡ code_order (monomial_code (factors_at (meanings nodes) xs)) (monomial_code (factors_at (meanings nodes) ys))
      → MatchOrdering o
      (lower (monomial_code (factors_at (meanings nodes) xs)) (monomial_code (factors_at (meanings nodes) ys)) ≡ true)
      (xs ≡ ys)
      (lower (monomial_code (factors_at (meanings nodes) ys)) (monomial_code (factors_at (meanings nodes) xs)) ≡ true)
  monomials_compared v w xs ys o hx hy e =
      let f = factors_at (meanings nodes) xs in
      let g = factors_at (meanings nodes) ys in
      let a = monomial_code f in
      let b = monomial_code g in
      let told = subst (λ p. MatchOrdering p (lower a b ≡ true) (a ≡ b) (lower b a ≡ true)) (sym e) (order_tells a b) in
      where_equal (lower a b ≡ true) (a ≡ b) (xs ≡ ys) (lower b a ≡ true) o told
      (λ same. one_list v w xs ys hx hy (one_monomial f g same))
