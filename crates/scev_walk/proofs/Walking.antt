-- Lists of places, from one place of them on.
use Rattle.std.proofs.Common.{◌≡◌, ℕ, zero, suc, ◌<◌, List, [], ◌∷◌, length, get_or, drop, map, slice_get, Equal}
use Rattle.std.proofs.Common.{refl, sym, ap, ◌∙◌, arith}
use Rattle.std.specs.Ordering.{ordering_then}
use Rattle.scev_base.specs.declared.ids.ExprId.{ExprId}
use Rattle.scev_tree.specs.Tree.{parts_of}
use Rattle.scev_tree.specs.Order.{count_parts}
use Rattle.scev_tree.specs.Order.{tree_code, terms_code, factors_code, atom_code, parts_code, monomial_code}
use Rattle.poly_terms.specs.declared.term.Term.{Term}
use Rattle.scev_arena.specs.declared.node.Node.{Node}
use Rattle.scev_arena.specs.Meaning.{Meant, meanings, tree_in, atom_in, tree_of, atom_of, atom_at, factors_at, terms_at}
use Rattle.scev_arena.proofs.NodesMeasured.{as_many_parts}
use Rattle.scev_walk.specs.Reading.{code_order}
use Rattle.scev_walk.proofs.CodeOrder.{code_itself}
use Rattle.scev_walk.proofs.TreeCodes.{factor_first, part_first, monomial_first}

-- ---- one place

pub one_tree_there : (nodes : List Node) (x y : ExprId) → x.0 ≡ y.0
    → Equal ≡ code_order (tree_code (tree_of nodes x)) (tree_code (tree_of nodes y))
one_tree_there nodes x y e =
    sym (code_itself (tree_code (tree_of nodes x)))
    ∙ ap (λ n. code_order (tree_code (tree_of nodes x)) (tree_code (tree_in (slice_get (meanings nodes) n)))) e

pub one_atom_there : (nodes : List Node) (x y : ExprId) → x.0 ≡ y.0
    → Equal ≡ code_order (atom_code (atom_of nodes x)) (atom_code (atom_of nodes y))
one_atom_there nodes x y e =
    sym (code_itself (atom_code (atom_of nodes x)))
    ∙ ap (λ n. code_order (atom_code (atom_of nodes x)) (atom_code (atom_in (slice_get (meanings nodes) n)))) e

-- ---- how many there are

pub count_of_parts : (nodes : List Node) (ids : List ExprId)
    → count_parts (parts_of (map (tree_of nodes) ids)) ≡ length ids
count_of_parts nodes ids = as_many_parts nodes ids

module _ (meant : List Meant) where
  pub same_monomials : (xs ys l r : List ExprId) → xs ≡ l → ys ≡ r
      → code_order (monomial_code (factors_at meant xs)) (monomial_code (factors_at meant ys))
      ≡ code_order (monomial_code (factors_at meant l)) (monomial_code (factors_at meant r))
  same_monomials xs ys l r e f =
      ap (λ ids. code_order (monomial_code (factors_at meant ids)) (monomial_code (factors_at meant ys))) e
      ∙ ap (λ ids. code_order (monomial_code (factors_at meant l)) (monomial_code (factors_at meant ids))) f

  -- ---- one after another

  pub factors_from : (xs ys : List ExprId) (at next : ℕ) (d : ExprId) → next ≡ suc at
      → at < length xs
      → at < length ys
      → code_order (factors_code (factors_at meant (drop at xs))) (factors_code (factors_at meant (drop at ys)))
      ≡ ordering_then
      (code_order (atom_code (atom_at meant (get_or xs at d))) (atom_code (atom_at meant (get_or ys at d))))
      (code_order (factors_code (factors_at meant (drop next xs))) (factors_code (factors_at meant (drop next ys))))
  factors_from [] ys at next d e within within' = absurd (omega arith)
  factors_from (x ∷ xs) [] at next d e within within' = absurd (omega arith)
  factors_from (x ∷ xs) (y ∷ ys) zero next d e within within' =
      factor_first (atom_at meant x) (atom_at meant y) (factors_at meant xs) (factors_at meant ys)
      ∙ ap (λ k. ordering_then (code_order (atom_code (atom_at meant x)) (atom_code (atom_at meant y)))
      (code_order (factors_code (factors_at meant (drop k (x ∷ xs))))
      (factors_code (factors_at meant (drop k (y ∷ ys)))))) (sym e)
  factors_from (x ∷ xs) (y ∷ ys) (suc at) next d e within within' =
      factors_from xs ys at (suc at) d refl (omega arith) (omega arith)
      ∙ ap (λ k. ordering_then
      (code_order (atom_code (atom_at meant (get_or xs at d))) (atom_code (atom_at meant (get_or ys at d))))
      (code_order (factors_code (factors_at meant (drop k (x ∷ xs))))
      (factors_code (factors_at meant (drop k (y ∷ ys)))))) (sym e)

  pub monomials_from : (ss ts : List Term) (at next : ℕ) (s t : Term) → next ≡ suc at
      → at < length ss
      → at < length ts
      → s ≡ get_or ss at s
      → t ≡ get_or ts at t
      → code_order (terms_code (terms_at meant (drop at ss))) (terms_code (terms_at meant (drop at ts)))
      ≡ ordering_then
      (code_order (monomial_code (factors_at meant s.ids)) (monomial_code (factors_at meant t.ids)))
      (code_order (terms_code (terms_at meant (drop next ss))) (terms_code (terms_at meant (drop next ts))))
  monomials_from [] ts at next s t e within within' f g = absurd (omega arith)
  monomials_from (u ∷ ss) [] at next s t e within within' f g = absurd (omega arith)
  monomials_from (u ∷ ss) (v ∷ ts) zero next s t e within within' f g =
      monomial_first (factors_at meant u.ids) (factors_at meant v.ids) u.coefficient v.coefficient
      (terms_at meant ss) (terms_at meant ts)
      ∙ ap (λ (w : Term). ordering_then
      (code_order (monomial_code (factors_at meant w.ids)) (monomial_code (factors_at meant v.ids)))
      (code_order (terms_code (terms_at meant ss)) (terms_code (terms_at meant ts)))) (sym f)
      ∙ ap (λ (w : Term). ordering_then
      (code_order (monomial_code (factors_at meant s.ids)) (monomial_code (factors_at meant w.ids)))
      (code_order (terms_code (terms_at meant ss)) (terms_code (terms_at meant ts)))) (sym g)
      ∙ ap (λ k. ordering_then
      (code_order (monomial_code (factors_at meant s.ids)) (monomial_code (factors_at meant t.ids)))
      (code_order (terms_code (terms_at meant (drop k (u ∷ ss))))
      (terms_code (terms_at meant (drop k (v ∷ ts)))))) (sym e)
  monomials_from (u ∷ ss) (v ∷ ts) (suc at) next s t e within within' f g =
      monomials_from ss ts at (suc at) s t refl (omega arith) (omega arith) f g
      ∙ ap (λ k. ordering_then
      (code_order (monomial_code (factors_at meant s.ids)) (monomial_code (factors_at meant t.ids)))
      (code_order (terms_code (terms_at meant (drop k (u ∷ ss))))
      (terms_code (terms_at meant (drop k (v ∷ ts)))))) (sym e)

module _ (nodes : List Node) where
  pub parts_from : (xs ys : List ExprId) (at next : ℕ) (d : ExprId) → next ≡ suc at
      → at < length xs
      → at < length ys
      → code_order (parts_code (parts_of (map (tree_of nodes) (drop at xs))))
      (parts_code (parts_of (map (tree_of nodes) (drop at ys))))
      ≡ ordering_then
      (code_order (tree_code (tree_of nodes (get_or xs at d))) (tree_code (tree_of nodes (get_or ys at d))))
      (code_order (parts_code (parts_of (map (tree_of nodes) (drop next xs))))
      (parts_code (parts_of (map (tree_of nodes) (drop next ys)))))
  parts_from [] ys at next d e within within' = absurd (omega arith)
  parts_from (x ∷ xs) [] at next d e within within' = absurd (omega arith)
  parts_from (x ∷ xs) (y ∷ ys) zero next d e within within' =
      part_first (tree_of nodes x) (tree_of nodes y) (parts_of (map (tree_of nodes) xs))
      (parts_of (map (tree_of nodes) ys))
      ∙ ap (λ k. ordering_then (code_order (tree_code (tree_of nodes x)) (tree_code (tree_of nodes y)))
      (code_order (parts_code (parts_of (map (tree_of nodes) (drop k (x ∷ xs)))))
      (parts_code (parts_of (map (tree_of nodes) (drop k (y ∷ ys))))))) (sym e)
  parts_from (x ∷ xs) (y ∷ ys) (suc at) next d e within within' =
      parts_from xs ys at (suc at) d refl (omega arith) (omega arith)
      ∙ ap (λ k. ordering_then
      (code_order (tree_code (tree_of nodes (get_or xs at d))) (tree_code (tree_of nodes (get_or ys at d))))
      (code_order (parts_code (parts_of (map (tree_of nodes) (drop k (x ∷ xs)))))
      (parts_code (parts_of (map (tree_of nodes) (drop k (y ∷ ys))))))) (sym e)
