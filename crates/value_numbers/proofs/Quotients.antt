-- Shifts and quotients: the values of what is formed are what the rows give.
use Rattle.std.proofs.Common.{◌≡◌, ℕ, zero, suc, ◌*◌, ◌/◌, ◌%◌, ◌^◌, ◌<◌, ◌==◌, nat_lt, Bool}
use Rattle.std.proofs.Common.{List, Option, Some, None, refl, ap, ◌∙◌, arith, subst}
use Rattle.std.proofs.lemmas.Bool.{cond_both, eqb-false, ltb-true}
use Rattle.std.proofs.lemmas.Nat.{pow_pos, pow_below}
use Rattle.scev_tree.specs.Tree.{Tree, constant}
use Rattle.scev_tree.specs.Value.{quotient, tree_value}
use Rattle.scev_forms.specs.Trees.{IsTreeOf}
use Rattle.scev_forms.specs.Outcome.{Done}
use Rattle.scev_forms.specs.Atoms.{number_of}
use Rattle.scev_forms.specs.Sums.{tree_product}
use Rattle.scev_forms.specs.Quotients.{tree_quotient}
use Rattle.scev_forms.proofs.Atoms.{constant_is_tree, constant_same, number_value}
use Rattle.scev_forms.proofs.SumsFormed.{product_value}
use Rattle.scev_forms.proofs.Quotients.{quotient_value}
use Rattle.ir_meaning.specs.declared.value.Value.{Value}
use Rattle.ir_meaning.specs.declared.value.Value.TheVariants as value
use Rattle.ir_meaning.specs.Rows.{shifted_left, shifted_right, divided, by_divisor, on_numbers}
use Rattle.value_exprs.specs.Steps.{shifted_up, shifted_down}
use Rattle.value_truth.specs.Truth.{Denotes}
use Rattle.value_numbers.proofs.Told.{number_told, on_operands, unless_poison, Follows, lifted_is}

-- a quotient by a number that isn't 0
quotient_is : (x y : Option ℕ) (m n : ℕ) → 0 < n → x ≡ Some m → y ≡ Some n → quotient x y ≡ Some (m / n)
quotient_is x y m zero some left right = absurd (omega arith)
quotient_is x y m (suc n) some left right =
    ap (quotient x) right ∙ ap (λ o. quotient o (Some (suc n))) left

module _ (held : ℕ → Option ℕ) (turns : ℕ → ℕ) (parents : List (Option ℕ)) (w : ℕ) (some : 0 < w) where
  -- `shl` by a number
  up_by : (nuw nsw : Bool) (x y tree : Tree) (o : Option ℕ)
      → IsTreeOf w x
      → IsTreeOf w y
      → number_of y ≡ o
      → shifted_up parents w x o ≡ Some (Done tree)
      → Follows (shifted_left w nuw nsw) (tree_value held turns x) (tree_value held turns y)
      (tree_value held turns tree)
  up_by nuw nsw x y tree None l r number h m n left right = absurd cc
  up_by nuw nsw x y tree (Some c) l r number h m n left right =
      let its = (number_value held turns y c r.1 number).0 in
      let same : c ≡ n = cc in
      unless_poison _ ((m * 2 ^ n) % 2 ^ w) (tree_value held turns tree)
      (λ _. cond_both (nat_lt c w) (Some (tree_product parents w x (constant w (2 ^ c)))) None
      (λ o. o ≡ Some (Done tree) → tree_value held turns tree ≡ Some ((m * 2 ^ n) % 2 ^ w))
      (λ less formed.
      let by = constant_same held turns w (2 ^ c) (pow_below c w (ltb-true c w less)) in
      product_value parents w x (constant w (2 ^ c)) tree held turns ((m * 2 ^ c) % 2 ^ w) some l
      (constant_is_tree w (2 ^ c)) (cc) (lifted_is _ _ _ m (2 ^ c) left by)
      ∙ ap (λ k. Some ((m * 2 ^ k) % 2 ^ w)) same)
      (λ _ none. absurd cc)
      h)

  -- `shl`
  pub up_row : (nuw nsw : Bool) (x y tree : Tree)
      → IsTreeOf w x
      → IsTreeOf w y
      → shifted_up parents w x (number_of y) ≡ Some (Done tree)
      → Follows (shifted_left w nuw nsw) (tree_value held turns x) (tree_value held turns y)
      (tree_value held turns tree)
  up_row nuw nsw x y tree l r h = up_by nuw nsw x y tree (number_of y) l r refl h

  -- `lshr` by a number
  down_by : (exact : Bool) (x y tree : Tree) (o : Option ℕ)
      → IsTreeOf w x
      → IsTreeOf w y
      → number_of y ≡ o
      → shifted_down parents w x o ≡ Some (Done tree)
      → Follows (shifted_right w exact) (tree_value held turns x) (tree_value held turns y)
      (tree_value held turns tree)
  down_by exact x y tree None l r number h m n left right = absurd cc
  down_by exact x y tree (Some c) l r number h m n left right =
      let its = (number_value held turns y c r.1 number).0 in
      let same : c ≡ n = cc in
      unless_poison _ (m / 2 ^ n) (tree_value held turns tree)
      (λ _. cond_both (nat_lt c w) (Some (tree_quotient w x (constant w (2 ^ c)))) None
      (λ o. o ≡ Some (Done tree) → tree_value held turns tree ≡ Some (m / 2 ^ n))
      (λ less formed.
      let by = constant_same held turns w (2 ^ c) (pow_below c w (ltb-true c w less)) in
      quotient_value held turns w x (constant w (2 ^ c)) tree (m / 2 ^ c) l (constant_is_tree w (2 ^ c)) (cc)
      (quotient_is _ _ m (2 ^ c) (pow_pos c) left by)
      ∙ ap (λ k. Some (m / 2 ^ k)) same)
      (λ _ none. absurd cc)
      h)

  -- `lshr`
  pub down_row : (exact : Bool) (x y tree : Tree)
      → IsTreeOf w x
      → IsTreeOf w y
      → shifted_down parents w x (number_of y) ≡ Some (Done tree)
      → Follows (shifted_right w exact) (tree_value held turns x) (tree_value held turns y)
      (tree_value held turns tree)
  down_row exact x y tree l r h = down_by exact x y tree (number_of y) l r refl h

  -- a quotient by a number that isn't 0
  divided_row : (exact : Bool) (x y tree : Tree) (d : ℕ)
      → 0 < d
      → IsTreeOf w x
      → IsTreeOf w y
      → tree_quotient w x y ≡ Done tree
      → tree_value held turns y ≡ Some d
      → Follows (divided exact) (tree_value held turns x) (tree_value held turns y) (tree_value held turns tree)
  divided_row exact x y tree d more l r h by m n left right =
      let same : d ≡ n = cc in
      unless_poison _ (m / n) (tree_value held turns tree)
      (λ _. quotient_value held turns w x y tree (m / n) l r h
      (quotient_is _ _ m n (omega (arith, same)) left right))

  -- `udiv`, which gives something by a number that isn't 0 alone
  pub quotient_row : (exact : Bool) (x y tree : Tree) (a b z : Value)
      → IsTreeOf w x
      → IsTreeOf w y
      → tree_quotient w x y ≡ Done tree
      → by_divisor (divided exact) a b ≡ Some z
      → Denotes (Some a) (tree_value held turns x)
      → Denotes (Some b) (tree_value held turns y)
      → Denotes (Some z) (tree_value held turns tree)
  quotient_row exact x y tree a (value.Number d) z l r h gives left right =
      cond_both (d == 0) None (Some (on_numbers (divided exact) a (value.Number d)))
      (λ o. o ≡ Some z → Denotes (Some z) (tree_value held turns tree))
      (λ _ none. absurd cc)
      (λ apart same.
      let other = eqb-false d 0 apart in
      subst (λ o. Denotes o (tree_value held turns tree)) same
      (on_operands (divided exact) a (value.Number d) _ _ _
      (divided_row exact x y tree d (omega (arith, other)) l r h (number_told d _ right)) left right))
      gives
  quotient_row exact x y tree a _ z l r h gives left right = absurd cc
