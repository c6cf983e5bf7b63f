-- Sums, differences and products: the values of what is formed are what the rows give.
use Rattle.std.proofs.Common.{◌≡◌, ℕ, suc, zero, ◌+◌, ◌-◌, ◌*◌, ◌%◌, ◌^◌, ◌<◌, ◌==◌, ◌&&◌, not, Bool, true, false}
use Rattle.std.proofs.Common.{List, Option, Some, None, refl, sym, ap, ◌∙◌, arith, bit_and, bit_or, bit_xor, inr}
use Rattle.std.proofs.lemmas.Bool.{cond_both, eqb-true}
use Rattle.std.proofs.Math.Nat.{mod-eq_of_lt, add-mod-mod}
use Rattle.std.proofs.lemmas.Nat.{pow_pos, or_lt, or_disjoint, xor_comm}
use Rattle.scev_base.proofs.Congruence.{mod_same}
use Rattle.scev_tree.specs.Tree.{Tree, constant}
use Rattle.scev_tree.specs.Value.{tree_value}
use Rattle.scev_forms.specs.Trees.{IsTreeOf}
use Rattle.scev_forms.specs.Outcome.{Done}
use Rattle.scev_forms.specs.Atoms.{number_of}
use Rattle.scev_forms.specs.Sums.{tree_sum, tree_product}
use Rattle.scev_forms.proofs.Atoms.{constant_is_tree, constant_same, number_value, number_small}
use Rattle.scev_forms.proofs.SumsFormed.{sum_value, product_value, product_canonical}
use Rattle.scev_forms.proofs.Truncations.{next_done}
use Rattle.ir_meaning.specs.Rows.{added, subtracted, multiplied, disjoined, exclusive}
use Rattle.value_exprs.specs.Steps.{difference, is_all_ones, differing}
use Rattle.value_numbers.proofs.Told.{Follows, unless_poison, lifted_is}
use Rattle.value_numbers.proofs.Ones.{xor_ones}

-- a number once less than so often
once_less : (k n : ℕ) → 0 < k → (k - 1) * n + n ≡ k * n
once_less zero n some = absurd (omega arith)
once_less (suc k) n some =
    let once : k * n + n ≡ suc k * n = omega arith in
    let same : suc k - 1 ≡ k = omega arith in
    ap (λ j. j * n + n) same ∙ once

-- -1 times a number is added where the number is subtracted
minus_one_times : (w m n : ℕ) → n < 2 ^ w
    → (m + (2 ^ w - 1) * n % 2 ^ w) % 2 ^ w ≡ (m + (2 ^ w - n)) % 2 ^ w
minus_one_times w m n fits =
    let less = once_less (2 ^ w) n (pow_pos w) in
    add-mod-mod m ((2 ^ w - 1) * n) (2 ^ w)
    ∙ mod_same (m + (2 ^ w - 1) * n) (m + (2 ^ w - n)) (2 ^ w) 1 n (omega (arith, less))

-- -1 minus a number is its complement
complement : (w m : ℕ) → m < 2 ^ w → (2 ^ w - 1 + (2 ^ w - m)) % 2 ^ w ≡ bit_xor m (2 ^ w - 1)
complement w m fits =
    let rest = xor_ones w m fits in
    let other = bit_xor m (2 ^ w - 1) in
    mod_same (2 ^ w - 1 + (2 ^ w - m)) other (2 ^ w) 0 1 (omega (arith, rest))
    ∙ mod-eq_of_lt (omega (arith, rest))

-- a flag that isn't raised
not_raised : (b : Bool) → (true && not b) ≡ false → b ≡ true
not_raised true h = refl
not_raised false h = absurd cc

-- a number that is all ones
all_ones : (w : ℕ) (o : Option ℕ) → is_all_ones w o ≡ true → o ≡ Some (2 ^ w - 1)
all_ones w None h = absurd cc
all_ones w (Some n) h = ap Some (eqb-true n (2 ^ w - 1) h)

module _ (held : ℕ → Option ℕ) (turns : ℕ → ℕ) (parents : List (Option ℕ)) (w : ℕ) (some : 0 < w) where
  -- `add`
  pub sum_row : (nuw nsw : Bool) (x y tree : Tree)
      → IsTreeOf w x
      → IsTreeOf w y
      → tree_sum parents w x y ≡ Done tree
      → Follows (added w nuw nsw) (tree_value held turns x) (tree_value held turns y) (tree_value held turns tree)
  sum_row nuw nsw x y tree l r h m n left right =
      unless_poison _ ((m + n) % 2 ^ w) (tree_value held turns tree)
      (λ _. sum_value parents w x y tree held turns ((m + n) % 2 ^ w) some l r h (lifted_is _ _ _ m n left right))

  -- `or disjoint`
  pub or_row : (x y tree : Tree)
      → IsTreeOf w x
      → IsTreeOf w y
      → tree_sum parents w x y ≡ Done tree
      → Follows (disjoined true) (tree_value held turns x) (tree_value held turns y) (tree_value held turns tree)
  or_row x y tree l r h m n left right =
      unless_poison (true && not (bit_and m n == 0)) (bit_or m n) (tree_value held turns tree)
      (λ clear.
      let apart = eqb-true (bit_and m n) 0 (not_raised (bit_and m n == 0) clear) in
      let whole = or_disjoint m n apart in
      let below = or_lt w m n (number_small held turns w x m l left) (number_small held turns w y n r right) in
      let same : (m + n) % 2 ^ w ≡ bit_or m n = mod-eq_of_lt (omega (arith, whole, below)) ∙ sym whole in
      sum_value parents w x y tree held turns ((m + n) % 2 ^ w) some l r h (lifted_is _ _ _ m n left right)
      ∙ ap Some same)

  -- `mul`
  pub product_row : (nuw nsw : Bool) (x y tree : Tree)
      → IsTreeOf w x
      → IsTreeOf w y
      → tree_product parents w x y ≡ Done tree
      → Follows (multiplied w nuw nsw) (tree_value held turns x) (tree_value held turns y)
      (tree_value held turns tree)
  product_row nuw nsw x y tree l r h m n left right =
      unless_poison _ ((m * n) % 2 ^ w) (tree_value held turns tree)
      (λ _. product_value parents w x y tree held turns ((m * n) % 2 ^ w) some l r h
      (lifted_is _ _ _ m n left right))

  -- a difference has the difference of the values
  pub difference_value : (x y tree : Tree) (m n : ℕ)
      → IsTreeOf w x
      → IsTreeOf w y
      → difference parents w x y ≡ Done tree
      → tree_value held turns x ≡ Some m
      → tree_value held turns y ≡ Some n
      → tree_value held turns tree ≡ Some ((m + (2 ^ w - n)) % 2 ^ w)
  difference_value x y tree m n l r h left right =
      let ones = constant w (2 ^ w - 1) in
      let most : 2 ^ w - 1 < 2 ^ w = omega (arith, pow_pos w) in
      let step = next_done (tree_product parents w ones y) (λ product. tree_sum parents w x product) tree h in
      let is = constant_is_tree w (2 ^ w - 1) in
      let by = product_value parents w ones y step.0 held turns ((2 ^ w - 1) * n % 2 ^ w) some is r step.1
      (lifted_is _ _ _ (2 ^ w - 1) n (constant_same held turns w (2 ^ w - 1) most) right) in
      let is_tree = product_canonical parents w ones y step.0 some is r step.1 in
      sum_value parents w x step.0 tree held turns ((m + (2 ^ w - 1) * n % 2 ^ w) % 2 ^ w) some l is_tree step.2
      (lifted_is _ _ _ m ((2 ^ w - 1) * n % 2 ^ w) left by)
      ∙ ap Some (minus_one_times w m n (number_small held turns w y n r right))

  -- `sub`
  pub difference_row : (nuw nsw : Bool) (x y tree : Tree)
      → IsTreeOf w x
      → IsTreeOf w y
      → difference parents w x y ≡ Done tree
      → Follows (subtracted w nuw nsw) (tree_value held turns x) (tree_value held turns y)
      (tree_value held turns tree)
  difference_row nuw nsw x y tree l r h m n left right =
      unless_poison _ ((m + (2 ^ w - n)) % 2 ^ w) (tree_value held turns tree)
      (λ _. difference_value x y tree m n l r h left right)

  -- what is all ones, less another, has the complement of the value of that
  ones_less : (x y tree : Tree) (k m : ℕ)
      → IsTreeOf w x
      → IsTreeOf w y
      → is_all_ones w (number_of x) ≡ true
      → difference parents w x y ≡ Done tree
      → tree_value held turns x ≡ Some k
      → tree_value held turns y ≡ Some m
      → (k ≡ 2 ^ w - 1) × (tree_value held turns tree ≡ Some (bit_xor m (2 ^ w - 1)))
  ones_less x y tree k m l r ones h left right =
      let number = (number_value held turns x (2 ^ w - 1) l.1 (all_ones w (number_of x) ones)).0 in
      let same : k ≡ 2 ^ w - 1 = cc in (
        same,
        difference_value x y tree (2 ^ w - 1) m l r h number right
            ∙ ap Some (complement w m (number_small held turns w y m r right)),
      )

  -- `xor`
  pub differing_row : (x y tree : Tree)
      → IsTreeOf w x
      → IsTreeOf w y
      → differing parents w x y ≡ Some (Done tree)
      → Follows exclusive (tree_value held turns x) (tree_value held turns y) (tree_value held turns tree)
  differing_row x y tree l r h m n left right =
      inr (
        bit_xor m n,
        refl,
        cond_both (is_all_ones w (number_of y)) (Some (difference parents w y x)) _
            (λ o. o ≡ Some (Done tree) → tree_value held turns tree ≡ Some (bit_xor m n))
            (λ ones formed.
            let its = ones_less y x tree n m r l ones (cc) right left in
            its.1 ∙ ap (λ k. Some (bit_xor m k)) (sym its.0))
            (λ _ other. cond_both (is_all_ones w (number_of x)) (Some (difference parents w x y)) None
            (λ o. o ≡ Some (Done tree) → tree_value held turns tree ≡ Some (bit_xor m n))
            (λ ones formed.
            let its = ones_less x y tree m n l r ones (cc) left right in
            its.1 ∙ ap Some (xor_comm n (2 ^ w - 1)) ∙ ap (λ k. Some (bit_xor k n)) (sym its.0))
            (λ _ none. absurd cc)
            other)
            h,
      )
