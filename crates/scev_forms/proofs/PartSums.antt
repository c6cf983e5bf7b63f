-- Sums and products of recurrences, by their parts.
use Rattle.std.proofs.Common.{◌≡◌, ℕ, ◌+◌, ◌*◌, ◌%◌, ◌^◌, ◌<◌, true, List, [], ◌∷◌, ◌++◌, length, map}
use Rattle.std.proofs.Common.{take, drop, Option, Some, refl, sym, ap, ◌∙◌, subst, length-append}
use Rattle.std.proofs.lemmas.Bool.{cond_both}
use Rattle.std.proofs.lemmas.List.{length-map}
use Rattle.std.proofs.lemmas.Nat.{pow_below}
use Rattle.std.proofs.Math.Nat.{mod-eq_of_lt}
use Rattle.rec_algebra.specs.Plans.{Plan}
use Rattle.rec_algebra.specs.Forming.{sum_plan, multiple_plan, product_plan}
use Rattle.rec_algebra.specs.Plans.{carried}
use Rattle.rec_algebra.specs.Values.{HasValue}
use Rattle.rec_algebra.proofs.AlgebraLemmas.{value_of_single}
use Rattle.rec_algebra.proofs.PlanLemmas.{all_from_each}
use Rattle.rec_algebra.proofs.CarriedPlans.{sum_is_carried, product_is_carried, multiple_is_carried}
use Rattle.scev_tree.specs.Tree.{Tree, Terms, constant}
use Rattle.scev_tree.specs.Order.{tree_code}
use Rattle.scev_tree.specs.Value.{sum, product, tree_value}
use Rattle.scev_tree.proofs.Arithmetic.{IsBelow, one_times}
use Rattle.scev_tree.proofs.Codes.{one_tree}
use Rattle.scev_tree.proofs.Lower.{told_same}
use Rattle.scev_forms.specs.Trees.{AreTreesOf}
use Rattle.scev_forms.specs.Outcome.{Outcome, Done}
use Rattle.scev_forms.specs.Sums.{same_tree, carried_by, parts_sum, parts_product, parts_multiple}
use Rattle.scev_forms.proofs.Outcomes.{Gives, gives_more}
use Rattle.scev_forms.proofs.Kept.{Keeps, keeps_same, keeps_again, keeps_sum, keeps_product}
use Rattle.scev_forms.proofs.Kept.{keeps_lifted_none, keeps_none_first, number_semiring}
use Rattle.scev_forms.proofs.Flat.{both_are_trees}
use Rattle.scev_forms.proofs.Standing.{value_at, Stands, PartsStand, IsFormer, parts_value, all_stand, values_below}
use Rattle.scev_forms.proofs.Standing.{constant_stands, parts_stand_kept, parts_below}
use Rattle.scev_forms.proofs.Carried.{carried_stand}

-- trees that are told to be one are
pub told_tree : (a b : Tree) → same_tree a b ≡ true → a ≡ b
told_tree a b h = one_tree a b (told_same (tree_code a) (tree_code b) h)

module _ (held : ℕ → Option ℕ) (turns : ℕ → ℕ) (w : ℕ) where
  -- the values of trees
  abbrev values_of : List Tree → List (Option ℕ)
  values_of trees = map (tree_value held turns) trees

  -- the values of the first list, of those of both
  take_values : (left right : List Tree) → take (length left) (values_of (left ++ right)) ≡ values_of left
  take_values [] right = refl
  take_values (tree ∷ left) right = ap (λ xs. tree_value held turns tree ∷ xs) (take_values left right)

  -- those of the second one
  drop_values : (left right : List Tree) → drop (length left) (values_of (left ++ right)) ≡ values_of right
  drop_values [] right = refl
  drop_values (tree ∷ left) right = drop_values left right

  -- how many there are
  count_values : (left right : List Tree) → length (values_of (left ++ right)) ≡ length left + length right
  count_values left right = length-map (left ++ right) (tree_value held turns) ∙ length-append left right

  -- the value of a list that has one
  value_of_has : (turn : ℕ) (xs : List (Option ℕ)) (x : Option ℕ) → HasValue (sum w) turn xs x → value_at w turn xs ≡ x
  value_of_has turn [] x h = absurd h
  value_of_has turn (y ∷ xs) x h = h

  -- what the plan of a sum gives of the values
  sum_plan_kept : (l : ℕ) (left right : List Tree)
      → AreTreesOf w left
      → AreTreesOf w right
      → Keeps (sum w (parts_value held turns w l left) (parts_value held turns w l right))
      (value_at w (turns l) (carried (sum w) (product w) (Some 0) (sum_plan (length left) (length right))
      (values_of (left ++ right))))
  sum_plan_kept l [] right h hs = keeps_none_first (λ a b. (a + b) % 2 ^ w) (parts_value held turns w l right) _
  sum_plan_kept l (first ∷ left) [] h hs =
      keeps_lifted_none (λ a b. (a + b) % 2 ^ w) (parts_value held turns w l (first ∷ left)) _
  sum_plan_kept l (first ∷ left) (second ∷ right) h hs =
      let one = first ∷ left in
      let other = second ∷ right in
      let items = values_of (one ++ other) in
      let value = parts_value held turns w l one in
      let value' = parts_value held turns w l other in
      keeps_same _ _ (sym (value_of_has (turns l) _ (sum w value value')
      (sum_is_carried (number_semiring w) (Some 0) items (length one) (length other) (turns l) value value'
      (all_from_each (IsBelow w) items (values_below held turns w (one ++ other) (both_are_trees w one other h hs)))
      (count_values one other)
      (subst (λ xs. HasValue (sum w) (turns l) xs value) (sym (take_values one other)) refl)
      (subst (λ xs. HasValue (sum w) (turns l) xs value') (sym (drop_values one other)) refl))))

  -- and that of a product
  product_plan_kept : (l : ℕ) (left right : List Tree)
      → AreTreesOf w left
      → AreTreesOf w right
      → Keeps (product w (parts_value held turns w l left) (parts_value held turns w l right))
      (value_at w (turns l) (carried (sum w) (product w) (Some 0) (product_plan (length left) (length right))
      (values_of (left ++ right))))
  product_plan_kept l [] right h hs = keeps_none_first (λ a b. (a * b) % 2 ^ w) (parts_value held turns w l right) _
  product_plan_kept l (first ∷ left) [] h hs =
      keeps_lifted_none (λ a b. (a * b) % 2 ^ w) (parts_value held turns w l (first ∷ left)) _
  product_plan_kept l (first ∷ left) (second ∷ right) h hs =
      let one = first ∷ left in
      let other = second ∷ right in
      let items = values_of (one ++ other) in
      let value = parts_value held turns w l one in
      let value' = parts_value held turns w l other in
      keeps_same _ _ (sym (value_of_has (turns l) _ (product w value value')
      (product_is_carried (number_semiring w) (Some 0) items (length one) (length other) (turns l) value value'
      (all_from_each (IsBelow w) items (values_below held turns w (one ++ other) (both_are_trees w one other h hs)))
      (count_values one other)
      (subst (λ xs. HasValue (sum w) (turns l) xs value) (sym (take_values one other)) refl)
      (subst (λ xs. HasValue (sum w) (turns l) xs value') (sym (drop_values one other)) refl))))

  -- and that of a multiple
  multiple_plan_kept : (l : ℕ) (tree : Tree) (parts : List Tree)
      → AreTreesOf w (tree ∷ parts)
      → Keeps (product w (tree_value held turns tree) (parts_value held turns w l parts))
      (value_at w (turns l) (carried (sum w) (product w) (Some 0) (multiple_plan (length parts))
      (values_of (tree ∷ parts))))
  multiple_plan_kept l tree [] h = keeps_lifted_none (λ a b. (a * b) % 2 ^ w) (tree_value held turns tree) _
  multiple_plan_kept l tree (first ∷ parts) h =
      let items = values_of (tree ∷ first ∷ parts) in
      let value = tree_value held turns tree in
      let value' = parts_value held turns w l (first ∷ parts) in
      keeps_same _ _ (sym (value_of_has (turns l) _ (product w value value')
      (multiple_is_carried (number_semiring w) (Some 0) items (length (first ∷ parts)) (turns l) value value'
      (all_from_each (IsBelow w) items (values_below held turns w (tree ∷ first ∷ parts) h))
      (count_values (tree ∷ []) (first ∷ parts))
      (value_of_single (number_semiring w) (turns l) value) refl)))

module _ (held : ℕ → Option ℕ) (turns : ℕ → ℕ) (w : ℕ) (form : Terms → Outcome Tree)
    (former : IsFormer held turns w form) (some : 0 < w) where
  -- a plan that is carried out over canonical trees gives what keeps to its value
  carried_kept : (l : ℕ) (x : Option ℕ) (plan : Plan) (operands : List Tree)
      → AreTreesOf w operands
      → Keeps x (value_at w (turns l) (carried (sum w) (product w) (Some 0) plan
      (map (tree_value held turns) operands)))
      → Gives (PartsStand held turns w l x) (carried_by form w l plan operands)
  carried_kept l x plan operands h keeps =
      let items = map (tree_value held turns) operands in
      let value = value_at w (turns l) (carried (sum w) (product w) (Some 0) plan items) in
      gives_more (PartsStand held turns w l value) (PartsStand held turns w l x) (carried_by form w l plan operands)
      (carried_stand held turns w form former some l plan items operands (all_stand held turns w operands h))
      (λ parts. parts_stand_kept held turns w l x value parts keeps)

  -- the sum of recurrences stands for the sum of what they stand for
  pub parts_sum_stand : (l : ℕ) (x y : Option ℕ) (left right : List Tree)
      → PartsStand held turns w l x left
      → PartsStand held turns w l y right
      → Gives (PartsStand held turns w l (sum w x y)) (parts_sum form w l left right)
  parts_sum_stand l x y left right h h' =
      let value = parts_value held turns w l left in
      let value' = parts_value held turns w l right in
      carried_kept l (sum w x y) (sum_plan (length left) (length right)) (left ++ right)
      (both_are_trees w left right h.0 h'.0)
      (keeps_again (sum w x y) (sum w value value') _ (keeps_sum w x value y value' h.1 h'.1)
      (sum_plan_kept held turns w l left right h.0 h'.0))

  -- the product of recurrences stands for the product of what they stand for
  pub parts_product_stand : (l : ℕ) (x y : Option ℕ) (left right : List Tree)
      → PartsStand held turns w l x left
      → PartsStand held turns w l y right
      → Gives (PartsStand held turns w l (product w x y)) (parts_product form w l left right)
  parts_product_stand l x y left right h h' =
      let value = parts_value held turns w l left in
      let value' = parts_value held turns w l right in
      carried_kept l (product w x y) (product_plan (length left) (length right)) (left ++ right)
      (both_are_trees w left right h.0 h'.0)
      (keeps_again (product w x y) (product w value value') _ (keeps_product w x value y value' h.1 h'.1)
      (product_plan_kept held turns w l left right h.0 h'.0))

  -- nothing is multiplied by 1
  one_kept : (l : ℕ) (x y : Option ℕ) (tree : Tree) (parts : List Tree)
      → tree ≡ constant w 1
      → Stands held turns w x tree
      → PartsStand held turns w l y parts
      → Keeps (product w x y) (parts_value held turns w l parts)
  one_kept l x y tree parts one h h' =
      let value = parts_value held turns w l parts in
      let number : 1 % 2 ^ w ≡ 1 = mod-eq_of_lt (pow_below 0 w some) in
      let is_one : tree_value held turns tree ≡ Some 1 =
      ap (tree_value held turns) one ∙ (constant_stands held turns w 1).1 1 (ap Some number) in
      keeps_again (product w x y) (product w (tree_value held turns tree) value) value
      (keeps_product w x (tree_value held turns tree) y value h.1 h'.1)
      (keeps_same _ value (ap (λ z. product w z value) is_one
      ∙ one_times w value (parts_below held turns w l parts h'.0)))

  -- a multiple of a recurrence stands for the product of what both stand for
  pub parts_multiple_stand : (l : ℕ) (x y : Option ℕ) (tree : Tree) (parts : List Tree)
      → Stands held turns w x tree
      → PartsStand held turns w l y parts
      → Gives (PartsStand held turns w l (product w x y)) (parts_multiple form w l tree parts)
  parts_multiple_stand l x y tree parts h h' =
      let value = tree_value held turns tree in
      let value' = parts_value held turns w l parts in
      cond_both (same_tree tree (constant w 1)) (Done parts)
      (carried_by form w l (multiple_plan (length parts)) (tree ∷ parts))
      (Gives (PartsStand held turns w l (product w x y)))
      (λ one. (h'.0, one_kept l x y tree parts (told_tree tree (constant w 1) one) h h'))
      (λ _. carried_kept l (product w x y) (multiple_plan (length parts)) (tree ∷ parts) (h.0, h'.0)
      (keeps_again (product w x y) (product w value value') _ (keeps_product w x value y value' h.1 h'.1)
      (multiple_plan_kept held turns w l tree parts (h.0, h'.0))))
