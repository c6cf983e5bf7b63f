-- How parts of recurrences are added and multiplied over the places of an arena.
use Rattle.std.proofs.Common.{◌≡◌, ℕ, ◌+◌, ◌≤◌, List, [], ◌∷◌, ◌++◌, length, map, refl, sym, ap, ◌∙◌}
use Rattle.std.proofs.Common.{subst}
use Rattle.std.proofs.lemmas.List.{map-append, length-append, length-map}
use Rattle.rec_algebra.specs.Plans.{Plan}
use Rattle.rec_algebra.specs.Forming.{sum_plan, product_plan}
use Rattle.scev_base.specs.declared.ids.ExprId.{ExprId}
use Rattle.scev_tree.specs.Tree.{Tree, Terms}
use Rattle.scev_arena.specs.declared.node.Node.{Node}
use Rattle.scev_arena.specs.Meaning.{tree_of}
use Rattle.scev_forms.specs.Outcome.{Outcome, Done, next}
use Rattle.scev_forms.specs.Sums.{carried_by, parts_sum, parts_product, parts_multiple, parts_times, parts_with}
use Rattle.scev_sums.specs.Answers.{GoesOn, AreAt, AreAll, IsTreeOfAt, AreTreesOfAt, trees_at}
use Rattle.scev_sums.specs.Levels.{IsRecurrence}
use Rattle.scev_sums.proofs.Growth.{goes_on_again, same_tree_goes_on, trees_go_on, same_trees_go_on}
use Rattle.scev_sums.proofs.Placing.{both_hold}
use Rattle.scev_sums.proofs.Refusals.{LeadsOn, led_on}

-- recurrences stay as the arena goes on
module _ (old new : List Node) (grows : GoesOn old new) (w : ℕ) where
  pub recurrences_go_on : (recs : List (List ExprId)) → AreAll (IsRecurrence old w) recs
      → AreAll (IsRecurrence new w) recs
  recurrences_go_on [] h = tt
  recurrences_go_on (rec ∷ recs) h = ((trees_go_on old new grows w rec h.0.0, h.0.1), recurrences_go_on recs h.1)

  pub same_recurrences_go_on : (recs : List (List ExprId)) → AreAll (IsRecurrence old w) recs
      → map (trees_at new) recs ≡ map (trees_at old) recs
  same_recurrences_go_on [] h = refl
  same_recurrences_go_on (rec ∷ recs) h =
      ap (λ trees. trees ∷ map (trees_at new) recs) (same_trees_go_on old new grows w rec h.0.0)
      ∙ ap (λ all. trees_at old rec ∷ all) (same_recurrences_go_on recs h.1)

-- ---- what the plan of a sum, or of a product, gives

module _ (form : Terms → Outcome Tree) (w l : ℕ) (nodes : List Node) (left right : List ExprId) {operands : List ExprId}
    (e : operands ≡ left ++ right) where
  all_operands : trees_at nodes operands ≡ trees_at nodes left ++ trees_at nodes right
  all_operands = ap (trees_at nodes) e ∙ map-append (tree_of nodes) left right

  pub sum_carried : {plan : Plan} → plan ≡ sum_plan (length left) (length right)
      → carried_by form w l plan (trees_at nodes operands)
      ≡ parts_sum form w l (trees_at nodes left) (trees_at nodes right)
  sum_carried {plan} same =
      ap (carried_by form w l plan) all_operands
      ∙ ap (λ p. carried_by form w l p (trees_at nodes left ++ trees_at nodes right)) (
      same
      ∙ ap (λ m. sum_plan m (length right)) (sym (length-map left (tree_of nodes)))
      ∙ ap (sum_plan (length (trees_at nodes left))) (sym (length-map right (tree_of nodes)))
      )

  product_carried : {plan : Plan} → plan ≡ product_plan (length left) (length right)
      → carried_by form w l plan (trees_at nodes operands)
      ≡ parts_product form w l (trees_at nodes left) (trees_at nodes right)
  product_carried {plan} same =
      ap (carried_by form w l plan) all_operands
      ∙ ap (λ p. carried_by form w l p (trees_at nodes left ++ trees_at nodes right)) (
      same
      ∙ ap (λ m. product_plan m (length right)) (sym (length-map left (tree_of nodes)))
      ∙ ap (product_plan (length (trees_at nodes left))) (sym (length-map right (tree_of nodes)))
      )

-- the operands of a plan are its parts
pub operands_counted : (left right : List ExprId) {operands : List ExprId} {count : ℕ}
    → count ≡ length left + length right
    → operands ≡ left ++ right
    → count ≡ length operands
operands_counted left right counted e = counted ∙ sym (length-append left right) ∙ sym (ap length e)

-- items that were put behind those of a list
pub behind_items : {operands start left right slice : List ExprId}
    → operands ≡ start ++ slice
    → start ≡ left
    → slice ≡ right
    → operands ≡ left ++ right
behind_items {left = left} {slice = slice} e f g = e ∙ ap (λ ids. ids ++ slice) f ∙ ap (λ ids. left ++ ids) g

-- ---- products of recurrences

-- What the recurrences that are left give of the parts so far is the whole.
pub record IsMultiplying (form : Terms → Outcome Tree) (w l : ℕ) (whole : Outcome (List Tree)) (first old : List Node)
    (parts : List ExprId) (recs : List (List ExprId)) : Type 0 where
  pub grows : GoesOn first old
  pub trees : AreTreesOfAt old w parts
  pub some : 1 ≤ length parts
  pub left : AreAll (IsRecurrence first w) recs
  pub same : parts_times form w l (trees_at old parts) (map (trees_at first) recs) ≡ whole

module _ {form : Terms → Outcome Tree} {w l : ℕ} {whole : Outcome (List Tree)} {first old : List Node}
    {parts : List ExprId} {recs : List (List ExprId)}
    (multiplying : IsMultiplying form w l whole first old parts recs) where
  -- no recurrence is left
  pub all_multiplied : recs ≡ [] → whole ≡ Done (trees_at old parts)
  unfolding parts_times
  all_multiplied e =
      sym multiplying.same ∙ ap (λ rest. parts_times form w l (trees_at old parts) (map (trees_at first) rest)) e

  module _ {rec : List ExprId} {others : List (List ExprId)} (left : recs ≡ rec ∷ others) where
    all_left : AreAll (IsRecurrence first w) (rec ∷ others)
    all_left = subst (AreAll (IsRecurrence first w)) left multiplying.left

    pub next_some : {slice : List ExprId} → slice ≡ rec → 1 ≤ length slice
    next_some is = subst (λ ids. 1 ≤ length ids) (sym is) all_left.0.1

    pub product_held : {operands : List ExprId} → operands ≡ parts ++ rec → AreTreesOfAt old w operands
    product_held e =
        subst (AreTreesOfAt old w) (sym e) (both_hold old w parts rec multiplying.trees
        (trees_go_on first old multiplying.grows w rec all_left.0.0))

    module _ {plan : Plan} {operands mine slice : List ExprId} (e : operands ≡ parts ++ rec) (mine_is : mine ≡ parts)
        (slice_is : slice ≡ rec) (is : plan ≡ product_plan (length mine) (length slice)) where
      -- the next product leads on to the whole
      pub product_leads : LeadsOn (carried_by form w l plan (trees_at old operands))
          (λ product. parts_times form w l product (map (trees_at first) others)) whole
      unfolding parts_times
      product_leads =
          let product = λ (trees : List Tree). next (parts_product form w l (trees_at old parts) trees)
          (λ product. parts_times form w l product (map (trees_at first) others)) in record {
            leads = ap (λ o. next o (λ product. parts_times form w l product (map (trees_at first) others)))
                (product_carried form w l old parts rec e (is
                ∙ ap (λ ids. product_plan (length ids) (length slice)) mine_is
                ∙ ap (λ ids. product_plan (length parts) (length ids)) slice_is))
                ∙ ap product (same_trees_go_on first old multiplying.grows w rec all_left.0.0)
                ∙ ap (λ rest. parts_times form w l (trees_at old parts) (map (trees_at first) rest)) (sym left)
                ∙ multiplying.same;
          }

      pub multiplied : {new : List Node} → GoesOn old new
          → {more : List ExprId}
          → (product : List Tree) × (carried_by form w l plan (trees_at old operands) ≡ Done product)
          × AreAt new w more product
          → 1 ≤ length more
          → IsMultiplying form w l whole first new more others
      multiplied {new} grows told some = record {
        grows = goes_on_again first old new multiplying.grows grows;
        trees = told.2.0;
        some = some;
        left = all_left.1;
        same = ap (λ product. parts_times form w l product (map (trees_at first) others)) told.2.1
            ∙ led_on told.0 product_leads told.1;
      }

-- ---- a tree times recurrences

pub with_first : (form : Terms → Outcome Tree) (w l : ℕ) (old : List Node) {new : List Node} (grows : GoesOn old new)
    (id : ExprId) (parts : List ExprId) {first slice : List ExprId} {recs others : List (List ExprId)}
    → IsTreeOfAt old w id
    → recs ≡ first ∷ others
    → slice ≡ first
    → (product : List Tree)
    × (parts_times form w l (trees_at old slice) (map (trees_at old) others) ≡ Done product) × AreAt new w parts product
    → parts_multiple form w l (tree_of new id) (trees_at new parts)
    ≡ parts_with form w l (tree_of old id) (map (trees_at old) recs)
with_first form w l old {new} grows id parts {others = others} held is slice_is told =
    let rest = map (trees_at old) others in
    ap (λ t. parts_multiple form w l t (trees_at new parts)) (same_tree_goes_on old new grows id held.0)
    ∙ ap (parts_multiple form w l (tree_of old id)) told.2.1
    ∙ sym (ap (λ o. next o (parts_multiple form w l (tree_of old id))) told.1)
    ∙ ap (λ ids. parts_with form w l (tree_of old id) (trees_at old ids ∷ rest)) slice_is
    ∙ ap (λ all. parts_with form w l (tree_of old id) (map (trees_at old) all)) (sym is)
