-- Plans that are carried out over trees: their parts stand for the items of the plan.
use Rattle.std.proofs.Common.{ℕ, zero, suc, ◌<◌, List, [], ◌∷◌, ◌++◌, map, get_or}
use Rattle.std.proofs.Common.{Option, Some, ◌∙◌}
use Rattle.std.proofs.lemmas.Bool.{cond_both}
use Rattle.rec_algebra.specs.Plans.{Plan}
use Rattle.rec_algebra.specs.declared.plan.PlanStep.{PlanStep}
use Rattle.rec_algebra.specs.declared.plan.PlanStep.TheVariants as step
use Rattle.rec_algebra.specs.Plans.{step_item, place_items, carried}
use Rattle.scev_tree.specs.Tree.{Tree, Terms}
use Rattle.scev_tree.specs.Canonical.{AreCanonicalTerms}
use Rattle.scev_tree.specs.Value.{sum, product, terms_value}
use Rattle.scev_forms.specs.Outcome.{Outcome, Refused}
use Rattle.scev_forms.specs.Polynomials.{terms_of, terms_sum, terms_product}
use Rattle.scev_arena.specs.Limits.{are_wide}
use Rattle.scev_arena.specs.declared.limit.Limit.TheVariants.{TooWide}
use Rattle.scev_forms.specs.Gather.{trimmed}
use Rattle.scev_forms.specs.Sums.{formed_within, sum_by, product_by, at_place, step_by, places_by, carried_by}
use Rattle.scev_forms.proofs.Outcomes.{Gives, gives_next, gives_more}
use Rattle.scev_forms.proofs.Kept.{Keeps, keeps_again, keeps_sum, keeps_product}
use Rattle.scev_forms.proofs.Polynomials.{terms_sum_canonical, terms_product_canonical, terms_sum_value}
use Rattle.scev_forms.proofs.Polynomials.{terms_product_value}
use Rattle.scev_forms.proofs.Standing.{value_at, Stands, AllStand, PartsStand, IsFormer, stands_kept, zero_stands}
use Rattle.scev_forms.proofs.Standing.{terms_of_canonical, terms_of_value, parts_from_all}
use Rattle.scev_forms.proofs.Trimmed.{trimmed_stand, gives_tested_parts}

module _ (held : ℕ → Option ℕ) (turns : ℕ → ℕ) (w : ℕ) (form : Terms → Outcome Tree)
    (former : IsFormer held turns w form) (some : 0 < w) where
  -- ---- sums and products

  -- what is formed of canonical terms stands for what keeps to their value
  pub within_stands : (x : Option ℕ) (ts : Terms)
      → AreCanonicalTerms w ts
      → Keeps x (terms_value held turns w ts)
      → Gives (Stands held turns w x) (formed_within form ts)
  within_stands x ts canonical keeps =
      cond_both (are_wide ts) (Refused TooWide) (form ts) (Gives (Stands held turns w x))
      (λ _. tt)
      (λ _. gives_more (Stands held turns w (terms_value held turns w ts)) (Stands held turns w x) (form ts)
      (former ts canonical)
      (λ tree. stands_kept held turns w x (terms_value held turns w ts) tree keeps))

  -- a tree has at least the value that its terms keep to
  of_terms : (x : Option ℕ) (tree : Tree)
      → Stands held turns w x tree
      → Keeps x (terms_value held turns w (terms_of tree))
  of_terms x tree h n e = terms_of_value held turns w tree h.0 ∙ h.1 n e

  -- the sum of trees stands for the sum of what they stand for
  pub sum_stands : (x y : Option ℕ) (left right : Tree)
      → Stands held turns w x left
      → Stands held turns w y right
      → Gives (Stands held turns w (sum w x y)) (sum_by form w left right)
  sum_stands x y left right h h' =
      let first = terms_of left in
      let second = terms_of right in
      within_stands (sum w x y) (terms_sum w first second)
      (terms_sum_canonical w first second (terms_of_canonical held turns w left h.0)
      (terms_of_canonical held turns w right h'.0))
      (keeps_again (sum w x y) (sum w (terms_value held turns w first) (terms_value held turns w second))
      (terms_value held turns w (terms_sum w first second))
      (keeps_sum w x _ y _ (of_terms x left h) (of_terms y right h'))
      (terms_sum_value held turns w first second))

  -- so does the product
  pub product_stands : (x y : Option ℕ) (left right : Tree)
      → Stands held turns w x left
      → Stands held turns w y right
      → Gives (Stands held turns w (product w x y)) (product_by form w left right)
  product_stands x y left right h h' =
      let first = terms_of left in
      let second = terms_of right in
      within_stands (product w x y) (terms_product w first second)
      (terms_product_canonical w first second (terms_of_canonical held turns w left h.0)
      (terms_of_canonical held turns w right h'.0))
      (keeps_again (product w x y) (product w (terms_value held turns w first) (terms_value held turns w second))
      (terms_value held turns w (terms_product w first second))
      (keeps_product w x _ y _ (of_terms x left h) (of_terms y right h'))
      (terms_product_value held turns w first second some))

  -- ---- steps

  -- a place stands for its item
  place_stands : (items : List (Option ℕ)) (places : List Tree)
      → AllStand held turns w items places
      → (k : ℕ)
      → Stands held turns w (get_or items k (Some 0)) (at_place w places k)
  place_stands [] [] h k = zero_stands held turns w
  place_stands [] (tree ∷ places) h k = absurd h
  place_stands (x ∷ items) [] h k = absurd h
  place_stands (x ∷ items) (tree ∷ places) h zero = h.0
  place_stands (x ∷ items) (tree ∷ places) h (suc k) = place_stands items places h.1 k

  -- one more place
  one_place_more : (items : List (Option ℕ)) (places : List Tree) (x : Option ℕ) (tree : Tree)
      → AllStand held turns w items places
      → Stands held turns w x tree
      → AllStand held turns w (items ++ x ∷ []) (places ++ tree ∷ [])
  one_place_more [] [] x tree h one = (one, tt)
  one_place_more [] (other ∷ places) x tree h one = absurd h
  one_place_more (y ∷ items) [] x tree h one = absurd h
  one_place_more (y ∷ items) (other ∷ places) x tree h one = (h.0, one_place_more items places x tree h.1 one)

  -- what a step forms stands for its item
  step_stands : (items : List (Option ℕ)) (places : List Tree)
      → AllStand held turns w items places
      → (first : PlanStep)
      → Gives (Stands held turns w (step_item (sum w) (product w) (Some 0) items first)) (step_by form w places first)
  step_stands items places h (step.Add i j) =
      sum_stands (get_or items i (Some 0)) (get_or items j (Some 0)) (at_place w places i) (at_place w places j)
      (place_stands items places h i) (place_stands items places h j)
  step_stands items places h (step.Mul i j) =
      product_stands (get_or items i (Some 0)) (get_or items j (Some 0)) (at_place w places i) (at_place w places j)
      (place_stands items places h i) (place_stands items places h j)

  -- so do all places
  places_stand : (steps : List PlanStep) (items : List (Option ℕ)) (places : List Tree)
      → AllStand held turns w items places
      → Gives (AllStand held turns w (place_items (sum w) (product w) (Some 0) items steps))
      (places_by form w steps places)
  unfolding places_by
  places_stand [] items places h = h
  places_stand (first ∷ steps) items places h =
      let item = step_item (sum w) (product w) (Some 0) items first in
      gives_next (Stands held turns w item)
      (AllStand held turns w (place_items (sum w) (product w) (Some 0) (items ++ item ∷ []) steps))
      (step_by form w places first) _ (step_stands items places h first)
      (λ tree one. places_stand steps (items ++ item ∷ []) (places ++ tree ∷ [])
      (one_place_more items places item tree h one))

  -- and those of the result
  results_stand : (items : List (Option ℕ)) (places : List Tree)
      → AllStand held turns w items places
      → (results : List ℕ)
      → AllStand held turns w (map (λ place. get_or items place (Some 0)) results) (map (at_place w places) results)
  results_stand items places h [] = tt
  results_stand items places h (k ∷ results) = (place_stands items places h k, results_stand items places h results)

  -- ---- recurrences

  -- A plan that is carried out over trees gives parts that stand for what it gives of items.
  pub carried_stand : (l : ℕ) (plan : Plan) (items : List (Option ℕ)) (operands : List Tree)
      → AllStand held turns w items operands
      → Gives (PartsStand held turns w l (value_at w (turns l) (carried (sum w) (product w) (Some 0) plan items)))
      (carried_by form w l plan operands)
  unfolding carried_by
  carried_stand l plan items operands h =
      let all = place_items (sum w) (product w) (Some 0) items plan.steps in
      let value = value_at w (turns l) (carried (sum w) (product w) (Some 0) plan items) in
      gives_next (AllStand held turns w all) (PartsStand held turns w l value) (places_by form w plan.steps operands) _
      (places_stand plan.steps items operands h)
      (λ places those.
      let results = map (at_place w places) plan.results in
      gives_tested_parts held turns w (PartsStand held turns w l value) l (trimmed results)
      (trimmed_stand held turns w l value results
      (parts_from_all held turns w l (carried (sum w) (product w) (Some 0) plan items) results
      (results_stand all places those plan.results))))
