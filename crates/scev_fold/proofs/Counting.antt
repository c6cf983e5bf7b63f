-- How a start, and further parts times numbers, are added one after another, over the places of an arena.
use Rattle.std.proofs.Common.{◌≡◌, ℕ, suc, ◌+◌, ◌%◌, ◌^◌, ◌<◌, ◌≤◌, ◌==◌, nat_lt, false, cond, List, [], ◌∷◌, length}
use Rattle.std.proofs.Common.{Option, Some, None, refl, sym, ap, ◌∙◌, lt-ltb, le-ltb, add-one, arith}
use Rattle.std.proofs.Math.Nat.{mod-mod}
use Rattle.binomial_eval.specs.Choose.{choose}
use Rattle.scev_base.specs.declared.ids.ExprId.{ExprId}
use Rattle.scev_tree.specs.declared.kind.Kind.TheVariants as kind
use Rattle.scev_tree.specs.Tree.{Tree, polynomial, no_terms, term, no_factors, constant, width_of}
use Rattle.scev_arena.specs.declared.node.Node.{Node}
use Rattle.scev_arena.specs.Meaning.{tree_of}
use Rattle.scev_forms.specs.Outcome.{Outcome, Done, next}
use Rattle.scev_forms.specs.Casts.{extended, extended_when, truncated}
use Rattle.scev_forms.specs.Sums.{tree_sum, tree_product}
use Rattle.scev_forms.specs.Atoms.{number_of}
use Rattle.scev_forms.specs.Turns.{fitted, counted_parts, counted_affine, counted_by, counted}
use Rattle.scev_sums.specs.Answers.{GoesOn, IsAt, IsTreeOfAt, trees_at}
use Rattle.scev_sums.proofs.Growth.{goes_on_again, same_tree_goes_on}
use Rattle.scev_sums.proofs.Refusals.{LeadsOn, led_on}
use Rattle.scev_casts.proofs.Cutting.{IsCutting}
use Rattle.scev_casts.proofs.Extending.{unknown_when}

-- a count that is narrower is extended
pub narrow_fitted : (parents : List (Option ℕ)) (w : ℕ) (tree : Tree) {v : ℕ} → v ≡ width_of tree → v < w
    → extended_when kind.Zext w false tree ≡ fitted parents w tree
narrow_fitted parents w tree {v = v} e less =
    sym (unknown_when kind.Zext w tree)
    ∙ sym (ap (λ b. cond b (extended kind.Zext w tree) (truncated parents w tree))
    (ap (λ (u : ℕ). nat_lt u w) (sym e) ∙ lt-ltb v w less))

-- ---- one part

module _ (parents : List (Option ℕ)) (w : ℕ) (old middle : List Node) (grows : GoesOn old middle)
    (step turns : ExprId) {o : Outcome Tree} (sum : Tree → Outcome Tree) (there : IsTreeOfAt old w step)
    (told : (tree : Tree) × (o ≡ Done tree) × IsAt middle w turns tree) where
  -- the product leads on to the sum with it
  pub product_leads : LeadsOn (tree_product parents w (tree_of middle step) (tree_of middle turns)) sum
      (next o (λ tree. next (tree_product parents w (tree_of old step) tree) sum))
  product_leads = record {
    leads = ap (λ s. next (tree_product parents w s (tree_of middle turns)) sum)
        (same_tree_goes_on old middle grows step there.0)
        ∙ ap (λ t. next (tree_product parents w (tree_of old step) t) sum) told.2.1
        ∙ sym (ap (λ p. next p (λ tree. next (tree_product parents w (tree_of old step) tree) sum)) told.1);
  }

-- the sum of what there was and a product that was formed
pub sum_same : (parents : List (Option ℕ)) (w : ℕ) (old new : List Node) (grows : GoesOn old new)
    (first product : ExprId) {outcome whole : Outcome Tree}
    → IsTreeOfAt old w first
    → LeadsOn outcome (tree_sum parents w (tree_of old first)) whole
    → (tree : Tree) × (outcome ≡ Done tree) × IsAt new w product tree
    → tree_sum parents w (tree_of new first) (tree_of new product) ≡ whole
sum_same parents w old new grows first product there leads told =
    ap (λ s. tree_sum parents w s (tree_of new product)) (same_tree_goes_on old new grows first there.0)
    ∙ ap (tree_sum parents w (tree_of old first)) told.2.1
    ∙ led_on told.0 leads told.1

-- ---- further parts, each times a binomial coefficient

-- the constant of a residue is that of the number
same_constant : (w n : ℕ) → constant w (n % 2 ^ w) ≡ constant w n
same_constant w n =
    ap (λ (m : ℕ). cond (m == 0) (polynomial w no_terms) (polynomial w (term no_factors m no_terms)))
    (mod-mod n (2 ^ w))

-- a part that counts, and then those behind it
one_counted : (parents : List (Option ℕ)) (w n at : ℕ) (tree : Tree) (trees : List Tree) (sum : Tree) → at ≤ n
    → next (tree_product parents w tree (constant w (choose n at))) (λ product.
    next (tree_sum parents w sum product) (counted_parts parents w n (at + 1) trees))
    ≡ counted_parts parents w n at (tree ∷ trees) sum
unfolding counted_parts
one_counted parents w n at tree trees sum most =
    let with = λ (k : ℕ). next (tree_product parents w tree (constant w (choose n at))) (λ product.
    next (tree_sum parents w sum product) (counted_parts parents w n k trees)) in
    ap with (add-one at) ∙ sym (ap (λ b. cond b (Done sum) (with (suc at))) (le-ltb n at most))

-- none counts behind the number
none_counted : (parents : List (Option ℕ)) (w n at : ℕ) (trees : List Tree) (sum : Tree) → n < at
    → counted_parts parents w n at trees sum ≡ Done sum
unfolding counted_parts
none_counted parents w n at [] sum less = refl
none_counted parents w n at (tree ∷ trees) sum less =
    ap (λ b. cond b (Done sum) (next (tree_product parents w tree (constant w (choose n at))) (λ product.
    next (tree_sum parents w sum product) (counted_parts parents w n (suc at) trees)))) (lt-ltb n at less)

-- the parts that are left
module _ (parents : List (Option ℕ)) (w n i : ℕ) (ids : List ExprId) {whole : Outcome Tree} {first old : List Node}
    {sum : ExprId}
    (counting : IsCutting (counted_parts parents w n (i + 1) (trees_at first ids)) w whole first old sum) where
  -- no part is left
  pub all_counted : ids ≡ [] → whole ≡ Done (tree_of old sum)
  unfolding counted_parts
  all_counted e =
      sym counting.same ∙ ap (λ l. counted_parts parents w n (i + 1) (trees_at first l) (tree_of old sum)) e

  -- none that is left counts
  pub enough_counted : n ≤ i → whole ≡ Done (tree_of old sum)
  enough_counted most =
      sym counting.same ∙ none_counted parents w n (i + 1) (trees_at first ids) (tree_of old sum) (omega arith)

  module _ {id : ExprId} {others : List ExprId} (left : ids ≡ id ∷ others) (there : IsTreeOfAt first w id)
      (below : i < n) {middle : List Node} (grows : GoesOn old middle) (times : ExprId) {residue : ℕ}
      (is : residue ≡ choose n (i + 1) % 2 ^ w) (told : IsAt middle w times (constant w residue)) where
    -- the product of the next part leads on to the whole
    pub times_leads : LeadsOn (tree_product parents w (tree_of middle id) (tree_of middle times))
        (λ product. next (tree_sum parents w (tree_of old sum) product)
        (counted_parts parents w n (i + 1 + 1) (trees_at first others))) whole
    times_leads =
        let rest = λ (product : Tree). next (tree_sum parents w (tree_of old sum) product)
        (counted_parts parents w n (i + 1 + 1) (trees_at first others)) in
        let number = told.1 ∙ ap (constant w) is ∙ same_constant w (choose n (i + 1)) in
        let leads = product_leads parents w first middle (goes_on_again first old middle counting.grows grows) id times
        {o = Done (constant w (choose n (i + 1)))} rest there
        (constant w (choose n (i + 1)), refl, (told.0, number)) in record {
          leads = leads.leads
              ∙ one_counted parents w n (i + 1) (tree_of first id) (trees_at first others) (tree_of old sum)
              (omega arith)
              ∙ ap (λ l. counted_parts parents w n (i + 1) (trees_at first l) (tree_of old sum)) (sym left)
              ∙ counting.same;
        }

    module _ {last : List Node} (again : GoesOn middle last) (product : ExprId) (formed : (tree : Tree)
        × (tree_product parents w (tree_of middle id) (tree_of middle times) ≡ Done tree) × IsAt last w product tree)
      where
        -- the sum with that product leads on to the whole
        pub more_leads : LeadsOn (tree_sum parents w (tree_of last sum) (tree_of last product))
            (counted_parts parents w n (i + 1 + 1) (trees_at first others)) whole
        more_leads =
            let rest = counted_parts parents w n (i + 1 + 1) (trees_at first others) in record {
              leads = ap (λ s. next (tree_sum parents w s (tree_of last product)) rest)
                  (same_tree_goes_on old last (goes_on_again old middle last grows again) sum counting.tree.0)
                  ∙ ap (λ p. next (tree_sum parents w (tree_of old sum) p) rest) formed.2.1
                  ∙ led_on formed.0 times_leads formed.1;
            }

        -- the sum that was formed, with the parts behind it left
        pub part_counted : {new : List Node} {more : ExprId} → GoesOn last new
            → (tree : Tree) × (tree_sum parents w (tree_of last sum) (tree_of last product) ≡ Done tree)
            × IsAt new w more tree
            → IsCutting (counted_parts parents w n (i + 1 + 1) (trees_at first others)) w whole first new more
        part_counted {new} further all = record {
          grows = goes_on_again first last new
              (goes_on_again first middle last (goes_on_again first old middle counting.grows grows) again) further;
          tree = all.2.0;
          same = ap (counted_parts parents w n (i + 1 + 1) (trees_at first others)) all.2.1
              ∙ led_on all.0 more_leads all.1;
        }

-- ---- a recurrence by its parts

-- the start alone, where there is no step or more than one part behind it
no_step : (parents : List (Option ℕ)) (w : ℕ) (count : Tree) (nodes : List Node) (first : Tree) (others : List ExprId)
    → (length others ≡ 1 → ⊥)
    → counted_affine parents w count first (trees_at nodes others) ≡ Done first
no_step parents w count nodes first [] other = refl
no_step parents w count nodes first (step ∷ []) other = absurd (other refl)
no_step parents w count nodes first (step ∷ more ∷ others) other = refl

module _ (parents : List (Option ℕ)) (w : ℕ) (count : Tree) (nodes : List Node) where
  -- without parts it is 0
  pub no_parts_counted : (ids : List ExprId) → ids ≡ []
      → counted parents w count (trees_at nodes ids) ≡ Done (constant w 0)
  unfolding counted
  no_parts_counted ids e = ap (λ l. counted parents w count (trees_at nodes l)) e

  module _ {ids others : List ExprId} {first : ExprId} (is : ids ≡ first ∷ others) {number : Option ℕ}
      (same : number ≡ number_of count) where
    -- by whether the count is a number
    by_number : counted_by parents w count (tree_of nodes first) (trees_at nodes others) number
        ≡ counted parents w count (trees_at nodes ids)
    unfolding counted
    by_number =
        ap (counted_by parents w count (tree_of nodes first) (trees_at nodes others)) same
        ∙ sym (ap (λ l. counted parents w count (trees_at nodes l)) is)

    -- at a count that is a number
    pub number_counted : {n : ℕ} → number ≡ Some n
        → counted_parts parents w n 1 (trees_at nodes others) (tree_of nodes first)
        ≡ counted parents w count (trees_at nodes ids)
    number_counted e =
        sym (ap (counted_by parents w count (tree_of nodes first) (trees_at nodes others)) e) ∙ by_number

    module _ (none : number ≡ None) where
      -- at one that isn't
      by_parts : counted_affine parents w count (tree_of nodes first) (trees_at nodes others)
          ≡ counted parents w count (trees_at nodes ids)
      by_parts = sym (ap (counted_by parents w count (tree_of nodes first) (trees_at nodes others)) none) ∙ by_number

      -- of two parts
      pub affine_counted : {step : ExprId} → others ≡ step ∷ []
          → counted_affine parents w count (tree_of nodes first) (tree_of nodes step ∷ [])
          ≡ counted parents w count (trees_at nodes ids)
      affine_counted e =
          sym (ap (λ l. counted_affine parents w count (tree_of nodes first) (trees_at nodes l)) e) ∙ by_parts

      -- of one or more than two
      pub start_counted : (length others ≡ 1 → ⊥)
          → counted parents w count (trees_at nodes ids) ≡ Done (tree_of nodes first)
      start_counted other = sym by_parts ∙ no_step parents w count nodes (tree_of nodes first) others other
