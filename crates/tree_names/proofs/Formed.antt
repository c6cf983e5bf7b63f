-- Sums and products as they are formed have no other kinds of atoms than their operands.
use Rattle.std.proofs.Common.{ℕ, zero, suc, List, [], ◌∷◌, ◌++◌, length, map, Option, Some, None}
use Rattle.std.proofs.lemmas.Bool.{cond_both}
use Rattle.rec_algebra.specs.declared.plan.PlanStep.{PlanStep}
use Rattle.rec_algebra.specs.declared.plan.PlanStep.TheVariants as step
use Rattle.rec_algebra.specs.Plans.{Plan}
use Rattle.rec_algebra.specs.Forming.{sum_plan, multiple_plan, product_plan}
use Rattle.scev_tree.specs.declared.kind.Kind.{Kind}
use Rattle.scev_tree.specs.declared.kind.Kind.TheVariants as kind
use Rattle.scev_tree.specs.Tree.{Tree, Terms, Factors, polynomial, no_terms, term, no_factors, factor}
use Rattle.scev_tree.specs.Tree.{atom, constant, parts_of}
use Rattle.scev_arena.specs.declared.limit.Limit.TheVariants.{TooWide}
use Rattle.scev_arena.specs.Limits.{are_wide}
use Rattle.scev_forms.specs.Outcome.{Outcome, Done, Refused, next, tested}
use Rattle.scev_forms.specs.Polynomials.{terms_of, terms_sum, terms_product}
use Rattle.scev_forms.specs.Gather.{loops_of_terms, deepest, joining, staying, recs_of, rest_of, trimmed}
use Rattle.scev_forms.specs.Sums.{same_tree, recurrence, tested_parts, formed_within, sum_by, product_by, at_place}
use Rattle.scev_forms.specs.Sums.{step_by, places_by, carried_by, parts_sum, parts_product, parts_multiple}
use Rattle.scev_forms.specs.Sums.{parts_times, parts_with, monomial_parts, parts_plus, group_parts, Gathering}
use Rattle.scev_forms.specs.Sums.{Whole, Again, beside, is_settled, gathering, gathering_at, after_gathering}
use Rattle.scev_forms.specs.Sums.{gathered, formed, tree_sum, tree_product}
use Rattle.scev_forms.proofs.Outcomes.{Gives, gives_next, gives_tested}
use Rattle.tree_names.specs.Names.{HasOnly, TermsHaveOnly, FactorsHaveOnly}
use Rattle.tree_names.proofs.Only.{AllHaveOnly, EachHaveOnly, LoopHas, both_have_only, parts_of_only}
use Rattle.tree_names.proofs.Only.{with_term_only, terms_of_only, terms_sum_only, terms_product_only, rest_only}
use Rattle.tree_names.proofs.Only.{recs_only, joining_only, staying_only, trimmed_only, deepest_loop_has}
use Rattle.tree_names.proofs.Only.{place_only, results_only}

module _ (K : Kind → Type 0) where
  -- A way to form the trees of polynomials: of terms that have K only, it forms a tree that has.
  abbrev pub KeepsOnly : (Terms → Outcome Tree) → Type 0
  KeepsOnly form = (ts : Terms) → TermsHaveOnly K ts → Gives (HasOnly K) (form ts)

  module _ (form : Terms → Outcome Tree) (former : KeepsOnly form) where
    within_only : (ts : Terms) → TermsHaveOnly K ts → Gives (HasOnly K) (formed_within form ts)
    within_only ts h =
        cond_both (are_wide ts) (Refused TooWide) (form ts) (Gives (HasOnly K)) (λ _. tt) (λ _. former ts h)

    pub sum_by_only : (w : ℕ) (left right : Tree)
        → HasOnly K left
        → HasOnly K right
        → Gives (HasOnly K) (sum_by form w left right)
    sum_by_only w left right h h' =
        within_only (terms_sum w (terms_of left) (terms_of right))
        (terms_sum_only K w (terms_of left) (terms_of right) (terms_of_only K left h) (terms_of_only K right h'))

    pub product_by_only : (w : ℕ) (left right : Tree)
        → HasOnly K left
        → HasOnly K right
        → Gives (HasOnly K) (product_by form w left right)
    product_by_only w left right h h' =
        within_only (terms_product w (terms_of left) (terms_of right))
        (terms_product_only K w (terms_of left) (terms_of right) (terms_of_only K left h) (terms_of_only K right h'))

    -- ---- plans: what their steps form is made of the places before

    step_only : (w : ℕ) (places : List Tree)
        → AllHaveOnly K places
        → (first : PlanStep)
        → Gives (HasOnly K) (step_by form w places first)
    step_only w places h (step.Add i j) =
        sum_by_only w (at_place w places i) (at_place w places j) (place_only K w places h i)
        (place_only K w places h j)
    step_only w places h (step.Mul i j) =
        product_by_only w (at_place w places i) (at_place w places j) (place_only K w places h i)
        (place_only K w places h j)

    places_only : (w : ℕ) (steps : List PlanStep) (places : List Tree)
        → AllHaveOnly K places
        → Gives (AllHaveOnly K) (places_by form w steps places)
    unfolding places_by
    places_only w [] places h = h
    places_only w (first ∷ steps) places h =
        gives_next (HasOnly K) (AllHaveOnly K) (step_by form w places first) _ (step_only w places h first)
        (λ tree one. places_only w steps (places ++ tree ∷ []) (both_have_only K places (tree ∷ []) h (one, tt)))

    tested_parts_only : (w l : ℕ) (trees : List Tree)
        → AllHaveOnly K trees
        → Gives (AllHaveOnly K) (tested_parts w l trees)
    tested_parts_only w l trees h =
        gives_next (λ _. Unit {0}) (AllHaveOnly K) (tested (recurrence w l trees)) _
        (gives_tested (λ _. Unit {0}) (recurrence w l trees) tt) (λ _ _. h)

    carried_only : (w l : ℕ) (plan : Plan) (operands : List Tree)
        → AllHaveOnly K operands
        → Gives (AllHaveOnly K) (carried_by form w l plan operands)
    unfolding carried_by
    carried_only w l plan operands h =
        gives_next (AllHaveOnly K) (AllHaveOnly K) (places_by form w plan.steps operands) _
        (places_only w plan.steps operands h)
        (λ places those.
        let results = map (at_place w places) plan.results in
        tested_parts_only w l (trimmed results)
        (trimmed_only K results (results_only K w places those plan.results)))

    -- ---- parts of recurrences

    parts_sum_only : (w l : ℕ) (left right : List Tree)
        → AllHaveOnly K left
        → AllHaveOnly K right
        → Gives (AllHaveOnly K) (parts_sum form w l left right)
    parts_sum_only w l left right h h' =
        carried_only w l (sum_plan (length left) (length right)) (left ++ right) (both_have_only K left right h h')

    parts_product_only : (w l : ℕ) (left right : List Tree)
        → AllHaveOnly K left
        → AllHaveOnly K right
        → Gives (AllHaveOnly K) (parts_product form w l left right)
    parts_product_only w l left right h h' =
        carried_only w l (product_plan (length left) (length right)) (left ++ right) (both_have_only K left right h h')

    parts_multiple_only : (w l : ℕ) (tree : Tree) (parts : List Tree)
        → HasOnly K tree
        → AllHaveOnly K parts
        → Gives (AllHaveOnly K) (parts_multiple form w l tree parts)
    parts_multiple_only w l tree parts h hs =
        cond_both (same_tree tree (constant w 1)) (Done parts)
        (carried_by form w l (multiple_plan (length parts)) (tree ∷ parts)) (Gives (AllHaveOnly K))
        (λ _. hs)
        (λ _. carried_only w l (multiple_plan (length parts)) (tree ∷ parts) (h, hs))

    parts_times_only : (w l : ℕ) (parts : List Tree) (recs : List (List Tree))
        → AllHaveOnly K parts
        → EachHaveOnly K recs
        → Gives (AllHaveOnly K) (parts_times form w l parts recs)
    unfolding parts_times
    parts_times_only w l parts [] h hs = h
    parts_times_only w l parts (rec ∷ recs) h hs =
        gives_next (AllHaveOnly K) (AllHaveOnly K) (parts_product form w l parts rec) _
        (parts_product_only w l parts rec h hs.0)
        (λ made those. parts_times_only w l made recs those hs.1)

    parts_with_only : (w l : ℕ) (tree : Tree) (recs : List (List Tree))
        → HasOnly K tree
        → EachHaveOnly K recs
        → Gives (AllHaveOnly K) (parts_with form w l tree recs)
    parts_with_only w l tree [] h hs = (h, tt)
    parts_with_only w l tree (rec ∷ recs) h hs =
        gives_next (AllHaveOnly K) (AllHaveOnly K) (parts_times form w l rec recs) _
        (parts_times_only w l rec recs hs.0 hs.1)
        (λ made those. parts_multiple_only w l tree made h those)

    monomial_only : (w l : ℕ) (f : Factors) (n : ℕ)
        → FactorsHaveOnly K f
        → Gives (AllHaveOnly K) (monomial_parts form w l f n)
    unfolding monomial_parts
    monomial_only w l f n h =
        gives_next (HasOnly K) (AllHaveOnly K) (form (term (rest_of l f) n no_terms)) _
        (former (term (rest_of l f) n no_terms) (rest_only K l f h, tt))
        (λ tree one. parts_with_only w l tree (recs_of l f) one (recs_only K l f h))

    parts_plus_only : (w l : ℕ) (parts : List Tree) (ts : Terms)
        → AllHaveOnly K parts
        → TermsHaveOnly K ts
        → Gives (AllHaveOnly K) (parts_plus form w l parts ts)
    unfolding parts_plus
    parts_plus_only w l parts no_terms h hs = h
    parts_plus_only w l parts (term f n ts) h hs =
        gives_next (AllHaveOnly K) (AllHaveOnly K) (monomial_parts form w l f n) _ (monomial_only w l f n hs.0)
        (λ more those. gives_next (AllHaveOnly K) (AllHaveOnly K) (parts_sum form w l parts more) _
        (parts_sum_only w l parts more h those)
        (λ made both. parts_plus_only w l made ts both hs.1))

    group_only : (w l : ℕ) (ts : Terms)
        → TermsHaveOnly K ts
        → Gives (AllHaveOnly K) (group_parts form w l ts)
    group_only w l no_terms h = tt
    group_only w l (term f n ts) h =
        gives_next (AllHaveOnly K) (AllHaveOnly K) (monomial_parts form w l f n) _ (monomial_only w l f n h.0)
        (λ parts those. parts_plus_only w l parts ts those h.1)

  -- ---- one step

  -- what a step gave has K only: its tree, or its terms
  abbrev GatheringHasOnly : Gathering → Type 0
  GatheringHasOnly (Whole tree) = HasOnly K tree
  GatheringHasOnly (Again ts) = TermsHaveOnly K ts

  beside_only : (w l : ℕ) (parts : List Tree) (others : Terms)
      → K (kind.Rec (record { 0 = l }))
      → AllHaveOnly K parts
      → TermsHaveOnly K others
      → GatheringHasOnly (beside w l parts others)
  beside_only w l [] others is h hs = hs
  beside_only w l (only ∷ []) no_terms is h hs = h.0
  beside_only w l (only ∷ []) (term f n ts) is h hs =
      terms_sum_only K w (terms_of only) (term f n ts) (terms_of_only K only h.0) hs
  beside_only w l (first ∷ second ∷ parts) others is h hs =
      let all = first ∷ second ∷ parts in
      with_term_only K w (factor (atom (kind.Rec (record { 0 = l })) w (parts_of all)) no_factors) 1 others
      ((is, parts_of_only K all h), tt) hs

  -- a step at a loop of a recurrence
  gathering_only : (form : Terms → Outcome Tree) (parents : List (Option ℕ)) (w l : ℕ) (ts : Terms)
      → KeepsOnly form
      → K (kind.Rec (record { 0 = l }))
      → TermsHaveOnly K ts
      → Gives GatheringHasOnly (gathering form parents w l ts)
  unfolding gathering
  gathering_only form parents w l ts former is h =
      let group = joining parents l ts in
      let others = staying parents l ts in
      cond_both (is_settled l group) (Done (Whole (polynomial w ts)))
      (next (group_parts form w l group) (λ parts. Done (beside w l parts others)))
      (Gives GatheringHasOnly)
      (λ _. h)
      (λ _. gives_next (AllHaveOnly K) GatheringHasOnly (group_parts form w l group) _
      (group_only form former w l group (joining_only K parents l ts h))
      (λ parts those. beside_only w l parts others is those (staying_only K parents l ts h)))

  gathering_at_only : (form : Terms → Outcome Tree) (parents : List (Option ℕ)) (w : ℕ) (ts : Terms) (at : Option ℕ)
      → KeepsOnly form
      → LoopHas K at
      → TermsHaveOnly K ts
      → Gives GatheringHasOnly (gathering_at form parents w ts at)
  gathering_at_only form parents w ts None former is h = h
  gathering_at_only form parents w ts (Some l) former is h = gathering_only form parents w l ts former is h

  after_only : (again : Terms → Outcome Tree) (w : ℕ) (ts : Terms) (made : Gathering)
      → KeepsOnly again
      → TermsHaveOnly K ts
      → GatheringHasOnly made
      → Gives (HasOnly K) (after_gathering again w ts made)
  after_only again w ts (Whole tree) former h one = gives_tested (HasOnly K) tree one
  after_only again w ts (Again more) former h those =
      cond_both (same_tree (polynomial w more) (polynomial w ts)) (tested (polynomial w ts)) (again more)
      (Gives (HasOnly K))
      (λ _. gives_tested (HasOnly K) (polynomial w ts) h)
      (λ _. former more those)

  -- ---- all steps

  gathered_only : (form : Terms → Outcome Tree) (parents : List (Option ℕ)) (w times : ℕ)
      → KeepsOnly form
      → KeepsOnly (gathered form parents w times)
  unfolding gathered
  gathered_only form parents w zero former ts h = gives_tested (HasOnly K) (polynomial w ts) h
  gathered_only form parents w (suc times) former ts h =
      let at = deepest parents (loops_of_terms ts) in
      gives_next GatheringHasOnly (HasOnly K) (gathering_at form parents w ts at) _
      (gathering_at_only form parents w ts at former (deepest_loop_has K parents ts h) h)
      (λ made one. after_only (gathered form parents w times) w ts made
      (gathered_only form parents w times former) h one)

  -- each level is a way to form trees
  formed_only : (parents : List (Option ℕ)) (w level : ℕ) → KeepsOnly (formed parents w level)
  unfolding formed
  formed_only parents w zero ts h = gives_tested (HasOnly K) (polynomial w ts) h
  formed_only parents w (suc level) ts h =
      gathered_only (formed parents w level) parents w (suc (length parents)) (formed_only parents w level) ts h

  -- a sum, and a product, name what both sides do
  pub tree_sum_only : (parents : List (Option ℕ)) (w : ℕ) (left right : Tree)
      → HasOnly K left
      → HasOnly K right
      → Gives (HasOnly K) (tree_sum parents w left right)
  tree_sum_only parents w =
      sum_by_only (formed parents w (length parents)) (formed_only parents w (length parents)) w

  pub tree_product_only : (parents : List (Option ℕ)) (w : ℕ) (left right : Tree)
      → HasOnly K left
      → HasOnly K right
      → Gives (HasOnly K) (tree_product parents w left right)
  tree_product_only parents w =
      product_by_only (formed parents w (length parents)) (formed_only parents w (length parents)) w
