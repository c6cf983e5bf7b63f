-- How the steps of a plan are formed over the places of an arena.
use Rattle.std.proofs.Common.{◌≡◌, ℕ, zero, suc, ◌+◌, ◌<◌, List, [], ◌∷◌, ◌++◌, length, map, get_or, drop}
use Rattle.std.proofs.Common.{sym, ap, ◌∙◌, subst, arith, drop-cons, add-one}
use Rattle.std.proofs.lemmas.List.{map-append}
use Rattle.rec_algebra.specs.declared.plan.PlanStep.{PlanStep}
use Rattle.rec_algebra.specs.Plans.{Plan, NamesEarlier, IsStepBelow}
use Rattle.scev_base.specs.declared.ids.ExprId.{ExprId}
use Rattle.scev_tree.specs.Tree.{Tree, Terms}
use Rattle.scev_arena.specs.declared.node.Node.{Node}
use Rattle.scev_arena.specs.Meaning.{tree_of}
use Rattle.scev_arena.proofs.PlacesStay.{length_behind}
use Rattle.scev_forms.specs.Outcome.{Outcome, Done, next}
use Rattle.scev_forms.specs.Gather.{trimmed}
use Rattle.scev_forms.specs.Sums.{at_place, step_by, places_by, tested_parts, carried_by}
use Rattle.scev_sums.specs.Answers.{GoesOn, IsAt, IsTreeOfAt, AreTreesOfAt, trees_at}
use Rattle.scev_sums.proofs.Growth.{goes_on_again, trees_go_on, same_trees_go_on}
use Rattle.scev_sums.proofs.Refusals.{LeadsOn, led_on}

-- what is left of a list begins with the item there
pub drop_next : {X : Type 0} (xs : List X) (i : ℕ) (other : X) → i < length xs
    → drop i xs ≡ get_or xs i other ∷ drop (i + 1) xs
drop_next xs i other h =
    drop-cons xs i other h ∙ ap (λ k. get_or xs i other ∷ drop k xs) (sym (add-one i))

-- ---- places

module _ (nodes : List Node) (w : ℕ) where
  -- each place holds a tree
  pub tree_within : (places : List ExprId) (k : ℕ) (other : ExprId) → AreTreesOfAt nodes w places
      → k < length places
      → IsTreeOfAt nodes w (get_or places k other)
  tree_within [] k other h within = absurd (omega arith)
  tree_within (id ∷ ids) zero other h within = h.0
  tree_within (id ∷ ids) (suc k) other h within = tree_within ids k other h.1 (omega arith)

  pub both_hold : (xs ys : List ExprId) → AreTreesOfAt nodes w xs → AreTreesOfAt nodes w ys
      → AreTreesOfAt nodes w (xs ++ ys)
  both_hold [] ys h k = k
  both_hold (x ∷ xs) ys h k = (h.0, both_hold xs ys h.1 k)

-- one place more, as the arena goes on
module _ (old new : List Node) (grows : GoesOn old new) (w : ℕ) (places : List ExprId) (id : ExprId)
    (held : AreTreesOfAt old w places) where
  pub more_held : IsTreeOfAt new w id → AreTreesOfAt new w (places ++ id ∷ [])
  more_held h = both_hold new w places (id ∷ []) (trees_go_on old new grows w places held) (h, tt)

  more_trees : trees_at new (places ++ id ∷ []) ≡ trees_at old places ++ tree_of new id ∷ []
  more_trees =
      map-append (tree_of new) places (id ∷ [])
      ∙ ap (λ trees. trees ++ tree_of new id ∷ []) (same_trees_go_on old new grows w places held)

-- ---- steps

-- What the steps that are left form of the places so far is the whole.
pub record IsPlacing (form : Terms → Outcome Tree) (w : ℕ) (whole : Outcome (List Tree)) (first old : List Node)
    (places : List ExprId) (steps : List PlanStep) : Type 0 where
  pub grows : GoesOn first old
  pub trees : AreTreesOfAt old w places
  pub earlier : NamesEarlier (length places) steps
  pub same : places_by form w steps (trees_at old places) ≡ whole

module _ {form : Terms → Outcome Tree} {w : ℕ} {whole : Outcome (List Tree)} {first old : List Node}
    {places : List ExprId} {steps : List PlanStep} (placing : IsPlacing form w whole first old places steps) where
  -- no step is left
  pub all_placed : steps ≡ [] → whole ≡ Done (trees_at old places)
  unfolding places_by
  all_placed e = sym placing.same ∙ ap (λ l. places_by form w l (trees_at old places)) e

  pub places_held : {slice : List ExprId} → slice ≡ places → AreTreesOfAt old w slice
  places_held is = subst (AreTreesOfAt old w) (sym is) placing.trees

  module _ {following : PlanStep} {others : List PlanStep} (left : steps ≡ following ∷ others)
      {slice : List ExprId} (is : slice ≡ places) where
    earlier : NamesEarlier (length places) (following ∷ others)
    earlier = subst (NamesEarlier (length places)) left placing.earlier

    pub step_below : IsStepBelow (length slice) following
    step_below = subst (λ ids. IsStepBelow (length ids) following) (sym is) earlier.0

    -- the next step leads on to the whole
    pub step_leads : LeadsOn (step_by form w (trees_at old slice) following)
        (λ tree. places_by form w others (trees_at old places ++ tree ∷ [])) whole
    unfolding places_by
    step_leads = record {
      leads = ap (λ ids. next (step_by form w (trees_at old ids) following)
          (λ tree. places_by form w others (trees_at old places ++ tree ∷ []))) is
          ∙ ap (λ l. places_by form w l (trees_at old places)) (sym left)
          ∙ placing.same;
    }

    -- what it formed stands at one place more
    pub placed : {new : List Node} → GoesOn old new
        → (id : ExprId)
        → (tree : Tree) × (step_by form w (trees_at old slice) following ≡ Done tree) × IsAt new w id tree
        → {more : List ExprId}
        → more ≡ places ++ id ∷ []
        → IsPlacing form w whole first new more others
    placed {new} grows id told e =
        let count = ap length e ∙ length_behind places id in record {
          grows = goes_on_again first old new placing.grows grows;
          trees = subst (AreTreesOfAt new w) (sym e) (more_held old new grows w places id placing.trees told.2.0);
          earlier = subst (λ n. NamesEarlier n others) (sym count) earlier.1;
          same = ap (λ ids. places_by form w others (trees_at new ids)) e
              ∙ ap (places_by form w others) (more_trees old new grows w places id placing.trees)
              ∙ ap (λ tree. places_by form w others (trees_at old places ++ tree ∷ [])) told.2.1
              ∙ led_on told.0 step_leads told.1;
        }

-- ---- plans

-- the places of a plan lead on to its parts
pub plan_leads : (form : Terms → Outcome Tree) (w l : ℕ) (plan : Plan) (operands : List Tree) {steps : List PlanStep}
    → steps ≡ plan.steps
    → LeadsOn (places_by form w steps operands)
    (λ places. tested_parts w l (trimmed (map (at_place w places) plan.results))) (carried_by form w l plan operands)
unfolding carried_by
plan_leads form w l plan operands e = record {
  leads = ap (λ l'. next (places_by form w l' operands) (λ places.
      tested_parts w l (trimmed (map (at_place w places) plan.results)))) e;
}
