-- Plans of steps: which are plans, and what carrying one out gives.
use Rattle.std.specs.Prelude.{ℕ, suc, ◌+◌, ◌<◌, List, [], ◌∷◌, ◌++◌, All, length, map, slice_index_or}
use Rattle.rec_algebra.specs.declared.plan.PlanStep.{PlanStep}
use Rattle.rec_algebra.specs.declared.plan.PlanStep.TheVariants as step

-- How many parts the operands have together, the steps in order, and the places of the result's parts in order.
pub record Plan : Type 0 where
  pub parts : ℕ
  pub steps : List PlanStep
  pub results : List ℕ

-- The step names places below the count alone.
abbrev pub IsStepBelow : ℕ → PlanStep → Type 0
IsStepBelow count (step.Add left right) = (left < count) × (right < count)
IsStepBelow count (step.Mul left right) = (left < count) × (right < count)

-- Each step names earlier places alone, where so many places stand before the first step.
abbrev pub NamesEarlier : ℕ → List PlanStep → Type 0
NamesEarlier count [] = Unit {0}
NamesEarlier count (next ∷ rest) = IsStepBelow count next × NamesEarlier (suc count) rest

-- Each step names earlier places alone, and each place of the result is one of the plan's.
abbrev pub IsPlan : Plan → Type 0
IsPlan plan =
    NamesEarlier plan.parts plan.steps × All (λ place. place < plan.parts + length plan.steps) plan.results

-- the item that a step forms of the items of the places so far
abbrev pub step_item : {A : Type 0} → (A → A → A) → (A → A → A) → A → List A → PlanStep → A
step_item plus times default items (step.Add left right) =
    plus (slice_index_or items left default) (slice_index_or items right default)
step_item plus times default items (step.Mul left right) =
    times (slice_index_or items left default) (slice_index_or items right default)

-- The items of all places: those so far, and that of each step in turn. A place that there isn't has the
-- default.
abbrev pub place_items : {A : Type 0} → (A → A → A) → (A → A → A) → A → List A → List PlanStep → List A
place_items plus times default items [] = items
place_items plus times default items (next ∷ rest) =
    place_items plus times default (items ++ step_item plus times default items next ∷ []) rest

-- the result's parts, of the operands' parts: the items of its places
abbrev pub carried : {A : Type 0} → (A → A → A) → (A → A → A) → A → Plan → List A → List A
carried plus times default plan parts =
    map (λ place. slice_index_or (place_items plus times default parts plan.steps) place default) plan.results
