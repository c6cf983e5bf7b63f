-- One turn more of the loops that carry a plan out.
use Rattle.std.proofs.Common.{All, ◌≤◌, ◌≡◌, ℕ, zero, suc, ◌+◌, ◌<◌, List, [], ◌∷◌, ◌++◌, length, map, take, drop, get_or, sym, ap, ◌∙◌, subst, arith, drop-cons}
use Rattle.std.proofs.lemmas.List.{get_or_default, get_or-map, length-map, map-append, take_all, take_more}
use Rattle.rec_algebra.specs.declared.plan.PlanStep.{PlanStep}
use Rattle.rec_algebra.specs.Plans.{IsStepBelow, NamesEarlier, step_item, place_items}

pub names_at : (count : ℕ) (steps : List PlanStep) (i : ℕ) (default : PlanStep) → NamesEarlier count steps
    → i < length steps → IsStepBelow (count + i) (get_or steps i default)
names_at count [] i default earlier inside = absurd (omega arith)
names_at count (step ∷ rest) zero default earlier inside = subst (λ n. IsStepBelow n step) (omega arith) earlier.0
names_at count (step ∷ rest) (suc i) default earlier inside =
    subst (λ n. IsStepBelow n (get_or rest i default)) (omega arith)
    (names_at (suc count) rest i default earlier.1 (omega arith))

module _ {A : Type 0} (plus times : A → A → A) (default : A) where
  pub place_items_turn : (items : List A) (steps : List PlanStep) (i : ℕ) (d : PlanStep) → i < length steps
      → place_items plus times default items (drop i steps) ≡ place_items plus times default
      (items ++ step_item plus times default items (get_or steps i d) ∷ []) (drop (i + 1) steps)
  place_items_turn items steps i d inside =
      let next : suc i ≡ i + 1 = omega arith in
      ap (place_items plus times default items) (drop-cons steps i d inside)
      ∙ ap (λ k. place_items plus times default (items ++ step_item plus times default items (get_or steps i d) ∷ [])
      (drop k steps)) next

-- one item more of the result
pub picked_more : {A : Type 0} (items picked : List A) (places : List ℕ) (i : ℕ) (default item : A)
    → i < length places → get_or places i 0 < length items
    → picked ≡ map (λ place. get_or items place default) (take i places)
    → item ≡ get_or items (get_or places i 0) item
    → picked ++ item ∷ [] ≡ map (λ place. get_or items place default) (take (i + 1) places)
picked_more items picked places i default item inside within e read =
    let pick = λ (place : ℕ). get_or items place default in
    ap (λ l. l ++ item ∷ []) e
    ∙ ap (λ x. map pick (take i places) ++ x ∷ []) (read ∙ get_or_default items (get_or places i 0) item default within)
    ∙ sym (map-append pick (take i places) (get_or places i 0 ∷ []))
    ∙ ap (map pick) (sym (take_more places i 0 inside))

-- after the last turn
pub picked_all : {A : Type 0} (items picked all : List A) (places : List ℕ) (i : ℕ) (default : A) → length places ≤ i
    → picked ≡ map (λ place. get_or items place default) (take i places) → items ≡ all
    → picked ≡ map (λ place. get_or all place default) places
picked_all items picked all places i default past e e' =
    e ∙ ap (map (λ place. get_or items place default)) (take_all i places past) ∙ ap
    (λ l. map (λ place. get_or l place default) places) e'

pub picked_each : {A : Type 0} (P : A → Type 0) (items : List A) (places : List ℕ) (default : A) → All P items
    → All (λ place. place < length items) places → All P (map (λ place. get_or items place default) places)
picked_each P items places default holds inside k d within =
    let count : k < length places = rw length-map at within in
    subst P (sym (get_or-map (λ place. get_or items place default) places k 0 d count))
    (holds (get_or places k 0) default (inside k 0 count))
