-- The loops around loops, and the innermost loops of blocks.
use Rattle.std.proofs.Common.{◌≡◌, ◌≢◌, ◌⊎◌, ℕ, zero, suc, ◌+◌, ◌<◌, ◌≤◌, Bool, true, false, not, List, [], ◌∷◌, ◌++◌}
use Rattle.std.proofs.Common.{length}
use Rattle.std.proofs.Common.{get_or, slice_get, count_by, Option, Some, None, Contains, sym, ap, ◌∙◌, subst, inl, inr}
use Rattle.std.proofs.Common.{refl, arith}
use Rattle.std.specs.List.{range_with_len}
use Rattle.std.specs.Option.{option_map, MatchOption, IsSomeAnd}
use Rattle.std.proofs.lemmas.Bool.{cases_Bool, cases_eq, both_ways, not_from_true, not_from_false, not-true}
use Rattle.std.proofs.lemmas.Option.{same_Some, none-some, slice_get_within, slice_get-get_or}
use Rattle.std.proofs.lemmas.List.{get_or_push, get_or_append_left}
use Rattle.std.proofs.lemmas.List.FromFn.{length-range_with_len, get_or-range_with_len}
use Rattle.scev_base.specs.declared.ids.BlockId.{BlockId}
use Rattle.scev_base.specs.Nest.{IsNest}
use Rattle.scev_base.proofs.NestLemmas.{falling_nest}
use Rattle.ir_model.specs.declared.function.Function.{Function}
use Rattle.ir_model.specs.Shapes.{entry}
use Rattle.ir_model.specs.Walks.{Edge}
use Rattle.ir_model.specs.WellMade.{HasIds}
use Rattle.flow_graph.specs.Graph.{IsMarked}
use Rattle.ssa_check.proofs.CountLemmas.{one_fewer}
use Rattle.natural_loops.specs.Sides.{StandsIn}
use Rattle.natural_loops.specs.Table.{RegionParts, IsRegionOf, AreAllLoops, IsSmallest, IsInnermost, IsParent, loop_of}
use Rattle.natural_loops.proofs.Marks.{marked_contains}
use Rattle.natural_loops.proofs.Nesting.{header_inside, one_header}
use Rattle.natural_loops.proofs.Labelled.{reachable_labelled}
use Rattle.natural_loops.proofs.SmallestLoop.{IsSmallest_same}
use Rattle.natural_loops.proofs.PassedMarks.{region_at}
use Rattle.std.proofs.lemmas.List.Elements.{All-contains}

-- ---- what a function makes of a value that may be none

pub mapped : {X Y : Type 0} (g : X → Y) (Post : X → Y → Type 0) → ((x : X) (y : Y) → Post x y → y ≡ g x)
    → (o : Option X) (r : Option Y) → MatchOption o (r ≡ None) (λ x. IsSomeAnd r (Post x)) → r ≡ option_map g o
mapped g Post says None r is = is
mapped g Post says (Some x) None is = absurd is
mapped g Post says (Some x) (Some y) is = ap Some (says x y is)

pub option_map_same : (o : Option ℕ) → option_map (λ (k : ℕ). k) o ≡ o
option_map_same None = refl
option_map_same (Some x) = refl

-- ---- one more at the end of a list

pushed_get : {X : Type 0} (old : List X) (y x : X) (k : ℕ) → slice_get (old ++ y ∷ []) k ≡ Some x
    → (slice_get old k ≡ Some x) ⊎ ((k ≡ length old) × (y ≡ x))
pushed_get [] y x zero at = inr (refl, same_Some y x at)
pushed_get [] y x (suc k) at = absurd (none-some x at)
pushed_get (z ∷ old) y x zero at = inl at
pushed_get (z ∷ old) y x (suc k) at =
    elim (pushed_get old y x k at) [ inl there ↦ inl there | inr is ↦ inr (ap suc is.0, is.1) ]

-- what holds of each element and its place
pub each_pushed : {X : Type 0} (Q : ℕ → X → Type 0) (old new : List X) (n : ℕ) (y : X) → new ≡ old ++ y ∷ []
    → length old ≡ n → ((k : ℕ) (x : X) → slice_get old k ≡ Some x → Q k x) → Q n y
    → (k : ℕ) (x : X) → slice_get new k ≡ Some x → Q k x
each_pushed {X} Q old new n y is size before here k x at =
    elim (pushed_get old y x k (subst (λ (xs : List X). slice_get xs k ≡ Some x) is at)) [
      | inl there ↦ before k x there
      | inr last ↦
          subst (λ (j : ℕ). Q j x) (sym (last.0 ∙ size)) (subst (Q n) last.1 here)
    ]

pub below_pushed : {X : Type 0} (Q : ℕ → X → Type 0) (d : X) (old new : List X) (n : ℕ) (y : X) → new ≡ old ++ y ∷ []
    → length old ≡ n → ((k : ℕ) → k < n → Q k (get_or old k d)) → Q n y → (k : ℕ) → k < n + 1 → Q k (get_or new k d)
below_pushed {X} Q d old new n y is size before here k less =
    subst (λ (xs : List X). Q k (get_or xs k d)) (sym is)
    (elim (cases_eq k n) [
      | inl e ↦
          subst (Q k) (sym (get_or_push old y d k (size ∙ sym e))) (subst (λ (j : ℕ). Q j y) (sym e) here)
      | inr apart ↦
          let low : k < n = omega (arith, less, apart) in
          subst (Q k) (sym (get_or_append_left old (y ∷ []) d k (omega (arith, low, size)))) (before k low)
    ])

module _ (f : Function) (regions : List RegionParts) (are : AreAllLoops f regions) where
  -- ---- the loop around a loop

  -- it has the other's header, and another one itself
  abbrev pub HasHeaderOf : RegionParts → RegionParts → Type 0
  HasHeaderOf inner outer = IsMarked outer.blocks inner.header.0 × (Some inner.header ≡ Some outer.header → ⊥)

  pub stands_from : (inner outer : RegionParts) → IsRegionOf f inner → IsRegionOf f outer → HasHeaderOf inner outer
      → StandsIn (loop_of inner) (loop_of outer)
  stands_from inner outer first second has = (
    header_inside f (loop_of inner) (loop_of outer) first.is_loop second.is_loop
        ((marked_contains outer.blocks inner.header.0).1 has.0),
    (λ same.
        let id : ℕ → BlockId = λ k. record { 0 = k } in
        has.1 (ap (λ (k : ℕ). Some (id k)) same)),
  )

  stands_back : (inner outer : RegionParts) → IsRegionOf f inner → StandsIn (loop_of inner) (loop_of outer)
      → HasHeaderOf inner outer
  stands_back inner outer first stands = (
    (marked_contains outer.blocks inner.header.0).0 (stands.0 inner.header.0 first.is_loop.region.header),
    (λ same. stands.1 (ap (λ (b : BlockId). b.0) (same_Some inner.header outer.header same))),
  )

  pub parent_of : (inner : RegionParts) → IsRegionOf f inner → (found : Option ℕ)
      → IsSmallest regions (HasHeaderOf inner) found → IsParent regions inner found
  parent_of inner own found least =
      IsSmallest_same regions (HasHeaderOf inner) (λ outer. StandsIn (loop_of inner) (loop_of outer)) found
      (λ outer among has.
      stands_from inner outer own (All-contains (IsRegionOf f) regions outer are.each among) has)
      (λ outer among stands. stands_back inner outer own stands) least

  -- ---- the innermost loop of a block

  abbrev pub HasBlock : ℕ → RegionParts → Type 0
  HasBlock b region = IsMarked region.blocks b × (None ≡ Some region.header → ⊥)

  pub innermost_of : (b : ℕ) (found : Option ℕ) → IsSmallest regions (HasBlock b) found
      → IsInnermost regions b (option_map (λ k. record { 0 = k }) found)
  innermost_of b (Some k) least = (
    least.0,
    least.1,
    least.2.0,
    (λ other among marked. least.3 other among (marked, λ is. none-some other.header is)),
  )
  innermost_of b None nothing =
      λ region among marked. nothing region among (marked, λ is. none-some region.header is)

  module _ (ids : HasIds f) (some : f.blocks ≢ []) where
    marked_labelled : (region : RegionParts) → IsRegionOf f region → (b : ℕ) → IsMarked region.blocks b
        → b < length f.labels
    marked_labelled region own b marked =
        reachable_labelled f ids some b
        (own.is_loop.region.reachable b ((marked_contains region.blocks b).1 marked))

    -- a number past the labels is in no loop
    pub innermost_past : (b : ℕ) → length f.labels ≤ b → IsInnermost regions b None
    innermost_past b past region among marked =
        let within = marked_labelled region (All-contains (IsRegionOf f) regions region are.each among) b marked in
        omega (arith, within, past)

    -- ---- a nest

    module _ (never : (a : ℕ) → Edge f a (entry f.blocks) → ⊥) (parents : List (Option ℕ))
        (size : length parents ≡ length regions)
        (exact : (k : ℕ) (region : RegionParts) (parent : Option ℕ) → slice_get regions k ≡ Some region
        → slice_get parents k ≡ Some parent → IsParent regions region parent)
      where
        numbers : List ℕ
        numbers = range_with_len 0 (length f.labels)

        -- how many numbers of blocks are in it
        left_out : Option RegionParts → ℕ
        left_out (Some region) = count_by (λ k. not (get_or region.blocks k false)) numbers
        left_out None = 0

        numbers_have : (k : ℕ) → k < length f.labels → Contains numbers k
        unfolding numbers
        numbers_have k less =
            let at = get_or-range_with_len 0 (length f.labels) k k less in
            (k, omega (arith, less, length-range_with_len 0 (length f.labels)), omega (arith, at))

        -- one that stands in another one leaves out more
        more_left_out : (inner outer : RegionParts) → IsRegionOf f inner → IsRegionOf f outer
            → StandsIn (loop_of inner) (loop_of outer) → left_out (Some outer) < left_out (Some inner)
        unfolding left_out
        more_left_out inner outer first second stands =
            let p : ℕ → Bool = λ k. not (get_or outer.blocks k false) in
            let q : ℕ → Bool = λ k. not (get_or inner.blocks k false) in
            let h : ℕ = outer.header.0 in
            let header : IsMarked outer.blocks h = (marked_contains outer.blocks h).0 second.is_loop.region.header in
            let out : get_or inner.blocks h false ≡ false =
            elim (cases_Bool (get_or inner.blocks h false)) [
              | inl marked ↦
                  absurd
                  (stands.1
                  (one_header f never (loop_of inner) (loop_of outer) first.is_loop second.is_loop
                  ((marked_contains inner.blocks h).1 marked)
                  (stands.0 inner.header.0 first.is_loop.region.header)))
              | inr free ↦ free
            ] in
            let weaker : (x : ℕ) → p x ≡ true → q x ≡ true = λ x is.
            elim (cases_Bool (get_or inner.blocks x false)) [
              | inl marked ↦
                  absurd
                  (both_ways (get_or outer.blocks x false) (not-true (get_or outer.blocks x false) is)
                  ((marked_contains outer.blocks x).0 (stands.0 x ((marked_contains inner.blocks x).1 marked))))
              | inr free ↦ not_from_false (get_or inner.blocks x false) free
            ] in
            one_fewer p q numbers (λ k d within. weaker (get_or numbers k d)) h
            (numbers_have h (marked_labelled outer second h header))
            (not_from_true (get_or outer.blocks h false) header)
            (not_from_false (get_or inner.blocks h false) out)

        rank : ℕ → ℕ
        rank l = left_out (slice_get regions l)

        parent_is : (l parent : ℕ) → slice_get parents l ≡ Some (Some parent)
            → (inner : RegionParts) × (slice_get regions l ≡ Some inner) × IsParent regions inner (Some parent)
        parent_is l parent step =
            let none : RegionParts = record { header = record { 0 = 0 }; latches = []; blocks = [] } in
            let within = slice_get_within parents l (Some parent) step in
            let at = slice_get-get_or regions l none (omega (arith, within, size)) in
            (get_or regions l none, at, exact l (get_or regions l none) (Some parent) at step)

        falls : (l parent : ℕ) → slice_get parents l ≡ Some (Some parent) → rank parent < rank l
        unfolding rank
        falls l parent step =
            let is = parent_is l parent step in
            let less = more_left_out is.0 is.2.0 (region_at f regions are l is.0 is.1)
            (region_at f regions are parent is.2.0 is.2.1) is.2.2 in
            omega (arith, less, ap left_out is.1, ap left_out is.2.1)

        within_list : (l parent : ℕ) → slice_get parents l ≡ Some (Some parent) → parent < length parents
        within_list l parent step =
            let is = parent_is l parent step in
            let within = slice_get_within regions parent is.2.0 is.2.1 in
            omega (arith, within, size)

        pub parents_nest : IsNest parents
        parents_nest = falling_nest parents rank within_list falls
