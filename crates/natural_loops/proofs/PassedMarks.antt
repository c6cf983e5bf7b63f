-- The blocks that each turn of a loop passes, by the innermost loops that have them.
use Rattle.std.proofs.Common.{◌≡◌, ◌==◌, ℕ, ◌<◌, true, List, get_or, Option, Some, None, All, Contains}
use Rattle.std.proofs.Common.{slice_get, eqb-true, sym, ap, ◌∙◌, subst, inl, inr, refl, arith}
use Rattle.std.specs.Option.{option_eq}
use Rattle.std.proofs.lemmas.Bool.{cases_eq, cases_lt, false≢true, eq-eqb}
use Rattle.std.proofs.lemmas.Option.{same_Some, slice_get_within, get_or_from_slice_get}
use Rattle.std.proofs.lemmas.List.Elements.{All-contains, Contains-get_or}
use Rattle.scev_base.specs.declared.ids.BlockId.{BlockId}
use Rattle.scev_base.specs.declared.ids.LoopId.{LoopId}
use Rattle.ir_model.specs.declared.function.Function.{Function}
use Rattle.ir_model.specs.Shapes.{entry}
use Rattle.ir_model.specs.Walks.{Edge}
use Rattle.flow_graph.specs.Graph.{IsMarked}
use Rattle.flow_graph.specs.TextOrder.{StandsBefore}
use Rattle.ssa_check.specs.Checked.{Dominates}
use Rattle.loop_regions.specs.Loops.{Loop, IsLoop}
use Rattle.natural_loops.specs.Sides.{IsPassedEachTurn, StandsIn}
use Rattle.natural_loops.specs.Table.{RegionParts, IsRegionOf, AreAllLoops, IsInnermost, HasBlocksOf, loop_of}
use Rattle.natural_loops.proofs.Marks.{marked_contains}
use Rattle.natural_loops.proofs.Nesting.{same_loop, one_header}
use Rattle.natural_loops.proofs.Passing.{turn_passes}
use Rattle.natural_loops.proofs.Labelled.{header_block}
use Rattle.natural_loops.proofs.ExitOrder.{never_before_itself}
use Rattle.ssa_check.proofs.Elements.{contains_at}

-- what a test says of the number of a loop that may be none
pub same_number : (x : Option LoopId) (l : LoopId) → option_eq (λ a b. a.0 == b.0) x (Some l) ≡ true → x ≡ Some l
same_number None l is = absurd (false≢true is)
same_number (Some y) l is =
    let id : ℕ → LoopId = λ k. record { 0 = k } in
    ap (λ (k : ℕ). Some (id k)) (eqb-true y.0 l.0 is)

pub number_same : (x : Option LoopId) (l : LoopId) → x ≡ Some l → option_eq (λ a b. a.0 == b.0) x (Some l) ≡ true
number_same x l is =
    subst (λ (y : Option LoopId). option_eq (λ a b. a.0 == b.0) y (Some l) ≡ true) (sym is) (eq-eqb l.0 l.0 refl)

module _ (f : Function) (regions : List RegionParts) (are : AreAllLoops f regions) where
  pub region_at : (k : ℕ) (region : RegionParts) → slice_get regions k ≡ Some region → IsRegionOf f region
  region_at k region at = All-contains (IsRegionOf f) regions region are.each (contains_at regions k region at)

  -- loops at different places have different headers
  apart_at : (j k : ℕ) (one other : RegionParts) → slice_get regions j ≡ Some one → slice_get regions k ≡ Some other
      → one.header.0 ≡ other.header.0 → j < k → ⊥
  apart_at j k one other at also same less =
      let R : RegionParts → RegionParts → Type 0 = λ a b. StandsBefore f a.header.0 b.header.0 in
      let pair = are.ordered j k one less (slice_get_within regions k other also) in
      let first = subst (λ (x : RegionParts). R x (get_or regions k one)) (get_or_from_slice_get regions j one one at)
      pair in
      let both = subst (λ (x : RegionParts). R one x) (get_or_from_slice_get regions k other one also) first in
      let before = subst (λ (h : ℕ). StandsBefore f h other.header.0) same both in
      let block = header_block f (loop_of other) (region_at k other also).is_loop.region in
      never_before_itself f other.header.0 block.0 block.1 before

  one_place : (j k : ℕ) (one other : RegionParts) → slice_get regions j ≡ Some one → slice_get regions k ≡ Some other
      → one.header.0 ≡ other.header.0 → j ≡ k
  one_place j k one other at also same =
      elim (cases_eq j k) [
        | inl is ↦ is
        | inr apart ↦
            elim (cases_lt j k) [
              | inl less ↦ absurd (apart_at j k one other at also same less)
              | inr more ↦ absurd (apart_at k j other one also at (sym same) (omega (arith, more, apart)))
            ]
      ]

  module _ (never : (a : ℕ) → Edge f a (entry f.blocks) → ⊥) (region : RegionParts) (l : LoopId)
      (at : slice_get regions l.0 ≡ Some region)
    where
      abbrev loop : Loop
      loop = loop_of region

      own : IsRegionOf f region
      own = region_at l.0 region at

      -- an inner loop hasn't a block whose innermost loop this one is
      alone : (b : ℕ) → IsInnermost regions b (Some l) → (inner : Loop) → IsLoop f inner → StandsIn inner loop
          → Contains inner.blocks b → ⊥
      alone b innermost inner is_inner stands held =
          let found = are.all inner is_inner in
          let other : RegionParts = found.0 in
          let is_other = All-contains (IsRegionOf f) regions other are.each found.1 in
          let there = same_loop f inner (loop_of other) is_inner is_other.is_loop (sym found.2) b held in
          let same : innermost.0 ≡ region = same_Some innermost.0 region (sym innermost.1 ∙ at) in
          let around : HasBlocksOf other region = subst (λ (r : RegionParts). HasBlocksOf other r) same
          (innermost.3 other found.1 ((marked_contains other.blocks b).0 there)) in
          let header : IsMarked region.blocks region.header.0 =
          (marked_contains region.blocks region.header.0).0 own.is_loop.region.header in
          let also = (marked_contains other.blocks region.header.0).1 (around region.header.0 header) in
          let back = same_loop f (loop_of other) inner is_other.is_loop is_inner found.2 region.header.0 also in
          stands.1
          (one_header f never inner loop is_inner own.is_loop back (stands.0 inner.header is_inner.region.header))

      pub passed_from : (b : ℕ) → IsInnermost regions b (Some l) → All (λ x. Dominates f b x.0) region.latches
          → IsPassedEachTurn f loop b
      passed_from b innermost all =
          let same : innermost.0 ≡ region = same_Some innermost.0 region (sym innermost.1 ∙ at) in
          let marked = subst (λ (r : RegionParts). IsMarked r.blocks b) same innermost.2 in
          let held = (marked_contains region.blocks b).1 marked in
          record {
            held = held;
            passed = (turn_passes f never loop own.is_loop b held).1
                (λ x latch.
                let id : BlockId = record { 0 = x } in
                All-contains (λ (x : BlockId). Dominates f b x.0) region.latches id all
                ((own.latches.each id).1 latch));
            alone = alone b innermost;
          }

      pub passed_dominates : (b : ℕ) → IsPassedEachTurn f loop b → All (λ x. Dominates f b x.0) region.latches
      passed_dominates b passed k d within =
          (turn_passes f never loop own.is_loop b passed.held).0 passed.passed (get_or region.latches k d).0
          ((own.latches.each (get_or region.latches k d)).0 (Contains-get_or region.latches k d within))

      pub passed_innermost : (b : ℕ) → IsPassedEachTurn f loop b → (found : Option LoopId) → IsInnermost regions b found
          → found ≡ Some l
      passed_innermost b passed None none =
          absurd (none region (contains_at regions l.0 region at) ((marked_contains region.blocks b).0 passed.held))
      passed_innermost b passed (Some m) least =
          let inner : RegionParts = least.0 in
          let is_inner = region_at m.0 inner least.1 in
          let within : HasBlocksOf region inner = least.3 region (contains_at regions l.0 region at)
          ((marked_contains region.blocks b).0 passed.held) in
          elim (cases_eq inner.header.0 region.header.0) [
            | inl same ↦
                let id : ℕ → LoopId = λ k. record { 0 = k } in
                ap (λ (k : ℕ). Some (id k)) (one_place m.0 l.0 inner region least.1 at same)
            | inr apart ↦
                let inside = λ (x : ℕ) (there : Contains (loop_of inner).blocks x).
                (marked_contains region.blocks x).1 (within x ((marked_contains inner.blocks x).0 there)) in
                absurd
                (passed.alone (loop_of inner) is_inner.is_loop (inside, apart)
                ((marked_contains inner.blocks b).1 least.2))
          ]
