use Rattle.std.proofs.Common.{◌≡◌, ℕ, List, Option, Some, None, length, get_or, slice_get, sym, ap, ◌∙◌, subst}
use Rattle.scev_base.specs.declared.ids.LoopId.{LoopId}
use Rattle.ir_model.specs.declared.function.Function.{Function}
use Rattle.natural_loops.specs.Table.{RegionParts, SidesParts, AreSidesOf, IsInnermost, IsParent, loop_of}
use Rattle.natural_loops.proofs.table.loops.Goals as goal

pub returns : goal.returns
returns c =
    let f : Function = c.args.c.now.function in
    let sides : List SidesParts = c.in_ok-sides.sides in
    let parents : List (Option ℕ) = c.in_ok-parents.parents in
    let nest : List (Option ℕ) = c.new-nest.result in
    let same : parents ≡ nest = sym c.as_slice-2.ensures ∙ sym c.in_ok-from_slice.ensures ∙ sym c.new-nest.ensures in
    let innermost : List (Option LoopId) = c.in_ok-innermost.innermost in
    let size : List RegionParts → ℕ = λ regions. length regions in
    record {
      loops = c.in_ok-regions.ensures;
      sizes = (
        c.in_ok-sides.ensures.size ∙ ap size c.as_slice-4.ensures,
        ap (λ (list : List (Option ℕ)). length list) (sym same) ∙ c.in_ok-parents.ensures.size
            ∙ ap size c.as_slice.ensures,
      );
      sides = subst (λ (regions : List RegionParts). (k : ℕ) (region : RegionParts) (side : SidesParts)
          → slice_get regions k ≡ Some region → slice_get sides k ≡ Some side → AreSidesOf f (loop_of region) side)
          c.as_slice-4.ensures c.in_ok-sides.ensures.exact;
      parents = subst (λ (list : List (Option ℕ)). (k : ℕ) (region : RegionParts) (parent : Option ℕ)
          → slice_get c.in_ok-regions.regions k ≡ Some region → slice_get list k ≡ Some parent
          → IsParent c.in_ok-regions.regions region parent) same
          (subst (λ (regions : List RegionParts). (k : ℕ) (region : RegionParts) (parent : Option ℕ)
          → slice_get regions k ≡ Some region → slice_get parents k ≡ Some parent → IsParent regions region parent)
          c.as_slice.ensures c.in_ok-parents.ensures.exact);
      innermost = subst (λ (regions : List RegionParts). (b : ℕ) → IsInnermost regions b (get_or innermost b None))
          c.as_slice-3.ensures c.in_ok-innermost.ensures;
    }
