use Rattle.std.proofs.Common.{◌≡◌, ℕ, ◌+◌, ◌<◌, List, [], ◌∷◌, ◌++◌, Some, length, slice_get, sym, ap, ◌∙◌, subst}
use Rattle.std.proofs.lemmas.Option.{same_Some, slice_get-get_or}
use Rattle.std.proofs.lemmas.List.{length_push}
use Rattle.ir_model.specs.declared.function.Function.{Function}
use Rattle.natural_loops.specs.Table.{RegionParts, SidesParts, AreSidesOf, loop_of}
use Rattle.natural_loops.proofs.PassedMarks.{region_at}
use Rattle.natural_loops.proofs.Nests.{each_pushed}
use Rattle.natural_loops.proofs.sides.all_sides.Goals as goal

pub sides_of-requires-clause-loop_ : goal.sides_of-requires-clause-loop_
sides_of-requires-clause-loop_ c =
    let regions : List RegionParts = c.args.regions.now in
    let n = c.loop-k.k in
    let own : RegionParts = c.index-regions-k.result in
    let within : n < length regions = c.loop-k-test.true in
    region_at c.args.c.now.function regions c.requires.loops n own
    (slice_get-get_or regions n own within ∙ ap Some (sym c.index-regions-k.is))

pub sides_of-requires-clause-passed : goal.sides_of-requires-clause-passed
sides_of-requires-clause-passed c =
    let regions : List RegionParts = c.args.regions.now in
    let n = c.loop-k.k in
    let own : RegionParts = c.index-regions-k.result in
    let within : n < length regions = c.loop-k-test.true in
    c.in_ok-passed.ensures own (slice_get-get_or regions n own within ∙ ap Some (sym c.index-regions-k.is))

pub loop-k-preserved : goal.loop-k-preserved
loop-k-preserved c =
    let f : Function = c.args.c.now.function in
    let regions : List RegionParts = c.args.regions.now in
    let n = c.loop-k.k in
    let own : RegionParts = c.index-regions-k.result in
    let around : SidesParts = c.in_ok-sides_of.field-0 in
    let old : List SidesParts = c.loop-k.all in
    let new : List SidesParts = c.push.new.self in
    let inv = c.loop-k.invariant in
    let within : n < length regions = c.loop-k-test.true in
    let at : slice_get regions n ≡ Some own =
    slice_get-get_or regions n own within ∙ ap Some (sym c.index-regions-k.is) in
    let pushed : new ≡ old ++ around ∷ [] = c.in_ok-push.ensures.ok in
    let Q : ℕ → SidesParts → Type 0 = λ k side. (region : RegionParts) → slice_get regions k ≡ Some region
    → AreSidesOf f (loop_of region) side in
    let here : Q n around = λ region there.
    subst (λ (one : RegionParts). AreSidesOf f (loop_of one) around) (same_Some own region (sym at ∙ there))
    c.in_ok-sides_of.ensures in
    record {
      size = ap (λ (xs : List SidesParts). length xs) pushed ∙ length_push old around ∙ ap (λ (k : ℕ). k + 1) inv.size;
      each = λ k region side there is.
          each_pushed Q old new n around pushed inv.size (λ j x at region there. inv.each j region x there at) here k
          side is region there;
    }
