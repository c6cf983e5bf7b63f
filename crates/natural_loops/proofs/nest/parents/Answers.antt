use Rattle.std.proofs.Common.{◌≡◌, ℕ, ◌+◌, ◌<◌, List, [], ◌∷◌, ◌++◌, Option, Some, length, slice_get, sym, ap, ◌∙◌}
use Rattle.std.proofs.Common.{subst, arith, rules}
use Rattle.std.proofs.lemmas.Option.{same_Some, slice_get-get_or}
use Rattle.std.proofs.lemmas.List.{length_push}
use Rattle.scev_base.specs.declared.ids.BlockId.{BlockId}
use Rattle.ir_model.specs.declared.function.Function.{Function}
use Rattle.ir_model.specs.Shapes.{entry}
use Rattle.ir_model.specs.Walks.{Edge}
use Rattle.ir_model.specs.WellMade.{IsWellMade}
use Rattle.flow_graph.specs.Graph.{IsMarked}
use Rattle.natural_loops.specs.Table.{RegionParts, IsSmallest, IsParent}
use Rattle.natural_loops.proofs.Bodies.{entry_is_no_target}
use Rattle.natural_loops.proofs.PassedMarks.{region_at}
use Rattle.natural_loops.proofs.Nests.{HasHeaderOf, parent_of, each_pushed, parents_nest, mapped, option_map_same}
use Rattle.natural_loops.proofs.nest.parents.Goals as goal

pub loop-region-preserved : goal.loop-region-preserved
loop-region-preserved c =
    let f : Function = c.args.c.now.function in
    let regions : List RegionParts = c.args.regions.now in
    let n = c.loop-region.region-index in
    let inner : RegionParts = c.region-item.result in
    let around = c.smallest-around.result in
    let old : List (Option ℕ) = c.loop-region.parents in
    let new : List (Option ℕ) = c.push.new.self in
    let inv = c.loop-region.invariant in
    let within : n < length regions = c.loop-region-test.true in
    let at : slice_get regions n ≡ Some inner =
    slice_get-get_or regions n inner within ∙ ap Some (sym c.region-item.is) in
    let h : c.region.inside.header ≡ inner.header = ap (λ (one : RegionParts). one.header) c.region.view_is in
    let least : IsSmallest regions (HasHeaderOf f regions c.requires inner) around =
    subst (λ (b : BlockId). IsSmallest regions
    (λ region. IsMarked region.blocks b.0 × (Some b ≡ Some region.header → ⊥)) around) h
    (c.smallest-around.ensures.exact f c.requires) in
    let mapped : c.map.result ≡ around =
    mapped (λ (k : ℕ). k) _ (λ x y says. search rules) around c.map.result c.map.ensures.cases
    ∙ option_map_same around in
    let pushed : new ≡ old ++ around ∷ [] = c.in_ok-push.ensures.ok ∙ ap (λ (one : Option ℕ). old ++ one ∷ []) mapped in
    let parent : IsParent regions inner around = parent_of f regions c.requires inner
    (region_at f regions c.requires n inner at) around least in
    let Q : ℕ → Option ℕ → Type 0 = λ k one. (region : RegionParts) → slice_get regions k ≡ Some region
    → IsParent regions region one in
    let here : Q n around = λ region there.
    subst (λ (one : RegionParts). IsParent regions one around) (same_Some inner region (sym at ∙ there)) parent in
    record {
      size = ap (λ (xs : List (Option ℕ)). length xs) pushed ∙ length_push old around
          ∙ ap (λ (k : ℕ). k + 1) inv.size;
      exact = λ k region one there is.
          each_pushed Q old new n around pushed inv.size (λ j x at region there. inv.exact j region x there at) here k
          one is region there;
    }

pub returns-clause-nest : goal.returns-clause-nest
returns-clause-nest c =
    let f : Function = c.args.c.now.function in
    let g : Function = c.function.result.now in
    let made : IsWellMade f = subst IsWellMade c.function.ensures.value c.function.ensures.well_made in
    let never : (a : ℕ) → Edge f a (entry f.blocks) → ⊥ =
    subst (λ (h : Function). (a : ℕ) → Edge h a (entry h.blocks) → ⊥) c.function.ensures.value
    (entry_is_no_target c.args.c.now.signatures g c.function.ensures.accepted) in
    let size : length c.loop-region.parents ≡ length c.args.regions.now =
    omega (arith, c.loop-region.invariant.size, c.loop-region-test.false, c.loop-region.auto.region-index-end) in
    parents_nest f c.args.regions.now c.requires made.ids made.some_block never c.loop-region.parents size
    c.loop-region.invariant.exact
