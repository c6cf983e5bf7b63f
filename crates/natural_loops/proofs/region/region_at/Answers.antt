use Rattle.std.proofs.Common.{List, refl, sym, subst}
use Rattle.std.proofs.lemmas.Bool.{both_ways}
use Rattle.scev_base.specs.declared.ids.BlockId.{BlockId}
use Rattle.ir_model.specs.declared.function.Function.{Function}
use Rattle.natural_loops.specs.Backward.{IsBackEdge}
use Rattle.natural_loops.specs.Sides.{AreInTextOrder}
use Rattle.natural_loops.proofs.Regions.{some_latch, reachable_on, region_of_body, no_latch}
use Rattle.natural_loops.proofs.region.region_at.Goals as goal

pub returns-then-is_empty-clause-none : goal.returns-then-is_empty-clause-none
returns-then-is_empty-clause-none c =
    no_latch c.args.c.now.function c.args.h.0 c.in_ok-latches.latches c.in_ok-latches.ensures
    (c.is_empty.ensures.0 c.if-is_empty.true)

pub blocks_of-requires-clause-reachable : goal.blocks_of-requires-clause-reachable
blocks_of-requires-clause-reachable c =
    let f : Function = c.args.c.now.function in
    let back = some_latch f c.args.h.0 c.in_ok-latches.latches c.in_ok-latches.ensures
    (λ none. both_ways c.is_empty.result c.if-is_empty.false (c.is_empty.ensures.1 none)) in
    reachable_on f back.0 c.args.h.0 back.1.reachable back.1.edge

pub blocks_of-requires-clause-latches : goal.blocks_of-requires-clause-latches
blocks_of-requires-clause-latches c =
    let f : Function = c.args.c.now.function in
    let h = c.args.h.0 in
    subst (λ (latches : List BlockId). AreInTextOrder f (λ b. IsBackEdge f b h) latches) (sym c.as_slice.ensures)
    c.in_ok-latches.ensures

pub returns-clause-loop_ : goal.returns-clause-loop_
returns-clause-loop_ c = (
  refl,
  region_of_body c.args.c.now.function c.requires.first c.args.h c.in_ok-latches.latches c.in_ok-blocks.blocks
      c.in_ok-blocks.ensures c.in_ok-latches.ensures
      (λ none. both_ways c.is_empty.result c.if-is_empty.false (c.is_empty.ensures.1 none)),
)
