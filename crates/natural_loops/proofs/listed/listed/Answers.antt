use Rattle.std.proofs.Common.{◌≡◌, ◌++◌, [], ◌∷◌, List, take, sym, ap, ◌∙◌, subst}
use Rattle.std.proofs.lemmas.List.{take_all}
use Rattle.scev_base.specs.declared.ids.BlockId.{BlockId}
use Rattle.ir_model.specs.declared.function.Function.{Function}
use Rattle.flow_graph.specs.Graph.{IsMarked}
use Rattle.natural_loops.specs.Sides.{AreInTextOrder}
use Rattle.natural_loops.proofs.Listing.{marked_of, marked_more_one, marked_more_none, marked_in_order}
use Rattle.natural_loops.proofs.listed.listed.Goals as goal
use Rattle.natural_loops.proofs.listed.listed.Goals.{then-get+in_ok-push, else-get}

pub loop-block-preserved : goal.loop-block-preserved
loop-block-preserved c =
    let marks = c.args.marks.now in
    let i = c.loop-block.block-index in
    let block = c.block-item.result in
    let items = c.text_blocks-block-items.result.now in
    elim c.if-get.branch [
      | then-get+in_ok-push w ↦
          w.found-is ∙ w.in_ok-push.ensures.ok
          ∙ ap (λ (ids : List BlockId). ids ++ block.id ∷ []) c.loop-block.invariant
          ∙ sym (marked_more_one marks items i block c.loop-block-test.true c.block-item.is
          (sym c.get.ensures ∙ w.if-get.true))
      | else-get w ↦
          w.found-is ∙ c.loop-block.invariant
          ∙ sym (marked_more_none marks items i block c.loop-block-test.true c.block-item.is
          (sym c.get.ensures ∙ w.if-get.false))
    ]

pub returns : goal.returns
returns c =
    let f : Function = c.args.c.now.function in
    let marks = c.args.marks.now in
    let items = c.text_blocks-block-items.result.now in
    let all : take c.loop-block.block-index items ≡ f.blocks = take_all c.loop-block.block-index items
    c.loop-block-test.false ∙ c.text_blocks-block-items.ensures.value in
    let found : c.loop-block.found ≡ marked_of marks f.blocks = c.loop-block.invariant ∙ ap (marked_of marks) all in
    subst (λ (ids : List BlockId). AreInTextOrder f (IsMarked marks) ids) (sym found)
    (marked_in_order f marks c.text_blocks-block-items.ensures.once c.requires)
