use Rattle.std.proofs.Common.{◌≡◌, ◌<◌, ℕ, List, All, length, sym, ap, ◌∙◌, subst}
use Rattle.std.proofs.lemmas.List.Elements.{All-weaker}
use Rattle.ir_model.specs.declared.function.Block.{Block}
use Rattle.ir_model.specs.declared.function.Function.{Function}
use Rattle.ir_model.specs.Shapes.{entry}
use Rattle.ir_model.specs.Walks.{Edge}
use Rattle.ir_model.specs.WellMade.{HasIds}
use Rattle.flow_graph.proofs.IdLemmas.{IsLabelledBlock, labelled}
use Rattle.natural_loops.proofs.Bodies.{entry_is_no_target}
use Rattle.natural_loops.proofs.listed.text_blocks.Goals as goal

pub returns-clause-value : goal.returns-clause-value
returns-clause-value c = c.as_slice.ensures ∙ ap (λ (f : Function). f.blocks) c.function.ensures.value

pub returns-clause-labels : goal.returns-clause-labels
returns-clause-labels c =
    let f : Function = c.args.c.now.function in
    let ids : HasIds f = subst HasIds c.function.ensures.value c.function.ensures.well_made.ids in
    let blocks_are : c.as_slice.result.now ≡ f.blocks =
    c.as_slice.ensures ∙ ap (λ (f : Function). f.blocks) c.function.ensures.value in
    subst (λ (blocks : List Block). All (λ (block : Block). block.id.0 < length f.labels) blocks) (sym blocks_are)
    (All-weaker (IsLabelledBlock f) (λ (block : Block). block.id.0 < length f.labels) (λ block own. own.0) f.blocks
    (labelled f ids))

pub returns-clause-once : goal.returns-clause-once
returns-clause-once c = c.flow.ensures.once

pub returns-clause-first : goal.returns-clause-first
returns-clause-first c =
    let g : Function = c.function.result.now in
    subst (λ (f : Function). (a : ℕ) → Edge f a (entry f.blocks) → ⊥) c.function.ensures.value
    (entry_is_no_target c.args.c.now.signatures g c.function.ensures.accepted)
