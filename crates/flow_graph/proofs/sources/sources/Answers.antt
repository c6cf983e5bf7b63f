use Rattle.std.proofs.Common.{◌≡◌, ◌+◌, ◌<◌, ℕ, List, [], ◌∷◌, ◌++◌, All, length, get_or, replicate, take, sym, ap, ◌∙◌, subst, arith}
use Rattle.std.proofs.lemmas.List.{take_more, take_all, length-replicate}
use Rattle.std.proofs.lemmas.List.Elements.{All-get_or}
use Rattle.scev_base.specs.declared.ids.BlockId.{BlockId}
use Rattle.ir_model.specs.declared.function.Block.{Block}
use Rattle.ir_model.specs.Walks.{successors}
use Rattle.flow_graph.specs.EdgeLists.{sources_in, preds_in}
use Rattle.flow_graph.proofs.IdLemmas.{IsLabelledBlock, labelled}
use Rattle.flow_graph.proofs.SourceLemmas.{no_preds, preds_more}
use Rattle.flow_graph.proofs.sources.sources.Goals as goal

-- the block, as it stands in the function
block_is : (blocks items : List Block) (i : ℕ) (block : Block) → items ≡ blocks → block ≡ get_or items i block
    → block ≡ get_or blocks i block
block_is blocks items i block same is = subst (λ (xs : List Block). block ≡ get_or xs i block) same is

pub add_source-requires : goal.add_source-requires
add_source-requires c =
    let f = c.args.f.now in
    let items = c.as_slice-block-items.result.now in
    let i = c.loop-block.block-index in
    let block = c.block-item.result in
    let within : i < length f.blocks = omega
    (arith, c.loop-block-test.true, ap (λ (blocks : List Block). length blocks) c.as_slice-block-items.ensures) in
    let own = All-get_or (IsLabelledBlock f) f.blocks i block within (labelled f c.requires) in
    let is = block_is f.blocks items i block c.as_slice-block-items.ensures c.block-item.is in
    let targets : c.as_slice-in-loop-block.result.now ≡ successors block.instrs = c.as_slice-in-loop-block.ensures
    ∙ c.in_ok-targets.ensures ∙ ap successors c.as_slice.ensures in
    let small : All (λ k. k < length f.labels) (successors block.instrs) = (rw (← is) at own).1 in
    rw (targets, c.loop-block.invariant.size) small

pub loop-block-init : goal.loop-block-init
loop-block-init c =
    let n = c.len.result in
    let rows : c.in_ok-rows.rows.items ≡ replicate n [] = c.in_ok-rows.ensures in
    record {
      size = ap (λ (xs : List (List BlockId)). length xs) rows ∙ length-replicate {A = List BlockId} n []
          ∙ c.len.ensures;
      rows = λ b. rw rows (no_preds n b);
    }

pub loop-block-preserved : goal.loop-block-preserved
loop-block-preserved c =
    let i = c.loop-block.block-index in
    let block = c.block-item.result in
    let items = c.as_slice-block-items.result.now in
    let old = c.loop-block.rows.items in
    let new = c.add_source.new.rows.items in
    let targets : c.as_slice-in-loop-block.result.now ≡ successors block.instrs = c.as_slice-in-loop-block.ensures
    ∙ c.in_ok-targets.ensures ∙ ap successors c.as_slice.ensures in
    let front : take (i + 1) items ≡ take i items ++ block ∷ [] = take_more items i block c.loop-block-test.true
    ∙ ap (λ (one : Block). take i items ++ one ∷ []) (sym c.block-item.is) in
    record {
      size = c.in_ok-add_source.ensures.size ∙ c.loop-block.invariant.size;
      rows = λ b.
          let added = subst (λ (xs : List ℕ). get_or new b [] ≡ get_or old b [] ++ sources_in block.id xs b) targets
          (c.in_ok-add_source.ensures.rows b) in
          rw front (preds_more old new (take i items) block b (c.loop-block.invariant.rows b) added);
    }

pub returns : goal.returns
returns c b =
    let items = c.as_slice-block-items.result.now in
    let all : take c.loop-block.block-index items ≡ c.args.f.now.blocks = take_all c.loop-block.block-index items
    c.loop-block-test.false ∙ c.as_slice-block-items.ensures in
    subst (λ (blocks : List Block). get_or c.loop-block.rows.items b [] ≡ preds_in blocks b) all
    (c.loop-block.invariant.rows b)
