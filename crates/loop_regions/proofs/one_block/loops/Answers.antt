use Rattle.std.proofs.Common.{◌≡◌, ◌↔◌, ℕ, List, length, get_or, sym, ap, ◌∙◌, subst}
use Rattle.std.proofs.lemmas.Result.{IfOk-weaker}
use Rattle.scev_base.specs.declared.ids.BlockId.{BlockId}
use Rattle.ir_model.specs.declared.function.Block.{Block}
use Rattle.ir_model.specs.Shapes.{entry}
use Rattle.loop_regions.specs.OneBlock.{AreLoops}
use Rattle.flow_graph.specs.Graph.{Arc, Path, IsClosed, IsMarked}
use Rattle.loop_regions.specs.Order.{IsLone}
use Rattle.flow_graph.proofs.FlowLemmas.{first_is_entry}
use Rattle.loop_regions.proofs.OneBlockLemmas.{AreLoops_listed, listed_within}
use Rattle.loop_regions.proofs.ThinIds.{thin_ids}
use Rattle.loop_regions.proofs.one_block.loops.Goals as goal

pub arcs-requires : goal.arcs-requires
arcs-requires c = thin_ids c.args.f.now c.requires.thin

pub lone_nodes-requires-clause-closed : goal.lone_nodes-requires-clause-closed
lone_nodes-requires-clause-closed c = subst IsClosed (sym c.as_slice.ensures) c.in_ok-graph.ensures.closed

pub of_headers-requires : goal.of_headers-requires
of_headers-requires c =
    let size : length c.in_ok-lone.lone.items ≡ c.len.result = c.in_ok-lone.ensures.size ∙ ap (λ (g : List (List ℕ)). length g) c.as_slice.ensures ∙ c.in_ok-graph.ensures.size ∙ sym c.len.ensures in
    listed_within c.args.f.now c.in_ok-lone.lone.items c.in_ok-headers.headers c.len.result size c.in_ok-headers.ensures

pub returns : goal.returns
returns c =
    let f = c.args.f.now in
    let marks = c.in_ok-lone.lone.items in
    let root = (get_or c.as_slice-blocks.result.now 0 c.index-blocks-0.result).id.0 in
    let is = subst (λ (blocks : List Block). c.index-blocks-0.result ≡ get_or blocks 0 c.index-blocks-0.result) c.as_slice-blocks.ensures c.index-blocks-0.is in
    let first : root ≡ entry f.blocks = ap (λ (x : Block). x.id.0) (sym c.index-blocks-0.is) ∙ first_is_entry f.blocks c.index-blocks-0.result c.requires.thin.entry is in
    let exact = subst (λ (g : List (List ℕ)). (k : ℕ) → IsMarked marks k ↔ (Path (Arc g) root k × IsLone g k)) c.as_slice.ensures c.in_ok-lone.ensures.marks in
    let from_entry = subst (λ (r : ℕ). (k : ℕ) → IsMarked marks k ↔ (Path (Arc c.in_ok-graph.graph) r k × IsLone c.in_ok-graph.graph k)) first exact in
    let loops = AreLoops_listed f c.in_ok-graph.graph marks c.in_ok-headers.headers c.in_ok-graph.ensures from_entry c.in_ok-headers.ensures in
    record { exact = IfOk-weaker c.of_headers.result (λ table. table ≡ c.in_ok-headers.headers) (λ table. AreLoops f table) (λ table e. subst (λ (hs : List BlockId). AreLoops f hs) (sym e) loops) c.of_headers.ensures }
