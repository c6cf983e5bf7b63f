-- Reachable blocks have labels, and loops' headers are blocks.
use Rattle.std.proofs.Common.{◌≡◌, ◌≢◌, ◌==◌, ℕ, ◌<◌, List, [], ◌∷◌, length, Some, sym, subst, inl, inr}
use Rattle.std.proofs.lemmas.List.Elements.{All-contains}
use Rattle.ir_model.specs.declared.function.Block.{Block}
use Rattle.ir_model.specs.declared.function.Function.{Function}
use Rattle.ir_model.specs.Shapes.{block_of, entry}
use Rattle.ir_model.specs.Walks.{Edge, Walk, Reachable, successors}
use Rattle.ir_model.specs.WellMade.{HasIds}
use Rattle.flow_graph.proofs.ArcLemmas.{find_is}
use Rattle.flow_graph.proofs.IdLemmas.{IsLabel, IsLabelledBlock, labelled, entry_within}
use Rattle.loop_regions.specs.Loops.{Loop, IsRegion}

-- an edge leads to a block with a label
target_labelled : (f : Function) → HasIds f → (a b : ℕ) → Edge f a b → b < length f.labels
target_labelled f ids a b edge =
    let there = find_is (λ block. block.id.0 == a) f.blocks edge.0 edge.1 in
    let own = All-contains (IsLabelledBlock f) f.blocks edge.0 (labelled f ids) there.0 in
    All-contains (IsLabel f) (successors edge.0.instrs) b own.1 edge.2

end_labelled : (f : Function) → HasIds f → (a b : ℕ) (between : List ℕ) → Walk f a between b → b < length f.labels
end_labelled f ids a b [] edge = target_labelled f ids a b edge
end_labelled f ids a b (c ∷ between) walk = end_labelled f ids c b between walk.1

pub reachable_labelled : (f : Function) → HasIds f → f.blocks ≢ [] → (b : ℕ) → Reachable f b → b < length f.labels
reachable_labelled f ids some b (inl is) =
    subst (λ (k : ℕ). k < length f.labels) (sym is) (entry_within f ids some)
reachable_labelled f ids some b (inr walk) = end_labelled f ids (entry f.blocks) b walk.0 walk.1

-- a walk begins at a block
start_block : (f : Function) (a b : ℕ) (between : List ℕ) → Walk f a between b
    → (block : Block) × (block_of f a ≡ Some block)
start_block f a b [] edge = (edge.0, edge.1)
start_block f a b (c ∷ between) walk = (walk.0.0, walk.0.1)

pub header_block : (f : Function) (l : Loop) → IsRegion f l → (block : Block) × (block_of f l.header ≡ Some block)
header_block f l region =
    let turn = region.connected l.header l.header region.header region.header in
    start_block f l.header l.header turn.0 turn.2
