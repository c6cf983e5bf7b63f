use Rattle.std.proofs.Common.{◌≡◌, ◌<◌, ℕ, List, [], length, get_or, map, AllPairs, IfSome, IfNone}
use Rattle.std.proofs.Common.{Option, refl, sym, ap, ◌∙◌, subst, arith}
use Rattle.std.proofs.lemmas.List.{get_or_default, length-map}
use Rattle.std.proofs.Math.ListN.{get_or-map as map_at}
use Rattle.std.proofs.lemmas.List.Elements.{All-get_or}
use Rattle.scev_base.specs.declared.ids.BlockId.{BlockId}
use Rattle.ir_model.specs.declared.function.Block.{Block}
use Rattle.ir_model.specs.declared.function.Function.{Function}
use Rattle.flow_graph.specs.TextOrder.{StandsBefore}
use Rattle.flow_graph.proofs.FlowLemmas.{in_text_order, numbers_of_blocks}
use Rattle.natural_loops.specs.Backward.{IsBackEdge, IsBackward}
use Rattle.natural_loops.specs.Table.{RegionParts, IsRegionOf}
use Rattle.natural_loops.proofs.Regions.{AreLoopsTo_none, AreLoopsTo_skip, AreLoopsTo_more, AreLoopsTo_all}
use Rattle.natural_loops.proofs.region.regions.Goals as goal
use Rattle.natural_loops.proofs.region.regions.Goals.{in-Some+in_ok-push, in_default}

abbrev ids_of : Function → List BlockId
ids_of f = map (λ (block : Block). block.id) f.blocks

-- the block at a place, by its number
id_there : (blocks items : List Block) (i : ℕ) (block : Block) → items ≡ blocks → i < length items
    → block ≡ get_or items i block
    → block.id ≡ get_or (map (λ (block : Block). block.id) blocks) i (record { 0 = 0 })
id_there blocks items i block are within is =
    let none : Block = record { id = record { 0 = 0 }; instrs = [] } in
    let id : Block → BlockId = λ block. block.id in
    ap id (is ∙ sym (get_or_default items i none block within)) ∙ sym (map_at id items i none)
    ∙ ap (λ (xs : List Block). get_or (map id xs) i (record { 0 = 0 })) are

pub region_at-requires-clause-header : goal.region_at-requires-clause-header
region_at-requires-clause-header c =
    let f : Function = c.args.c.now.function in
    let own = All-get_or (λ (block : Block). block.id.0 < length f.labels) c.text_blocks-block-items.result.now
    c.loop-block.block-index c.block-item.result c.loop-block-test.true c.text_blocks-block-items.ensures.labels in
    rw c.block-item.is own

pub region_at-requires-clause-backward : goal.region_at-requires-clause-backward
region_at-requires-clause-backward c =
    subst (IsBackward c.args.c.now.function) (sym c.as_slice.ensures.value) c.in_ok-backward.ensures

pub region_at-requires-clause-first : goal.region_at-requires-clause-first
region_at-requires-clause-first c = c.text_blocks-block-items.ensures.first

pub loop-block-init : goal.loop-block-init
loop-block-init c =
    let f : Function = c.args.c.now.function in
    rw c.new-found.ensures (AreLoopsTo_none f (ids_of f))

pub loop-block-preserved : goal.loop-block-preserved
loop-block-preserved c =
    let f : Function = c.args.c.now.function in
    let ids : List BlockId = ids_of f in
    let items = c.text_blocks-block-items.result.now in
    let i = c.loop-block.block-index in
    let block = c.block-item.result in
    let found = c.loop-block.found in
    let blocks_are : items ≡ f.blocks = c.text_blocks-block-items.ensures.value in
    let is : block.id ≡ get_or ids i (record { 0 = 0 }) =
    id_there f.blocks items i block blocks_are c.loop-block-test.true c.block-item.is in
    elim c.match-branch-3.branch [
      | in-Some+in_ok-push w ↦
          let region : RegionParts = w.in-Some.region in
          let known : (region.header ≡ block.id) × IsRegionOf f region =
          subst (λ (o : Option RegionParts). IfSome o (λ one. (one.header ≡ block.id) × IsRegionOf f one)) w.in-Some.is
          c.in_ok-region.ensures.loop_ in
          let size : length ids ≡ length items =
          length-map f.blocks (λ (block : Block). block.id) ∙ ap (λ (xs : List Block). length xs) (sym blocks_are) in
          let order : AllPairs (λ (a b : BlockId). StandsBefore f a.0 b.0) ids =
          in_text_order f c.text_blocks-block-items.ensures.once ids (numbers_of_blocks f.blocks ids refl) in
          rw (w.found-is, w.in_ok-push.ensures.ok)
          (AreLoopsTo_more f ids order i found region (omega (arith, size, c.loop-block-test.true)) (known.0 ∙ is)
          known.1 c.loop-block.invariant)
      | in_default w ↦
          let none : (b : ℕ) → IsBackEdge f b block.id.0 → ⊥ =
          subst (λ (o : Option RegionParts). IfNone o ((b : ℕ) → IsBackEdge f b block.id.0 → ⊥)) w.in_default.is
          c.in_ok-region.ensures.none in
          rw w.found-is
          (AreLoopsTo_skip f ids i found
          (subst (λ (id : BlockId). (b : ℕ) → IsBackEdge f b id.0 → ⊥) is none) c.loop-block.invariant)
    ]

pub returns : goal.returns
returns c =
    let f : Function = c.args.c.now.function in
    let items = c.text_blocks-block-items.result.now in
    let size : length (ids_of f) ≡ length items =
    length-map f.blocks (λ (block : Block). block.id)
    ∙ ap (λ (xs : List Block). length xs) (sym c.text_blocks-block-items.ensures.value) in
    AreLoopsTo_all f c.text_blocks-block-items.ensures.first (ids_of f) refl c.loop-block.block-index
    c.loop-block.found (omega (arith, size, c.loop-block-test.false)) c.loop-block.invariant
