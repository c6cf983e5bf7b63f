-- The loops of a function, header by header.
use Rattle.std.proofs.Common.{◌≡◌, ℕ, ◌+◌, ◌<◌, ◌≤◌, Bool, List, [], ◌∷◌, ◌++◌, length, get_or, map, Some, All}
use Rattle.std.proofs.Common.{AllPairs, Contains, refl, sym, ap, ◌∙◌, subst, inl, inr, arith}
use Rattle.std.proofs.lemmas.Bool.{cases_eq}
use Rattle.std.proofs.lemmas.List.{get_or_default}
use Rattle.std.proofs.lemmas.List.Elements.{All-nil, All-push, All-get_or, All-weaker, Contains-append_left}
use Rattle.std.proofs.lemmas.List.Elements.{Contains-push}
use Rattle.std.proofs.lemmas.List.Quantifiers.{all_pairs_push}
use Rattle.scev_base.specs.declared.ids.BlockId.{BlockId}
use Rattle.ir_model.specs.declared.function.Block.{Block}
use Rattle.ir_model.specs.declared.function.Function.{Function}
use Rattle.ir_model.specs.Shapes.{block_of, defined_blocks, entry}
use Rattle.ir_model.specs.Walks.{Edge, Walk, Reachable}
use Rattle.flow_graph.specs.EdgeLists.{block_id}
use Rattle.flow_graph.specs.TextOrder.{StandsBefore}
use Rattle.flow_graph.proofs.FlowLemmas.{numbered, numbers_of_blocks}
use Rattle.flow_graph.proofs.WalkPaths.{walk_join}
use Rattle.loop_regions.specs.Loops.{Loop, IsLoop}
use Rattle.natural_loops.specs.Backward.{IsBackEdge, IsBody}
use Rattle.natural_loops.specs.Sides.{AreInTextOrder, IsLatch}
use Rattle.natural_loops.specs.Table.{RegionParts, loop_of, IsRegionOf, AreAllLoops}
use Rattle.natural_loops.proofs.Bodies.{loop_has_latch, body_is_loop, body_latches}
use Rattle.natural_loops.proofs.Listing.{number_defined, in_order_same}

-- ---- one loop

some_of : {X : Type 0} (xs : List X) → (xs ≡ [] → ⊥) → (x : X) × Contains xs x
some_of [] none = absurd (none refl)
some_of (x ∷ xs) none = (x, (0, omega arith, refl))

-- a latch of a list that isn't empty
pub some_latch : (f : Function) (h : ℕ) (latches : List BlockId) → AreInTextOrder f (λ b. IsBackEdge f b h) latches
    → (latches ≡ [] → ⊥) → (b : ℕ) × IsBackEdge f b h
some_latch f h latches are none =
    let latch = some_of latches none in
    (latch.0.0, (are.each latch.0).0 latch.1)

-- an empty list has none
pub no_latch : (f : Function) (h : ℕ) (latches : List BlockId) → AreInTextOrder f (λ b. IsBackEdge f b h) latches
    → latches ≡ [] → (b : ℕ) → IsBackEdge f b h → ⊥
no_latch f h latches are none b back =
    let there : Contains [] (block_id b) =
    subst (λ (ids : List BlockId). Contains ids (block_id b)) none ((are.each (block_id b)).1 back) in
    omega (arith, there.1)

-- a block with an edge from a reachable one is reachable
pub reachable_on : (f : Function) (a b : ℕ) → Reachable f a → Edge f a b → Reachable f b
reachable_on f a b (inl is) edge = inr ([], subst (λ (k : ℕ). Edge f k b) is edge)
reachable_on f a b (inr way) edge = inr (way.0 ++ a ∷ [], walk_join f (entry f.blocks) a b way.0 [] way.1 edge)

-- what is found from latches is a loop with these latches
pub region_of_body : (f : Function) → ((a : ℕ) → Edge f a (entry f.blocks) → ⊥) → (h : BlockId) (latches : List BlockId)
    (marks : List Bool) → IsBody f h.0 marks → AreInTextOrder f (λ b. IsBackEdge f b h.0) latches → (latches ≡ [] → ⊥)
    → IsRegionOf f (record { header = h; latches = latches; blocks = marks })
region_of_body f first h latches marks body are none =
    let region : RegionParts = record { header = h; latches = latches; blocks = marks } in
    let back = some_latch f h.0 latches are none in
    record {
      is_loop = body_is_loop f first h.0 marks body back.0 back.1;
      latches = in_order_same f (λ b. IsBackEdge f b h.0) (IsLatch f (loop_of region)) latches
          (body_latches f first h.0 marks body) are;
    }

-- ---- all loops

-- a walk begins at a block
walk_from_block : (f : Function) (a b : ℕ) (between : List ℕ) → Walk f a between b
    → (block : Block) × (block_of f a ≡ Some block)
walk_from_block f a b [] edge = (edge.0, edge.1)
walk_from_block f a b (c ∷ between) walk = (walk.0.0, walk.0.1)

module _ (f : Function) (ids : List BlockId) where
  abbrev id_at : ℕ → BlockId
  id_at k = get_or ids k (record { 0 = 0 })

  -- These are the loops with one of so many blocks as their headers, in order.
  pub record AreLoopsTo (n : ℕ) (regions : List RegionParts) : Type 0 where
    pub each : All (IsRegionOf f) regions
    pub all : (k b : ℕ) → k < n → IsBackEdge f b (id_at k).0
        → (region : RegionParts) × Contains regions region × (region.header ≡ id_at k)
    pub places : All (λ (region : RegionParts). (k : ℕ) × (k < n) × (id_at k ≡ region.header)) regions
    pub ordered : AllPairs (λ (a b : RegionParts). StandsBefore f a.header.0 b.header.0) regions

  pub AreLoopsTo_none : AreLoopsTo 0 []
  AreLoopsTo_none = record {
    each = All-nil (IsRegionOf f);
    all = λ k b low back. absurd (omega (arith, low));
    places = All-nil (λ (region : RegionParts). (k : ℕ) × (k < 0) × (id_at k ≡ region.header));
    ordered = λ i j d less within. absurd (omega (arith, within));
  }

  later : (n : ℕ) (regions : List RegionParts)
      → All (λ (region : RegionParts). (k : ℕ) × (k < n) × (id_at k ≡ region.header)) regions
      → All (λ (region : RegionParts). (k : ℕ) × (k < n + 1) × (id_at k ≡ region.header)) regions
  later n regions places =
      All-weaker (λ (region : RegionParts). (k : ℕ) × (k < n) × (id_at k ≡ region.header))
      (λ (region : RegionParts). (k : ℕ) × (k < n + 1) × (id_at k ≡ region.header))
      (λ region place. (place.0, omega (arith, place.1), place.2)) regions places

  -- a block that is no header
  pub AreLoopsTo_skip : (n : ℕ) (regions : List RegionParts) → ((b : ℕ) → IsBackEdge f b (id_at n).0 → ⊥)
      → AreLoopsTo n regions → AreLoopsTo (n + 1) regions
  AreLoopsTo_skip n regions none are = record {
    each = are.each;
    all = λ k b low back.
        elim (cases_eq k n) [
          | inl e ↦ absurd (none b (subst (λ (j : ℕ). IsBackEdge f b (id_at j).0) e back))
          | inr apart ↦ are.all k b (omega (arith, low, apart)) back
        ];
    places = later n regions are.places;
    ordered = are.ordered;
  }

  -- a block that is one
  pub AreLoopsTo_more : AllPairs (λ (a b : BlockId). StandsBefore f a.0 b.0) ids → (n : ℕ) (regions : List RegionParts)
      (region : RegionParts) → n < length ids → region.header ≡ id_at n → IsRegionOf f region → AreLoopsTo n regions
      → AreLoopsTo (n + 1) (regions ++ region ∷ [])
  AreLoopsTo_more order n regions region within is loop are = record {
    each = All-push (IsRegionOf f) regions region are.each loop;
    all = λ k b low back.
        elim (cases_eq k n) [
          | inl e ↦ (region, Contains-push regions region, is ∙ ap id_at (sym e))
          | inr apart ↦
              let found = are.all k b (omega (arith, low, apart)) back in
              (found.0, Contains-append_left regions (region ∷ []) found.0 found.1, found.2)
        ];
    places = All-push (λ (one : RegionParts). (k : ℕ) × (k < n + 1) × (id_at k ≡ one.header)) regions region
        (later n regions are.places) (n, omega arith, sym is);
    ordered = all_pairs_push (λ (a b : RegionParts). StandsBefore f a.header.0 b.header.0) regions region are.ordered
        (λ k d low.
        let one = get_or regions k d in
        let place =
        All-get_or (λ (one : RegionParts). (k : ℕ) × (k < n) × (id_at k ≡ one.header)) regions k d low are.places in
        let before = order place.0 n (record { 0 = 0 }) place.1 within in
        subst (λ (id : BlockId). StandsBefore f one.header.0 id.0) (sym is)
        (subst (λ (id : BlockId). StandsBefore f id.0 (id_at n).0) place.2 before));
  }

-- the header of a loop is one of the function's blocks, and has a latch
record IsHeaderAt (f : Function) (ids : List BlockId) (h : ℕ) : Type 0 where
  place : ℕ
  within : place < length ids
  at : id_at f ids place ≡ block_id h
  latch : ℕ
  back : IsBackEdge f latch (id_at f ids place).0

header_at : (f : Function) → ((a : ℕ) → Edge f a (entry f.blocks) → ⊥) → (ids : List BlockId)
    → ids ≡ map (λ (block : Block). block.id) f.blocks → (l : Loop) → IsLoop f l → IsHeaderAt f ids l.header
header_at f first ids is l loop =
    let back = loop_has_latch f first l loop in
    let turn = loop.region.connected l.header l.header loop.region.header loop.region.header in
    let block = walk_from_block f l.header l.header turn.0 turn.2 in
    let numbers = numbers_of_blocks f.blocks ids is in
    let named = numbered ids (defined_blocks f) numbers (block_id l.header) in
    let there : Contains ids (block_id l.header) = named.1 (number_defined f l.header block.0 block.1) in
    let at : id_at f ids there.0 ≡ block_id l.header =
    get_or_default ids there.0 (record { 0 = 0 }) (block_id l.header) there.1 ∙ there.2 in
    record {
      place = there.0;
      within = there.1;
      at = at;
      latch = back.0;
      back = subst (λ (id : BlockId). IsBackEdge f back.0 id.0) (sym at) back.1;
    }

-- the loops with any block as their header are all
pub AreLoopsTo_all : (f : Function) → ((a : ℕ) → Edge f a (entry f.blocks) → ⊥) → (ids : List BlockId)
    → ids ≡ map (λ (block : Block). block.id) f.blocks → (n : ℕ) (regions : List RegionParts) → length ids ≤ n
    → AreLoopsTo f ids n regions → AreAllLoops f regions
AreLoopsTo_all f first ids is n regions end are = record {
  each = are.each;
  all = λ l loop.
      let header = header_at f first ids is l loop in
      let low : header.place < n = omega (arith, header.within, end) in
      let found = are.all header.place header.latch low header.back in
      (found.0, found.1, ap (λ (id : BlockId). id.0) (found.2 ∙ header.at));
  ordered = are.ordered;
}
