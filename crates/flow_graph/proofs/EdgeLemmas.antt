-- A function's lists of edges have its edges.
use Rattle.std.proofs.Common.{◌≡◌, ◌≢◌, ◌↔◌, ◌==◌, ℕ, zero, suc, ◌<◌, Bool, true, List, [], ◌∷◌, length, get_or, map, flat_map, filter, find, Some, AllPairs, Contains, eqb-true, refl, sym, ap, ◌∙◌, subst, inl, inr, arith}
use Rattle.std.proofs.Math.ListN.{get_or-map as map_at}
use Rattle.std.proofs.lemmas.Bool.{cases_Bool, eq-eqb}
use Rattle.std.proofs.lemmas.List.{get_or_default, length-map}
use Rattle.std.proofs.lemmas.List.Elements.{Contains-append_left, Contains-append_right, Contains-append_cases}
use Rattle.scev_base.specs.declared.ids.BlockId.{BlockId}
use Rattle.ir_model.specs.declared.function.Block.{Block}
use Rattle.ir_model.specs.declared.function.Function.{Function}
use Rattle.ir_model.specs.Shapes.{block_of, defined_blocks}
use Rattle.ir_model.specs.Walks.{successors, Edge}
use Rattle.flow_graph.specs.Graph.{exits}
use Rattle.flow_graph.specs.EdgeLists.{block_id, succs_of, sources_in, preds_of}
use Rattle.flow_graph.proofs.ArcLemmas.{find_is, exits_to}
use Rattle.flow_graph.proofs.FlowLemmas.{filter_only, filter_has, numbered, one_place}

named_twice : (numbers : List ℕ) → map (λ (b : BlockId). b.0) (map block_id numbers) ≡ numbers
named_twice [] = refl
named_twice (k ∷ numbers) = ap (λ (more : List ℕ). k ∷ more) (named_twice numbers)

pub succs_edge : (f : Function) (a b : ℕ) → Contains (succs_of f a) (block_id b) ↔ Edge f a b
succs_edge f a b =
    let targets = exits (block_of f a) in
    let name = numbered (succs_of f a) targets (named_twice targets) (block_id b) in (
      (λ there. exits_to f a b (block_of f a) refl (name.0 there)),
      (λ edge.
          let row : targets ≡ successors edge.0.instrs = ap exits edge.1 in
          name.1 (subst (λ (xs : List ℕ). Contains xs b) (sym row) edge.2)),
    )

-- ---- sources

flat_map_only : {X Y : Type 0} (g : X → List Y) (xs : List X) (y : Y) → Contains (flat_map g xs) y
    → (x : X) × Contains xs x × Contains (g x) y
flat_map_only g [] y there = absurd (omega (arith, there.1))
flat_map_only g (x ∷ xs) y there =
    elim (Contains-append_cases (g x) (flat_map g xs) y there) [
      | inl own ↦ (x, (0, omega arith, refl), own)
      | inr later ↦
          let found = flat_map_only g xs y later in
          (found.0, (suc found.1.0, omega (arith, found.1.1), found.1.2), found.2)
    ]

flat_map_has : {X Y : Type 0} (g : X → List Y) (xs : List X) (x : X) (y : Y) → Contains xs x → Contains (g x) y
    → Contains (flat_map g xs) y
flat_map_has g [] x y there own = absurd (omega (arith, there.1))
flat_map_has g (z ∷ xs) x y (zero, within, is) own =
    Contains-append_left (g z) (flat_map g xs) y (subst (λ w. Contains (g w) y) (sym is) own)
flat_map_has g (z ∷ xs) x y (suc k, within, is) own =
    Contains-append_right (g z) (flat_map g xs) y (flat_map_has g xs x y (k, omega arith, is) own)

map_only : {X Y : Type 0} (y : Y) (xs : List X) (z : Y) → Contains (map (λ (x : X). y) xs) z → (y ≡ z) × (0 < length xs)
map_only y [] z there = absurd (omega (arith, there.1))
map_only y (x ∷ xs) z (zero, within, is) = (is, omega arith)
map_only y (x ∷ xs) z (suc k, within, is) = ((map_only y xs z (k, omega arith, is)).0, omega arith)

sources_only : (from : BlockId) (targets : List ℕ) (b : ℕ) (x : BlockId) → Contains (sources_in from targets b) x
    → (from ≡ x) × Contains targets b
sources_only from targets b x there =
    let found = map_only from (filter (λ to. to == b) targets) x there in
    let first = filter_only (λ to. to == b) targets (get_or (filter (λ to. to == b) targets) 0 b)
    (0, found.1, get_or_default (filter (λ to. to == b) targets) 0 _ b found.1) in
    let is = eqb-true (get_or (filter (λ to. to == b) targets) 0 b) b first.1 in
    (found.0, subst (Contains targets) is first.0)

sources_has : (from : BlockId) (targets : List ℕ) (b : ℕ) → Contains targets b
    → Contains (sources_in from targets b) from
sources_has from targets b there =
    let found = filter_has (λ to. to == b) targets b there (eq-eqb b b refl) in
    let size = length-map (filter (λ to. to == b) targets) (λ (to : ℕ). from) in
    (found.0, omega (arith, found.1, size), map_at (λ (to : ℕ). from) (filter (λ to. to == b) targets) found.0 b)

find_has : {X : Type 0} (p : X → Bool) (xs : List X) (x : X) → Contains xs x → p x ≡ true
    → (y : X) × (find p xs ≡ Some y)
find_has p [] x there passes = absurd (omega (arith, there.1))
find_has p (y ∷ ys) x (zero, within, is) passes =
    let first : p y ≡ true = ap p is ∙ passes in
    (y, rw first refl)
find_has p (y ∷ ys) x (suc k, within, is) passes =
    elim (cases_Bool (p y)) [
      | inl first ↦ (y, rw first refl)
      | inr left ↦
          let later = find_has p ys x (k, omega arith, is) passes in
          (later.0, rw left later.1)
    ]

-- a block of a function is the block of its number
pub block_of_itself : (f : Function) → AllPairs (λ a b. a ≢ b) (defined_blocks f) → (block : Block)
    → Contains f.blocks block
    → block_of f block.id.0 ≡ Some block
block_of_itself f once block there =
    let number : Block → ℕ = λ block. block.id.0 in
    let none : Block = record { id = record { 0 = 0 }; instrs = [] } in
    let found = find_has (λ other. other.id.0 == block.id.0) f.blocks block there (eq-eqb block.id.0 block.id.0 refl) in
    let is = find_is (λ other. other.id.0 == block.id.0) f.blocks found.0 found.1 in
    let same : found.0.id.0 ≡ block.id.0 = eqb-true found.0.id.0 block.id.0 is.1 in
    let size = length-map f.blocks number in
    let at : (x : Block) (in_it : Contains f.blocks x) → get_or (defined_blocks f) in_it.0 0 ≡ x.id.0 = λ x in_it.
    map_at number f.blocks in_it.0 none ∙ ap number (get_or_default f.blocks in_it.0 none x in_it.1 ∙ in_it.2) in
    let place : is.0.0 ≡ there.0 = one_place f once is.0.0 there.0 (omega (arith, is.0.1, size))
    (omega (arith, there.1, size)) (at found.0 is.0 ∙ same ∙ sym (at block there)) in
    let one : found.0 ≡ block = sym is.0.2 ∙ ap (λ (k : ℕ). get_or f.blocks k found.0) place
    ∙ get_or_default f.blocks there.0 found.0 block there.1 ∙ there.2 in
    found.1 ∙ ap Some one

pub preds_edge : (f : Function) → AllPairs (λ a b. a ≢ b) (defined_blocks f) → (a b : ℕ)
    → Contains (preds_of f b) (block_id a) ↔ Edge f a b
preds_edge f once a b =
    let rows : Block → List BlockId = λ block. sources_in block.id (successors block.instrs) b in (
      (λ there.
          let found = flat_map_only rows f.blocks (block_id a) there in
          let source = sources_only found.0.id (successors found.0.instrs) b (block_id a) found.2 in
          let itself = block_of_itself f once found.0 found.1 in
          (found.0, subst (λ (id : BlockId). block_of f id.0 ≡ Some found.0) source.0 itself, source.1)),
      (λ edge.
          let is = find_is (λ block. block.id.0 == a) f.blocks edge.0 edge.1 in
          let id : edge.0.id ≡ block_id a = ap block_id (eqb-true edge.0.id.0 a is.1) in
          let own = sources_has edge.0.id (successors edge.0.instrs) b edge.2 in
          flat_map_has rows f.blocks edge.0 (block_id a) is.0 (subst (Contains (rows edge.0)) id own)),
    )
