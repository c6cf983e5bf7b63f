-- The first phi whose entries aren't its block's edges, among instructions and among blocks.
use Rattle.std.proofs.Common.{◌≡◌, ℕ, ◌==◌, Bool, true, false, not, if◌then◌else◌, List, [], ◌∷◌, ◌++◌, Option, Some}
use Rattle.std.proofs.Common.{None, map, filter, flat_map, slice_get, refl, sym, ap, subst, ◌∙◌}
use Rattle.std.specs.List.Sorted.{IsPermutation}
use Rattle.std.proofs.lemmas.List.{map-append}
use Rattle.std.proofs.lemmas.List.Elements.{filter-append}
use Rattle.scev_base.specs.declared.ids.BlockId.{BlockId}
use Rattle.ir_model.specs.declared.function.Instr.{Instr}
use Rattle.ir_model.specs.declared.function.Block.{Block}
use Rattle.ir_model.specs.declared.function.Function.{Function}
use Rattle.ir_model.specs.declared.rule.Place.{Place}
use Rattle.ir_model.specs.Walks.{successors}
use Rattle.ir_rules.specs.Spots.{Spot, block_spots, place, named_by}
use Rattle.ir_rules.specs.Blocks.{incoming, entries_fit}
use Rattle.flow_graph.specs.EdgeLists.{preds_of, preds_in, sources_in}
use Rattle.ir_check.specs.Entries.{bad_places}

-- the numbers of the blocks that lead to a block
pub incoming_preds : (f : Function) (b : ℕ) → map (λ (p : BlockId). p.0) (preds_of f b) ≡ incoming f b
incoming_preds f b = in_blocks f.blocks
  where
    in_targets : (from : BlockId) (targets : List ℕ)
        → map (λ (p : BlockId). p.0) (map (λ (to : ℕ). from) targets) ≡ map (λ (to : ℕ). from.0) targets
    in_targets from [] = refl
    in_targets from (to ∷ targets) = ap (λ rest. from.0 ∷ rest) (in_targets from targets)

    in_blocks : (blocks : List Block) → map (λ (p : BlockId). p.0) (preds_in blocks b)
        ≡ flat_map (λ (block : Block). map (λ to. block.id.0) (filter (λ to. to == b) (successors block.instrs))) blocks
    in_blocks [] = refl
    in_blocks (block ∷ blocks) =
        map-append (λ (p : BlockId). p.0) (sources_in block.id (successors block.instrs) b) (preds_in blocks b)
        ∙ (ap (λ here. here ++ map (λ (p : BlockId). p.0) (preds_in blocks b))
        (in_targets block.id (filter (λ to. to == b) (successors block.instrs)))
        ∙ ap (λ rest. map (λ (to : ℕ). block.id.0) (filter (λ to. to == b) (successors block.instrs)) ++ rest)
        (in_blocks blocks))

-- what stands in the order of the blocks that lead to a block
pub incoming_moved : (f : Function) (b : ℕ) (preds : List BlockId) (sources given : List ℕ) → preds ≡ preds_of f b
    → IsPermutation (map (λ (p : BlockId). p.0) preds) sources → given ≡ sources → IsPermutation (incoming f b) given
incoming_moved f b preds sources given are moved is = subst (λ (ns : List ℕ). IsPermutation ns given)
    (ap (map (λ (p : BlockId). p.0)) are ∙ incoming_preds f b)
    (subst (IsPermutation (map (λ (p : BlockId). p.0) preds)) (sym is) moved)

-- the places in one instruction, and in one block
abbrev pub places_at : Function → ℕ → Instr → List Place
places_at f b instr = bad_places f (record { block = b; instr = instr } ∷ [])

abbrev pub places_in : Function → Block → List Place
places_in f block = bad_places f (block_spots block)

bad_places-append : (f : Function) (here more : List Spot)
    → bad_places f (here ++ more) ≡ bad_places f here ++ bad_places f more
bad_places-append f here more =
    ap (map place) (filter-append (λ (spot : Spot). not (entries_fit f spot.block spot.instr.op)) here more)
    ∙ map-append place (filter (λ (spot : Spot). not (entries_fit f spot.block spot.instr.op)) here)
    (filter (λ (spot : Spot). not (entries_fit f spot.block spot.instr.op)) more)

pub places_flat : (f : Function) (b : ℕ) (instrs : List Instr)
    → bad_places f (map (λ (instr : Instr). record { block = b; instr = instr }) instrs)
    ≡ flat_map (places_at f b) instrs
places_flat f b [] = refl
places_flat f b (instr ∷ instrs) =
    bad_places-append f (record { block = b; instr = instr } ∷ [])
    (map (λ (instr : Instr). record { block = b; instr = instr }) instrs)
    ∙ ap (λ rest. places_at f b instr ++ rest) (places_flat f b instrs)

pub blocks_flat : (f : Function) (blocks : List Block)
    → bad_places f (flat_map block_spots blocks) ≡ flat_map (places_in f) blocks
blocks_flat f [] = refl
blocks_flat f (block ∷ blocks) = bad_places-append f (block_spots block) (flat_map block_spots blocks)
    ∙ ap (λ rest. places_in f block ++ rest) (blocks_flat f blocks)

-- whether one instruction has such a place
pub first_at : (f : Function) (b : ℕ) (instr : Instr) (fits : Bool) → fits ≡ entries_fit f b instr.op
    → slice_get (places_at f b instr) 0 ≡ (if fits then None else Some (named_by b instr.result))
first_at f b instr fits is = ap first (sym is) ∙ go fits
  where
    first : Bool → Option Place
    first fits = slice_get (map place (filter (λ (spot : Spot). not fits) (record { block = b; instr = instr } ∷ []))) 0

    go : (fits : Bool) → first fits ≡ (if fits then None else Some (named_by b instr.result))
    go true = refl
    go false = refl
