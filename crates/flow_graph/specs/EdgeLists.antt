-- The edges of a function as lists of blocks.
use Rattle.std.specs.Prelude.{◌≡◌, ◌==◌, ℕ, List, [], map, flat_map, filter, slice_index_or}
use Rattle.scev_base.specs.declared.ids.BlockId.{BlockId}
use Rattle.ir_model.specs.declared.function.Block.{Block}
use Rattle.ir_model.specs.declared.function.Function.{Function}
use Rattle.ir_model.specs.Shapes.{block_of}
use Rattle.ir_model.specs.Walks.{successors}
use Rattle.flow_graph.specs.Graph.{exits}

abbrev pub block_id : ℕ → BlockId
block_id k = record { 0 = k }

-- The blocks to which a block leads, in the order of its instructions, each as often as they name it. A number that is
-- no block's leads nowhere.
abbrev pub succs_of : Function → ℕ → List BlockId
succs_of f b = map block_id (exits (block_of f b))

-- a block, once for each of some targets that is the block b
abbrev pub sources_in : BlockId → List ℕ → ℕ → List BlockId
sources_in from targets b = map (λ (to : ℕ). from) (filter (λ to. to == b) targets)

-- the blocks that lead to a block, in text order, each once for every edge
abbrev pub preds_in : List Block → ℕ → List BlockId
preds_in blocks b = flat_map (λ (block : Block). sources_in block.id (successors block.instrs) b) blocks

abbrev pub preds_of : Function → ℕ → List BlockId
preds_of f b = preds_in f.blocks b

-- for the number of each block where it leads, and what leads to it
pub record EdgeLists : Type 0 where
  pub succs : List (List BlockId)
  pub preds : List (List BlockId)

pub record AreEdgesOf (f : Function) (edges : EdgeLists) : Type 0 where
  pub succs : (b : ℕ) → slice_index_or edges.succs b [] ≡ succs_of f b
  pub preds : (b : ℕ) → slice_index_or edges.preds b [] ≡ preds_of f b
