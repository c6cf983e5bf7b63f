-- Blocks in text order.
use Rattle.std.specs.Prelude.{◌≡◌, ℕ, List, Bool, Some, Contains, AllPairs}
use Rattle.scev_base.specs.declared.ids.BlockId.{BlockId}
use Rattle.ir_model.specs.declared.function.Block.{Block}
use Rattle.ir_model.specs.declared.function.Function.{Function}
use Rattle.ir_model.specs.Shapes.{block_of}
use Rattle.flow_graph.specs.TextOrder.{StandsBefore}
use Rattle.flow_graph.specs.Graph.{IsMarked}

-- The list has the numbers of the marked blocks, in text order.
pub record AreListed (f : Function) (marks : List Bool) (headers : List BlockId) : Type 0 where
  pub only : (b : ℕ) → Contains headers (record { 0 = b }) → IsMarked marks b
  pub each : (b : ℕ) (block : Block) → IsMarked marks b → block_of f b ≡ Some block → Contains headers (record { 0 = b })
  pub ordered : AllPairs (λ a b. StandsBefore f a.0 b.0) headers
