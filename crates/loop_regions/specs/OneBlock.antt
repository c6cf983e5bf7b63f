-- Loops of one block.
use Rattle.std.specs.Prelude.{◌≡◌, ◌↔◌, ℕ, List, [], ◌∷◌, All, AllPairs, Contains}
use Rattle.scev_base.specs.declared.ids.BlockId.{BlockId}
use Rattle.ir_model.specs.declared.function.Function.{Function}
use Rattle.ir_model.specs.Walks.{Edge, Walk, Reachable}
use Rattle.flow_graph.specs.TextOrder.{StandsBefore}
use Rattle.loop_regions.specs.Loops.{Loop}

-- A reachable block with an edge to itself, and with no other walk back to it: each one passes that block alone.
pub record IsOneBlockLoop (f : Function) (b : ℕ) : Type 0 where
  pub reachable : Reachable f b
  pub back : Edge f b b
  pub alone : (between : List ℕ) → Walk f b between b → All (λ c. c ≡ b) between

-- the loop of one block as a set
abbrev pub one_block : ℕ → Loop
one_block b = record { header = b; blocks = b ∷ [] }

-- These are all loops of one block of the function, by their headers, in text order.
pub record AreLoops (f : Function) (headers : List BlockId) : Type 0 where
  pub each : (b : ℕ) → Contains headers (record { 0 = b }) ↔ IsOneBlockLoop f b
  pub ordered : AllPairs (λ a b. StandsBefore f a.0 b.0) headers
