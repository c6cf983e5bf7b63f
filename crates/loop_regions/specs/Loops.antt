-- Natural loops as sets of blocks.
use Rattle.std.specs.Prelude.{◌≡◌, ℕ, List, Contains, All}
use Rattle.ir_model.specs.declared.function.Function.{Function}
use Rattle.ir_model.specs.Walks.{Edge, Walk, Reachable}

-- a header, and the set of the blocks
pub record Loop : Type 0 where
  pub header : ℕ
  pub blocks : List ℕ

-- A set of reachable blocks that holds the header, in which a walk inside leads from each block to each one, so that there is
-- an edge inside; reachable blocks from outside enter it only at its header.
pub record IsRegion (f : Function) (l : Loop) : Type 0 where
  pub header : Contains l.blocks l.header
  pub reachable : (b : ℕ) → Contains l.blocks b → Reachable f b
  pub connected : (a b : ℕ) → Contains l.blocks a → Contains l.blocks b
      → (between : List ℕ) × All (Contains l.blocks) between × Walk f a between b
  pub entered : (a b : ℕ) → Reachable f a → (Contains l.blocks a → ⊥) → Contains l.blocks b → Edge f a b → b ≡ l.header

-- A loop is the largest such set with its header.
pub record IsLoop (f : Function) (l : Loop) : Type 0 where
  pub region : IsRegion f l
  pub largest : (other : Loop) → IsRegion f other → other.header ≡ l.header → (b : ℕ) → Contains other.blocks b → Contains l.blocks b
