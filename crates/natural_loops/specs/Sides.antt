-- What stands at the edges of a loop, and what each of its turns passes.
use Rattle.std.specs.Prelude.{◌≢◌, ◌↔◌, ℕ, List, ◌∷◌, All, AllPairs, Contains}
use Rattle.scev_base.specs.declared.ids.BlockId.{BlockId}
use Rattle.ir_model.specs.declared.function.Function.{Function}
use Rattle.ir_model.specs.Walks.{Edge, Walk, Reachable}
use Rattle.flow_graph.specs.TextOrder.{StandsBefore}
use Rattle.loop_regions.specs.Loops.{Loop, IsLoop}

-- These are all blocks of the function of which something holds, in text order.
pub record AreInTextOrder (f : Function) (P : ℕ → Type 0) (blocks : List BlockId) : Type 0 where
  pub each : (b : BlockId) → Contains blocks b ↔ P b.0
  pub ordered : AllPairs (λ a b. StandsBefore f a.0 b.0) blocks

-- a reachable block of the loop with an edge to its header
abbrev pub IsLatch : Function → Loop → ℕ → Type 0
IsLatch f l b = Reachable f b × Contains l.blocks b × Edge f b l.header

-- a reachable block outside the loop with an edge to its header
abbrev pub IsEntering : Function → Loop → ℕ → Type 0
IsEntering f l b = Reachable f b × (Contains l.blocks b → ⊥) × Edge f b l.header

-- a block of the loop with an edge out of it
abbrev pub IsExit : Function → Loop → ℕ → Type 0
IsExit f l b = Contains l.blocks b × (to : ℕ) × Edge f b to × (Contains l.blocks to → ⊥)

-- Each block of one loop is one of the other, which has another header.
abbrev pub StandsIn : Loop → Loop → Type 0
StandsIn inner outer = ((b : ℕ) → Contains inner.blocks b → Contains outer.blocks b) × (inner.header ≢ outer.header)

-- a walk of one or more edges from the header, inside the loop
pub record WalkInside (f : Function) (l : Loop) (b : ℕ) : Type 0 where
  pub between : List ℕ
  pub inside : All (Contains l.blocks) between
  pub walk : Walk f l.header between b

-- Every walk inside the loop from its header back to it passes the block, and no inner loop has it.
pub record IsPassedEachTurn (f : Function) (l : Loop) (b : ℕ) : Type 0 where
  pub held : Contains l.blocks b
  pub passed : (turn : WalkInside f l l.header) → Contains (l.header ∷ turn.between) b
  pub alone : (inner : Loop) → IsLoop f inner → StandsIn inner l → Contains inner.blocks b → ⊥

-- One block of a turn is passed before another one: the other one isn't the header, and every walk inside the loop from
-- the header to it passes the first.
pub record ComesBefore (f : Function) (l : Loop) (a b : ℕ) : Type 0 where
  pub apart : a ≢ b
  pub later : b ≢ l.header
  pub passed : (way : WalkInside f l b) → Contains (l.header ∷ way.between) a

-- These are the exits of the loop: in the order in which they are passed where each turn passes all of them, and else
-- in text order.
pub record AreExits (f : Function) (l : Loop) (exits : List BlockId) : Type 0 where
  pub each : (b : BlockId) → Contains exits b ↔ IsExit f l b.0
  pub passed : ((b : ℕ) → IsExit f l b → IsPassedEachTurn f l b) → AllPairs (λ a b. ComesBefore f l a.0 b.0) exits
  pub other : (((b : ℕ) → IsExit f l b → IsPassedEachTurn f l b) → ⊥)
      → AllPairs (λ a b. StandsBefore f a.0 b.0) exits
