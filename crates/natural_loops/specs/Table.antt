-- The table of a function's loops.
use Rattle.std.specs.Prelude.{◌≡◌, ◌↔◌, ℕ, suc, List, [], ◌∷◌, Bool, true, false, Option, Some, None, All, AllPairs}
use Rattle.std.specs.Prelude.{Contains, length, slice_get, slice_index_or}
use Rattle.scev_base.specs.declared.ids.BlockId.{BlockId}
use Rattle.scev_base.specs.declared.ids.LoopId.{LoopId}
use Rattle.ir_model.specs.declared.function.Function.{Function}
use Rattle.flow_graph.specs.Graph.{IsMarked}
use Rattle.flow_graph.specs.TextOrder.{StandsBefore}
use Rattle.loop_regions.specs.Loops.{Loop, IsLoop}
use Rattle.natural_loops.specs.Sides.{AreInTextOrder, IsLatch, IsEntering, AreExits, StandsIn, IsPassedEachTurn}

-- the places of a list of marks that are marked, from a number on
abbrev pub marked_from : ℕ → List Bool → List ℕ
marked_from k [] = []
marked_from k (true ∷ marks) = k ∷ marked_from (suc k) marks
marked_from k (false ∷ marks) = marked_from (suc k) marks

-- a loop as it is kept: its header, its latches, and marks of its blocks by their numbers
pub record RegionParts : Type 0 where
  pub header : BlockId
  pub latches : List BlockId
  pub blocks : List Bool

abbrev pub loop_of : RegionParts → Loop
loop_of region = record { header = region.header.0; blocks = marked_from 0 region.blocks }

-- It is a loop of the function, with its latches in text order.
pub record IsRegionOf (f : Function) (region : RegionParts) : Type 0 where
  pub is_loop : IsLoop f (loop_of region)
  pub latches : AreInTextOrder f (IsLatch f (loop_of region)) region.latches

-- These are all loops of the function, in the order in which their headers stand in the text.
pub record AreAllLoops (f : Function) (regions : List RegionParts) : Type 0 where
  pub each : All (IsRegionOf f) regions
  pub all : (l : Loop) → IsLoop f l → (region : RegionParts) × Contains regions region × (region.header.0 ≡ l.header)
  pub ordered : AllPairs (λ a b. StandsBefore f a.header.0 b.header.0) regions

-- ---- which loops stand in which

-- one loop has each block of another one
abbrev pub HasBlocksOf : RegionParts → RegionParts → Type 0
HasBlocksOf outer inner = (b : ℕ) → IsMarked inner.blocks b → IsMarked outer.blocks b

-- the position of the smallest loop of which something holds
abbrev pub IsSmallest : List RegionParts → (RegionParts → Type 0) → Option ℕ → Type 0
IsSmallest regions P (Some k) = (region : RegionParts) × (slice_get regions k ≡ Some region) × P region
    × ((other : RegionParts) → Contains regions other → P other → HasBlocksOf other region)
IsSmallest regions P None = (region : RegionParts) → Contains regions region → P region → ⊥

-- the smallest loop that has a block
abbrev pub IsInnermost : List RegionParts → ℕ → Option LoopId → Type 0
IsInnermost regions b (Some l) = IsSmallest regions (λ region. IsMarked region.blocks b) (Some l.0)
IsInnermost regions b None = IsSmallest regions (λ region. IsMarked region.blocks b) None

-- the smallest loop around a loop
abbrev pub IsParent : List RegionParts → RegionParts → Option ℕ → Type 0
IsParent regions inner parent = IsSmallest regions (λ outer. StandsIn (loop_of inner) (loop_of outer)) parent

-- ---- the whole table

-- what stands around a loop: its entering blocks, its exits, and marks of the blocks that each turn passes
pub record SidesParts : Type 0 where
  pub entering : List BlockId
  pub exits : List BlockId
  pub passed : List Bool

pub record AreSidesOf (f : Function) (l : Loop) (sides : SidesParts) : Type 0 where
  pub entering : AreInTextOrder f (IsEntering f l) sides.entering
  pub exits : AreExits f l sides.exits
  pub passed : (b : ℕ) → IsMarked sides.passed b ↔ IsPassedEachTurn f l b

-- the loops, what stands around each, the number of the loop around each, and by the number of each block that of the
-- innermost loop that has it
pub record TableParts : Type 0 where
  pub regions : List RegionParts
  pub sides : List SidesParts
  pub parents : List (Option ℕ)
  pub innermost : List (Option LoopId)

pub record AreLoopsOf (f : Function) (table : TableParts) : Type 0 where
  pub loops : AreAllLoops f table.regions
  pub sizes : (length table.sides ≡ length table.regions) × (length table.parents ≡ length table.regions)
  pub sides : (k : ℕ) (region : RegionParts) (sides : SidesParts) → slice_get table.regions k ≡ Some region
      → slice_get table.sides k ≡ Some sides → AreSidesOf f (loop_of region) sides
  pub parents : (k : ℕ) (region : RegionParts) (parent : Option ℕ) → slice_get table.regions k ≡ Some region
      → slice_get table.parents k ≡ Some parent → IsParent table.regions region parent
  pub innermost : (b : ℕ) → IsInnermost table.regions b (slice_index_or table.innermost b None)
