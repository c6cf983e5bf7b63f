-- The table of loops by the numbers of their blocks.
use Rattle.std.specs.Prelude.{◌≡◌, List, Option, Some, Contains, slice_get}
use Rattle.scev_base.specs.declared.ids.BlockId.{BlockId}
use Rattle.scev_base.specs.declared.ids.LoopId.{LoopId}

-- A list has, at the number of each header and there alone, the position of a loop with that header.
pub record AreNumbered (headers : List BlockId) (innermost : List (Option LoopId)) : Type 0 where
  pub found : (b : BlockId) (l : LoopId) → slice_get innermost b.0 ≡ Some (Some l) → slice_get headers l.0 ≡ Some b
  pub complete : (b : BlockId) → Contains headers b → (l : LoopId) × (slice_get innermost b.0 ≡ Some (Some l))
