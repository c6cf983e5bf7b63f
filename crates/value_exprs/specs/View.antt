-- What the classification asks of a function, and of its loops.
use Rattle.std.specs.Prelude.{ℕ, Bool, List, [], Option, Some, None, slice_index_or}
use Rattle.scev_base.specs.declared.ids.BlockId.{BlockId}
use Rattle.scev_base.specs.declared.ids.LoopId.{LoopId}
use Rattle.scev_base.specs.declared.ids.ValueId.{ValueId}
use Rattle.scev_base.specs.Nest.{Contains}
use Rattle.scev_tree.specs.declared.kind.Kind.TheVariants as kind
use Rattle.scev_tree.specs.Tree.{Tree, of_atom, atom, no_parts}
use Rattle.value_view.specs.declared.reading.Reading.{Reading}
use Rattle.value_view.specs.declared.row.Row.{Row}
use Rattle.value_view.specs.Givens.{bare_row}

-- For each value its row, what it reads, and whether it is a phi in the header of a loop with one operand from outside
-- and one on all back edges; for each block the innermost loop; for each loop the one around it, and the registers that
-- the conditions of its exits read.
pub record View : Type 0 where
  pub rows : List Row
  pub reads : List (List Reading)
  pub turns : List Bool
  pub innermost : List (Option LoopId)
  pub parents : List (Option ℕ)
  pub conditions : List (List ValueId)

abbrev pub row_of : View → ℕ → Row
row_of view v = slice_index_or view.rows v (bare_row 0)

abbrev pub reads_of : View → ℕ → List Reading
reads_of view v = slice_index_or view.reads v []

abbrev pub conditions_of : View → ℕ → List ValueId
conditions_of view l = slice_index_or view.conditions l []

abbrev pub number_of_loop : Option LoopId → Option ℕ
number_of_loop None = None
number_of_loop (Some l) = Some l.0

abbrev pub home_of_block : View → Option BlockId → Option LoopId
home_of_block view None = None
home_of_block view (Some b) = slice_index_or view.innermost b.0 None

-- the innermost loop in which a value is defined
abbrev pub home : View → ℕ → Option LoopId
home view v = home_of_block view (row_of view v).block

-- the value's own name as an expression
abbrev pub leaf : View → ℕ → Tree
leaf view v = of_atom (row_of view v).bits
    (atom (kind.Leaf (record { 0 = v }) (home view v)) (row_of view v).bits no_parts)

-- the loop around one
abbrev pub outside : View → LoopId → Option ℕ
outside view l = slice_index_or view.parents l.0 None

-- a loop holds a place, given by the innermost loop that does
abbrev pub Holds : View → ℕ → Option ℕ → Type 0
Holds view l None = ⊥
Holds view l (Some inner) = Contains view.parents l inner

-- An operand leaves a loop that holds its definition and doesn't hold the place of its use.
abbrev pub Leaves : View → ℕ → Option ℕ → ℕ → Type 0
Leaves view v place l = Holds view l (number_of_loop (home view v)) × (Holds view l place → ⊥)
