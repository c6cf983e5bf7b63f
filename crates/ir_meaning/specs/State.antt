-- States of a run.
use Rattle.std.specs.Prelude.{ℕ, List, Bool, true, false, Option, Some, None, if◌then◌else◌, ◌==◌}
use Rattle.scev_base.specs.declared.ids.ValueId.{ValueId}
use Rattle.ir_memory.specs.Memory.{Memory}
use Rattle.ir_meaning.specs.declared.value.Value.{Value}
use Rattle.ir_meaning.specs.Phases.{Phase}
use Rattle.ir_meaning.specs.Phases as phase

-- what the registers hold, by their numbers; none where one isn't set
abbrev pub Registers : Type 0
Registers = ℕ → Option Value

-- the registers with a result set, where there is one
abbrev pub set : Registers → Option ValueId → Value → Registers
set registers None x = registers
set registers (Some v) x = λ other. if other == v.0 then Some x else registers other

-- A call as the outside sees it: the callee's name, the arguments, the contents of memory before, the answer (none of a
-- function of type `void`), and the contents after.
pub record Event : Type 0 where
  pub callee : List ℕ
  pub args : List Value
  pub before : Memory
  pub answer : Option Value
  pub after : Memory

-- A state stands in a block before the instruction at a place, from 0. It has the block that control came from, what
-- the registers hold, the memory, the events so far, the first one first, how far the run is, and the trail: the blocks
-- that were entered so far, the newest first.
pub record State : Type 0 where
  pub block : ℕ
  pub place : ℕ
  pub previous : Option ℕ
  pub registers : Registers
  pub memory : Memory
  pub events : List Event
  pub phase : Phase
  pub trail : List ℕ

abbrev pub is_running : Phase → Bool
is_running phase.Running = true
is_running (phase.Returned answer) = false
is_running phase.Undefined = false
is_running phase.Stopped = false
is_running phase.Stuck = false

-- the state, where the run has come to an end
abbrev pub ended : Phase → State → State
ended how s = record s { phase = how }
