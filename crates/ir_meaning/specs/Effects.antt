-- What an instruction does.
use Rattle.std.specs.Prelude.{List, Option, Some, None}
use Rattle.ir_memory.specs.Memory.{Memory}
use Rattle.ir_meaning.specs.declared.value.Value.{Value}
use Rattle.ir_meaning.specs.Phases.{Phase}
use Rattle.ir_meaning.specs.Phases as phase
use Rattle.ir_meaning.specs.State.{Event}

-- What an operation that isn't a terminator does: control goes on to the next instruction, with the value that it
-- gives, if any, the memory from then on and the events that it adds; or the run ends. So what gives a value leads to
-- no block.
pub data Effect : Type 0 where
  Goes : Option Value → Memory → List Event → Effect
  Ends : Phase → Effect

-- what follows from operands' values; without one of them the run is stuck
abbrev pub with_operand : Option Value → (Value → Effect) → Effect
with_operand None what = Ends phase.Stuck
with_operand (Some x) what = what x

abbrev pub with_operands : Option (List Value) → (List Value → Effect) → Effect
with_operands None what = Ends phase.Stuck
with_operands (Some xs) what = what xs
