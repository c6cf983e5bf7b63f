-- When a function is never stuck.
use Rattle.std.specs.Prelude.{◌≢◌, List}
use Rattle.ir_model.specs.declared.function.Function.{Function}
use Rattle.ir_memory.specs.Memory.{Memory}
use Rattle.ir_meaning.specs.declared.value.Value.{Value}
use Rattle.ir_meaning.specs.declared.choice.Choice.{Choice}
use Rattle.ir_meaning.specs.Phases as phase
use Rattle.ir_meaning.specs.State.{State}
use Rattle.ir_meaning.specs.Run.{MayStart, start, after}

-- No run of the function from the state is stuck.
abbrev pub NeverStuckFrom : Function → State → Type 0
NeverStuckFrom f s = (choices : List Choice) → (after f s choices).phase ≢ phase.Stuck

-- No run of the function is, from its start on.
abbrev pub NeverStuck : Function → Type 0
NeverStuck f = (args : List Value) (memory : Memory) → MayStart f.params args memory
    → NeverStuckFrom f (start f args memory)
