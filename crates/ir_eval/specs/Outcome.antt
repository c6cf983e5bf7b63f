-- How a function of a module is run, and what is written about it.
use Rattle.std.specs.Prelude.{◌≡◌, ◌≢◌, ℕ, ◌<◌, ◌≤◌, Bool, List, ◌++◌, length, find, Option, Some, None, codes, decimal}
use Rattle.std.specs.Str.{bytes_eq}
use Rattle.ir_model.specs.declared.function.Function.{Function}
use Rattle.ir_model.specs.declared.item.Module.{Module}
use Rattle.ir_rules.specs.Accepted.{functions_of}
use Rattle.ir_memory.specs.Memory.{Memory}
use Rattle.ir_meaning.specs.declared.value.Value.{Value}
use Rattle.ir_meaning.specs.declared.value.Value.TheVariants as value
use Rattle.ir_meaning.specs.Phases.{Phase}
use Rattle.ir_meaning.specs.Phases as phase
use Rattle.ir_meaning.specs.State.{State}
use Rattle.ir_meaning.specs.Run.{start, after}
use Rattle.ir_machine.specs.Zeros.{zeros}
use Rattle.eval_request.specs.Asked.{Asked}
use Rattle.ir_eval.specs.Globals.{global_blocks}
use Rattle.ir_eval.specs.Arguments.{begun, argument_words}

abbrev pub has_name : List ℕ → Function → Bool
has_name name f = bytes_eq f.name name

-- the function with a body that has the name
abbrev pub function_named : Module → List ℕ → Option Function
function_named m name = find (has_name name) (functions_of m)

-- ---- a run

-- Of at most so many steps with the number 0 chosen, a run from the state makes so many: it goes on before each, and if
-- it makes fewer, it has ended.
pub record Makes (f : Function) (s : State) (most made : ℕ) : Type 0 where
  pub within : made ≤ most
  pub goes_on : (k : ℕ) → k < made → (after f s (zeros k)).phase ≡ phase.Running
  pub ends : made < most → (after f s (zeros made)).phase ≢ phase.Running

-- ---- what is written

abbrev pub answer_text : Option Value → List ℕ
answer_text None = codes "void"
answer_text (Some (value.Number n)) = decimal n
answer_text (Some value.Poison) = codes "poison"
answer_text (Some value.Null) = codes "null"
answer_text (Some (value.Pointer block offset)) =
    codes "block " ++ (decimal block ++ (codes " offset " ++ decimal offset))

-- how the run ended; no run with a number chosen comes to the last two
abbrev pub phase_text : Phase → List ℕ
phase_text phase.Running = codes "running"
phase_text (phase.Returned answer) = codes "returned " ++ answer_text answer
phase_text phase.Undefined = codes "undefined"
phase_text phase.Stopped = codes "stopped"
phase_text phase.Stuck = codes "stuck"

-- the three lines: how the run ended, how many steps were made, and how many calls
abbrev pub outcome_text : State → ℕ → List ℕ
outcome_text s made = phase_text s.phase ++ (codes "\nsteps " ++ (decimal made
    ++ (codes "\nevents " ++ (decimal (length s.events) ++ codes "\n"))))

-- The text is about the run of a function from the start with the arguments and the memory.
abbrev pub IsOutcome : Function → List Value → Memory → ℕ → List ℕ → Type 0
IsOutcome f args memory most text = (made : ℕ) × Makes f (start f args memory) most made
    × (text ≡ outcome_text (after f (start f args memory) (zeros made)) made)

-- ---- what is asked of a module

abbrev pub begins_with : Module → Asked → Function → Option (List Value × Memory)
begins_with m asked f = begun (global_blocks m) f.params (argument_words asked.args)

-- The text is what is asked for; no function has the name; the arguments don't fit the one that has it.
abbrev pub IsEval : Module → Asked → List ℕ → Type 0
IsEval m asked text = (f : Function) × (args : List Value) × (memory : Memory)
    × (function_named m asked.name ≡ Some f) × (begins_with m asked f ≡ Some (args, memory))
    × IsOutcome f args memory asked.most text

abbrev pub HasNoFunction : Module → Asked → Type 0
HasNoFunction m asked = function_named m asked.name ≡ None

abbrev pub HasBadArgs : Module → Asked → Type 0
HasBadArgs m asked = (f : Function) × (function_named m asked.name ≡ Some f) × (begins_with m asked f ≡ None)
