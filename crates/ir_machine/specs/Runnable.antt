-- Which functions a machine runs, and from where.
use Rattle.std.specs.Prelude.{◌≡◌, Some}
use Rattle.ir_model.specs.declared.function.Instr.{Instr}
use Rattle.ir_model.specs.declared.function.Function.{Function}
use Rattle.ir_model.specs.declared.signature.Signatures.{Signatures}
use Rattle.ir_model.specs.WellMade.{IsWellMade}
use Rattle.ir_rules.specs.Accepted.{IsAccepted}
use Rattle.ir_meaning.specs.Phases as phase
use Rattle.ir_meaning.specs.State.{State}
use Rattle.ir_meaning.specs.Step.{instr_at}
use Rattle.never_stuck.specs.NeverStuck.{NeverStuckFrom}
use Rattle.ir_machine.specs.Narrow.{IsAlloca}
use Rattle.ir_machine.specs.Stands.{Seen, Stands}

-- The function is well made, and breaks no rule over some signatures.
pub record IsRunnable (f : Function) : Type 0 where
  pub well_made : IsWellMade f
  pub signatures : Signatures
  pub accepted : IsAccepted signatures f

-- No run of the function is stuck that goes on from a state for which the machine stands.
abbrev pub IsSafe : Function → Seen → Type 0
IsSafe f m = (s : State) → Stands m s → NeverStuckFrom f s

-- The next instruction of a run that goes on is an `alloca`.
pub record StandsAtAlloca (f : Function) (s : State) : Type 0 where
  pub running : s.phase ≡ phase.Running
  pub instr : Instr
  pub at : instr_at f s ≡ Some instr
  pub is : IsAlloca instr.op
