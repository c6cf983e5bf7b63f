-- How far a machine is, as a run.
use Rattle.ir_meaning.specs.Phases.{Phase}
use Rattle.ir_meaning.specs.Phases as phase
use Rattle.ir_machine.specs.declared.phase.Phase.{Phase as Found}
use Rattle.ir_machine.specs.declared.phase.Phase.TheVariants as found

abbrev pub phase_of : Found → Phase
phase_of found.Running = phase.Running
phase_of (found.Returned answer) = phase.Returned answer
phase_of found.Undefined = phase.Undefined
phase_of found.Stopped = phase.Stopped
