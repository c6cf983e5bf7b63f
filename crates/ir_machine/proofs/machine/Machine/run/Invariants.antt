use Rattle.std.proofs.Common.{◌≡◌, length}
use Rattle.std.specs.Option.{option_copied}
use Rattle.ir_model.specs.Shapes.{block_of}
use Rattle.ir_machine.specs.declared.phase.Phase.TheVariants as found
use Rattle.ir_machine.specs.Runnable.{IsSafe}
use Rattle.ir_machine.proofs.RunSteps.{HasRun}
use Rattle.ir_machine.proofs.machine.Machine.run.Given as goal

abbrev pub invariant-loop-made : goal.invariant-loop-made
invariant-loop-made l = record {
  safe : IsSafe l.f l.self;
  room : length l.self.registers ≡ length l.f.values;
  here : l.self.phase ≡ found.Running → option_copied l.block ≡ block_of l.f l.self.block;
  steps : HasRun l.f l.initial.self l.self l.made;
}
