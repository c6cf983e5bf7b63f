use Rattle.std.proofs.Common.{◌≡◌, ap, sym, ◌∙◌}
use Rattle.ir_meaning.specs.State.{is_running}
use Rattle.ir_machine.specs.Phases.{phase_of}
use Rattle.ir_machine.specs.Stands.{Seen}
use Rattle.ir_machine.proofs.AcceptedParts.{blocks_apart}
use Rattle.ir_machine.proofs.MachineSteps.{stands_stepped, stands_still}
use Rattle.ir_machine.proofs.machine.Machine.step.Goals as goal
use Rattle.ir_machine.proofs.machine.Machine.step.Goals.{After-is_running}

pub block_of-block-requires : goal.block_of-block-requires
block_of-block-requires c = blocks_apart c.args.f.now c.requires.runnable

-- whether the machine goes on
runs : (c : After-is_running) → is_running (phase_of c.args.self.now.phase) ≡ c.is_running.result
runs c = ap (λ (m : Seen). is_running (phase_of m.phase)) (sym c.self.view_is) ∙ sym c.is_running.ensures

pub returns-in_ok-carry_out-clause-exact : goal.returns-in_ok-carry_out-clause-exact
returns-in_ok-carry_out-clause-exact c = λ s h.
    let running = runs (goal.at.returns-in_ok-carry_out-clause-exact c).After-is_running ∙ c.if-is_running.true in
    stands_stepped c.args.f.now c.args.choice c.args.self.now c.carry_out.new.self s h running
    (c.in_ok-carry_out.ensures.exact s h)

pub returns-else-is_running-clause-exact : goal.returns-else-is_running-clause-exact
returns-else-is_running-clause-exact c = λ s h.
    let over = runs (goal.at.returns-else-is_running-clause-exact c).After-is_running ∙ c.if-is_running.false in
    stands_still c.args.f.now c.args.choice c.args.self.now s h over
