use Rattle.std.proofs.Common.{◌≡◌, ap, sym, ◌∙◌, arith}
use Rattle.ir_meaning.specs.State.{is_running}
use Rattle.ir_machine.specs.Phases.{phase_of}
use Rattle.ir_machine.specs.Stands.{Seen}
use Rattle.ir_machine.proofs.AcceptedParts.{blocks_apart}
use Rattle.ir_machine.proofs.RunSteps.{one_made}
use Rattle.ir_machine.proofs.machine.Machine.run.Goals as goal

pub block_of-block-requires : goal.block_of-block-requires
block_of-block-requires c = blocks_apart c.args.f.now c.requires.runnable

pub loop-made-preserved : goal.loop-made-preserved
loop-made-preserved c =
    let runs = ap (λ (m : Seen). is_running (phase_of m.phase)) (sym c.self-in-loop-made.view_is)
    ∙ sym c.is_running.ensures in
    let did = c.in_ok-block.ensures in
    record {
      safe = did.safe;
      room = did.room;
      here = λ running. rw c.in_ok-block.block-is (did.here running);
      steps =
          one_made c.args.f.now c.args.self.now c.loop-made.self c.carry_out.new.self c.loop-made.made
          c.loop-made.invariant.steps (runs ∙ c.if-not-is_running.false) did.exact;
    }

pub returns-clause-exact : goal.returns-clause-exact
returns-clause-exact c = λ s h.
    let all : c.loop-made.made ≡ c.args.steps = omega arith in
    rw (← all) (c.loop-made.invariant.steps.exact s h)
