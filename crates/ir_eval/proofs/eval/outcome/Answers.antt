use Rattle.std.proofs.Common.{◌≡◌, ◌^◌, ◌-◌, ◌≤◌, length, refl, ◌∙◌, arith}
use Rattle.ir_meaning.specs.Phases as phase
use Rattle.ir_meaning.specs.Run.{start, after}
use Rattle.ir_machine.specs.declared.phase.Phase.{Phase}
use Rattle.ir_machine.specs.declared.phase.Phase.TheVariants as found
use Rattle.ir_machine.specs.Phases.{phase_of}
use Rattle.ir_machine.specs.Zeros.{zeros}
use Rattle.ir_eval.proofs.Events.{events_within}
use Rattle.ir_eval.proofs.eval.outcome.Goals as goal

running_alone : (p : Phase) → phase_of p ≡ phase.Running → p ≡ found.Running
running_alone found.Running is = refl
running_alone _ is = absurd (cc)

pub returns : goal.returns
returns c =
    let f = c.args.f.now in
    let s = start f c.args.args.items c.args.blocks in
    let made = c.in_ok-made.made in
    let first = c.in_ok-machine.ensures.exact in
    let last = c.in_ok-made.ensures.exact s first in
    let few : length (after f s (zeros made)).events ≤ 2 ^ 64 - 1 =
    omega (arith, events_within f s made, c.in_ok-made.ensures.made) in (
      made,
      record {
        within = c.in_ok-made.ensures.made;
        goes_on = c.in_ok-made.ensures.running s first;
        ends = λ less running. c.in_ok-made.ensures.ended less (running_alone _ (last.phase ∙ running));
      },
      rw c.new-text.ensures.items at (c.in_ok-push_outcome.ensures (after f s (zeros made)) last few),
    )
