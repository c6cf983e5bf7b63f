use Rattle.std.proofs.Common.{◌≡◌, refl, List, Option, sym, ap, ◌∙◌, subst}
use Rattle.ir_meaning.specs.declared.value.Value.{Value}
use Rattle.ir_meaning.specs.State.{State}
use Rattle.ir_meaning.specs.Step.{way}
use Rattle.ir_machine.specs.declared.phase.Phase.TheVariants as found
use Rattle.ir_machine.specs.Effects.{meant_way}
use Rattle.ir_machine.specs.Stands.{Seen, Stands, register}
use Rattle.ir_machine.proofs.MachineSteps.{same_way, stands_ended}
use Rattle.ir_machine.proofs.machine.Machine.follow.Goals as goal
use Rattle.ir_machine.proofs.machine.Machine.follow.Goals.{After-way_of}

-- where the terminator leads from a state for which the machine stands
leads : (c : After-way_of) (s : State) → Stands c.args.self.now s
    → way s.registers c.args.n c.args.op.now ≡ meant_way c.way_of.result
leads c s h =
    let from = subst (λ (m : Seen). Stands m s) (sym c.self.view_is) h in
    same_way _ s from c.args.n c.args.op.now _
    (ap (λ (held : List (Option Value)). way (register held) c.args.n c.args.op.now) (sym c.deref.ensures.value)
    ∙ sym c.way_of.ensures)

pub enter-requires-clause-goes : goal.enter-requires-clause-goes
enter-requires-clause-goes c =
    let goes = c.requires.goes in
    let to = leads (goal.at.enter-requires-clause-goes c).After-way_of goes.0 goes.1 ∙ ap meant_way c.in-Enters.is in
    (goes.0, goes.1, λ stuck. goes.2 (rw to stuck))

pub returns-in-Enters-clause-exact : goal.returns-in-Enters-clause-exact
returns-in-Enters-clause-exact c = λ s h.
    let to = leads (goal.at.returns-in-Enters-clause-exact c).After-way_of s h ∙ ap meant_way c.in-Enters.is in
    rw to (c.enter.ensures.exact s h)

pub returns-in-Returns-clause-exact : goal.returns-in-Returns-clause-exact
returns-in-Returns-clause-exact c = λ s h.
    let to = leads (goal.at.returns-in-Returns-clause-exact c).After-way_of s h ∙ ap meant_way c.in-Returns.is in
    rw (c.end.ensures, to) (stands_ended _ s h (found.Returned c.in-Returns.answer))

pub returns-in-Undefined-clause-exact : goal.returns-in-Undefined-clause-exact
returns-in-Undefined-clause-exact c = λ s h.
    let to = leads (goal.at.returns-in-Undefined-clause-exact c).After-way_of s h ∙ ap meant_way c.in-Undefined.is in
    rw (c.end-in-Undefined.ensures, to) (stands_ended _ s h found.Undefined)

-- from none of them it is stuck
pub unreachable-requires : goal.unreachable-requires
unreachable-requires c =
    let goes = c.requires.goes in
    let to = leads (goal.at.unreachable-requires c).After-way_of goes.0 goes.1 ∙ ap meant_way c.in-Stuck.is in
    goes.2 (rw to refl)
