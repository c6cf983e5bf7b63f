use Rattle.std.proofs.Common.{◌≡◌, ◌+◌, List, Option, sym, ap, ◌∙◌, subst, arith}
use Rattle.ir_meaning.specs.declared.value.Value.{Value}
use Rattle.ir_meaning.specs.State.{State}
use Rattle.ir_meaning.specs.Step.{effect, after_effect}
use Rattle.ir_machine.specs.declared.effect.Done.{Done}
use Rattle.ir_machine.specs.declared.effect.Done.TheVariants as done
use Rattle.ir_machine.specs.Effects.{Does, KeepsUnlessGone}
use Rattle.ir_machine.specs.Stands.{Seen, Stands, register}
use Rattle.ir_machine.proofs.Alike.{state_of, stands_for_one}
use Rattle.ir_machine.proofs.MachineSteps.{same_registers, stands_gone, stands_ended}
use Rattle.ir_machine.proofs.machine.Machine.act.Goals as goal
use Rattle.ir_machine.proofs.machine.Machine.act.Goals.{In_ok-x}

-- what was done in a state for which the machine stands
done_in : (c : In_ok-x) (s : State) → Stands c.args.self.now s → (what : Done) → c.in_ok-x.field-0 ≡ what
    → Does what c.effect_of.new.memory c.self.inside.events c.effect_of.new.events
    (effect c.args.choice s c.args.instr.now.op)
done_in c s h what is =
    let from = subst (λ (m : Seen). Stands m s) (sym c.self.view_is) h in
    let registers = sym (same_registers _ s from)
    ∙ ap (λ (held : List (Option Value)). register held) (sym c.deref.ensures.value) in
    subst
    (λ (what : Done). Does what c.effect_of.new.memory c.self.inside.events c.effect_of.new.events
    (effect c.args.choice s c.args.instr.now.op))
    is (c.in_ok-x.ensures.does s registers (sym from.memory) (omega arith))

-- memory stays where the run ends
kept_at : (c : In_ok-x) (what : Done) → c.in_ok-x.field-0 ≡ what
    → KeepsUnlessGone what c.self.inside.memory c.effect_of.new.memory
kept_at c what is =
    subst (λ (what : Done). KeepsUnlessGone what c.self.inside.memory c.effect_of.new.memory) is c.in_ok-x.ensures.kept

pub unreachable-requires : goal.unreachable-requires
unreachable-requires c =
    let m = c.args.self.now in
    let same : c.self.inside.events ≡ m.events = ap (λ (m : Seen). m.events) c.self.view_is in
    let stands = stands_for_one m (omega arith) in
    c.requires.goes (state_of m) stands
    (done_in (goal.at.unreachable-requires c).In_ok-x (state_of m) stands done.Stuck c.in-Stuck.is).0

pub returns-in-Goes-clause-exact : goal.returns-in-Goes-clause-exact
returns-in-Goes-clause-exact c = λ s h.
    let instr = c.args.instr.now in
    let from = subst (λ (m : Seen). Stands m s) (sym c.self.view_is) h in
    let does = done_in (goal.at.returns-in-Goes-clause-exact c).In_ok-x s h (done.Goes c.in-Goes.x) c.in-Goes.is in
    let given = c.self-in-Goes.view_is ∙ c.give.ensures.others in
    let after = after_effect instr.result s (effect c.args.choice s instr.op) in
    subst (λ (m : Seen). Stands (record m { place = m.place + 1 }) after) (sym given)
    (stands_gone _ s from instr.result c.in-Goes.x _ _ _ c.give.new.self.registers does c.give.ensures.registers)

pub returns-in-Ends-clause-exact : goal.returns-in-Ends-clause-exact
returns-in-Ends-clause-exact c = λ s h.
    let at = (goal.at.returns-in-Ends-clause-exact c).In_ok-x in
    let from = subst (λ (m : Seen). Stands m s) (sym c.self.view_is) h in
    let does = done_in at s h (done.Ends c.in-Ends.how) c.in-Ends.is in
    let kept = kept_at at (done.Ends c.in-Ends.how) c.in-Ends.is in
    rw (does.0, does.1, kept) (stands_ended _ s from c.in-Ends.how)
