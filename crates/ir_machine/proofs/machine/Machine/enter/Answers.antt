use Rattle.std.proofs.Common.{◌≡◌, ℕ, None, All, length, get_or, List, Option, refl, sym, ap, ◌∙◌, subst}
use Rattle.std.proofs.lemmas.List.{with_items_is}
use Rattle.ir_model.specs.declared.function.Instr.{Instr}
use Rattle.ir_meaning.specs.declared.value.Value.{Value}
use Rattle.ir_model.specs.Shapes.{block_of, leading_phis}
use Rattle.ir_machine.specs.Stands.{Seen, Stands}
use Rattle.ir_machine.specs.Narrow.{IsNarrowOp, HasPlace, HasAgreeing}
use Rattle.ir_machine.proofs.AcceptedParts.{blocks_apart, phis_held}
use Rattle.ir_machine.proofs.MachineSteps.{stuck_without, stands_entered}
use Rattle.ir_machine.proofs.machine.Machine.enter.Goals as goal
use Rattle.ir_machine.proofs.machine.Machine.enter.Goals.{After-leading_phis-phis}

pub block_of-requires : goal.block_of-requires
block_of-requires c = blocks_apart c.args.f.now c.requires.runnable

-- there is a block of the number, since the branch isn't stuck
pub unreachable-requires : goal.unreachable-requires
unreachable-requires c =
    let nowhere : block_of c.args.f.now c.args.to.0 ≡ None = sym c.in_default.ensures in
    c.requires.goes.2 (rw nowhere refl)

-- the phis are those of the block
phis_are : (c : After-leading_phis-phis) → c.leading_phis-phis.result.now ≡ leading_phis c.in-Some.block.now.instrs
phis_are c = c.leading_phis-phis.ensures ∙ ap leading_phis c.as_slice.ensures

pub carry_out_phis-requires-clause-narrow : goal.carry_out_phis-requires-clause-narrow
carry_out_phis-requires-clause-narrow c =
    let held = phis_held c.args.f.now c.requires.runnable c.args.to.0 c.in-Some.block.now (sym c.in-Some.ensures) in
    let are = phis_are (goal.at.carry_out_phis-requires-clause-narrow c).After-leading_phis-phis in
    subst (λ (phis : List Instr). All (λ (phi : Instr). IsNarrowOp phi.op) phis) (sym are)
    (λ k d within. (held k d within).narrow)

pub carry_out_phis-requires-clause-agree : goal.carry_out_phis-requires-clause-agree
carry_out_phis-requires-clause-agree c =
    let held = phis_held c.args.f.now c.requires.runnable c.args.to.0 c.in-Some.block.now (sym c.in-Some.ensures) in
    let are = phis_are (goal.at.carry_out_phis-requires-clause-agree c).After-leading_phis-phis in
    subst (λ (phis : List Instr). All (λ (phi : Instr). HasAgreeing phi.op) phis) (sym are)
    (λ k d within. (held k d within).agrees)

pub carry_out_phis-requires-clause-within : goal.carry_out_phis-requires-clause-within
carry_out_phis-requires-clause-within c =
    let phis = leading_phis c.in-Some.block.now.instrs in
    let held = phis_held c.args.f.now c.requires.runnable c.args.to.0 c.in-Some.block.now (sym c.in-Some.ensures) in
    let are = phis_are (goal.at.carry_out_phis-requires-clause-within c).After-leading_phis-phis in
    let size : length c.args.f.now.values ≡ length c.deref_mut.result.now = sym c.requires.room
    ∙ sym (ap (λ (m : Seen). length m.registers) c.self.view_is)
    ∙ sym (ap (λ (xs : List (Option Value)). length xs) c.deref_mut.ensures.value) in
    subst (λ (phis : List Instr). All (λ (phi : Instr). HasPlace (length c.deref_mut.result.now) phi.result) phis)
    (sym are) (λ k d within. subst (λ (n : ℕ). HasPlace n (get_or phis k d).result) size (held k d within).place)

-- each phi has a value, since the branch isn't stuck
pub unreachable-requires-then-not-carry_out_phis : goal.unreachable-requires-then-not-carry_out_phis
unreachable-requires-then-not-carry_out_phis c =
    let goes = c.requires.goes in
    let from = subst (λ (m : Seen). Stands m goes.0) (sym c.self.view_is) goes.1 in
    goes.2
    (stuck_without _ goes.0 from c.args.n c.args.to.0 c.args.f.now c.in-Some.block.now (sym c.in-Some.ensures)
    c.deref_mut.result.now c.deref_mut.ensures.value c.leading_phis-phis.result.now
    (phis_are (goal.at.unreachable-requires-then-not-carry_out_phis c).After-leading_phis-phis)
    (rw c.if-not-carry_out_phis.true at c.carry_out_phis.ensures.exact))

pub returns-clause-exact : goal.returns-clause-exact
returns-clause-exact c = λ s h.
    let from = subst (λ (m : Seen). Stands m s) (sym c.self.view_is) h in
    let held = c.carry_out_phis.auto.registers ∙ c.deref_mut.ensures.len in
    rw (with_items_is c.self.inside.registers c.carry_out_phis.new.registers held)
    (stands_entered _ s from c.args.n c.args.to.0 c.args.f.now c.in-Some.block.now (sym c.in-Some.ensures)
    c.deref_mut.result.now c.deref_mut.ensures.value c.leading_phis-phis.result.now
    (phis_are (goal.at.returns-clause-exact c).After-leading_phis-phis)
    c.carry_out_phis.new.registers (rw c.if-not-carry_out_phis.false at c.carry_out_phis.ensures.exact))
