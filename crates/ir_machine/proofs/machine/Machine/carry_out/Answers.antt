use Rattle.std.proofs.Common.{◌≡◌, ℕ, length, Some, slice_get, sym, ap, subst, arith}
use Rattle.ir_model.specs.Shapes.{block_of}
use Rattle.ir_machine.specs.Narrow.{HasPlace}
use Rattle.ir_machine.specs.Stands.{Seen, Stands}
use Rattle.ir_machine.proofs.AcceptedParts.{IsHeld, instr_held}
use Rattle.ir_machine.proofs.Alike.{state_of, stands_for_one}
use Rattle.ir_machine.proofs.MachineSteps.{stands_somewhere, stands_within, goes_way, goes_effect, safe_way}
use Rattle.ir_machine.proofs.MachineSteps.{safe_effect}
use Rattle.ir_machine.proofs.machine.Machine.carry_out.Goals as goal
use Rattle.ir_machine.proofs.machine.Machine.carry_out.Goals.{After-self, In-Some-instr_of}

-- a state for which the machine stands
stands : (c : After-self) → Stands c.args.self.now (state_of c.args.self.now)
stands c =
    let same : c.self.inside.events ≡ c.args.self.now.events = ap (λ (m : Seen). m.events) c.self.view_is in
    stands_for_one c.args.self.now (omega arith)

-- the block and the instruction at which it stands
there : (c : In-Some-instr_of) → block_of c.args.f.now c.args.self.now.block ≡ Some c.in-Some.block.now
there c = sym (rw c.in-Some.is at c.requires.here)

here : (c : In-Some-instr_of)
    → slice_get c.in-Some.block.now.instrs c.args.self.now.place ≡ Some c.in-Some-instr_of.instr.now
here c = rw (← ap (λ (m : Seen). m.place) c.self.view_is) (sym c.in-Some-instr_of.ensures.value)

held : (c : In-Some-instr_of) → IsHeld (length c.args.f.now.values) c.in-Some-instr_of.instr.now
held c =
    instr_held c.args.f.now c.requires.runnable c.args.self.now.block c.in-Some.block.now (there c)
    c.args.self.now.place c.in-Some-instr_of.instr.now (here c)

pub unreachable-requires : goal.unreachable-requires
unreachable-requires c =
    stands_somewhere c.args.f.now c.args.choice c.args.self.now c.requires.safe c.requires.running
    (state_of c.args.self.now) (stands (goal.at.unreachable-requires c).After-self)
    (sym (rw c.in_default.is at c.requires.here))

pub unreachable-requires-in_default-instr_of : goal.unreachable-requires-in_default-instr_of
unreachable-requires-in_default-instr_of c =
    stands_within c.args.f.now c.args.choice c.args.self.now c.requires.safe c.requires.running
    (state_of c.args.self.now) (stands (goal.at.unreachable-requires-in_default-instr_of c).After-self)
    c.in-Some.block.now (sym (rw c.in-Some.is at c.requires.here))
    (rw (← ap (λ (m : Seen). m.place) c.self.view_is) (sym c.in_default-instr_of.ensures.value))

pub follow-requires-clause-narrow : goal.follow-requires-clause-narrow
follow-requires-clause-narrow c = (held (goal.at.follow-requires-clause-narrow c).In-Some-instr_of).narrow

pub follow-requires-clause-goes : goal.follow-requires-clause-goes
follow-requires-clause-goes c =
    let at = goal.at.follow-requires-clause-goes c in
    let stands = stands at.After-self in
    let goes = goes_way c.args.f.now c.args.choice c.args.self.now c.requires.safe c.requires.running
    (state_of c.args.self.now) stands c.in-Some.block.now (there at.In-Some-instr_of) c.in-Some-instr_of.instr.now
    (here at.In-Some-instr_of) (sym c.if-is_terminator.ensures) in
    (state_of c.args.self.now, stands, rw c.number.ensures goes)

pub act-requires-clause-narrow : goal.act-requires-clause-narrow
act-requires-clause-narrow c = (held (goal.at.act-requires-clause-narrow c).In-Some-instr_of).narrow

pub act-requires-clause-place : goal.act-requires-clause-place
act-requires-clause-place c =
    subst (λ (n : ℕ). HasPlace n c.in-Some-instr_of.instr.now.result) (sym c.requires.room)
    (held (goal.at.act-requires-clause-place c).In-Some-instr_of).place

pub act-requires-clause-goes : goal.act-requires-clause-goes
act-requires-clause-goes c = λ s h.
    let at = (goal.at.act-requires-clause-goes c).In-Some-instr_of in
    goes_effect c.args.f.now c.args.choice c.args.self.now c.requires.safe c.requires.running s h c.in-Some.block.now
    (there at) c.in-Some-instr_of.instr.now (here at) (sym c.if-is_terminator.ensures)

pub returns-then-is_terminator-clause-safe : goal.returns-then-is_terminator-clause-safe
returns-then-is_terminator-clause-safe c =
    let at = goal.at.returns-then-is_terminator-clause-safe c in
    let stands = stands at.After-self in
    let after = c.follow.ensures.exact (state_of c.args.self.now) stands in
    safe_way c.args.f.now c.args.choice c.args.self.now c.requires.safe c.requires.running
    (state_of c.args.self.now) stands c.in-Some.block.now (there at.In-Some-instr_of) c.in-Some-instr_of.instr.now
    (here at.In-Some-instr_of) (sym c.if-is_terminator.ensures) c.follow.new.self (rw c.number.ensures at after)

pub returns-clause-safe : goal.returns-clause-safe
returns-clause-safe c =
    let at = goal.at.returns-clause-safe c in
    let stands = stands at.After-self in
    safe_effect c.args.f.now c.args.choice c.args.self.now c.requires.safe c.requires.running
    (state_of c.args.self.now) stands c.in-Some.block.now (there at.In-Some-instr_of) c.in-Some-instr_of.instr.now
    (here at.In-Some-instr_of) (sym c.if-is_terminator.ensures) c.act.new.self
    (c.in_ok-act.ensures.exact (state_of c.args.self.now) stands)
