use Rattle.std.proofs.Common.{sym, ap, ◌∙◌, Some}
use Rattle.ir_meaning.specs.State.{Registers}
use Rattle.ir_machine.specs.Stands.{register}
use Rattle.ir_machine.proofs.PhiRoom.{through_room, none_through_room}
use Rattle.ir_machine.proofs.phis.carry_out_phis.Goals as goal

pub returns-then-all-clause-exact : goal.returns-then-all-clause-exact
returns-then-all-clause-exact c =
    let registers = register c.args.registers.now in
    let read = rw c.if-all.true at c.read_phis-all.ensures in
    rw c.if-all.true
    (through_room registers c.args.n c.args.from.0 c.args.phis.now (register c.args.room.now)
    (register c.read_phis-all.new.room) registers read
    ∙ ap (λ (r : Registers). Some r) (sym c.take_results.ensures))

pub returns-else-all-clause-exact : goal.returns-else-all-clause-exact
returns-else-all-clause-exact c =
    let registers = register c.args.registers.now in
    let read = rw c.if-all.false at c.read_phis-all.ensures in
    rw c.if-all.false
    (none_through_room registers c.args.n c.args.from.0 c.args.phis.now (register c.args.room.now) registers read)
