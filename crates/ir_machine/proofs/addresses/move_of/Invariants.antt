use Rattle.std.proofs.Common.{◌≡◌, drop}
use Rattle.ir_meaning.specs.Accesses.{index_steps}
use Rattle.ir_machine.specs.Stands.{register}
use Rattle.ir_machine.specs.Effects.{moved_by, meant_move}
use Rattle.ir_machine.proofs.addresses.move_of.Given as goal

abbrev pub invariant-loop-at : goal.invariant-loop-at
invariant-loop-at l =
    meant_move l.moved ≡ moved_by (register l.registers) l.n (drop l.at (index_steps l.kind)) (drop l.at l.indices)
