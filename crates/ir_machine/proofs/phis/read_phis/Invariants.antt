use Rattle.std.proofs.Common.{◌≡◌, drop}
use Rattle.ir_meaning.specs.Step.{with_phis}
use Rattle.ir_machine.specs.Stands.{register}
use Rattle.ir_machine.proofs.phis.read_phis.Given as goal

-- what the phis from here on do to the room is what all did to that at the start
abbrev pub invariant-loop-phi : goal.invariant-loop-phi
invariant-loop-phi l =
    with_phis (register l.registers) l.n l.from.0 (drop l.phi-index l.phis) (register l.room)
    ≡ with_phis (register l.registers) l.n l.from.0 l.phis (register l.initial.room)
